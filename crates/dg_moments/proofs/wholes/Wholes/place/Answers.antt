use Rattle.std.proofs.Common.{refl}
use Rattle.dg_moments.proofs.BeginLemmas.{placed_mounted, placed_formatted}
use Rattle.dg_moments.proofs.wholes.Wholes.place.Goals as goal

pub returns-then-mounted-clause-places : goal.returns-then-mounted-clause-places
returns-then-mounted-clause-places c =
    placed_mounted c.args.self.now (record c.args.self.now { mounted = c.args.mounted }) c.begin.new.self c.args.motes refl refl refl refl refl refl c.if-mounted.true
    c.begin.ensures.stays c.begin.ensures.gives

pub returns-else-mounted-clause-places : goal.returns-else-mounted-clause-places
returns-else-mounted-clause-places c =
    placed_formatted c.args.self.now (record c.args.self.now { mounted = c.args.mounted }) c.args.motes refl refl refl refl refl refl c.if-mounted.false
