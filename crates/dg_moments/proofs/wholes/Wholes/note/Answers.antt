use Rattle.std.proofs.Common.{sym, ◌∙◌}
use Rattle.dg_meter.specs.Meters.{metered_device}
use Rattle.std.specs.Prelude.{map}
use Rattle.dg_moments.proofs.TellingLemmas.{wholes_stay, no_items}
use Rattle.dg_moments.proofs.wholes.Wholes.note.Goals as goal

pub returns-then-is_empty-clause-brings : goal.returns-then-is_empty-clause-brings
returns-then-is_empty-clause-brings g c initial stores past p same is at tells has =
    wholes_stay c.args.self.now c.args.mote (map (metered_device g.N.Nor.device) c.args.boards.now) initial stores past p tells
    (λ lt. is ∙ no_items c.args.reports.now (sym c.is_empty.ensures ∙ c.if-is_empty.true)) has
