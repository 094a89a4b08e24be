use Rattle.std.proofs.Common.{sym, ◌∙◌}
use Rattle.dg_moments.proofs.ChangeLemmas.{all_noted, on_ok}
use Rattle.dg_moments.proofs.wholes.Wholes.note_all.Goals as goal

pub returns-clause-all : goal.returns-clause-all
returns-clause-all c =
    all_noted c.args.self.now _ c.args.motes c.args.image c.args.version c.args.at (sym c.have_all.ensures ∙ c.if-not-have_all.false)
    c.in_ok-add_first.ensures (on_ok c.insert.result _ (sym c.is_err.ensures.value ∙ c.if-is_err.false) c.insert.ensures.updates)
