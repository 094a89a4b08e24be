use Rattle.std.proofs.Common.{sym, ap, ◌∙◌}
use Rattle.dg_world.specs.inner.ActOutcomes.{ordered_outcome}
use Rattle.dg_world.proofs.OutcomeLemmas.{changes_of}
use Rattle.dg_world.proofs.act_outcomes.note_ordered.Goals as goal

pub returns-in-Kept-clause-outcome : goal.returns-in-Kept-clause-outcome
returns-in-Kept-clause-outcome c =
    let n = c.requires in
    let x = c.note_change.ensures in
    changes_of c.note_change.new.outcome _ _ (x.sent ∙ n.sent) (x.refused ∙ n.refused) (x.started ∙ n.started) x.before x.after ∙ ap ordered_outcome (sym c.in-Kept.is)
