use Rattle.std.proofs.Common.{sym, ap, ◌∙◌}
use Rattle.dg_world.specs.inner.ActOutcomes.{injected_outcome, injected_refusal}
use Rattle.dg_world.proofs.OutcomeLemmas.{changes_of}
use Rattle.dg_world.proofs.act_outcomes.note_injected.Goals as goal

pub returns-in-Kept-clause-outcome : goal.returns-in-Kept-clause-outcome
returns-in-Kept-clause-outcome c row few =
    let n = c.requires.nothing in
    let x = c.note_change.ensures in
    changes_of c.note_change.new.outcome _ _ (x.sent ∙ n.sent) (x.refused ∙ n.refused) (x.started ∙ n.started) x.before x.after ∙ ap (injected_outcome row) (sym c.in-Kept.is)

pub returns-in-Kept-clause-refused : goal.returns-in-Kept-clause-refused
returns-in-Kept-clause-refused c row few = c.note_change.ensures.refused ∙ c.requires.nothing.refused ∙ ap (injected_refusal row) (sym c.in-Kept.is)
