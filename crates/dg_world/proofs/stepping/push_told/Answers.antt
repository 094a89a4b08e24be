use Rattle.std.proofs.Common.{◌≡◌, List, ◌++◌, ap, sym, ◌∙◌}
use Rattle.std.specs.List.{filter}
use Rattle.dg_rules.specs.Changes.{is_reported}
use Rattle.dg_script.specs.declared.report.Report.{Report}
use Rattle.dg_world.specs.inner.EventOutcomes.{EventOutcome, Changes}
use Rattle.dg_world.specs.inner.OutcomeEndings.{outcome_lines}
use Rattle.dg_world.specs.inner.Outcomes.{outcome_of}
use Rattle.dg_world.proofs.ChipReportLemmas.{changes_reported}
use Rattle.dg_world.proofs.OutcomeLemmas.{changes_of}
use Rattle.dg_world.proofs.stepping.push_told.Goals as goal

pub returns-in-Some-Some : goal.returns-in-Some-Some
returns-in-Some-Some c reported =
    let e = c.in-Some-Some in
    let t = c.args.outcome.now in
    let outcome : outcome_of t ≡ Changes e.before e.after = changes_of t e.before e.after c.requires.unsent c.in_default.is c.in_default-started.is e.is-0 e.is-1 in
    c.push_changes.ensures.reported
    ∙ ap (λ (l : List Report). c.args.out.now.items ++ l) (sym (changes_reported reported c.args.mote e.before e.after))
    ∙ ap (λ (x : EventOutcome). c.args.out.now.items ++ filter (is_reported reported) (outcome_lines c.args.mote x)) (sym outcome)
