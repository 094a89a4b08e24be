use Rattle.std.proofs.Common.{◌++◌, ap, sym, ◌∙◌}
use Rattle.std.proofs.lemmas.List.{append-nil}
use Rattle.std.specs.Prelude.{option_map}
use Rattle.std.specs.List.{filter}
use Rattle.dg_frame.specs.Spelling.{frame_of}
use Rattle.dg_rules.specs.Changes.{is_reported}
use Rattle.dg_world.specs.inner.EventOutcomes.{EventOutcome}
use Rattle.dg_world.specs.inner.OutcomeEndings.{outcome_lines}
use Rattle.dg_world.proofs.OutcomeLemmas.{unreported_of}
use Rattle.dg_world.proofs.stepping.push_outcome.Goals as goal

pub push_told-requires-clause-unsent : goal.push_told-requires-clause-unsent
push_told-requires-clause-unsent c = sym c.message.ensures.value ∙ ap (λ f. option_map (λ x. frame_of x.now) f) c.in_default.is

pub returns-else-outcome : goal.returns-else-outcome
returns-else-outcome c =
    let t = c.args.outcome.now in
    let sent = sym c.message.ensures.value ∙ ap (λ f. option_map (λ x. frame_of x.now) f) c.in_default.is in
    sym (append-nil c.args.out.now.items)
    ∙ ap (λ (x : EventOutcome). c.args.out.now.items ++ filter (is_reported c.args.reported) (outcome_lines c.args.mote x)) (sym (unreported_of t c.if-outcome.false sent))

pub returns-then-outcome : goal.returns-then-outcome
returns-then-outcome c = c.push_told.ensures c.args.reported
