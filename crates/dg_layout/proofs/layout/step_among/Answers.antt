use Rattle.std.proofs.Common.{ℕ, ◌+◌, ◌/◌, Option, ap, sym, arith}
use Rattle.std.specs.Option.{unwrap_or}
use Rattle.dg_layout.proofs.LayoutLemmas.{found, missed}
use Rattle.dg_layout.proofs.layout.step_among.Goals as goal

pub returns-then-least-step-clause-value : goal.returns-then-least-step-clause-value
returns-then-least-step-clause-value c =
    let inside = c.loop-step-test.true in
    let above = c.if-least-step.true in
    sym (ap (λ (o : Option ℕ). unwrap_or o (c.args.last / 240 + 1))
    (found (c.args.last / 240) c.args.steps.now c.loop-step.step-index (omega (arith, inside)) c.loop-step.invariant (omega (arith, above))))

pub returns-clause-value : goal.returns-clause-value
returns-clause-value c =
    let past = c.loop-step-test.false in
    sym (ap (λ (o : Option ℕ). unwrap_or o (c.args.last / 240 + 1))
    (missed (c.args.last / 240) c.args.steps.now (λ k h. c.loop-step.invariant k (omega (arith, h, past)))))
