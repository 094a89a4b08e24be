use Rattle.std.proofs.Common.{◌≡◌, ◌<◌, ◌≤◌, length, min, rules, arith, sym, ◌∙◌}
use Rattle.dg_sign.proofs.TextLemmas.{agrees_at, differs_at, agreed_shorter}
use Rattle.dg_sign.proofs.keys.agreeing.Goals as goal

pub returns-then-not-agrees-clause-count : goal.returns-then-not-agrees-clause-count
returns-then-not-agrees-clause-count c =
    let below : c.loop-at.at < length c.args.pattern.now = search rules in
    let within : c.loop-at.at < length c.args.text.now = search rules in
    let none = differs_at c.args.pattern.now c.args.text.now c.loop-at.at below within (sym c.agrees.ensures ∙ c.if-not-agrees.true) in
    omega (arith, c.loop-at.invariant, none)

pub loop-at-preserved : goal.loop-at-preserved
loop-at-preserved c =
    let below : c.loop-at.at < length c.args.pattern.now = search rules in
    let within : c.loop-at.at < length c.args.text.now = search rules in
    let more = agrees_at c.args.pattern.now c.args.text.now c.loop-at.at below within (sym c.agrees.ensures ∙ c.if-not-agrees.false) in
    omega (arith, c.loop-at.invariant, more)

pub returns-clause-count : goal.returns-clause-count
returns-clause-count c =
    let reached : min (length c.args.pattern.now) (length c.args.text.now) ≤ c.loop-at.at = omega (arith, c.min-most.ensures, c.loop-at-test.false) in
    let none = agreed_shorter c.args.pattern.now c.args.text.now c.loop-at.at reached in
    omega (arith, c.loop-at.invariant, none, c.loop-at-test.false, c.loop-at.auto.at-end)
