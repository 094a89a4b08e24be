use Rattle.std.proofs.Common.{arith}
use Rattle.std.proofs.lemmas.List.{ext_get_or}
use Rattle.dg_breaks.proofs.unfit.equal_bytes.Goals as goal

pub returns-then-one-at-clause-fit : goal.returns-then-one-at-clause-fit
returns-then-one-at-clause-fit c = record { within = omega arith; before = c.loop-at.invariant; here = λ low equal. c.if-one-at.true equal }

pub returns-clause-fit : goal.returns-clause-fit
returns-clause-fit c = record { within = omega arith; before = λ a low. c.loop-at.invariant a (omega arith); here = λ low equal. absurd (omega arith) }

pub returns-clause-whole : goal.returns-clause-whole
returns-clause-whole c = λ whole. ext_get_or 0 c.args.one.now c.args.other.now c.requires (λ k low. c.loop-at.invariant k (omega arith))
