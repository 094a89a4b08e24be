use Rattle.std.proofs.Common.{◌≡◌, ◌+◌, drop}
use Rattle.dg_sign.specs.KeyTexts.{agreeing}
use Rattle.dg_sign.proofs.keys.agreeing.Given as goal

abbrev pub invariant-loop-at : goal.invariant-loop-at
invariant-loop-at l = agreeing l.pattern l.text ≡ l.at + agreeing (drop l.at l.pattern) (drop l.at l.text)
