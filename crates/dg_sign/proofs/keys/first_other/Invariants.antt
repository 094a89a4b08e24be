use Rattle.std.proofs.Common.{◌≡◌, ℕ, ◌<◌, true, slice_index}
use Rattle.dg_base.specs.Hexadecimal.{is_hex_digit}
use Rattle.dg_sign.proofs.keys.first_other.Given as goal

abbrev pub invariant-loop-at : goal.invariant-loop-at
invariant-loop-at l = (k : ℕ) → k < l.at → is_hex_digit (slice_index l.text k) ≡ true
