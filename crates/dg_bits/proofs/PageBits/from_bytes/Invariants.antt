use Rattle.std.proofs.Common.{◌≡◌, ℕ, ◌<◌, ◌≤◌, false}
use Rattle.dg_bits.specs.ByteForm.{is_marked}
use Rattle.dg_bits.proofs.PageBits.from_bytes.Given as goal

-- no bit so far from the size on is set
abbrev pub invariant-loop-n : goal.invariant-loop-n
invariant-loop-n g l = (q : ℕ) → g.row.N ≤ q → q < l.n → is_marked l.bytes q ≡ false
