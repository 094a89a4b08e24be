use Rattle.std.proofs.Common.{◌≡◌, ℕ, ◌<◌, slice_index}
use Rattle.dg_bits.proofs.PageBits.first.Given as goal

-- each byte so far is 0
abbrev pub invariant-loop-k : goal.invariant-loop-k
invariant-loop-k g l = (i : ℕ) → i < l.k → slice_index l.bytes i ≡ 0
