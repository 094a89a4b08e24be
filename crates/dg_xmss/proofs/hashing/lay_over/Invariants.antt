use Rattle.std.proofs.Common.{◌≡◌, ℕ, ◌<◌, ◌≤◌, length, get_or, bit_xor}
use Rattle.dg_xmss.proofs.hashing.lay_over.Given as goal

abbrev pub invariant-loop-i : goal.invariant-loop-i
invariant-loop-i l =
    record {
      done : (k : ℕ) → k < l.i → get_or l.mask k 0 ≡ bit_xor (get_or l.node k 0) (get_or l.initial.mask k 0);
      rest : (k : ℕ) → l.i ≤ k → get_or l.mask k 0 ≡ get_or l.initial.mask k 0;
      size : length l.mask ≡ 32;
    }
