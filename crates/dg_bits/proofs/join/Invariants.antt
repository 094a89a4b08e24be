use Rattle.std.proofs.Common.{◌≡◌, ℕ, ◌<◌, ◌≤◌, length, get_or, bit_or}
use Rattle.dg_bits.proofs.join.Given as goal

abbrev pub invariant-loop-k : goal.invariant-loop-k
invariant-loop-k l =
    record {
      width : length l.bytes ≡ 9;
      done : (j : ℕ) → j < l.k → get_or l.bytes j 0 ≡ bit_or (get_or l.initial.bytes j 0) (get_or l.others j 0);
      rest : (j : ℕ) → l.k ≤ j → get_or l.bytes j 0 ≡ get_or l.initial.bytes j 0;
    }
