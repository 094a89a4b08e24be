use Rattle.std.proofs.Common.{◌≡◌, ℕ, ◌-◌, ◌*◌, ◌^◌, ◌<◌, length, get_or, min}
use Rattle.dg_breaks.proofs.header.gates_of.Given as goal

abbrev pub invariant-loop-j : goal.invariant-loop-j
invariant-loop-j l = record {
  long : length l.gates ≡ 9;
  written : (k : ℕ) → k < l.j → get_or l.gates k 0 ≡ 2 ^ (8 - min 8 (l.done - 8 * k)) - 1;
}
