use Rattle.std.proofs.Common.{◌≡◌, ◌≤◌, ◌*◌, take}
use Rattle.std.specs.List.{sum_by}
use Rattle.std.specs.Int.{count_zeros, w8}
use Rattle.dg_breaks.proofs.header.cleared.Given as goal

abbrev pub invariant-loop-gate : goal.invariant-loop-gate
invariant-loop-gate l = record {
  counted : l.cleared ≡ sum_by (λ gate. count_zeros w8 gate) (take l.gate-index l.gates);
  bounded : l.cleared ≤ 8 * l.gate-index;
}
