use Rattle.std.proofs.Common.{◌≡◌, ◌*◌, ◌≤◌, take}
use Rattle.dg_words.specs.Bits.{cleared_bits}
use Rattle.dg_breaks.proofs.unfit.clear_bytes.Given as goal

-- the bits so far
abbrev pub invariant-loop-at : goal.invariant-loop-at
invariant-loop-at l = record {
  within : l.count ≤ 8 * l.at;
  few : l.count ≤ l.most;
  fits : take l.at l.bits ≡ cleared_bits l.at l.count;
}
