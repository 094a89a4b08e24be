use Rattle.std.proofs.Common.{◌≡◌, ◌*◌, ◌≤◌}
use Rattle.std.specs.FinSet as set
use Rattle.dg_bits.specs.ByteForm.{numbers_of}
use Rattle.dg_bits.proofs.SetLaws.{up_to}
use Rattle.dg_bits.proofs.PageBits.count.Given as goal

-- the numbers of the bytes so far are counted
abbrev pub invariant-loop-k : goal.invariant-loop-k
invariant-loop-k g l = record { counted : l.members ≡ set.len (up_to (numbers_of l.bytes) (8 * l.k)); few : l.members ≤ 8 * l.k }
