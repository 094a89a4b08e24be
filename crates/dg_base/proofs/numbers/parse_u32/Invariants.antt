-- The number so far, continued with the digits after it, is that of all digits.
use Rattle.std.proofs.Common.{◌≡◌, Some, drop}
use Rattle.dg_base.proofs.NumberLemmas.{read_on}
use Rattle.dg_base.proofs.numbers.parse_u32.Given as goal

abbrev pub invariant-loop-byte : goal.invariant-loop-byte
invariant-loop-byte l = read_on (drop l.byte-index l.bytes) (Some l.number) ≡ read_on l.bytes (Some 0)
