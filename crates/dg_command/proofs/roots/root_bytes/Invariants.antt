use Rattle.std.proofs.Common.{◌≡◌, true, length}
use Rattle.dg_base.proofs.HexLemmas.{ReadTo}
use Rattle.dg_command.proofs.roots.root_bytes.Given as goal

-- the bytes so far, and those of the digits after them, are those of all digits
abbrev pub invariant-loop-at : goal.invariant-loop-at
invariant-loop-at l = record { read : ReadTo l.root l.bytes l.at true; digits : length l.root ≡ 64; bytes : length l.bytes ≡ 32 }
