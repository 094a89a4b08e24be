-- What is written is the digits of the bytes so far.
use Rattle.std.proofs.Common.{◌≡◌, ◌*◌, take}
use Rattle.dg_base.specs.Hexadecimal.{hex_text}
use Rattle.dg_base.proofs.hexadecimal.write_pairs.Given as goal

abbrev pub invariant-loop-at : goal.invariant-loop-at
invariant-loop-at l = take (2 * l.at) l.into ≡ hex_text (take l.at l.bytes)
