use Rattle.std.proofs.Common.{◌≡◌, [], take}
use Rattle.dg_serial.specs.Line.{items}
use Rattle.dg_serial.specs.Reading.{reading_behind}
use Rattle.deluge_c.proofs.lines.deluge_unstuff.Given as goal

abbrev pub invariant-loop-byte : goal.invariant-loop-byte
invariant-loop-byte l = record {
  behind : l.reading ≡ reading_behind (take l.byte-index l.piece);
  none : items (take l.byte-index l.piece) ≡ [];
}
