use Rattle.std.proofs.Common.{◌≡◌, ◌≤◌, ◌*◌, take}
use Rattle.arrayvec.specs.ArrayVec.{array_vec_len}
use Rattle.dg_serial.specs.Line.{escaped}
use Rattle.deluge_c.proofs.lines.stuffed.Given as goal

abbrev pub invariant-loop-byte : goal.invariant-loop-byte
invariant-loop-byte l = record {
  items : l.line.items ≡ escaped (take l.byte-index l.frame);
  few : array_vec_len l.line ≤ 2 * l.byte-index;
}
