use Rattle.std.proofs.Common.{◌≡◌, ◌++◌}
use Rattle.dg_layout.specs.Layout.{each}
use Rattle.dg_picture.specs.Picture.{row_marks}
use Rattle.dg_picture.proofs.marks.push_rows.Given as goal

abbrev pub invariant-loop-mote : goal.invariant-loop-mote
invariant-loop-mote l = l.out.items ≡ l.initial.out.items ++ each (row_marks l.mark l.frame l.grid l.changes) l.mote
