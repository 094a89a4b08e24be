use Rattle.std.proofs.Common.{◌≡◌, ◌++◌, drop}
use Rattle.dg_picture.specs.Picture.{column_marks}
use Rattle.dg_layout.specs.Layout.{each, count_before}
use Rattle.dg_picture.proofs.marks.push_row.Given as goal

-- the columns so far are drawn, and these changes are left
abbrev pub invariant-loop-k : goal.invariant-loop-k
invariant-loop-k l = record {
  drawn : l.out.items ≡ l.initial.out.items ++ each (column_marks l.mark l.fn.frame l.grid l.changes l.mote) l.k;
  rest : l.rest ≡ drop (count_before l.grid.per l.k l.changes) l.changes;
}
