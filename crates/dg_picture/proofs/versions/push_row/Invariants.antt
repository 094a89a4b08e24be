use Rattle.std.proofs.Common.{◌≡◌, ◌++◌, take, drop}
use Rattle.std.specs.List.{fold}
use Rattle.dg_story.specs.Reports.{nothing, reported}
use Rattle.dg_picture.specs.Picture.{column_version}
use Rattle.dg_layout.specs.Layout.{each, count_before}
use Rattle.dg_picture.proofs.versions.push_row.Given as goal

-- the columns so far are drawn, and these changes are left
abbrev pub invariant-loop-k : goal.invariant-loop-k
invariant-loop-k l = record {
  drawn : l.out.items ≡ l.initial.out.items ++ each (column_version l.frame l.grid l.changes l.image l.mote) l.k;
  kept : l.kept ≡ fold (λ kept t. reported l.mote l.image kept t.report) nothing (take (count_before l.grid.per l.k l.changes) l.changes);
  rest : l.rest ≡ drop (count_before l.grid.per l.k l.changes) l.changes;
}
