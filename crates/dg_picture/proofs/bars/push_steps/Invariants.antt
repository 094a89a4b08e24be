use Rattle.std.proofs.Common.{◌≡◌, ◌++◌, take, drop}
use Rattle.std.specs.List.{fold}
use Rattle.dg_layout.specs.Counts.{held}
use Rattle.dg_story.specs.Reports.{nothing, reported}
use Rattle.dg_picture.specs.Picture.{step_text, bar_height}
use Rattle.dg_layout.specs.Layout.{each, count_before, shown, lane_bottom}
use Rattle.dg_picture.proofs.bars.push_steps.Given as goal

-- the columns so far are drawn, and these changes are left
abbrev pub invariant-loop-k : goal.invariant-loop-k
invariant-loop-k l = record {
  drawn : l.out.items ≡ l.initial.out.items ++ each (step_text l.grid (lane_bottom l.frame l.mote l.image) (λ k. bar_height (held l.counts) l.frame.lane (shown l.mote l.image l.grid.per k l.changes))) l.k;
  kept : l.kept ≡ fold (λ kept t. reported l.mote l.image kept t.report) nothing (take (count_before l.grid.per l.k l.changes) l.changes);
  rest : l.rest ≡ drop (count_before l.grid.per l.k l.changes) l.changes;
}
