use Rattle.std.proofs.Common.{◌≡◌, ◌++◌, take, drop, false}
use Rattle.std.specs.List.{fold}
use Rattle.dg_story.specs.Reports.{powered}
use Rattle.dg_picture.specs.Picture.{step_text, off_height}
use Rattle.dg_layout.specs.Layout.{each, count_before, is_on, lane_bottom}
use Rattle.dg_picture.proofs.rows.push_steps.Given as goal

-- the columns so far are drawn, and these changes are left
abbrev pub invariant-loop-k : goal.invariant-loop-k
invariant-loop-k l = record {
  drawn : l.out.items ≡ l.initial.out.items ++ each (step_text l.grid (lane_bottom l.frame l.mote l.frame.images) (λ k. off_height l.frame.row (is_on l.mote l.grid.per k l.changes))) l.k;
  on : l.on ≡ fold (λ on t. powered l.mote on t.report) false (take (count_before l.grid.per l.k l.changes) l.changes);
  rest : l.rest ≡ drop (count_before l.grid.per l.k l.changes) l.changes;
}
