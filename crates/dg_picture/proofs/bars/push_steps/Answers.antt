use Rattle.std.proofs.Common.{ℕ, List, ◌++◌, ap, ◌∙◌}
use Rattle.dg_layout.specs.Counts.{held}
use Rattle.dg_story.specs.Reports.{nothing, reported}
use Rattle.dg_layout.specs.Layout.{shown, lane_bottom}
use Rattle.dg_picture.specs.Picture.{bar_height}
use Rattle.dg_layout.proofs.EachLemmas.{begun, grown}
use Rattle.dg_layout.proofs.ColumnLemmas.{first_kept, first_rest, next_kept, next_rest}
use Rattle.dg_picture.proofs.DrawLemmas.{turn_here}
use Rattle.dg_picture.proofs.bars.push_steps.Goals as goal

pub loop-k-init : goal.loop-k-init
loop-k-init c = record { drawn = begun _ _; kept = first_kept (λ kept t. reported c.args.mote c.args.image kept t.report) nothing c.args.grid.per c.args.changes.now; rest = first_rest c.args.grid.per c.args.changes.now }

pub loop-k-preserved : goal.loop-k-preserved
loop-k-preserved c =
    let next = next_kept (λ kept t. reported c.args.mote c.args.image kept t.report) nothing c.args.grid.per c.loop-k.k c.args.changes.now c.loop-k.rest.now c.next_column.result.0.now
    c.loop-k.kept c.last_reported-next.result c.loop-k.invariant.rest c.next_column.ensures.column c.loop-k.invariant.kept c.last_reported-next.ensures in
    let height = bar_height (held c.args.counts.now) c.args.frame.lane in
    record {
      drawn = grown _ c.loop-k.k _ _ _ c.loop-k.invariant.drawn
          (c.in_ok-push_turn.ensures
          ∙ ap (λ (xs : List ℕ). c.loop-k.out.items ++ xs)
          (turn_here c.args.grid (λ k. height (shown c.args.mote c.args.image c.args.grid.per k c.args.changes.now)) c.loop-k.k c.left_of.result
          c.base_of-base.result (lane_bottom c.args.frame c.args.mote c.args.image) c.bar_height-old.result c.bar_height-new.result
          c.left_of.ensures c.base_of-base.ensures.value (c.bar_height-old.ensures ∙ ap height c.loop-k.invariant.kept)
          (c.bar_height-new.ensures ∙ ap height next)));
      kept = next;
      rest = next_rest c.args.grid.per c.loop-k.k c.args.changes.now c.loop-k.rest.now c.next_column.result.1.now c.loop-k.invariant.rest c.next_column.ensures.behind;
    }
