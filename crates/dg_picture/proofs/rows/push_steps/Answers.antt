use Rattle.std.proofs.Common.{ℕ, List, ◌++◌, ap, ◌∙◌, false}
use Rattle.dg_story.specs.Reports.{powered}
use Rattle.dg_layout.specs.Layout.{is_on, lane_bottom}
use Rattle.dg_picture.specs.Picture.{off_height}
use Rattle.dg_layout.proofs.EachLemmas.{begun, grown}
use Rattle.dg_layout.proofs.ColumnLemmas.{first_kept, first_rest, next_kept, next_rest}
use Rattle.dg_picture.proofs.DrawLemmas.{turn_here}
use Rattle.dg_picture.proofs.rows.push_steps.Goals as goal

pub loop-k-init : goal.loop-k-init
loop-k-init c = record { drawn = begun _ _; on = first_kept (λ on t. powered c.args.mote on t.report) false c.args.grid.per c.args.changes.now; rest = first_rest c.args.grid.per c.args.changes.now }

pub loop-k-preserved : goal.loop-k-preserved
loop-k-preserved c =
    let next = next_kept (λ on t. powered c.args.mote on t.report) false c.args.grid.per c.loop-k.k c.args.changes.now c.loop-k.rest.now c.next_column.result.0.now
    c.loop-k.on c.last_powered-next.result c.loop-k.invariant.rest c.next_column.ensures.column c.loop-k.invariant.on c.last_powered-next.ensures in
    let height = off_height c.args.frame.row in
    record {
      drawn = grown _ c.loop-k.k _ _ _ c.loop-k.invariant.drawn
          (c.in_ok-push_turn.ensures
          ∙ ap (λ (xs : List ℕ). c.loop-k.out.items ++ xs)
          (turn_here c.args.grid (λ k. height (is_on c.args.mote c.args.grid.per k c.args.changes.now)) c.loop-k.k c.left_of.result
          c.bottom_of-base.result (lane_bottom c.args.frame c.args.mote c.args.frame.images) c.off_height-old.result c.off_height-new.result
          c.left_of.ensures c.bottom_of-base.ensures (c.off_height-old.ensures ∙ ap height c.loop-k.invariant.on)
          (c.off_height-new.ensures ∙ ap height next)));
      on = next;
      rest = next_rest c.args.grid.per c.loop-k.k c.args.changes.now c.loop-k.rest.now c.next_column.result.1.now c.loop-k.invariant.rest c.next_column.ensures.behind;
    }
