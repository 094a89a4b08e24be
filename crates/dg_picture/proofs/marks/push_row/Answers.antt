use Rattle.std.proofs.Common.{ℕ, List, ◌++◌, ap, ◌∙◌}
use Rattle.dg_layout.specs.Layout.{column, left_of, lane_bottom}
use Rattle.dg_picture.specs.Picture.{lane_image}
use Rattle.dg_layout.proofs.EachLemmas.{begun, grown}
use Rattle.dg_layout.proofs.ColumnLemmas.{first_rest, next_rest, this_column}
use Rattle.dg_picture.proofs.DrawLemmas.{mark_here}
use Rattle.dg_picture.proofs.marks.push_row.Goals as goal

pub loop-k-init : goal.loop-k-init
loop-k-init c = record { drawn = begun _ _; rest = first_rest c.args.grid.per c.args.changes.now }

pub loop-k-preserved : goal.loop-k-preserved
loop-k-preserved c =
    record {
      drawn = grown _ c.loop-k.k _ _ _ c.loop-k.invariant.drawn
          (c.in_ok-push_mark.ensures
          ∙ ap (λ (xs : List ℕ). c.loop-k.out.items ++ xs)
          (mark_here c.args.mark c.args.mote c.next_column.result.0.now (column c.args.grid.per c.loop-k.k c.args.changes.now) c.left_of.result
          (left_of c.args.grid c.loop-k.k) c.base_of-base.result (lane_bottom c.args.frame c.args.mote (lane_image c.args.mark))
          (this_column c.args.grid.per c.loop-k.k c.args.changes.now c.loop-k.rest.now c.next_column.result.0.now c.loop-k.invariant.rest c.next_column.ensures.column)
          c.left_of.ensures (c.base_of-base.ensures.value ∙ ap (λ (n : ℕ). lane_bottom c.args.frame c.args.mote n) c.lane_image.ensures)));
      rest = next_rest c.args.grid.per c.loop-k.k c.args.changes.now c.loop-k.rest.now c.next_column.result.1.now c.loop-k.invariant.rest c.next_column.ensures.behind;
    }
