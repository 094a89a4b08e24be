use Rattle.std.proofs.Common.{ℕ, ◌+◌, List, ◌++◌, ap, ◌∙◌}
use Rattle.dg_story.specs.Reports.{nothing, reported}
use Rattle.dg_layout.specs.Layout.{left_of, shown, lane_bottom}
use Rattle.dg_layout.proofs.EachLemmas.{begun, grown}
use Rattle.dg_layout.proofs.ColumnLemmas.{first_kept, first_rest, next_kept, next_rest}
use Rattle.dg_picture.proofs.DrawLemmas.{version_here}
use Rattle.dg_picture.proofs.versions.push_row.Goals as goal

pub loop-k-init : goal.loop-k-init
loop-k-init c = record { drawn = begun _ _; kept = first_kept (λ kept t. reported c.args.mote c.args.image kept t.report) nothing c.args.grid.per c.args.changes.now; rest = first_rest c.args.grid.per c.args.changes.now }

pub loop-k-preserved : goal.loop-k-preserved
loop-k-preserved c =
    let next = next_kept (λ kept t. reported c.args.mote c.args.image kept t.report) nothing c.args.grid.per c.loop-k.k c.args.changes.now c.loop-k.rest.now c.next_column.result.0.now
    c.loop-k.kept c.last_reported-next.result c.loop-k.invariant.rest c.next_column.ensures.column c.loop-k.invariant.kept c.last_reported-next.ensures in
    record {
      drawn = grown _ c.loop-k.k _ _ _ c.loop-k.invariant.drawn
          (c.in_ok-push_version.ensures
          ∙ ap (λ (xs : List ℕ). c.loop-k.out.items ++ xs)
          (version_here c.args.frame.lane c.left_of.result (left_of c.args.grid c.loop-k.k) c.base_of-base.result (lane_bottom c.args.frame c.args.mote c.args.image)
          c.loop-k.kept (shown c.args.mote c.args.image c.args.grid.per c.loop-k.k c.args.changes.now) c.last_reported-next.result
          (shown c.args.mote c.args.image c.args.grid.per (c.loop-k.k + 1) c.args.changes.now)
          c.left_of.ensures c.base_of-base.ensures.value c.loop-k.invariant.kept next));
      kept = next;
      rest = next_rest c.args.grid.per c.loop-k.k c.args.changes.now c.loop-k.rest.now c.next_column.result.1.now c.loop-k.invariant.rest c.next_column.ensures.behind;
    }
