use Rattle.std.proofs.Common.{◌≡◌, ◌∷◌, [], List, ◌∙◌}
use Rattle.std.specs.Map.Iter.{deref_pair}
use Rattle.std.proofs.lemmas.Map.Iter.{rest_more, rest_all}
use Rattle.dg_cost_text.specs.Table.{table_of_rows}
use Rattle.dg_cost_text.specs.declared.moment.Moment.{Moment}
use Rattle.dg_moments.specs.declared.wholes.Whole.{Whole}
use Rattle.dg_cost.specs.MomentRows.{rows_of_whole}
use Rattle.dg_cost.proofs.MomentRowLemmas.{next_rows, no_rows_left}
use Rattle.dg_cost.proofs.moment_rows.push_wholes.Goals as goal

pub loop-whole-preserved : goal.loop-whole-preserved
loop-whole-preserved c =
    let left : List (Whole × Moment) = c.loop-whole.whole-iterator in
    let more : List (Whole × Moment) = c.next.new.self in
    let is : left ≡ (c.in-Some.whole.now, c.in-Some.at.now) ∷ more =
    rest_more deref_pair left more c.next.result (c.in-Some.whole, c.in-Some.at) c.in-Some.is c.next.ensures.steps in
    record {
      rows = next_rows (table_of_rows c.loop-whole.rows) _ (rows_of_whole c.args.mote) left (c.in-Some.whole.now, c.in-Some.at.now) more
          c.loop-whole.invariant.rows is c.in_ok-push_whole.ensures.rows;
      sums = c.in_ok-push_whole.ensures.sums ∙ c.loop-whole.invariant.sums;
    }

pub returns : goal.returns
returns c =
    let left : List (Whole × Moment) = c.loop-whole.whole-iterator in
    let none : left ≡ [] = rest_all deref_pair left c.next.new.self c.next.result c.in-None.is c.next.ensures.steps in
    record {
      rows = no_rows_left (table_of_rows c.loop-whole.rows) _ (rows_of_whole c.args.mote) left c.loop-whole.invariant.rows none;
      sums = c.loop-whole.invariant.sums;
      ordered = c.into_iter-whole-iterator.ensures.into_iter_gives.5;
    }
