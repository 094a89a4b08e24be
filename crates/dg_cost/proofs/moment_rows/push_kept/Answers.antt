use Rattle.std.proofs.Common.{◌≡◌, ◌∷◌, [], List}
use Rattle.std.specs.Map.Iter.{deref_pair}
use Rattle.std.proofs.lemmas.Map.Iter.{rest_more, rest_all}
use Rattle.dg_base.specs.declared.events.ImageVersion.{ImageVersion}
use Rattle.dg_cost_text.specs.Table.{table_of_rows}
use Rattle.dg_cost_text.specs.declared.moment.Moment.{Moment}
use Rattle.dg_cost.specs.MomentRows.{rows_of_all}
use Rattle.dg_cost.proofs.MomentRowLemmas.{next_rows, no_rows_left}
use Rattle.dg_cost.proofs.moment_rows.push_kept.Goals as goal

pub loop-image_version-preserved : goal.loop-image_version-preserved
loop-image_version-preserved c =
    let left : List (ImageVersion × Moment) = c.loop-image_version.image_version-iterator in
    let more : List (ImageVersion × Moment) = c.next.new.self in
    let is : left ≡ (c.in-Some.image_version.now, c.in-Some.at.now) ∷ more =
    rest_more deref_pair left more c.next.result (c.in-Some.image_version, c.in-Some.at) c.in-Some.is c.next.ensures.steps in
    next_rows (table_of_rows c.loop-image_version.rows) _ rows_of_all left (c.in-Some.image_version.now, c.in-Some.at.now) more
    c.loop-image_version.invariant is c.in_ok-moment.ensures.rows

pub returns : goal.returns
returns c =
    let left : List (ImageVersion × Moment) = c.loop-image_version.image_version-iterator in
    let none : left ≡ [] = rest_all deref_pair left c.next.new.self c.next.result c.in-None.is c.next.ensures.steps in
    record {
      rows = no_rows_left (table_of_rows c.loop-image_version.rows) _ rows_of_all left c.loop-image_version.invariant none;
      ordered = c.into_iter-image_version-iterator.ensures.into_iter_gives.5;
    }
