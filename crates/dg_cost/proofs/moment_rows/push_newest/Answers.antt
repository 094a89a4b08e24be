use Rattle.std.proofs.Common.{◌≡◌, ◌∷◌, ◌++◌, [], ◌+◌, ℕ, List, Option, None, Some, length, subst, sym, append-nil, arith}
use Rattle.dg_cost_text.specs.Table.{table_of_rows}
use Rattle.dg_cost_text.specs.declared.moment.Moment.{Moment}
use Rattle.dg_cost.specs.MomentRows.{IsNewestAt}
use Rattle.dg_cost.proofs.MomentRowLemmas.{newest_pushed, one_longer}
use Rattle.dg_cost.proofs.RowLemmas.{each_more}
use Rattle.dg_cost.proofs.moment_rows.push_newest.Goals as goal

none_there : (at : Option Moment) → None ≡ Some at → ⊥
none_there at e = cc

pub loop-image-init : goal.loop-image-init
loop-image-init c = ([], omega arith, (λ i at there. absurd (none_there at there)), sym (append-nil (table_of_rows c.args.rows.now)))

pub loop-image-preserved : goal.loop-image-preserved
loop-image-preserved c =
    let so = c.loop-image.invariant in
    let newest : List (Option Moment) = so.0 in
    let image : (m : ℕ) → m ≡ length newest → c.loop-image.image ≡ m + 1 = λ m is. omega (arith, is, so.1) in (
      newest ++ c.newest.result ∷ [],
      one_longer newest c.newest.result c.loop-image.image so.1,
      each_more (λ (i : ℕ) (at : Option Moment). IsNewestAt c.args.counter.now (i + 1) at) newest c.newest.result so.2
          (λ m is. subst (λ (k : ℕ). IsNewestAt c.args.counter.now k c.newest.result) (image m is) c.newest.ensures),
      newest_pushed (table_of_rows c.loop-image.rows) (table_of_rows c.args.rows.now) newest c.loop-image.image c.newest.result so.3 so.1 c.in_ok-push_newest_of.ensures,
    )

pub returns : goal.returns
returns c =
    let so = c.loop-image.invariant in
    (so.0, record { images = omega (arith, so.1, c.loop-image-test.false, c.loop-image.auto.image-end (omega arith)); each = so.2 }, so.3)
