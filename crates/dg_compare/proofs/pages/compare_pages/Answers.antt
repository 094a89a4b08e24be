use Rattle.std.proofs.Common.{◌≡◌, ◌≢◌, ℕ, ◌+◌, ◌<◌, List, true, false, sym, ap, ◌∙◌, arith, below_more}
use Rattle.dg_slot.specs.Pages.{page_in}
use Rattle.dg_inspect.specs.Chip.{still_device}
use Rattle.dg_compare.proofs.AlikeLemmas.{all_shared, first_differs}
use Rattle.dg_compare.proofs.pages.compare_pages.Goals as goal

pub loop-page-preserved : goal.loop-page-preserved
loop-page-preserved c =
    let one : List ℕ = (still_device c.args.one.now).image in
    let other : List ℕ = (still_device c.args.other.now).image in
    let place : c.args.first + c.from.result ≡ c.args.first + c.loop-page.page = omega (arith, c.from.ensures) in
    let here : page_in one (c.args.first + c.loop-page.page) ≡ page_in other (c.args.first + c.loop-page.page) =
    ap (page_in one) (sym place) ∙ sym c.page-mine.ensures ∙ c.is_same-same.ensures.0 c.if-not-same.false ∙ c.page-theirs.ensures ∙ ap (page_in other) place in
    below_more (λ q. page_in one (c.args.first + q) ≡ page_in other (c.args.first + q)) c.loop-page.page c.loop-page.invariant here

pub returns-then-not-same : goal.returns-then-not-same
returns-then-not-same c =
    let one : List ℕ = (still_device c.args.one.now).image in
    let other : List ℕ = (still_device c.args.other.now).image in
    let place : c.args.first + c.from.result ≡ c.args.first + c.loop-page.page = omega (arith, c.from.ensures) in
    let differ : page_in one (c.args.first + c.loop-page.page) ≢ page_in other (c.args.first + c.loop-page.page) = λ e.
    let yes : c.is_same-same.result ≡ true = c.is_same-same.ensures.1 (c.page-mine.ensures ∙ ap (page_in one) place ∙ e ∙ sym (ap (page_in other) place) ∙ sym c.page-theirs.ensures) in
    let no : c.is_same-same.result ≡ false = c.if-not-same.true in
    absurd cc in
    first_differs one other c.args.first c.args.count c.loop-page.page c.loop-page-test.true c.loop-page.invariant differ

pub returns : goal.returns
returns c =
    let one : List ℕ = (still_device c.args.one.now).image in
    let other : List ℕ = (still_device c.args.other.now).image in
    let end : c.loop-page.page ≡ c.args.count = omega arith in
    all_shared one other c.args.first c.args.count c.loop-page.page end c.loop-page.invariant
