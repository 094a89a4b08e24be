use Rattle.std.proofs.Common.{◌≡◌, ℕ, Vec, Global, sym, ap, ◌∙◌, map, arith}
use Rattle.std.specs.List.{filter, range_with_len}
use Rattle.std.specs.FinSet as set
use Rattle.serde_json.specs.View.{view}
use Rattle.serde_json.specs.declared.value.Value.{Value}
use Rattle.dg_inspect_text.specs.Json.{count_json, array_of}
use Rattle.serde_json.proofs.Views.{view-Array}
use Rattle.dg_inspect_text.proofs.JsonLemmas.{page_in_set, page_not_in_set}
use Rattle.dg_inspect_text.proofs.images.pages_value.Goals as goal
use Rattle.dg_inspect_text.proofs.images.pages_value.Goals.{then-has+in_ok-push, else-has}

pub loop-page-preserved : goal.loop-page-preserved
loop-page-preserved c =
    let page = c.loop-page.page in
    let pages = c.args.pages.now in
    let before = c.loop-page.numbers.items in
    elim c.if-has.branch [
      | then-has+in_ok-push w ↦
          ap (λ (v : Vec Value Global). map view v.items) w.numbers-is
          ∙ ap (map view) w.in_ok-push.ensures.items
          ∙ page_in_set pages page w.from.result before (sym w.if-has.true ∙ c.has.ensures.value) w.from.ensures c.loop-page.invariant
      | else-has w ↦
          ap (λ (v : Vec Value Global). map view v.items) w.numbers-is
          ∙ page_not_in_set pages page before (sym w.if-has.false ∙ c.has.ensures.value) c.loop-page.invariant
    ]

pub returns : goal.returns
returns c =
    let page = c.loop-page.page in
    let all : page ≡ 65 = omega (arith, c.loop-page.auto.page-end, c.loop-page-test.false) in
    view-Array c.loop-page.numbers ∙ ap array_of (c.loop-page.invariant ∙ ap (λ (n : ℕ). map count_json (filter (set.contains c.args.pages.now) (range_with_len 0 n))) all)
