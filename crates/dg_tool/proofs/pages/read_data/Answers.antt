use Rattle.std.proofs.Common.{◌≡◌, ℕ, ◌+◌, ◌-◌, ◌*◌, List, sym, ap, ◌∙◌, arith}
use Rattle.std.specs.List.{flat_map, range_with_len}
use Rattle.dg_slot.specs.Layout.{page_size, page_sector}
use Rattle.dg_slot.specs.Pages.{page_in}
use Rattle.dg_nor.proofs.ReadLemmas.{Looked_then}
use Rattle.dg_tool.proofs.PageLemmas.{page_more, data_kept}
use Rattle.dg_tool.proofs.ReadLemmas.{reads_err}
use Rattle.dg_tool.proofs.pages.read_data.Goals as goal

pub loop-page-preserved : goal.loop-page-preserved
loop-page-preserved g c =
    let i = c.loop-page.invariant in
    let old = g.N.Nor.device c.args.nor.now in
    let now = g.N.Nor.device c.loop-page.nor in
    let f : ℕ → List ℕ = λ p. page_in old.image (page_sector c.args.image p) in
    let h : ℕ → List ℕ = λ p. page_in now.image (page_sector c.args.image p) in
    let count : c.loop-page.page - 1 + 1 ≡ c.loop-page.page = omega (arith, i.some) in
    record {
      pages = page_more f h _ _ (c.loop-page.page - 1) c.loop-page.page i.pages (ap (λ x. page_in x (page_sector c.args.image c.loop-page.page)) i.looked.same_image) (omega (arith, i.some)) c.in_ok-push_page.ensures.page
          ∙ ap (λ (n : ℕ). flat_map f (range_with_len 1 n)) (omega (arith, i.some));
      count = omega (arith, i.count, i.some, c.in_ok-push_page.ensures.grown);
      some = omega (arith, i.some);
      looked = Looked_then i.looked c.in_ok-push_page.ensures.ends;
    }

pub returns-in_err-push_page-clause-ends : goal.returns-in_err-push_page-clause-ends
returns-in_err-push_page-clause-ends g c = reads_err ℕ c.from_residual.result c.in_err-push_page.field-0.0 _ _ _ c.from_residual.ensures.1 c.loop-page.invariant.looked c.in_err-push_page.ensures.ends

pub returns-clause-bytes : goal.returns-clause-bytes
returns-clause-bytes g c = λ h keeps whole.
    let i = c.loop-page.invariant in
    let last : c.loop-page.page ≡ c.args.pages = omega (arith, c.loop-page-test.false, c.loop-page.auto.page-end, c.requires.some) in
    let f : ℕ → List ℕ = λ p. page_in (g.N.Nor.device c.args.nor.now).image (page_sector c.args.image p) in
    i.pages ∙ ap (λ (n : ℕ). flat_map f (range_with_len 1 (n - 1))) last ∙ sym (data_kept _ c.args.image h (c.args.pages - 1) keeps (whole ∙ omega (arith, c.requires.some)))

pub returns-clause-count : goal.returns-clause-count
returns-clause-count g c =
    let last : c.loop-page.page ≡ c.args.pages = omega (arith, c.loop-page-test.false, c.loop-page.auto.page-end, c.requires.some) in
    c.loop-page.invariant.count ∙ ap (λ (n : ℕ). page_size * (n - 1)) last
