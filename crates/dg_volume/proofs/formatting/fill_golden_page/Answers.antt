use Rattle.std.proofs.Common.{◌≡◌, ◌+◌, ◌<◌, ℕ, true, length, get_or, [], sym, ap, subst, ◌∙◌, arith}
use Rattle.std.proofs.lemmas.Result.{IfOk-weaker}
use Rattle.dg_words.proofs.CellLemmas.{AreBytes_fits}
use Rattle.dg_object.specs.Object.{object}
use Rattle.dg_object.proofs.RowLemmas.{length-object, get_or-object}
use Rattle.dg_slot.specs.Kept.{Held, with_page}
use Rattle.dg_slot.specs.Fits.{may_seal}
use Rattle.dg_slot.specs.Jobs.{IsOpen}
use Rattle.dg_volume.specs.Store.{golden_row, held_to}
use Rattle.dg_volume.proofs.RowLemmas.{length-held_to}
use Rattle.dg_volume.proofs.FreshLemmas.{golden_is_row}
use Rattle.dg_volume.proofs.formatting.fill_golden_page.Goals as goal

pub fill_next-requires : goal.fill_next-requires
fill_next-requires g c =
    let name = c.args.name.now in
    let bytes = c.args.golden.now in
    let row = golden_row name bytes in
    let is = golden_is_row name bytes c.requires.named c.requires.some c.requires.fits (AreBytes_fits bytes c.type_inv.golden) in
    let n = c.args.p in
    let within : n < length (object row) = omega (arith, c.requires.page, length-object row) in
    let page : c.page_of.new.into ≡ get_or (object row) n [] = c.page_of.ensures ∙ sym (get_or-object row n [] c.requires.page) in
    let law = c.a_row_is_filled_page_by_page.ensures in
    let fits : may_seal 0 (held_to row n) c.page_of.new.into ≡ true = ap (may_seal 0 (held_to row n)) page ∙ law.next row n is within in
    let more : length (held_to row n).complete < (held_to row n).pages = omega (arith, length-held_to row n (omega (arith, within)), c.requires.page) in
    record { fits = (held_to row n, c.requires.open, more, subst (λ (i : ℕ). may_seal i (held_to row n) c.page_of.new.into ≡ true) (sym c.requires.golden) fits) }

pub returns-clause-open : goal.returns-clause-open
returns-clause-open g c =
    let row = golden_row c.args.name.now c.args.golden.now in
    let n = c.args.p in
    let within : n < length (object row) = omega (arith, c.requires.page, length-object row) in
    let page : c.page_of.new.into ≡ get_or (object row) n [] = c.page_of.ensures ∙ sym (get_or-object row n [] c.requires.page) in
    let next : with_page (held_to row n) c.page_of.new.into ≡ held_to row (n + 1) = ap (with_page (held_to row n)) page ∙ c.a_row_is_filled_page_by_page.ensures.more row n within in
    IfOk-weaker c.fill_next.result _ _ (λ o sealed. subst (λ (h : Held). IsOpen (g.N.Nor.device c.fill_next.new.nor).image o h) next (sealed (held_to row n) c.requires.open)) c.fill_next.ensures.sealed
