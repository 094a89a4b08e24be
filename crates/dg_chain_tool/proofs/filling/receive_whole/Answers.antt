use Rattle.std.proofs.Common.{◌≡◌, ℕ, List, [], ◌∷◌, drop, sym, ap, subst, ◌∙◌, arith}
use Rattle.std.proofs.lemmas.List.{length-append}
use Rattle.dg_nor.specs.Trail.{last, stepping}
use Rattle.dg_nor.proofs.TrailLemmas.{last-stepping}
use Rattle.dg_object.specs.Object.{object}
use Rattle.dg_slot.specs.Kept.{with_page}
use Rattle.dg_slot.specs.Layout.{page_operations}
use Rattle.dg_volume.specs.Store.{Store, held}
use Rattle.dg_volume.specs.Changes.{paged, FitAll}
use Rattle.dg_volume.proofs.HeldLemmas.{held_paged}
use Rattle.dg_volume.proofs.FillLemmas.{fit_next, fit_rest, object_drop}
use Rattle.dg_volume.proofs.StoreLemmas.{one_store}
use Rattle.dg_volume.specs.Filling.{new_row}
use Rattle.dg_chain_tool.specs.inner.Words.{foreign_from}
use Rattle.dg_chain_tool.proofs.FillLemmas.{break_above}
use Rattle.dg_chain_tool.proofs.ReceiveLemmas.{whole_ends, whole_stops}
use Rattle.dg_chain_tool.proofs.filling.receive_whole.Goals as goal

pub fill_page-requires-clause-fits : goal.fill_page-requires-clause-fits
fill_page-requires-clause-fits g c =
    let row = new_row c.args.new.now in
    let i = c.args.new.now.image in
    let s = c.requires.mounted.0 in
    let page = c.page.new.into in
    let pages : object row ≡ page ∷ drop 1 (object row) = object_drop row 0 page (omega arith) c.page.ensures in
    (s, c.requires.mounted.1, fit_next s i page (drop 1 (object row)) (subst (λ (l : List (List ℕ)). FitAll i l s) pages (c.requires.fit s c.requires.mounted.1)))

pub receive_data-requires-clause-mounted : goal.receive_data-requires-clause-mounted
receive_data-requires-clause-mounted g c = let acted = c.in-Ok.ensures.acted c.requires.mounted.0 c.requires.mounted.1 in (_, acted.mounted)

pub receive_data-requires-clause-fit : goal.receive_data-requires-clause-fit
receive_data-requires-clause-fit g c = λ t there.
    let row = new_row c.args.new.now in
    let i = c.args.new.now.image in
    let s = c.requires.mounted.0 in
    let page = c.page.new.into in
    let rest = drop 1 (object row) in
    let pages : object row ≡ page ∷ rest = object_drop row 0 page (omega arith) c.page.ensures in
    let acted = c.in-Ok.ensures.acted s c.requires.mounted.1 in
    let same : t ≡ paged i page s = one_store _ t (last (stepping s page_operations (paged i page s))) there.stands acted.mounted.stands ∙ last-stepping s page_operations (paged i page s) in
    subst (λ (x : Store). FitAll i rest x) (sym same) (fit_rest s i page rest (subst (λ (l : List (List ℕ)). FitAll i l s) pages (c.requires.fit s c.requires.mounted.1)))

pub receive_data-requires-clause-data : goal.receive_data-requires-clause-data
receive_data-requires-clause-data g c = λ t there.
    let i = c.args.new.now.image in
    let s = c.requires.mounted.0 in
    let page = c.page.new.into in
    let k = c.requires.complete s c.requires.mounted.1 in
    let acted = c.in-Ok.ensures.acted s c.requires.mounted.1 in
    let same : t ≡ paged i page s = one_store _ t (last (stepping s page_operations (paged i page s))) there.stands acted.mounted.stands ∙ last-stepping s page_operations (paged i page s) in (
      with_page k.0 page,
      ap (λ (x : Store). held x i) same ∙ held_paged s i k.0 page (omega (arith, c.requires.known_image, c.requires.mounted.1.stands.contains.count)) k.1,
      omega (arith, length-append k.0.complete (page ∷ [])),
    )

pub receive_data-requires-clause-not_lent : goal.receive_data-requires-clause-not_lent
receive_data-requires-clause-not_lent g c = c.in-Ok.ensures.lent c.args.new.now.image ∙ c.requires.not_lent

pub returns-in-Ok : goal.returns-in-Ok
returns-in-Ok g c = record {
  ends = λ s mounted.
      let row = new_row c.args.new.now in
      let i = c.args.new.now.image in
      let page = c.page.new.into in
      let rest = drop 1 (object row) in
      let pages : object row ≡ page ∷ rest = object_drop row 0 page (omega arith) c.page.ensures in
      let acted = c.in-Ok.ensures.acted s mounted in
      whole_ends (foreign_from c.args.root.now (object row) 1) s i page rest (object row) (break_above c.args.root.now 1 rest) pages c.receive_data.result _ _ _ _ c.receive_data.new.volume acted (c.receive_data.ensures.ends _ acted.mounted);
}

pub returns-in-Err : goal.returns-in-Err
returns-in-Err g c = record {
  ends = λ s mounted.
      let row = new_row c.args.new.now in
      let page = c.page.new.into in
      let rest = drop 1 (object row) in
      let pages : object row ≡ page ∷ rest = object_drop row 0 page (omega arith) c.page.ensures in
      whole_stops (foreign_from c.args.root.now (object row) 1) s c.args.new.now.image page rest (object row) (break_above c.args.root.now 1 rest) pages _ _ (c.in-Err.ensures.stopped s mounted);
}
