-- Pages that are received one after the other.
use Rattle.std.proofs.Common.{◌≡◌, ℕ, suc, ◌+◌, ◌-◌, ◌<◌, ◌≤◌, Bool, true, false, List, [], ◌∷◌, length, take, Option, Some, None, Result, Ok, Err, IsErrAnd, refl, sym, ap, subst, ◌∙◌, arith, cond}
use Rattle.std.specs.Prelude.{◌==◌, slice_index_or}
use Rattle.std.proofs.lemmas.List.{length-append}
use Rattle.std.proofs.lemmas.Bool.Decides.{nat_tests}
use Rattle.sha2.specs.Sha256.{sha256}
use Rattle.dg_nor.specs.Device.{Device}
use Rattle.dg_nor.specs.Trail.{Trail, last, EachWorks, joined, resting, stepping}
use Rattle.dg_nor.proofs.TrailLemmas.{EachWorks-resting, EachWorks-joined, last-joined, last-stepping, last-resting, joined-assoc, joined_none}
use Rattle.dg_slot.specs.Layout.{page_operations}
use Rattle.dg_slot.specs.Kept.{Held, with_page}
use Rattle.dg_volume.specs.Sizes.{images}
use Rattle.dg_volume.specs.Store.{Store, held}
use Rattle.dg_volume.specs.Stands.{Mounted}
use Rattle.dg_volume.specs.Changes.{paged, FitAll}
use Rattle.dg_volume.specs.Trails.{fill_trail}
use Rattle.dg_volume.specs.Acts.{Acted, Stops}
use Rattle.dg_volume.specs.declared.volume.Volume.{Volume}
use Rattle.dg_volume.proofs.ActLemmas.{acted_none, acted_then, stops_first, stops_then}
use Rattle.dg_volume.proofs.HeldLemmas.{held_paged}
use Rattle.dg_volume.proofs.FillLemmas.{fill_first, fill_works, fill_more, fit_rest, fit_next}
use Rattle.dg_chain.specs.Checking.{Break, field_of, first_break}
use Rattle.dg_chain.specs.Receiving.{fill_operations}
use Rattle.dg_end.specs.declared.refusal.Refusal.TheVariants as refusals
use Rattle.dg_end.specs.declared.ends.End.{End}
use Rattle.dg_end.specs.declared.ends.End.TheVariants as ends
use Rattle.dg_tool.proofs.BoardLemmas.{same_some}
use Rattle.dg_chain_tool.specs.Receiving.{expected, with_foreign}
use Rattle.dg_chain_tool.specs.inner.Filling.{FitsData, fits_root, next_trail, NextEnds, fill_to, FillEnds}

pub from_err : {T E : Type 0} (r : Result T E) (x : E) → IsErrAnd r (λ e. e ≡ x) → r ≡ Err x
from_err (Ok y) x h = absurd h
from_err (Err e) x h = ap Err h

-- ---- the first foreign page

pub break_on : (kept : List ℕ) (n : ℕ) (page : List ℕ) (pages : List (List ℕ)) → fits_root kept page ≡ true → first_break kept n (page ∷ pages) ≡ first_break (field_of page) (n + 1) pages
break_on kept n page pages fits = ap (λ (b : Bool). cond b (first_break (field_of page) (n + 1) pages) (Some (record { page = n; kept = kept; found = sha256 page }))) fits

pub break_here : (kept : List ℕ) (n : ℕ) (page : List ℕ) (pages : List (List ℕ)) → fits_root kept page ≡ false → first_break kept n (page ∷ pages) ≡ Some (record { page = n; kept = kept; found = sha256 page })
break_here kept n page pages fits = ap (λ (b : Bool). cond b (first_break (field_of page) (n + 1) pages) (Some (record { page = n; kept = kept; found = sha256 page }))) fits

above_by : (b : Bool) (rest : Option Break) (n : ℕ) (here at : Break) → here.page ≡ n → (rest ≡ Some at → n + 1 ≤ at.page) → cond b rest (Some here) ≡ Some at → n ≤ at.page
above_by true rest n here at is above e = omega (arith, above e)
above_by false rest n here at is above e = omega (arith, is, ap (λ (x : Break). x.page) (same_some here at e))

-- it is not one of those before
pub break_above : (kept : List ℕ) (n : ℕ) (pages : List (List ℕ)) (at : Break) → first_break kept n pages ≡ Some at → n ≤ at.page
break_above kept n [] at e = let f : None ≡ Some at = e in absurd cc
break_above kept n (page ∷ pages) at e =
    above_by (fits_root kept page) (first_break (field_of page) (n + 1) pages) n (record { page = n; kept = kept; found = sha256 page }) at refl (break_above (field_of page) (n + 1) pages at) e

-- ---- the trail of the pages up to it

pub to_first : (found : Option Break) (n : ℕ) (s : Store) (image : ℕ) (pages : List (List ℕ)) → (fill_to found n s image pages).first ≡ s
unfolding joined
to_first None n s image pages = fill_first s image pages
to_first (Some at) n s image pages = fill_first s image (take (at.page - n) pages)

pub to_works : (found : Option Break) (n : ℕ) (s : Store) (image : ℕ) (pages : List (List ℕ)) → EachWorks (fill_to found n s image pages).stages
to_works None n s image pages = fill_works s image pages
to_works (Some at) n s image pages =
    let t = fill_trail s image (take (at.page - n) pages) in
    EachWorks-joined t (resting (last t) fill_operations) (fill_works s image (take (at.page - n) pages)) (EachWorks-resting (last t) fill_operations)

take_more : (m n : ℕ) (page : List ℕ) (pages : List (List ℕ)) → n + 1 ≤ m → take (m - n) (page ∷ pages) ≡ page ∷ take (m - (n + 1)) pages
take_more m n page pages h = let e : m - n ≡ suc (m - (n + 1)) = omega (arith, h) in ap (λ (k : ℕ). take k (page ∷ pages)) e

-- one page more at the beginning
pub to_more : (found : Option Break) (n : ℕ) (s : Store) (image : ℕ) (page : List ℕ) (pages : List (List ℕ)) → ((at : Break) → found ≡ Some at → n + 1 ≤ at.page)
    → joined (stepping s page_operations (paged image page s)) (fill_to found (n + 1) (paged image page s) image pages) ≡ fill_to found n s image (page ∷ pages)
to_more None n s image page pages above = sym (fill_more s image page pages)
to_more (Some at) n s image page pages above =
    let next = paged image page s in
    let one = stepping s page_operations next in
    let front = take (at.page - (n + 1)) pages in
    let t = fill_trail next image front in
    let whole = fill_trail s image (page ∷ front) in
    let end : last whole ≡ last t = ap (λ (x : Trail Store). last x) (fill_more s image page front) ∙ last-joined one t (last-stepping s page_operations next ∙ sym (fill_first next image front)) in
    sym (joined-assoc one t (resting (last t) fill_operations))
    ∙ ap (λ (x : Trail Store). joined x (resting (last t) fill_operations)) (sym (fill_more s image page front))
    ∙ ap (λ (x : Store). joined whole (resting x fill_operations)) (sym end)
    ∙ ap (λ (l : List (List ℕ)). with_foreign (fill_trail s image l)) (sym (take_more at.page n page pages (above at refl)))

none_filled : (s : Store) (image : ℕ) → fill_trail s image [] ≡ resting s 0
unfolding fill_trail
none_filled s image = refl

-- the page itself is foreign
pub to_here : (at : Break) (n : ℕ) (s : Store) (image : ℕ) (pages : List (List ℕ)) → at.page ≡ n → fill_to (Some at) n s image pages ≡ resting s fill_operations
to_here at n s image pages e =
    let none : at.page - n ≡ 0 = omega (arith, e) in
    ap (λ (k : ℕ). with_foreign (fill_trail s image (take k pages))) none
    ∙ ap with_foreign (none_filled s image)
    ∙ ap (λ (x : Store). joined (resting s 0) (resting x fill_operations)) (last-resting s 0)
    ∙ joined_none (resting s fill_operations)

-- ---- while pages are filled

-- these pages are left, and the trail of the others was completed
pub record Going (goal : Trail Store) (found : Option Break) (n image : ℕ) (pages : List (List ℕ)) (a b : Device) (v : Volume) : Type 0 where
  pub gone : Trail Store
  pub acted : Acted gone a b v
  pub whole : joined gone (fill_to found n (last gone) image pages) ≡ goal
  pub fit : FitAll image pages (last gone)
  pub kept : Held
  pub here : held (last gone) image ≡ Some kept
  pub data_page : 1 ≤ length kept.complete

pub going_none : (found : Option Break) (n image : ℕ) (pages : List (List ℕ)) (s : Store) (h : Held) (a : Device) (v : Volume) → Mounted a.image v s → FitAll image pages s → held s image ≡ Some h → 1 ≤ length h.complete
    → Going (fill_to found n s image pages) found n image pages a a v
going_none found n image pages s h a v mounted fit here some = record {
  gone = resting s 0;
  acted = acted_none s a v mounted;
  whole =
      let t = fill_to found n s image pages in
      ap (λ (x : Store). joined (resting s 0) (fill_to found n x image pages)) (last-resting s 0)
      ∙ ap (λ (x : Store). joined (resting x 0) t) (sym (to_first found n s image pages)) ∙ joined_none t;
  fit = subst (FitAll image pages) (sym (last-resting s 0)) fit;
  kept = h;
  here = ap (λ (x : Store). held x image) (last-resting s 0) ∙ here;
  data_page = some;
}

pub going_more : (goal : Trail Store) (e : List ℕ) (n image : ℕ) (page : List ℕ) (rest : List (List ℕ)) (a b c : Device) (v w : Volume) → image < images → fits_root e page ≡ true
    → (g : Going goal (first_break e n (page ∷ rest)) n image (page ∷ rest) a b v) → Acted (stepping (last g.gone) page_operations (paged image page (last g.gone))) b c w
    → Going goal (first_break (field_of page) (n + 1) rest) (n + 1) image rest a c w
going_more goal e n image page rest a b c v w known fits g acted =
    let x = last g.gone in
    let y = paged image page x in
    let one = stepping x page_operations y in
    let found = first_break (field_of page) (n + 1) rest in
    let at : last (joined g.gone one) ≡ y = last-joined g.gone one refl ∙ last-stepping x page_operations y in
    record {
      gone = joined g.gone one;
      acted = acted_then g.gone one a b c v w refl g.acted acted;
      whole =
          ap (λ (z : Store). joined (joined g.gone one) (fill_to found (n + 1) z image rest)) at
          ∙ joined-assoc g.gone one (fill_to found (n + 1) y image rest)
          ∙ ap (joined g.gone) (to_more found n x image page rest (break_above (field_of page) (n + 1) rest))
          ∙ ap (λ (f : Option Break). joined g.gone (fill_to f n x image (page ∷ rest))) (sym (break_on e n page rest fits))
          ∙ g.whole;
      fit = subst (FitAll image rest) (sym at) (fit_rest x image page rest g.fit);
      kept = with_page g.kept page;
      here = ap (λ (z : Store). held z image) at ∙ held_paged x image g.kept page (omega (arith, known, g.acted.mounted.stands.contains.count)) g.here;
      data_page = omega (arith, g.data_page, length-append g.kept.complete (page ∷ []));
    }

stops_by : (b : Bool) (e : List ℕ) (n image : ℕ) (page : List ℕ) (rest : List (List ℕ)) (x : Store) (a c : Device) → fits_root e page ≡ b → Stops (next_trail b x image page) a c → Stops (fill_to (first_break e n (page ∷ rest)) n x image (page ∷ rest)) a c
stops_by true e n image page rest x a c fits h =
    let y = paged image page x in
    let one = stepping x page_operations y in
    let found = first_break (field_of page) (n + 1) rest in
    let u = fill_to found (n + 1) y image rest in
    subst (λ (f : Option Break). Stops (fill_to f n x image (page ∷ rest)) a c) (sym (break_on e n page rest fits))
    (subst (λ (t : Trail Store). Stops t a c) (to_more found n x image page rest (break_above (field_of page) (n + 1) rest))
    (stops_first one u a c (to_works found (n + 1) y image rest) (last-stepping x page_operations y ∙ sym (to_first found (n + 1) y image rest)) h))
stops_by false e n image page rest x a c fits h =
    subst (λ (f : Option Break). Stops (fill_to f n x image (page ∷ rest)) a c) (sym (break_here e n page rest fits))
    (subst (λ (t : Trail Store). Stops t a c) (sym (to_here (record { page = n; kept = e; found = sha256 page }) n x image (page ∷ rest) refl)) h)

pub going_stops : (goal : Trail Store) (e : List ℕ) (n image : ℕ) (page : List ℕ) (rest : List (List ℕ)) (a b c : Device) (v : Volume)
    → (g : Going goal (first_break e n (page ∷ rest)) n image (page ∷ rest) a b v) → Stops (next_trail (fits_root e page) (last g.gone) image page) b c → Stops goal a c
going_stops goal e n image page rest a b c v g h =
    let x = last g.gone in
    let t = fill_to (first_break e n (page ∷ rest)) n x image (page ∷ rest) in
    subst (λ (u : Trail Store). Stops u a c) g.whole
    (stops_then g.gone t a b c v (sym (to_first (first_break e n (page ∷ rest)) n x image (page ∷ rest))) g.acted (stops_by (fits_root e page) e n image page rest x b c refl h))

pub going_foreign : (goal : Trail Store) (e : List ℕ) (n image : ℕ) (page : List ℕ) (rest : List (List ℕ)) (a b c : Device) (v w : Volume) → fits_root e page ≡ false
    → (g : Going goal (first_break e n (page ∷ rest)) n image (page ∷ rest) a b v) → Acted (resting (last g.gone) fill_operations) b c w → Acted goal a c w
going_foreign goal e n image page rest a b c v w fits g acted =
    let x = last g.gone in
    let at : Break = record { page = n; kept = e; found = sha256 page } in
    let same : joined g.gone (resting x fill_operations) ≡ goal =
    ap (joined g.gone) (sym (to_here at n x image (page ∷ rest) refl)) ∙ ap (λ (f : Option Break). joined g.gone (fill_to f n x image (page ∷ rest))) (sym (break_here e n page rest fits)) ∙ g.whole in
    subst (λ (u : Trail Store). Acted u a c w) same (acted_then g.gone (resting x fill_operations) a b c v w refl g.acted acted)

pub going_all : (goal : Trail Store) (n image : ℕ) (a b : Device) (v : Volume) → Going goal None n image [] a b v → Acted goal a b v
going_all goal n image a b v g =
    let x = last g.gone in
    let same : joined g.gone (resting x 0) ≡ goal = ap (joined g.gone) (sym (none_filled x image)) ∙ g.whole in
    subst (λ (u : Trail Store). Acted u a b v) same (acted_then g.gone (resting x 0) a b b v v refl g.acted (acted_none x b v g.acted.mounted))

-- a page that was not made complete ends it
pub next_fails : (T U : Type 0) (stop : End) (goal : Trail Store) (found : Option Break) (e : List ℕ) (n image : ℕ) (page : List ℕ) (rest : List (List ℕ)) (a b c : Device) (v w : Volume) → found ≡ first_break e n (page ∷ rest)
    → (g : Going goal (first_break e n (page ∷ rest)) n image (page ∷ rest) a b v) → NextEnds {T = T} (Err stop) (record { image = image; number = n; page = page; digest = e }) (last g.gone) b c w → FillEnds {T = U} (Err stop) found goal a c w
next_fails T U (ends.Refused (refusals.Foreign k)) goal found e n image page rest a b c v w same g h =
    ((record { page = n; kept = e; found = sha256 page }, same ∙ break_here e n page rest h.1, sym h.0), going_foreign goal e n image page rest a b c v w h.1 g h.2)
next_fails T U ends.FlashFault goal found e n image page rest a b c v w same g h = going_stops goal e n image page rest a b c v g h
next_fails T U end goal found e n image page rest a b c v w same g h = absurd h

-- the next page fits, and it is a data page
pub going_fits : (goal : Trail Store) (found : Option Break) (n image : ℕ) (page : List ℕ) (rest : List (List ℕ)) (a b : Device) (v : Volume) → (g : Going goal found n image (page ∷ rest) a b v) → FitsData image page (last g.gone)
going_fits goal found n image page rest a b v g =
    let next = fit_next (last g.gone) image page rest g.fit in
    record { next = next; data_page = subst (λ (h : Held). 1 ≤ length h.complete) (same_some g.kept next.kept (sym g.here ∙ next.held_here)) g.data_page }

-- ---- the digest that is expected of a page

one_test : (n : ℕ) → n ≡ 1 → (n == 1) ≡ true
one_test n e = grind (arith, nat_tests)

other_test : (n : ℕ) → (n ≡ 1 → ⊥) → (n == 1) ≡ false
other_test n e = grind (arith, nat_tests)

pub expected_first : (root : List ℕ) (pages : List (List ℕ)) (n : ℕ) → n ≡ 1 → root ≡ expected root pages n
expected_first root pages n e = sym (ap (λ (b : Bool). cond b root (field_of (slice_index_or pages (n - 1) []))) (one_test n e))

pub expected_later : (root : List ℕ) (pages : List (List ℕ)) (n : ℕ) (field before : List ℕ) → (n ≡ 1 → ⊥) → slice_index_or pages (n - 1) [] ≡ before → field ≡ field_of before → field ≡ expected root pages n
expected_later root pages n field before other here is =
    is ∙ ap field_of (sym here) ∙ sym (ap (λ (b : Bool). cond b root (field_of (slice_index_or pages (n - 1) []))) (other_test n other))
