-- Pages that are filled one after the other.
use Rattle.std.proofs.Common.{◌≡◌, ℕ, suc, ◌+◌, ◌<◌, ◌≤◌, List, [], ◌∷◌, drop, get_or, length, refl, sym, ap, subst, ◌∙◌, arith}
use Rattle.std.proofs.Math.Seq.{drop-cons}
use Rattle.std.proofs.Math.ListN.{drop_of_length-le}
use Rattle.dg_words.proofs.ListLemmas.{length-tabulate, get_or-tabulate}
use Rattle.dg_object.specs.Object.{Row, pages_for, page_of_row, object}
use Rattle.dg_nor.specs.Device.{Device}
use Rattle.dg_nor.specs.Trail.{Trail, last, EachWorks, joined, resting, stepping}
use Rattle.dg_nor.proofs.TrailLemmas.{EachWorks-resting, EachWorks-stepping, EachWorks-joined, last-joined, last-stepping, last-resting, joined-assoc, joined_none}
use Rattle.dg_slot.specs.Layout.{page_operations}
use Rattle.dg_volume.specs.Store.{Store}
use Rattle.dg_volume.specs.Stands.{Mounted}
use Rattle.dg_volume.specs.Changes.{paged, FitsNext, FitAll}
use Rattle.dg_volume.specs.Trails.{fill_trail}
use Rattle.dg_volume.specs.Acts.{Acted, Stops}
use Rattle.dg_volume.specs.declared.volume.Volume.{Volume}
use Rattle.dg_volume.proofs.ActLemmas.{acted_none, acted_then, stops_first, stops_then}

pub fill_first : (s : Store) (image : ℕ) (pages : List (List ℕ)) → (fill_trail s image pages).first ≡ s
unfolding fill_trail joined
fill_first s image [] = refl
fill_first s image (page ∷ pages) = refl

pub fill_works : (s : Store) (image : ℕ) (pages : List (List ℕ)) → EachWorks (fill_trail s image pages).stages
unfolding fill_trail
fill_works s image [] = EachWorks-resting s 0
fill_works s image (page ∷ pages) =
    EachWorks-joined (stepping s page_operations (paged image page s)) (fill_trail (paged image page s) image pages) (EachWorks-stepping s page_operations (paged image page s) (omega arith)) (fill_works (paged image page s) image pages)

pub fill_more : (s : Store) (image : ℕ) (page : List ℕ) (pages : List (List ℕ)) → fill_trail s image (page ∷ pages) ≡ joined (stepping s page_operations (paged image page s)) (fill_trail (paged image page s) image pages)
unfolding fill_trail
fill_more s image page pages = refl

pub fit_rest : (s : Store) (image : ℕ) (page : List ℕ) (rest : List (List ℕ)) → FitAll image (page ∷ rest) s → FitAll image rest (paged image page s)
unfolding FitAll
fit_rest s image page rest all = all.1

pub fit_next : (s : Store) (image : ℕ) (page : List ℕ) (rest : List (List ℕ)) → FitAll image (page ∷ rest) s → FitsNext image page s
unfolding FitAll
fit_next s image page rest all = all.0

-- these pages are left, and the trail of the others was completed
pub record Filled (s : Store) (image : ℕ) (pages rest : List (List ℕ)) (a b : Device) (v : Volume) : Type 0 where
  pub gone : Trail Store
  pub acted : Acted gone a b v
  pub whole : joined gone (fill_trail (last gone) image rest) ≡ fill_trail s image pages
  pub fit : FitAll image pages s → FitAll image rest (last gone)

pub filled_none : (s : Store) (image : ℕ) (pages : List (List ℕ)) (a : Device) (v : Volume) → Mounted a.image v s → Filled s image pages pages a a v
filled_none s image pages a v mounted = record {
  gone = resting s 0;
  acted = acted_none s a v mounted;
  whole =
      let t = fill_trail s image pages in
      ap (λ (x : Store). joined (resting s 0) (fill_trail x image pages)) (last-resting s 0)
      ∙ ap (λ (x : Store). joined (resting x 0) t) (sym (fill_first s image pages)) ∙ joined_none t;
  fit = λ all. subst (FitAll image pages) (sym (last-resting s 0)) all;
}

pub filled_more : (s : Store) (image : ℕ) (page : List ℕ) (pages rest : List (List ℕ)) (a b c : Device) (v w : Volume) → (f : Filled s image pages (page ∷ rest) a b v)
    → Acted (stepping (last f.gone) page_operations (paged image page (last f.gone))) b c w → Filled s image pages rest a c w
filled_more s image page pages rest a b c v w f acted =
    let x = last f.gone in
    let y = paged image page x in
    let one = stepping x page_operations y in
    let at : last (joined f.gone one) ≡ y = last-joined f.gone one refl ∙ last-stepping x page_operations y in
    record {
      gone = joined f.gone one;
      acted = acted_then f.gone one a b c v w refl f.acted acted;
      whole =
          ap (λ (z : Store). joined (joined f.gone one) (fill_trail z image rest)) at
          ∙ joined-assoc f.gone one (fill_trail y image rest) ∙ ap (joined f.gone) (sym (fill_more x image page rest)) ∙ f.whole;
      fit = λ all. subst (FitAll image rest) (sym at) (fit_rest x image page rest (f.fit all));
    }

pub filled_stops : (s : Store) (image : ℕ) (page : List ℕ) (pages rest : List (List ℕ)) (a b c : Device) (v : Volume) → (f : Filled s image pages (page ∷ rest) a b v)
    → Stops (stepping (last f.gone) page_operations (paged image page (last f.gone))) b c → Stops (fill_trail s image pages) a c
filled_stops s image page pages rest a b c v f stops =
    let x = last f.gone in
    let y = paged image page x in
    let one = stepping x page_operations y in
    let u = fill_trail y image rest in
    let here : Stops (fill_trail x image (page ∷ rest)) b c =
    subst (λ (t : Trail Store). Stops t b c) (sym (fill_more x image page rest))
    (stops_first one u b c (fill_works y image rest) (last-stepping x page_operations y ∙ sym (fill_first y image rest)) stops) in
    subst (λ (t : Trail Store). Stops t a c) f.whole
    (stops_then f.gone (fill_trail x image (page ∷ rest)) a b c v (sym (fill_first x image (page ∷ rest))) f.acted here)

pub filled_all : (s : Store) (image : ℕ) (pages : List (List ℕ)) (a b : Device) (v : Volume) → Filled s image pages [] a b v → Acted (fill_trail s image pages) a b v
unfolding fill_trail joined
filled_all s image pages a b v f = subst (λ (t : Trail Store). Acted t a b v) f.whole (acted_then f.gone (resting (last f.gone) 0) a b b v v refl f.acted (acted_none (last f.gone) b v f.acted.mounted))

pub drop_one : {A : Type 0} (xs : List A) (i : ℕ) (d : A) → i < length xs → drop i xs ≡ get_or xs i d ∷ drop (i + 1) xs
drop_one xs i d h = let e : suc i ≡ i + 1 = omega arith in drop-cons xs i d h ∙ ap (λ (n : ℕ). get_or xs i d ∷ drop n xs) e

-- the pages of an object from page p on
pub object_drop : (row : Row) (p : ℕ) (page : List ℕ) → p < pages_for (length row.bytes) → page ≡ page_of_row row p → drop p (object row) ≡ page ∷ drop (p + 1) (object row)
object_drop row p page known is =
    let n = pages_for (length row.bytes) in
    let count : length (object row) ≡ n = length-tabulate n (page_of_row row) in
    drop_one (object row) p [] (omega (arith, known, count)) ∙ ap (λ (x : List ℕ). x ∷ drop (p + 1) (object row)) (get_or-tabulate n p (page_of_row row) [] known ∙ sym is)

pub object_end : (row : Row) (p : ℕ) → pages_for (length row.bytes) ≤ p → drop p (object row) ≡ []
object_end row p h = drop_of_length-le (object row) (omega (arith, h, length-tabulate (pages_for (length row.bytes)) (page_of_row row)))
