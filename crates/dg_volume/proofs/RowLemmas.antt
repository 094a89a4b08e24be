-- The pages of a row fit its slot, one after the other.
use Rattle.std.proofs.Common.{◌≡◌, ℕ, zero, suc, ◌+◌, ◌-◌, ◌<◌, ◌≤◌, true, List, [], ◌∷◌, ◌++◌, length, take, drop, get_or, Some, refl, sym, ap, subst, ◌∙◌, eq-eqb, ⊎_elim, arith}
use Rattle.dg_volume.proofs.HeldLemmas.{held_paged}
use Rattle.std.specs.Prelude.{◌↔◌, ◌==◌, option_map}
use Rattle.std.proofs.lemmas.Bool.{cases_lt, and_from}
use Rattle.std.proofs.lemmas.List.{get_or-take, length-take}
use Rattle.std.proofs.Math.ListN.{length-set, drop_of_length-le}
use Rattle.std.proofs.Math.Seq.{take-suc, drop-cons}
use Rattle.dg_base.specs.Crc.{crc_of}
use Rattle.dg_object.specs.Object.{Row, IsRow, pages_for, descriptor_page, object, profile}
use Rattle.dg_object.specs.Descriptor.{details, crc_in}
use Rattle.dg_object.proofs.PageLemmas.{page_of_row-first, page_of_row-data}
use Rattle.dg_object.proofs.RowLemmas.{descriptor_of_row, crc_in-descriptor_page, length-object, get_or-object}
use Rattle.dg_slot.specs.Kept.{Describes, with_page, crc_by, kept_crc}
use Rattle.dg_slot.specs.Fits.{describes, first_fits, may_seal}
use Rattle.dg_volume.specs.Store.{Store, held, held_to}
use Rattle.dg_volume.specs.Changes.{paged, FitsNext, FitAll}

-- the test for a descriptor is true if the page is one
abbrev pub Tested : Type 0
Tested = (page : List ℕ) (image version pages : ℕ) → (describes page image version pages ≡ true) ↔ Describes page image version pages

pub length-held_to : (row : Row) (n : ℕ) → n ≤ length (object row) → length (held_to row n).complete ≡ n
length-held_to row n h = grind (arith, length-take)

-- ---- each page fits

describes_it : (row : Row) → IsRow row → Describes (descriptor_page row) row.image row.version (profile row).pages
describes_it row is = (details row, descriptor_of_row row is, refl, refl, refl)

crc_fits : (row : Row) (n : ℕ) → IsRow row → n < length (object row) → crc_of (get_or (object row) n []) ≡ kept_crc (held_to row n)
crc_fits row zero is h =
    let none : length (held_to row 0).complete ≡ 0 = length-held_to row 0 (omega arith) in
    ap crc_of (get_or-object row 0 [] (omega (arith, h, length-object row)) ∙ page_of_row-first row 0 refl) ∙ sym (ap (λ (k : ℕ). crc_by (held_to row 0) k) none)
crc_fits row (suc m) is h =
    let some : length (held_to row (suc m)).complete ≡ suc m = length-held_to row (suc m) (omega arith) in
    let within : suc m < pages_for (length row.bytes) = omega (arith, h, length-object row) in
    let first : get_or (take (suc m) (object row)) 0 [] ≡ descriptor_page row = get_or-take (suc m) (object row) 0 [] (omega arith) ∙ get_or-object row 0 [] (omega arith) ∙ page_of_row-first row 0 refl in
    ap crc_of (get_or-object row (suc m) [] within ∙ page_of_row-data row (suc m) (omega arith))
    ∙ sym (crc_in-descriptor_page row (suc m) is (omega arith) within)
    ∙ ap (λ page. crc_in page (suc m)) (sym first)
    ∙ sym (ap (λ (k : ℕ). crc_by (held_to row (suc m)) k) some)

head_fits : Tested → (row : Row) (n k : ℕ) → IsRow row → k ≡ n → n < length (object row) → first_fits row.image (held_to row n) (get_or (object row) n []) k ≡ true
head_fits tested row zero zero is e h =
    let first : get_or (object row) 0 [] ≡ descriptor_page row = get_or-object row 0 [] (omega (arith, h, length-object row)) ∙ page_of_row-first row 0 refl in
    ap (λ page. describes page row.image row.version (profile row).pages) first ∙ (tested (descriptor_page row) row.image row.version (profile row).pages).1 (describes_it row is)
head_fits tested row (suc n) zero is e h = absurd (omega (arith, e))
head_fits tested row n (suc k) is e h = refl

pub next_fits : Tested → (row : Row) (n : ℕ) → IsRow row → n < length (object row) → may_seal row.image (held_to row n) (get_or (object row) n []) ≡ true
unfolding may_seal
next_fits tested row n is h =
    let page = get_or (object row) n [] in
    let k = length (held_to row n).complete in
    and_from (crc_of page == kept_crc (held_to row n)) (first_fits row.image (held_to row n) page k) (eq-eqb (crc_of page) (kept_crc (held_to row n)) (crc_fits row n is h))
    (head_fits tested row n k is (length-held_to row n (omega (arith, h))) h)

-- ---- all missing pages fit

pub one_more : (row : Row) (n : ℕ) → n < length (object row) → with_page (held_to row n) (get_or (object row) n []) ≡ held_to row (n + 1)
one_more row n h =
    let e : suc n ≡ n + 1 = omega arith in
    let f : take n (object row) ++ get_or (object row) n [] ∷ [] ≡ take (n + 1) (object row) = sym (take-suc (object row) n [] h) ∙ ap (λ (k : ℕ). take k (object row)) e in
    ap (λ (x : List (List ℕ)). record { version = row.version; pages = (profile row).pages; crc = (profile row).crc; complete = x }) f

held_next : (row : Row) (s : Store) (n : ℕ) → row.image < length s.kept → held s row.image ≡ Some (held_to row n) → n < length (object row)
    → held (paged row.image (get_or (object row) n []) s) row.image ≡ Some (held_to row (n + 1))
held_next row s n known here h =
    held_paged s row.image (held_to row n) (get_or (object row) n []) known here ∙ ap Some (one_more row n h)

rest_fits : Tested → (row : Row) (k n : ℕ) (s : Store) → k + n ≡ length (object row) → IsRow row → row.image < length s.kept → held s row.image ≡ Some (held_to row n) → FitAll row.image (drop n (object row)) s
unfolding FitAll
rest_fits tested row zero n s e is known here =
    subst (λ (xs : List (List ℕ)). FitAll row.image xs s) (sym (drop_of_length-le (object row) (omega (arith, e)))) tt
rest_fits tested row (suc k) n s e is known here =
    let h : n < length (object row) = omega (arith, e) in
    let page = get_or (object row) n [] in
    let t = paged row.image page s in
    let long = length-held_to row n (omega (arith, h)) in
    let next : FitsNext row.image page s = record { kept = held_to row n; held_here = here; more = omega (arith, long, h, length-object row); fits = next_fits tested row n is h } in
    let j : n + 1 ≡ suc n = omega arith in
    let known_t : row.image < length t.kept = omega (arith, known, length-set s.kept row.image (option_map (λ x. with_page x page) (held s row.image))) in
    let rest : FitAll row.image (drop (suc n) (object row)) t =
    subst (λ (m : ℕ). FitAll row.image (drop m (object row)) t) j (rest_fits tested row k (n + 1) t (omega (arith, e)) is known_t (held_next row s n known here h)) in
    subst (λ (xs : List (List ℕ)). FitAll row.image xs s) (sym (drop-cons (object row) n [] h)) (next, rest)

pub beyond : (row : Row) (n : ℕ) (s : Store) → length (object row) ≤ n → FitAll row.image (drop n (object row)) s
unfolding FitAll
beyond row n s h = subst (λ (xs : List (List ℕ)). FitAll row.image xs s) (sym (drop_of_length-le (object row) h)) tt

pub rest_fit : Tested → (row : Row) (s : Store) (n : ℕ) → IsRow row → row.image < length s.kept → held s row.image ≡ Some (held_to row n) → FitAll row.image (drop n (object row)) s
rest_fit tested row s n is known here =
    ⊎_elim
    (λ less. rest_fits tested row (length (object row) - n) n s (omega (arith, less)) is known here)
    (λ more. beyond row n s more)
    (cases_lt n (length (object row)))
