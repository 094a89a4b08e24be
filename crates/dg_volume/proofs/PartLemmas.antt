-- What is kept of a row in part: its next pages fit.
use Rattle.std.proofs.Common.{◌≡◌, ℕ, zero, suc, ◌+◌, ◌-◌, ◌<◌, ◌≤◌, Bool, true, false, List, [], ◌∷◌, ◌++◌, length, take, drop, get_or, Some, refl, sym, ap, subst, ◌∙◌, ⊎_elim, arith}
use Rattle.dg_volume.proofs.HeldLemmas.{held_paged}
use Rattle.std.specs.Prelude.{◌==◌, ◌&&◌, ◌||◌, not, option_map}
use Rattle.std.specs.Cmp.Lexicographic.{same_text}
use Rattle.std.proofs.lemmas.Bool.{eqb-true, cases_lt}
use Rattle.std.proofs.lemmas.List.{get_or-take, length-append}
use Rattle.std.proofs.Math.ListN.{length-set, drop_of_length-le}
use Rattle.std.proofs.Math.Seq.{drop-cons}
use Rattle.dg_base.specs.Crc.{crc_of}
use Rattle.dg_object.specs.Object.{Row, IsRow, page_of_row, object, profile}
use Rattle.dg_object.specs.Descriptor.{crc_in}
use Rattle.dg_object.proofs.RowLemmas.{length-object, get_or-object}
use Rattle.dg_slot.specs.Kept.{Held, with_page, held_begun, crc_by, kept_crc}
use Rattle.dg_slot.specs.Fits.{describes, first_fits, may_seal}
use Rattle.dg_volume.specs.Store.{Store, held, held_to}
use Rattle.dg_volume.specs.Ends.{PartOf}
use Rattle.dg_volume.specs.Changes.{paged, FitsNext, FitAll, differs_from_kept, other_first, same_bytes}
use Rattle.dg_volume.proofs.RowLemmas.{length-held_to, beyond}

pub part_begun : (row : Row) → PartOf row (held_begun (profile row))
part_begun row = record { version = refl; pages = refl; crc = refl; first = λ some. absurd (omega (arith, some)) }

-- ---- what is not another image is a part of this one

or_false : (a b c : Bool) → not a || not b || c ≡ false → (a ≡ true) × (b ≡ true) × (c ≡ false)
or_false true true true e = absurd cc
or_false true true false e = (refl, refl, refl)
or_false true false c e = absurd cc
or_false false b c e = absurd cc

not_false : (b : Bool) → not b ≡ false → b ≡ true
not_false true e = refl
not_false false e = absurd cc

first_by : (pages : List (List ℕ)) (first : List ℕ) → other_first pages first ≡ false → 0 < length pages → get_or pages 0 [] ≡ first
first_by [] first e some = absurd (omega (arith, some))
first_by (page ∷ pages) first e some = same_text page first (sym (not_false (same_bytes page first) e))

pub part_of : (row : Row) (h : Held) → h.version ≡ row.version → differs_from_kept h row ≡ false → PartOf row h
part_of row h version e =
    let x = or_false (h.pages == (profile row).pages) (h.crc == (profile row).crc) (other_first h.complete (page_of_row row 0)) e in
    record {
      version = version;
      pages = eqb-true h.pages (profile row).pages x.0;
      crc = eqb-true h.crc (profile row).crc x.1;
      first = λ some. first_by h.complete (page_of_row row 0) x.2 some;
    }

-- ---- the next page fits, as it does if all pages before it are the row's

crc_same : (row : Row) (h : Held) (n k : ℕ) → PartOf row h → n ≡ length h.complete → n ≤ length (object row) → k ≡ n → crc_by h k ≡ crc_by (held_to row n) k
crc_same row h n zero part is within e = part.crc
crc_same row h n (suc p) part is within e =
    let there : get_or (take n (object row)) 0 [] ≡ page_of_row row 0 = get_or-take n (object row) 0 [] (omega (arith, e)) ∙ get_or-object row 0 [] (omega (arith, e, within, length-object row)) in
    ap (λ (page : List ℕ). crc_in page (suc p)) (part.first (omega (arith, e, is)) ∙ sym there)

first_same : (row : Row) (h : Held) (n k i : ℕ) (page : List ℕ) → PartOf row h → first_fits i h page k ≡ first_fits i (held_to row n) page k
first_same row h n zero i page part = ap (λ (v : ℕ). describes page i v h.pages) part.version ∙ ap (λ (p : ℕ). describes page i row.version p) part.pages
first_same row h n (suc k) i page part = refl

may_same : (row : Row) (h : Held) (n i : ℕ) (page : List ℕ) → PartOf row h → n ≡ length h.complete → n ≤ length (object row) → may_seal i h page ≡ may_seal i (held_to row n) page
unfolding may_seal
may_same row h n i page part is within =
    let g = held_to row n in
    let long : length h.complete ≡ length g.complete = sym is ∙ sym (length-held_to row n within) in
    let k = length h.complete in
    let crc : kept_crc h ≡ kept_crc g = crc_same row h n k part is within (sym is) ∙ ap (crc_by g) long in
    let head : first_fits i h page k ≡ first_fits i g page (length g.complete) = first_same row h n k i page part ∙ ap (first_fits i g page) long in
    ap (λ (x : ℕ). (crc_of page == x) && first_fits i h page k) crc ∙ ap (λ (b : Bool). (crc_of page == kept_crc g) && b) head

-- ---- all missing pages fit

abbrev pub NextFits : Type 0
NextFits = (row : Row) (n : ℕ) → IsRow row → n < length (object row) → may_seal row.image (held_to row n) (get_or (object row) n []) ≡ true

first_more : (pages : List (List ℕ)) (page first : List ℕ) → (0 < length pages → get_or pages 0 [] ≡ first) → (0 ≡ length pages → page ≡ first) → get_or (pages ++ page ∷ []) 0 [] ≡ first
first_more [] page first some none = none refl
first_more (x ∷ xs) page first some none = some (omega arith)

part_more : (row : Row) (h : Held) → PartOf row h → length h.complete < length (object row) → PartOf row (with_page h (get_or (object row) (length h.complete) []))
part_more row h part within = record {
  version = part.version;
  pages = part.pages;
  crc = part.crc;
  first = λ some. first_more h.complete (get_or (object row) (length h.complete) []) (page_of_row row 0) part.first
      (λ none. ap (λ (n : ℕ). get_or (object row) n []) (sym none) ∙ get_or-object row 0 [] (omega (arith, within, length-object row)));
}

pub rest_part : NextFits → (row : Row) (k n : ℕ) (h : Held) (s : Store) → k + n ≡ length (object row) → n ≡ length h.complete → IsRow row → PartOf row h → row.image < length s.kept → held s row.image ≡ Some h → FitAll row.image (drop n (object row)) s
unfolding FitAll
rest_part next row zero n h s e is row_is part known here =
    subst (λ (xs : List (List ℕ)). FitAll row.image xs s) (sym (drop_of_length-le (object row) (omega (arith, e)))) tt
rest_part next row (suc k) n h s e is row_is part known here =
    let within : n < length (object row) = omega (arith, e) in
    let page = get_or (object row) n [] in
    let g = with_page h page in
    let t = paged row.image page s in
    let fits : may_seal row.image h page ≡ true = may_same row h n row.image page part is (omega arith) ∙ next row n row_is within in
    let one : FitsNext row.image page s = record { kept = h; held_here = here; more = omega (arith, within, is, part.pages, length-object row); fits = fits } in
    let kept : held t row.image ≡ Some g = held_paged s row.image h page known here in
    let known_t : row.image < length t.kept = omega (arith, known, length-set s.kept row.image (option_map (λ x. with_page x page) (held s row.image))) in
    let j : n + 1 ≡ suc n = omega arith in
    let count : n + 1 ≡ length g.complete = omega (arith, is, length-append h.complete (page ∷ [])) in
    let part_g : PartOf row g = subst (λ (m : ℕ). PartOf row (with_page h (get_or (object row) m []))) (sym is) (part_more row h part (omega (arith, within, is))) in
    let rest : FitAll row.image (drop (suc n) (object row)) t =
    subst (λ (m : ℕ). FitAll row.image (drop m (object row)) t) j (rest_part next row k (n + 1) g t (omega (arith, e)) count row_is part_g known_t kept) in
    subst (λ (xs : List (List ℕ)). FitAll row.image xs s) (sym (drop-cons (object row) n [] within)) (one, rest)

pub all_rest : NextFits → (row : Row) (h : Held) (s : Store) → IsRow row → PartOf row h → row.image < length s.kept → held s row.image ≡ Some h → FitAll row.image (drop (length h.complete) (object row)) s
all_rest next row h s is part known here =
    ⊎_elim
    (λ less. rest_part next row (length (object row) - length h.complete) (length h.complete) h s (omega (arith, less)) refl is part known here)
    (λ more. beyond row (length h.complete) s more)
    (cases_lt (length h.complete) (length (object row)))
