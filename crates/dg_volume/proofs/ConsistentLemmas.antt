-- Trails that go through consistent stores.
use Rattle.std.proofs.Common.{◌≡◌, ℕ, zero, suc, ◌-◌, replicate, ◌<◌, ◌≤◌, Bool, true, false, List, [], ◌∷◌, ◌++◌, drop, length, get_or, Option, Some, None, IfSome, refl, sym, ap, subst, ◌∙◌, ⊎_elim, arith}
use Rattle.dg_volume.proofs.HeldLemmas.{each_keeping, golden_held}
use Rattle.std.proofs.Math.ListN.{length-set}
use Rattle.std.proofs.lemmas.Bool.Decides.{nat_tests}
use Rattle.std.proofs.lemmas.Option.{same_Some}
use Rattle.std.proofs.lemmas.Bool.{cond_both, cases_lt, eqb-true, and_parts}
use Rattle.std.proofs.lemmas.List.{get_or_append_left, get_or_push, length-append}
use Rattle.std.specs.Prelude.{◌==◌, if◌then◌else◌, nat_lt, option_map}
use Rattle.dg_base.specs.Crc.{crc_of}
use Rattle.dg_nor.specs.Through.{Through}
use Rattle.dg_object.specs.Object.{Row, IsRow, Outline, object, profile, pages_for, descriptor_page}
use Rattle.dg_object.specs.Descriptor.{Describes, details, crc_in}
use Rattle.dg_object.specs.Tested.{describes}
use Rattle.dg_object.proofs.PageLemmas.{page_of_row-first, page_of_row-data}
use Rattle.dg_object.proofs.RowLemmas.{descriptor_of_row, crc_in-descriptor_page, length-object, get_or-object}
use Rattle.dg_slot.specs.Layout.{most_bytes}
use Rattle.dg_slot.specs.Kept.{Held, HasDescriptor, held_begun, with_page}
use Rattle.dg_slot.specs.Fits.{may_seal}
use Rattle.dg_volume.specs.Sizes.{images}
use Rattle.dg_volume.specs.Store.{Store, held, held_whole, golden_row, fresh}
use Rattle.dg_volume.specs.Changes.{keeping, paged, is_version, differs_from_kept, inject_refusal, refusal_by, FitAll}
use Rattle.dg_volume.specs.Trails.{fill_trail, inject_trail, done_of}
use Rattle.dg_volume.specs.Consistent.{FitFirst, IsSoundSoFar, IsSoundApp, Consistent}
use Rattle.dg_volume.specs.declared.volume.InjectFault.{InjectFault}
use Rattle.dg_volume.specs.declared.volume.InjectFault.TheVariants.{Empty, TooLarge, Reserved, Stale, Taken}
use Rattle.dg_volume.proofs.FillLemmas.{fit_next, fit_rest}
use Rattle.dg_volume.proofs.PartLemmas.{NextFits, part_begun, part_of, all_rest, rest_part}
use Rattle.dg_volume.proofs.StayLemmas.{Stays, fill_through, inject_through as inject_as}

-- ---- one more page

-- page 0 is described as the test says
abbrev pub TestedFirst : Type 0
TestedFirst = (page : List ℕ) (image version pages : ℕ) → describes page image version pages ≡ true → Describes page image version pages

first_page : TestedFirst → (image version pages crc : ℕ) (page : List ℕ) → may_seal image (record { version = version; pages = pages; crc = crc; complete = [] }) page ≡ true → HasDescriptor page image version pages crc
unfolding may_seal
first_page tested image version pages crc page e =
    let both = and_parts (crc_of page == crc) (describes page image version pages) e in
    record { same_crc = eqb-true (crc_of page) crc both.0; described = tested page image version pages both.1 }

more_fits : (first : List ℕ) (others : List (List ℕ)) (page : List ℕ) → FitFirst (first ∷ others) → crc_of page ≡ crc_in first (suc (length others)) → FitFirst ((first ∷ others) ++ page ∷ [])
more_fits first others page fit e p low h = ⊎_elim
    (λ front. ap crc_of (get_or_append_left (first ∷ others) (page ∷ []) [] p front) ∙ fit p low front)
    (λ behind.
    let here : p ≡ length (first ∷ others) = omega (arith, h, length-append (first ∷ others) (page ∷ [])) in
    ap (λ n. crc_of (get_or ((first ∷ others) ++ page ∷ []) n [])) here ∙ ap crc_of (get_or_push (first ∷ others) page [] (length (first ∷ others)) refl) ∙ e ∙ ap (crc_in first) (sym here))
    (cases_lt p (length (first ∷ others)))

page_crc : (image version pages crc : ℕ) (first : List ℕ) (others : List (List ℕ)) (page : List ℕ) → may_seal image (record { version = version; pages = pages; crc = crc; complete = first ∷ others }) page ≡ true → crc_of page ≡ crc_in first (suc (length others))
unfolding may_seal
page_crc image version pages crc first others page e = eqb-true (crc_of page) (crc_in first (suc (length others))) (and_parts (crc_of page == crc_in first (suc (length others))) true e).0

page_sound : TestedFirst → (image version pages crc : ℕ) (complete : List (List ℕ)) (page : List ℕ) → IsSoundSoFar image (record { version = version; pages = pages; crc = crc; complete = complete })
    → may_seal image (record { version = version; pages = pages; crc = crc; complete = complete }) page ≡ true → IsSoundSoFar image (record { version = version; pages = pages; crc = crc; complete = complete ++ page ∷ [] })
page_sound tested image version pages crc [] page sound e = record { first = λ some. first_page tested image version pages crc page e; rest = λ p low h. absurd (omega arith) }
page_sound tested image version pages crc (first ∷ others) page sound e = record {
  first = λ some. sound.first (omega arith);
  rest = more_fits first others page sound.rest (page_crc image version pages crc first others page e);
}

-- ---- stores

pub consistent_stays : (golden : Row) → Stays (Consistent golden) (IsSoundApp golden)
consistent_stays golden = record {
  memory = λ s a. a.app;
  loaded = λ s t kept app a.
      record {
        version = a.version;
        golden = ap (λ (xs : List (Option Held)). Rattle.std.specs.Prelude.slice_index_or xs 0 None) kept ∙ a.golden;
        kept = subst (λ (xs : List (Option Held)). (i : ℕ) → IfSome (Rattle.std.specs.Prelude.slice_index_or xs i None) (IsSoundSoFar i)) (sym kept) a.kept;
        app = app;
      };
}

pub consistent_keeping : (golden : Row) (s : Store) (i : ℕ) (o : Option Held) → 1 ≤ i → i < length s.kept → IfSome o (IsSoundSoFar i) → Consistent golden s → Consistent golden (keeping i o s)
consistent_keeping golden s i o low within keeps a = record {
  version = a.version;
  golden = golden_held s i o low ∙ a.golden;
  kept = each_keeping (λ j x. IfSome x (IsSoundSoFar j)) s i o within keeps (λ j other. a.kept j);
  app = a.app;
}

pub begun_sound : (image : ℕ) (p : Outline) → IsSoundSoFar image (held_begun p)
begun_sound image p = record { first = λ some. absurd (omega (arith, some)); rest = λ n low h. absurd (omega (arith, h)) }

-- ---- pages that are filled

pub paged_consistent : TestedFirst → (golden : Row) (s : Store) (image : ℕ) (h : Held) (page : List ℕ) → 1 ≤ image → image < length s.kept → held s image ≡ Some h → may_seal image h page ≡ true → Consistent golden s → Consistent golden (paged image page s)
paged_consistent tested golden s image h page low within here may a =
    let o = option_map (λ x. with_page x page) (held s image) in
    let is : o ≡ Some (with_page h page) = ap (option_map (λ x. with_page x page)) here in
    let sound : IsSoundSoFar image h = subst (λ (x : Option Held). IfSome x (IsSoundSoFar image)) here (a.kept image) in
    consistent_keeping golden s image o low within
    (subst (λ (x : Option Held). IfSome x (IsSoundSoFar image)) (sym is) (page_sound tested image h.version h.pages h.crc h.complete page sound may)) a

module _ (tested : TestedFirst) (golden : Row) (image : ℕ) (low : 1 ≤ image) where
  abbrev Fit : List (List ℕ) → Store → Type 0
  Fit pages s = (image < length s.kept) × FitAll image pages s

  fit_through : (pages : List (List ℕ)) (s : Store) → Fit pages s → Consistent golden s → Through (Consistent golden) (fill_trail s image pages)
  fit_through = fill_through (Consistent golden) (IsSoundApp golden) (consistent_stays golden) IsSoundSoFar (consistent_keeping golden) image Fit
      (λ s page pages fit a.
      let f = fit_next s image page pages fit.1 in (
        paged_consistent tested golden s image f.kept page low fit.0 f.held_here f.fits a,
        (omega (arith, fit.0, length-set s.kept image (option_map (λ x. with_page x page) (held s image))), fit_rest s image page pages fit.1),
      ))

-- ---- an injection

not_other : (b : Bool) → (if b then Some Taken else None) ≡ None → b ≡ false
not_other true e = cc
not_other false e = refl

other_version : (a b : ℕ) → a ≡ b → (a == b) ≡ false → ⊥
other_version a b e test = let t : (a == b) ≡ true = grind (arith, nat_tests) in let f : true ≡ false = sym t ∙ test in absurd cc

refused_by : (s : Store) (row : Row) → inject_refusal s row ≡ None → refusal_by (held s row.image) s row ≡ None
refused_by s row e =
    let P : Option InjectFault → Type 0 = λ o. o ≡ None → refusal_by (held s row.image) s row ≡ None in
    cond_both (length row.bytes == 0) (Some Empty) _ P (λ _ f. cc)
    (λ _. cond_both (nat_lt most_bytes (length row.bytes)) (Some TooLarge) _ P (λ _ f. cc)
    (λ _. cond_both (row.image == 0) (Some Reserved) (refusal_by (held s row.image) s row) P (λ _ f. cc) (λ _ f. f)))
    e

not_taken_by : (s : Store) (row : Row) (o : Option Held) (h : Held) → o ≡ Some h → h.version ≡ row.version → refusal_by o s row ≡ None → differs_from_kept h row ≡ false
not_taken_by s row None h is version e = cc
not_taken_by s row (Some g) h is version e =
    let same : g ≡ h = same_Some g h is in
    subst (λ (x : Held). differs_from_kept x row ≡ false) same
    (cond_both (nat_lt row.version g.version) (Some (Stale g.version)) _ (λ (o : Option InjectFault). o ≡ None → differs_from_kept g row ≡ false) (λ _ f. cc)
    (λ _. cond_both (g.version == row.version) (if differs_from_kept g row then Some Taken else None) _ (λ (o : Option InjectFault). o ≡ None → differs_from_kept g row ≡ false)
    (λ _. not_other (differs_from_kept g row))
    (λ test f. let v : g.version ≡ row.version = ap (λ (x : Held). x.version) same ∙ version in absurd (other_version g.version row.version v test)))
    e)

-- if this version is kept and the injection is not refused, the kept image is the row's so far
not_taken : (s : Store) (row : Row) (h : Held) → held s row.image ≡ Some h → h.version ≡ row.version → inject_refusal s row ≡ None → differs_from_kept h row ≡ false
not_taken s row h here version e = not_taken_by s row (held s row.image) h here version (refused_by s row e)

rest_fit : NextFits → (s : Store) (row : Row) (o : Option Held) → held s row.image ≡ o → is_version o row.version ≡ true → inject_refusal s row ≡ None → IsRow row → row.image < length s.kept → FitAll row.image (drop (done_of o) (object row)) s
rest_fit next s row None here is e row_is within = cc
rest_fit next s row (Some h) here is e row_is within =
    let version : h.version ≡ row.version = eqb-true h.version row.version is in
    all_rest next row h s row_is (part_of row h version (not_taken s row h here version e)) within here

pub inject_through : TestedFirst → NextFits → (golden : Row) (s : Store) (row : Row) → IsRow row → row.image < length s.kept → Consistent golden s → Through (Consistent golden) (inject_trail s row)
inject_through tested next golden s row row_is within a = inject_as (Consistent golden) (IsSoundApp golden) (consistent_stays golden) IsSoundSoFar (consistent_keeping golden) s row within (begun_sound row.image (profile row))
    (λ low free version. fit_through tested golden row.image low _ s (within, rest_fit next s row (held s row.image) refl version free row_is within) a)
    (λ low t known here consistent. fit_through tested golden row.image low (object row) t (known, rest_part next row (length (object row)) 0 (held_begun (profile row)) t (omega arith) refl row_is (part_begun row) known here) consistent)
    a

-- ---- a chip that was formatted

first_is : (row : Row) → 0 < length (object row) → get_or (object row) 0 [] ≡ descriptor_page row
first_is row some = get_or-object row 0 [] (omega (arith, some, length-object row)) ∙ page_of_row-first row 0 refl

crcs_kept : (row : Row) (p : ℕ) → IsRow row → 1 ≤ p → p < length (object row) → crc_of (get_or (object row) p []) ≡ crc_in (get_or (object row) 0 []) p
crcs_kept row p is low h =
    let within : p < pages_for (length row.bytes) = omega (arith, h, length-object row) in
    ap crc_of (get_or-object row p [] within ∙ page_of_row-data row p low)
    ∙ sym (crc_in-descriptor_page row p is low within)
    ∙ ap (λ page. crc_in page p) (sym (first_is row (omega (arith, h))))

whole_sound : (row : Row) → IsRow row → IsSoundSoFar row.image (held_whole row)
whole_sound row is = record {
  first = λ some.
      record {
        same_crc = ap crc_of (first_is row some);
        described = subst (λ (page : List ℕ). Describes page row.image row.version (profile row).pages) (sym (first_is row some)) (details row, descriptor_of_row row is, refl, refl, refl);
      };
  rest = λ p low h. crcs_kept row p is low h;
}

nothing_at : (n i : ℕ) → get_or {A = Option Held} (replicate n None) i None ≡ None
nothing_at zero i = refl
nothing_at (suc n) zero = refl
nothing_at (suc n) (suc i) = nothing_at n i

pub fresh_consistent : (name bytes : List ℕ) (used : ℕ) → IsRow (golden_row name bytes) → Consistent (golden_row name bytes) (fresh name bytes used)
fresh_consistent name bytes used is = record { version = refl; golden = refl; kept = kept; app = tt }
  where
    kept : (i : ℕ) → IfSome (held (fresh name bytes used) i) (IsSoundSoFar i)
    kept zero = whole_sound (golden_row name bytes) is
    kept (suc i) = subst (λ (o : Option Held). IfSome o (IsSoundSoFar (suc i))) (sym (nothing_at (images - 1) i)) tt
