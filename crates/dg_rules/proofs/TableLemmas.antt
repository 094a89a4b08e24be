-- Rows of a table, and a table with one more row.
use Rattle.std.proofs.Common.{◌≡◌, ◌⊎◌, ℕ, ◌≤◌, arith, Bool, true, false, ◌==◌, ◌||◌, List, [], ◌∷◌, ◌++◌, Some, None, refl, sym, ap, subst, ◌∙◌, inl, inr, find, eq-eqb}
use Rattle.std.specs.List.{list_any, AllByRecursion, IsDistinct}
use Rattle.std.proofs.lemmas.Bool.{cases_Bool, and_from, or_parts, cond-true, cond-false}
use Rattle.dg_object.specs.Object.{Row, IsRow}
pub use Rattle.dg_volume.proofs.TableLemmas.{same_some, not_none, find_here, find_later, image_version_parts, row_at-image_version, row_at-each}
use Rattle.dg_volume.specs.Table.{has_image_version, same_image_version, row_at, with_row, IsTable}

find_none : {X : Type 0} (p : X → Bool) (xs : List X) → list_any p xs ≡ false → find p xs ≡ None
find_none p [] e = refl
find_none p (y ∷ ys) e = let parts = or_parts (p y) (list_any p ys) e in find_later p y ys parts.0 ∙ find_none p ys parts.1

find_some : {X : Type 0} (p : X → Bool) (xs : List X) → list_any p xs ≡ true → (x : X) × (find p xs ≡ Some x)
find_some p [] e = absurd cc
find_some p (y ∷ ys) e =
    elim (cases_Bool (p y)) [
      | inl here ↦ (y, find_here p y ys here)
      | inr later ↦
          let behind = find_some p ys (ap (λ b. b || list_any p ys) (sym later) ∙ e) in
          (behind.0, find_later p y ys later ∙ behind.1)
    ]

none_passes : {X : Type 0} (p : X → Bool) (xs : List X) → list_any p xs ≡ false → AllByRecursion (λ x. p x ≡ false) xs
none_passes p [] e = tt
none_passes p (y ∷ ys) e = let parts = or_parts (p y) (list_any p ys) e in (parts.0, none_passes p ys parts.1)

-- ---- the row of an image version

pub has_own_image_version : (row : Row) → has_image_version row.image row.version row ≡ true
has_own_image_version row = and_from (row.image == row.image) (row.version == row.version) (eq-eqb row.image row.image refl) (eq-eqb row.version row.version refl)

-- ---- one more row

abbrev known : List Row → Row → Bool
known rows row = list_any (same_image_version row) rows

with_row-known : (rows : List Row) (row : Row) → known rows row ≡ true → with_row rows row ≡ rows
with_row-known rows row e = cond-true (known rows row) rows (row ∷ rows) e

with_row-new : (rows : List Row) (row : Row) → known rows row ≡ false → with_row rows row ≡ row ∷ rows
with_row-new rows row e = cond-false (known rows row) rows (row ∷ rows) e

-- a new row in front hides no row of the list
behind_new : (rows : List Row) (row r : Row) (image version : ℕ) → known rows row ≡ false → row_at rows image version ≡ Some r → has_image_version image version row ≡ false
behind_new rows row r image version new e =
    elim (cases_Bool (has_image_version image version row)) [
      | inl same ↦
          let ids = image_version_parts image version row same in
          let none : row_at rows row.image row.version ≡ None = find_none (same_image_version row) rows new in
          absurd (not_none (row_at rows image version) r e (ap (λ i. row_at rows i version) (sym ids.0) ∙ ap (λ v. row_at rows row.image v) (sym ids.1) ∙ none))
      | inr other ↦ other
    ]

-- the rows stay
pub row_at-with_row : (rows : List Row) (row r : Row) (image version : ℕ) → row_at rows image version ≡ Some r → row_at (with_row rows row) image version ≡ Some r
row_at-with_row rows row r image version e =
    elim (cases_Bool (known rows row)) [
      | inl old ↦ ap (λ rs. row_at rs image version) (with_row-known rows row old) ∙ e
      | inr new ↦
          ap (λ rs. row_at rs image version) (with_row-new rows row new)
          ∙ find_later (has_image_version image version) row rows (behind_new rows row r image version new e)
          ∙ e
    ]

-- the row is there, unless another one has its image version
pub row_at-added : (rows : List Row) (row : Row) → ((r : Row) → row_at rows row.image row.version ≡ Some r → r ≡ row) → row_at (with_row rows row) row.image row.version ≡ Some row
row_at-added rows row same =
    elim (cases_Bool (known rows row)) [
      | inl old ↦
          let there = find_some (same_image_version row) rows old in
          ap (λ rs. row_at rs row.image row.version) (with_row-known rows row old) ∙ there.1 ∙ ap (λ r. Some r) (same there.0 there.1)
      | inr new ↦ ap (λ rs. row_at rs row.image row.version) (with_row-new rows row new) ∙ find_here (same_image_version row) row rows (has_own_image_version row)
    ]

-- each row is this one or was there
pub row_at-cons : (rows : List Row) (row r : Row) (image version : ℕ) → row_at (row ∷ rows) image version ≡ Some r
    → ((r ≡ row) × (row.image ≡ image) × (row.version ≡ version)) ⊎ (row_at rows image version ≡ Some r)
row_at-cons rows row r image version e =
    elim (cases_Bool (has_image_version image version row)) [
      | inl here ↦
          let ids = image_version_parts image version row here in
          inl (same_some r row (sym e ∙ find_here (has_image_version image version) row rows here), ids.0, ids.1)
      | inr later ↦ inr (sym (find_later (has_image_version image version) row rows later) ∙ e)
    ]

pub row_at-of_with_row : (rows : List Row) (row r : Row) (image version : ℕ) → row_at (with_row rows row) image version ≡ Some r
    → ((r ≡ row) × (row.image ≡ image) × (row.version ≡ version)) ⊎ (row_at rows image version ≡ Some r)
row_at-of_with_row rows row r image version e =
    elim (cases_Bool (known rows row)) [
      | inl old ↦ inr (ap (λ rs. row_at rs image version) (sym (with_row-known rows row old)) ∙ e)
      | inr new ↦ row_at-cons rows row r image version (ap (λ rs. row_at rs image version) (sym (with_row-new rows row new)) ∙ e)
    ]

-- an image version that is new hides no row
pub row_at-kept : (rows : List Row) (row r : Row) (image version : ℕ) → row_at rows row.image row.version ≡ None → row_at rows image version ≡ Some r → row_at (row ∷ rows) image version ≡ Some r
row_at-kept rows row r image version none e =
    elim (cases_Bool (has_image_version image version row)) [
      | inl same ↦
          let ids = image_version_parts image version row same in
          absurd (not_none (row_at rows image version) r e (ap (λ i. row_at rows i version) (sym ids.0) ∙ ap (λ v. row_at rows row.image v) (sym ids.1) ∙ none))
      | inr later ↦ find_later (has_image_version image version) row rows later ∙ e
    ]

-- ---- tables

-- a row of another image adds no row of image 0
other_alone : (rows : List Row) (row r : Row) (version : ℕ) → IsTable rows → 1 ≤ row.image → row_at (row ∷ rows) 0 version ≡ Some r → version ≡ 1
other_alone rows row r version table some e =
    elim (row_at-cons rows row r 0 version e) [ inl here ↦ absurd (omega (arith, some, here.1)) | inr there ↦ table.alone version r there ]

-- a row of version 1 alone
one_alone : (row r : Row) (version : ℕ) → row.version ≡ 1 → row_at (row ∷ []) 0 version ≡ Some r → version ≡ 1
one_alone row r version one e =
    elim (row_at-cons [] row r 0 version e) [ inl here ↦ sym here.2 ∙ one | inr there ↦ absurd (not_none None r there refl) ]

table_cons : (rows : List Row) (row : Row) → IsTable rows → IsRow row → 1 ≤ row.image → known rows row ≡ false → IsTable (row ∷ rows)
unfolding IsDistinct
table_cons rows row table is some new =
    record {
      each = (is, table.each);
      distinct = (none_passes (same_image_version row) rows new, table.distinct);
      golden = (table.golden.0, find_later (has_image_version 0 1) row rows (behind_new rows row table.golden.0 0 1 new table.golden.1) ∙ table.golden.1);
      alone = λ version r e. other_alone rows row r version table some e;
    }

-- a table with one more row, which is not of image 0, is a table
pub IsTable-with_row : (rows : List Row) (row : Row) → IsTable rows → IsRow row → 1 ≤ row.image → IsTable (with_row rows row)
IsTable-with_row rows row table is some =
    elim (cases_Bool (known rows row)) [
      | inl old ↦ subst IsTable (sym (with_row-known rows row old)) table
      | inr new ↦ subst IsTable (sym (with_row-new rows row new)) (table_cons rows row table is some new)
    ]

-- a single row is a table, if it is golden
pub IsTable-one : (row : Row) → IsRow row → row.image ≡ 0 → row.version ≡ 1 → IsTable (row ∷ [])
unfolding IsDistinct
IsTable-one row is image version =
    record {
      each = (is, tt);
      distinct = (tt, tt);
      golden = (row, find_here (has_image_version 0 1) row [] (and_from (row.image == 0) (row.version == 1) (eq-eqb row.image 0 image) (eq-eqb row.version 1 version)));
      alone = λ v r e. one_alone row r v version e;
    }

-- ---- a row after the others

-- a row that is found was there, or is the last one
pub row_at-of_push : (rows : List Row) (row r : Row) (image version : ℕ) → row_at (rows ++ row ∷ []) image version ≡ Some r
    → (row_at rows image version ≡ Some r) ⊎ ((row_at rows image version ≡ None) × (r ≡ row) × (row.image ≡ image) × (row.version ≡ version))
row_at-of_push [] row r image version e =
    elim (row_at-cons [] row r image version e) [
      | inl here ↦ inr (refl, here.0, here.1, here.2)
      | inr there ↦ absurd (not_none None r there refl)
    ]
row_at-of_push (x ∷ xs) row r image version e =
    elim (cases_Bool (has_image_version image version x)) [
      | inl here ↦ inl (find_here (has_image_version image version) x xs here ∙ sym (find_here (has_image_version image version) x (xs ++ row ∷ []) here) ∙ e)
      | inr later ↦
          let behind = find_later (has_image_version image version) x xs later in
          elim (row_at-of_push xs row r image version (sym (find_later (has_image_version image version) x (xs ++ row ∷ []) later) ∙ e)) [
            | inl old ↦ inl (behind ∙ old)
            | inr new ↦ inr (behind ∙ new.0, new.1, new.2, new.3)
          ]
    ]

-- the rows stay
pub row_at-push : (rows : List Row) (row r : Row) (image version : ℕ) → row_at rows image version ≡ Some r → row_at (rows ++ row ∷ []) image version ≡ Some r
row_at-push [] row r image version e = absurd (not_none None r e refl)
row_at-push (x ∷ xs) row r image version e =
    elim (cases_Bool (has_image_version image version x)) [
      | inl here ↦ find_here (has_image_version image version) x (xs ++ row ∷ []) here ∙ sym (find_here (has_image_version image version) x xs here) ∙ e
      | inr later ↦ find_later (has_image_version image version) x (xs ++ row ∷ []) later ∙ row_at-push xs row r image version (sym (find_later (has_image_version image version) x xs later) ∙ e)
    ]

pub all_push : (P : Row → Type 0) (rows : List Row) (row : Row) → AllByRecursion P rows → P row → AllByRecursion P (rows ++ row ∷ [])
all_push P [] row all p = (p, tt)
all_push P (x ∷ xs) row all p = (all.0, all_push P xs row all.1 p)

-- the row of its own image version
pub row_at-own : (rows : List Row) (image version : ℕ) (row : Row) → row_at rows image version ≡ Some row → row_at rows row.image row.version ≡ Some row
row_at-own rows image version row e =
    let ids = row_at-image_version rows image version row e in ap (λ i. row_at rows i row.version) ids.0 ∙ ap (row_at rows image) ids.1 ∙ e
