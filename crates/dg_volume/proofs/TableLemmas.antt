-- Rows of a table, by their image versions.
use Rattle.std.proofs.Common.{◌≡◌, ℕ, Bool, true, false, ◌==◌, List, [], ◌∷◌, Option, Some, None, refl, sym, subst, ◌∙◌, inl, inr, find, eqb-true}
use Rattle.std.specs.List.{AllByRecursion}
use Rattle.std.proofs.lemmas.Bool.{cases_Bool, and_parts, cond-true, cond-false}
use Rattle.dg_object.specs.Object.{Row}
use Rattle.dg_volume.specs.Table.{has_image_version, row_at}

pub same_some : {A : Type 0} (x y : A) → Some x ≡ Some y → x ≡ y
same_some x y e = cc

pub not_none : {A : Type 0} (o : Option A) (x : A) → o ≡ Some x → o ≡ None → ⊥
not_none o x e f = cc

-- ---- the first element that passes a test

pub find_here : {X : Type 0} (p : X → Bool) (x : X) (xs : List X) → p x ≡ true → find p (x ∷ xs) ≡ Some x
find_here p x xs e = cond-true (p x) (Some x) (find p xs) e

pub find_later : {X : Type 0} (p : X → Bool) (x : X) (xs : List X) → p x ≡ false → find p (x ∷ xs) ≡ find p xs
find_later p x xs e = cond-false (p x) (Some x) (find p xs) e

find_passes : {X : Type 0} (p : X → Bool) (xs : List X) (x : X) → find p xs ≡ Some x → p x ≡ true
find_passes p [] x e = absurd (not_none None x e refl)
find_passes p (y ∷ ys) x e =
    elim (cases_Bool (p y)) [
      | inl here ↦ subst (λ z. p z ≡ true) (same_some y x (sym (find_here p y ys here) ∙ e)) here
      | inr later ↦ find_passes p ys x (sym (find_later p y ys later) ∙ e)
    ]

find_each : {X : Type 0} (P : X → Type 0) (p : X → Bool) (xs : List X) (x : X) → AllByRecursion P xs → find p xs ≡ Some x → P x
find_each P p [] x all e = absurd (not_none None x e refl)
find_each P p (y ∷ ys) x all e =
    elim (cases_Bool (p y)) [
      | inl here ↦ subst P (same_some y x (sym (find_here p y ys here) ∙ e)) all.0
      | inr later ↦ find_each P p ys x all.1 (sym (find_later p y ys later) ∙ e)
    ]

-- ---- the row of an image version

pub image_version_parts : (image version : ℕ) (row : Row) → has_image_version image version row ≡ true → (row.image ≡ image) × (row.version ≡ version)
image_version_parts image version row e =
    let parts = and_parts (row.image == image) (row.version == version) e in
    (eqb-true row.image image parts.0, eqb-true row.version version parts.1)

-- it is of this image version
pub row_at-image_version : (rows : List Row) (image version : ℕ) (row : Row) → row_at rows image version ≡ Some row → (row.image ≡ image) × (row.version ≡ version)
row_at-image_version rows image version row e = image_version_parts image version row (find_passes (has_image_version image version) rows row e)

-- what holds of each row holds of it
pub row_at-each : (P : Row → Type 0) (rows : List Row) (image version : ℕ) (row : Row) → AllByRecursion P rows → row_at rows image version ≡ Some row → P row
row_at-each P rows image version row all e = find_each P (has_image_version image version) rows row all e
