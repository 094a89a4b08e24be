-- Rows of a table, and what an agreeing store keeps of them.
use Rattle.std.proofs.Common.{◌≡◌, ℕ, ◌<◌, ◌≤◌, List, [], length, Option, Some, None, IfSome, sym, ap, subst, ◌∙◌, inl, inr, arith}
use Rattle.std.specs.Prelude.{slice_index_or}
use Rattle.std.proofs.lemmas.Bool.{cases_lt}
use Rattle.std.proofs.lemmas.Option.{same_Some}
use Rattle.std.proofs.lemmas.List.{get_or-take, get_or_past, length-take}
use Rattle.dg_object.specs.Object.{Row, IsRow, object}
use Rattle.dg_slot.specs.Kept.{Held}
use Rattle.dg_volume.specs.Store.{Store, held}
use Rattle.dg_volume.specs.Table.{row_at, IsTable}
use Rattle.dg_volume.specs.Agreement.{KeepsRow, Agrees}

-- ---- what is found in a table

-- what lower crates promise of a table
pub record TableLaws : Type 0 where
  pub image_version : (table : List Row) (image version : ℕ) (row : Row) → row_at table image version ≡ Some row → (row.image ≡ image) × (row.version ≡ version)
  pub row : (table : List Row) (image version : ℕ) (row : Row) → IsTable table → row_at table image version ≡ Some row → IsRow row

-- the row, by its own image version
pub row_own : TableLaws → (table : List Row) (image version : ℕ) (row : Row) → row_at table image version ≡ Some row → row_at table row.image row.version ≡ Some row
row_own rows table image version row e =
    let k = rows.image_version table image version row e in
    (λ i. row_at table (k.0 i) (k.1 i)) ∙ e

pub same_row : (table : List Row) (image version : ℕ) (a b : Row) → row_at table image version ≡ Some a → row_at table image version ≡ Some b → a ≡ b
same_row table image version a b e f = same_Some a b (sym e ∙ f)

-- ---- what is kept

-- what is kept has a place
pub kept_within : (s : Store) (i : ℕ) (h : Held) → held s i ≡ Some h → i < length s.kept
kept_within s i h here =
    elim (cases_lt i (length s.kept)) [
      | inl within ↦ within
      | inr past ↦ let nothing : held s i ≡ None = get_or_past s.kept i None past in cc
    ]

pub keeps_row : (table : List Row) (s : Store) (image : ℕ) (h : Held) → Agrees table s → held s image ≡ Some h → KeepsRow table image h
keeps_row table s image h a here = subst (λ (o : Option Held). IfSome o (KeepsRow table image)) here (a.kept image)

pub few_complete : (table : List Row) (image : ℕ) (h : Held) → (k : KeepsRow table image h) → length h.complete ≤ length (object k.row)
few_complete table image h k = omega (arith, ap length k.first, length-take (length h.complete) (object k.row))

-- a page that is complete is the row's
pub complete_page : (table : List Row) (image page : ℕ) (h : Held) → (k : KeepsRow table image h) → page < length h.complete → slice_index_or h.complete page [] ≡ slice_index_or (object k.row) page []
complete_page table image page h k less =
    ap (λ (xs : List (List ℕ)). slice_index_or xs page []) k.first ∙ get_or-take (length h.complete) (object k.row) page [] less
