-- The tallies of boards.
use Rattle.std.proofs.Common.{◌≡◌, ℕ, ◌+◌, ◌<◌, ◌≤◌, List, length, map, inl, inr, sym, ap, subst, ◌∙◌, arith}
use Rattle.std.specs.Prelude.{slice_get, slice_index_or, slice_set, option_map, min, Some}
use Rattle.std.proofs.lemmas.Bool.{cases_eq}
use Rattle.std.proofs.lemmas.List.{get_or-set_same, get_or-set_other, length-map}
use Rattle.std.proofs.lemmas.Option.{same_Some, slice_get-map, slice_get_within}
use Rattle.dg_nor.specs.Device.{Device}
use Rattle.dg_meter.specs.Tallies.{counts_of}
use Rattle.dg_meter.specs.declared.tally.Tally.{Tally}
use Rattle.dg_count.specs.Chips.{no_tally, counts_by}

-- one more board is counted
pub tally_more : (tallies : List Tally) (boards : List Device) (index : ℕ) (t : Tally) → index < length tallies
    → ((b : Device) → slice_get boards index ≡ Some b → b.made ≡ Some (counts_of t))
    → ((m : ℕ) (b : Device) → m < index → slice_get boards m ≡ Some b → b.made ≡ Some (counts_by tallies m))
    → (m : ℕ) (b : Device) → m < index + 1 → slice_get boards m ≡ Some b → b.made ≡ Some (counts_by (slice_set tallies index t) m)
tally_more tallies boards index t lt is before m b low there = elim (cases_eq m index) [
  | inl same ↦
      is b (subst (λ (k : ℕ). slice_get boards k ≡ Some b) same there)
      ∙ ap (λ (u : Tally). Some (counts_of u)) (sym (ap (λ (k : ℕ). slice_index_or (slice_set tallies index t) k no_tally) same ∙ get_or-set_same tallies index t no_tally lt))
  | inr other ↦
      before m b (omega (arith, low, other)) there
      ∙ ap (λ (u : Tally). Some (counts_of u)) (sym (get_or-set_other tallies index m t no_tally other))
]

-- the board that an element is known as
pub board_made : {M : Type 0} (v : M → Device) (xs : List M) (k : ℕ) (x : M) (t : List ℕ) → slice_get xs k ≡ Some x → (v x).made ≡ Some t
    → (b : Device) → slice_get (map v xs) k ≡ Some b → b.made ≡ Some t
board_made v xs k x t here is b there =
    ap (λ (d : Device). d.made) (same_Some b (v x) (sym there ∙ slice_get-map v xs k ∙ ap (option_map v) here)) ∙ is

-- all boards are counted that motes have
pub tally_all : {M : Type 0} (v : M → Device) (xs : List M) (count : ℕ) (m : ℕ) (b : Device) → min (length xs) 16 ≤ count → m < 16 → slice_get (map v xs) m ≡ Some b → m < count
tally_all v xs count m b all few there = omega (arith, all, few, slice_get_within (map v xs) m b there, length-map xs v)
