-- How the levels of motes are marked, one level after the other (docs/SCRIPTS.md, "Sweeps that are enough").
use Rattle.std.specs.Prelude.{◌≡◌, ◌⊎◌, ℕ, ◌+◌, Bool, true, false, is_none, IsSome, List, length, slice_index_or, slice_set}
use Rattle.std.specs.Prelude.{count_by, Option, Some, None}

-- the mark of a mote
abbrev pub mark_of : List (Option ℕ) → ℕ → Option ℕ
mark_of levels m = slice_index_or levels m None

abbrev pub unmarked : List (Option ℕ) → ℕ
unmarked levels = count_by is_none levels

-- The far mote is marked with the next level, if the near one is of this level and the far one isn't marked.
abbrev pub Marks : (near far level : ℕ) → (old new : List (Option ℕ)) → Bool → Type 0
Marks near far level old new true = (mark_of old near ≡ Some level) × (mark_of old far ≡ None)
    × (new ≡ slice_set old far (Some (level + 1)))
Marks near far level old new false = (new ≡ old) × (mark_of old near ≡ Some level → IsSome (mark_of old far))

-- all motes that are linked to one of a level are marked, with the next level if they were not marked before
pub record Spreads (linked : ℕ → ℕ → Type 0) (level : ℕ) (old new : List (Option ℕ)) : Type 0 where
  pub same_length : length new ≡ length old
  pub kept : (m n : ℕ) → mark_of old m ≡ Some n → mark_of new m ≡ Some n
  pub marked : (m n : ℕ) → mark_of new m ≡ Some n → (mark_of old m ≡ Some n)
      ⊎ ((n ≡ level + 1) × ((near : ℕ) × (mark_of old near ≡ Some level) × linked near m))
  pub reached : (near far : ℕ) → mark_of old near ≡ Some level → linked near far → IsSome (mark_of new far)
