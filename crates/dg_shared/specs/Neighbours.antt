-- The neighbours of each mote, by the pairs of motes that are neighbours (docs/ARCHITECTURE.md, "The way of a script line").
use Rattle.std.specs.Prelude.{◌≡◌, ℕ, ◌<◌, Bool, List, slice_index_or}
use Rattle.std.specs.FinSet as set
use Rattle.dg_bits.specs.Sets.{Numbers}
use Rattle.dg_rules.specs.Sizes.{most_motes}
use Rattle.dg_script.specs.Places.{is_linked}

-- mote b is one of the neighbours of mote a
abbrev pub is_noted : List Numbers → ℕ → ℕ → Bool
is_noted neighbours a b = set.contains (slice_index_or neighbours a set.empty) b

abbrev pub KnowsLinks : List Numbers → List (ℕ × ℕ) → Type 0
KnowsLinks neighbours pairs = (a b : ℕ) → a < most_motes → b < most_motes → is_noted neighbours a b ≡ is_linked pairs a b
