-- Paths between motes over links, which lead in both directions, and how far one mote is from another (docs/SCRIPTS.md, "Sweeps
-- that are enough").
use Rattle.std.specs.Prelude.{◌⊎◌, ℕ, zero, suc, ◌≤◌, List, Contains, Option, Some, None}

abbrev pub IsLinked : List (ℕ × ℕ) → ℕ → ℕ → Type 0
IsLinked links a b = Contains links (a, b) ⊎ Contains links (b, a)

-- a path of this many links
pub data LinkPath (links : List (ℕ × ℕ)) (from : ℕ) : ℕ → ℕ → Type 0 where
  here : LinkPath links from zero from
  more : (n mid to : ℕ) → LinkPath links from n mid → IsLinked links mid to → LinkPath links from (suc n) to

-- the least number of links of a path, or None if there is no path
abbrev pub IsLevel : List (ℕ × ℕ) → (from to : ℕ) → Option ℕ → Type 0
IsLevel links from to None = (n : ℕ) → LinkPath links from n to → ⊥
IsLevel links from to (Some n) = LinkPath links from n to × ((k : ℕ) → LinkPath links from k to → n ≤ k)
