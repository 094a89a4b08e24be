-- The rows of moments (docs/COMMANDS.md, "What a script costs").
use Rattle.std.specs.Prelude.{◌≡◌, ℕ, ◌==◌, nat_lt, ◌||◌, false, if◌then◌else◌, Bool, List, [], ◌∷◌, ◌++◌, codes, map}
use Rattle.std.specs.List.{filter, flat_map, starts_with}
use Rattle.std.specs.Fmt.{decimal}
use Rattle.dg_cost_text.specs.declared.moment.Moment.{Moment}
use Rattle.dg_cost_text.specs.declared.moment.What.{What}
use Rattle.dg_cost_text.specs.declared.moment.What.TheVariants.{Whole, All as AllHave, Newest}
use Rattle.dg_cost_text.specs.declared.rows.Row.{Row}
use Rattle.dg_cost_text.specs.declared.rows.Rows.{Rows}
use Rattle.dg_cost_text.specs.Table.{entry_of}

-- pieces of a key, one after another
abbrev pub key_text : List (List ℕ) → List ℕ
key_text pieces = flat_map (λ (piece : List ℕ). piece) pieces

-- what became whole, the first time or again
abbrev pub whole_key : (image version times : ℕ) → List ℕ
whole_key image version times =
    if nat_lt 1 times
    then key_text (codes "whole." ∷ decimal image ∷ codes "." ∷ decimal version ∷ codes ".again." ∷ decimal times ∷ [])
    else key_text (codes "whole." ∷ decimal image ∷ codes "." ∷ decimal version ∷ [])

-- the key of what holds from a moment on
abbrev pub what_key : What → List ℕ
what_key (Whole image version times) = whole_key image version times
what_key (AllHave image version) = key_text (codes "all." ∷ decimal image ∷ codes "." ∷ decimal version ∷ [])
what_key (Newest image) = key_text (codes "newest." ∷ decimal image ∷ [])

-- the rows of a moment: the number of an event, and the milliseconds up to it
abbrev pub rows_at : (key : List ℕ) → Moment → List (List ℕ × ℕ)
rows_at key at = (key ++ codes ".event", at.event) ∷ (key ++ codes ".ms", at.ms) ∷ []

-- ---- the rows of moments among others

-- whether it is the key of a moment: it begins with `whole.`, `all.` or `newest.`
abbrev pub is_moment_key : List ℕ → Bool
is_moment_key key = starts_with (λ (a b : ℕ). a == b) key (codes "whole.")
    || (starts_with (λ (a b : ℕ). a == b) key (codes "all.") || starts_with (λ (a b : ℕ). a == b) key (codes "newest."))

-- no key that begins so is that of a moment
abbrev pub BeginsNoMoment : List ℕ → Type 0
BeginsNoMoment before = (rest : List ℕ) → is_moment_key (before ++ rest) ≡ false

-- the rows of moments in a table
abbrev pub moments_in : List (List ℕ × ℕ) → List (List ℕ × ℕ)
moments_in table = filter (λ (row : List ℕ × ℕ). is_moment_key row.0) table

-- The rows of moments are the same after more rows were added.
pub record AddsNoMoment (old new : List (List ℕ × ℕ)) : Type 0 where
  pub same : moments_in new ≡ moments_in old

-- the keys and values of the rows whose sums over the motes are rows of `all`
abbrev pub summed_table : Rows → List (List ℕ × ℕ)
summed_table rows = map entry_of (filter (λ (row : Row). row.summed) rows.rows.items)
