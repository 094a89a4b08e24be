-- Rests that nothing disturbs: sweeps, with ticks and heard frames between their rounds (docs/SCRIPTS.md, "Sweeps that are
-- enough").
use Rattle.std.specs.Prelude.{◌≡◌, ℕ, true, false, Bool, List, [], ◌∷◌, ◌++◌}
use Rattle.std.specs.List.{AllByRecursion}
use Rattle.dg_base.specs.declared.events.Event.{Event}
use Rattle.dg_base.specs.declared.events.Event.TheVariants.{Tick, Hear, Last, Reset, Inject, Order, Frame}
use Rattle.dg_rounds.specs.Rounds.{round, rounds_of, times}

-- starts, injections, orders and frames from outside disturb a rest
abbrev pub disturbs : Event → Bool
disturbs (Tick mote dt word) = false
disturbs (Hear mote dt word frame) = false
disturbs (Last from to dt word) = false
disturbs event = true

-- a tick, or a frame that was sent and is heard: it disturbs no rest
abbrev pub IsFree : Event → Type 0
IsFree e = disturbs e ≡ false

-- the events are these rounds in their order, with ticks and heard frames between them, before them and after them
unfoldable pub HasRounds : List (ℕ × ℕ) → List Event → Type 0
HasRounds [] es = AllByRecursion IsFree es
HasRounds (r ∷ rs) es =
    (free more : List Event) × (es ≡ free ++ (round r.0 r.1 ++ more)) × AllByRecursion IsFree free × HasRounds rs more

-- a rest of n sweeps over these links
abbrev pub IsRest : List (ℕ × ℕ) → ℕ → List Event → Type 0
IsRest links n es = HasRounds (times n (rounds_of links)) es
