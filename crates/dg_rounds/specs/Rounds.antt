-- Rounds and sweeps as lists of events (docs/SCRIPTS.md, "Sweeps that are enough").
use Rattle.std.specs.Prelude.{ℕ, zero, suc, List, [], ◌∷◌, ◌++◌, replicate}
use Rattle.std.specs.List.{flat_map}
use Rattle.dg_base.specs.declared.events.Event.{Event}
use Rattle.dg_base.specs.declared.events.Event.TheVariants.{Tick, Last}
use Rattle.dg_object.specs.Sizes.{packets}

-- the milliseconds between the ticks of a round, by this project's own profile. This is longer than any window of a mote
abbrev pub pace : ℕ
pace = 131072

-- the ticks that drain a mote, and those in which it advertises what it keeps, by the same profile
abbrev pub drain_ticks : ℕ
drain_ticks = 50

abbrev pub advert_ticks : ℕ
advert_ticks = 3

-- these events n times
unfoldable pub times : {A : Type 0} → ℕ → List A → List A
times zero xs = []
times (suc n) xs = xs ++ times n xs

abbrev pub paced : ℕ → Event
paced m = Tick m pace 0

abbrev pub passed : (from to : ℕ) → Event
passed from to = Last from to 0 0

-- Both motes are drained. Then a advertises to b what it has, b asks a, and a sends the packets of a page.
unfoldable pub round : (a b : ℕ) → List Event
round a b =
    replicate drain_ticks (paced a) ++ (replicate drain_ticks (paced b)
    ++ (replicate advert_ticks (paced a) ++ (passed a b ∷ paced b ∷ passed b a
    ∷ times packets (paced a ∷ passed a b ∷ []))))

-- the rounds of a sweep: for each link one from its first mote to its second, and one back
abbrev pub rounds_of : List (ℕ × ℕ) → List (ℕ × ℕ)
rounds_of links = flat_map (λ l. (l.0, l.1) ∷ (l.1, l.0) ∷ []) links

unfoldable pub sweep : List (ℕ × ℕ) → List Event
sweep links = flat_map (λ r. round r.0 r.1) (rounds_of links)
