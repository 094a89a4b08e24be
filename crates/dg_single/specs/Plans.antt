-- What a service of one mote does in turn (docs/COMMANDS.md, "One mote a process").
use Rattle.std.specs.Prelude.{ℕ, Bool, true, false, List, [], ◌∷◌}
use Rattle.std.specs.List.{flat_map}
use Rattle.dg_serve.specs.Services.{Part, Begins, Looks, Ticks}

-- a turn of a mote: it looks, and then it ticks or does not
abbrev pub turn_of : (mote : ℕ) → (ticks : Bool) → List Part
turn_of mote true = Looks mote ∷ Ticks mote ∷ []
turn_of mote false = Looks mote ∷ []

abbrev pub turns_of : ℕ → List Bool → List Part
turns_of mote ticks = flat_map (turn_of mote) ticks

-- it powers on, and then it has these turns, in some of which it ticks
abbrev pub plan_of : ℕ → List Bool → List Part
plan_of mote ticks = Begins mote ∷ turns_of mote ticks
