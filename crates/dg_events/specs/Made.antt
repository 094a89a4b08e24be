-- The programs and erases of a run (docs/SCRIPTS.md, "Cuts").
use Rattle.std.specs.Prelude.{ℕ, ◌==◌, if◌then◌else◌, List}
use Rattle.std.specs.List.{sum_by}
use Rattle.dg_rules.specs.World.{World}
use Rattle.dg_rules.specs.Events.{mote_of}
use Rattle.dg_rules.specs.Made.{made_in}
use Rattle.dg_rules.specs.Runs.{Played}
use Rattle.dg_script.specs.Items.{Item, Declares, Applies}

-- those of an item on the chip of this mote: a declaration makes none, and an event makes those of its trail at its own mote, up
-- to the one that its cut interrupts, which counts
abbrev pub item_operations : (mote : ℕ) → Item → World → ℕ
item_operations mote (Declares row) w = 0
item_operations mote (Applies step reported) w = if mote_of step.event == mote then made_in w step else 0

-- those of all that was played
abbrev pub operations_at : (mote : ℕ) → List Played → ℕ
operations_at mote played = sum_by (λ (p : Played). item_operations mote p.item p.before) played
