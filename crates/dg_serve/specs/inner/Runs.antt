-- Words of the runs of a service, for private contracts and proofs.
use Rattle.std.specs.Prelude.{ℕ, ◌<◌, true, List, length}
use Rattle.dg_base.specs.declared.events.Event.{Event}
use Rattle.dg_object.specs.Object.{Row}
use Rattle.dg_volume.specs.Store.{Store}
use Rattle.dg_rules.specs.Runs.{Played}
use Rattle.dg_rules.specs.Begins.{store_of}
use Rattle.dg_rules.specs.Golden.{WorldKeepsGolden}
use Rattle.dg_mote.specs.Consistency.{StoreIsConsistent}
use Rattle.dg_script.specs.Items.{Item, Applies}
use Rattle.dg_world.specs.Alone.{uncut}
use Rattle.std.specs.Prelude.{map}
use Rattle.dg_script.specs.declared.line.Line.TheVariants.{Happens as EventLine}
use Rattle.dg_serve.specs.Traces.{lines_text}

-- an event of a service as an item of a run: no power is cut in it
abbrev pub event_item : Event → Item
event_item event = Applies (uncut event) true

abbrev pub served_item : Played → Item
served_item p = p.item

-- What each board stands for is consistent: golden is whole, and what else is kept fits its own descriptor.
abbrev pub StoresConsistent : Row → List Store → Type 0
StoresConsistent golden stores = (m : ℕ) → m < length stores → StoreIsConsistent golden (store_of stores m)

abbrev pub LeavesGolden : Played → Type 0
LeavesGolden p = WorldKeepsGolden p.after

-- the lines of events
abbrev pub event_lines : List Event → List ℕ
event_lines events = lines_text (map EventLine events)
