-- Words of private contracts and proofs.
use Rattle.std.specs.Prelude.{ℕ}
use Rattle.dg_seed.specs.Draws.{draw_of}
use Rattle.dg_serial_base.specs.BaseEvents.{Base}
use Rattle.std.specs.Prelude.{◌≡◌, ◌+◌, List, ◌++◌}
use Rattle.std.specs.Prelude.{take}
use Rattle.std.specs.List.{AllByRecursion}
use Rattle.dg_base.specs.Sizes.{most_input}
use Rattle.dg_object.specs.Object.{Row}
use Rattle.dg_volume.specs.Store.{Store}
use Rattle.dg_volume.specs.Stands.{Stands}
use Rattle.dg_mote.specs.Well.{StoreIsWell}
use Rattle.dg_serial_base.specs.BaseEvents.{base_events_of}
use Rattle.dg_serial_base.specs.Agreeing.{HonestBaseEvent}

abbrev pub draw_at : Base → ℕ → ℕ
draw_at b events = draw_of b.seed events

abbrev pub IsPrefixOfInput : (front whole : List ℕ) → Type 0
IsPrefixOfInput front whole = (more : List ℕ) × (front ++ more ≡ whole)

-- the frames among the items of an input are honest by a table of images
abbrev pub HonestLine : List Row → (input : List ℕ) → Type 0
HonestLine table input = AllByRecursion (HonestBaseEvent table) (base_events_of (take most_input input))

-- a chip stands for a store that agrees with the table
abbrev pub ChipAgrees : List Row → (image : List ℕ) → Type 0
ChipAgrees table image = (s : Store) × Stands image s × StoreIsWell table s
