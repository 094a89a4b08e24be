-- Worlds that agree with their table, and runs over honest frames and true injections (docs/PROMISES.md, "The report and what
-- it tells").
use Rattle.std.specs.Prelude.{◌≡◌, ℕ, ◌<◌, ◌≤◌, ◌⊎◌, Bool, true, false, List, length, Some, None, IfSome, Ok}
use Rattle.std.specs.List.{AllByRecursion}
use Rattle.dg_object.specs.Object.{Row}
use Rattle.dg_volume.specs.Table.{row_at, IsTable}
use Rattle.dg_volume.specs.Store.{Store}
use Rattle.dg_frame.specs.Sizes.{narrow_images}
use Rattle.dg_frame.specs.Grammar.{message_of}
use Rattle.dg_frame.specs.Spelling.{FitsTypes}
use Rattle.dg_frame.specs.declared.Message.{Message}
use Rattle.dg_mote.specs.Hears.{source_of}
use Rattle.dg_mote.specs.Agreement.{IsHonest, HonestMessage}
use Rattle.dg_mote.specs.Well.{StoreIsWell, IsWell}
use Rattle.dg_mote.specs.Speaking.{OrderFits, Speaks}
use Rattle.dg_mote.specs.Timely.{Timely}
use Rattle.dg_rules.specs.Sizes.{most_motes}
use Rattle.dg_rules.specs.World.{World, Running, Site, Sent, site, wide_at}
use Rattle.dg_rules.specs.Events.{IsTaken, does}
use Rattle.dg_script.specs.Ranges.{IsDeclared, AreTwo, StepInRange}
use Rattle.dg_script.specs.Items.{Item, Declares, Applies}
use Rattle.dg_rules.specs.Runs.{Played}
use Rattle.dg_base.specs.declared.events.Event.{Event}
use Rattle.dg_base.specs.declared.events.Event.TheVariants.{Tick, Hear, Last, Reset, Inject, Order as OrderEvent, Frame}

-- a mote that is on has the id and width of its site, agrees with the table, is in time, and what it says fits into frames
pub record RunsWell (table : List Row) (m : ℕ) (wide : Bool) (now : ℕ) (s : Store) (r : Running) : Type 0 where
  pub id : r.mote.id ≡ m
  pub wide_is : r.mote.wide ≡ wide
  pub well : IsWell table r.mote s now
  pub speaks : Speaks r.mote s

pub record SiteIsWell (table : List Row) (m : ℕ) (wide : Bool) (now : ℕ) (x : Site) : Type 0 where
  pub store : StoreIsWell table x.store
  pub order : OrderFits x.store.order
  pub runs : IfSome x.runs (RunsWell table m wide now x.store)

-- A frame that was sent spells a message of its sender, which is honest, and whose fields fit into a frame. Wide motes read this
-- message; a narrow one reads the same or nothing.
pub record SentIsWell (table : List Row) (f : Sent) : Type 0 where
  pub message : Message
  pub spelled : message_of f.bytes true ≡ Ok message
  pub fits : FitsTypes message
  pub source : source_of message ≡ f.by
  pub honest : HonestMessage table (Ok message)

-- two motes are neighbours
abbrev pub LinkFits : ℕ → ℕ × ℕ → Type 0
LinkFits motes l = AreTwo motes l.0 l.1

-- Every chip, every mote that is on and every frame that was sent agrees with the table, and what is declared may be injected.
pub record WorldAgrees (w : World) : Type 0 where
  pub few : length w.sites ≤ most_motes
  pub table : IsTable w.table
  pub rows : AllByRecursion IsDeclared w.declared
  pub links : AllByRecursion (LinkFits (length w.sites)) w.links
  pub sites : (m : ℕ) → m < length w.sites → SiteIsWell w.table m (wide_at w m) w.moment (site w m)
  pub sent : AllByRecursion (SentIsWell w.table) w.sent

-- the moments of the motes that are on are not later than the world's
abbrev pub WorldTimely : World → Type 0
WorldTimely w = (m : ℕ) → m < length w.sites → IfSome (site w m).runs (λ r. Timely r.mote w.moment)

-- a frame that is brought from outside is honest by the table before it
abbrev pub HonestEvent : List Row → Event → Type 0
HonestEvent table (Frame mote dt word bytes) = IsHonest table bytes
HonestEvent table event = Unit {0}

-- An event is true in a world under two conditions. A frame that it brings from outside is honest by the table before it. A row
-- that it injects is the table's, if the rules take the injection and the table has its image version
abbrev pub TrueEvent : World → Event → Type 0
TrueEvent w (Tick mote dt word) = Unit {0}
TrueEvent w (Hear mote dt word frame) = Unit {0}
TrueEvent w (Last from to dt word) = Unit {0}
TrueEvent w (Reset mote dt word) = Unit {0}
TrueEvent w (Inject mote image version dt word) = IsTaken (does w (Inject mote image version dt word))
    → (row kept : Row) → row_at w.declared image version ≡ Some row → row_at w.table image version ≡ Some kept → kept ≡ row
TrueEvent w (OrderEvent mote number image version dt word) = Unit {0}
TrueEvent w (Frame mote dt word bytes) = IsHonest w.table bytes

-- what is played is in its ranges, and true
abbrev pub ItemFits : Item → World → Type 0
ItemFits (Declares row) w = IsDeclared row
ItemFits (Applies step reported) w = StepInRange (length w.sites) step × TrueEvent w step.event

abbrev pub PlayedFits : Played → Type 0
PlayedFits p = ItemFits p.item p.before

-- the same without a world: for a script with this many motes
abbrev pub ItemInRange : ℕ → Item → Type 0
ItemInRange motes (Declares row) = IsDeclared row
ItemInRange motes (Applies step reported) = StepInRange motes step

abbrev pub PlayedInRange : ℕ → Played → Type 0
PlayedInRange motes p = ItemInRange motes p.item

-- a frame from outside is honest by the table of that moment
abbrev pub HonestItem : Item → World → Type 0
HonestItem (Declares row) w = Unit {0}
HonestItem (Applies step reported) w = HonestEvent w.table step.event

abbrev pub IsHonestThen : Played → Type 0
IsHonestThen p = HonestItem p.item p.before

-- an event is true in the world of that moment
abbrev pub TrueItem : Item → World → Type 0
TrueItem (Declares row) w = Unit {0}
TrueItem (Applies step reported) w = TrueEvent w step.event

abbrev pub IsTrueThen : Played → Type 0
IsTrueThen p = TrueItem p.item p.before

abbrev pub LeavesAgreement : Played → Type 0
LeavesAgreement p = WorldAgrees p.after

-- All motes are wide, or all are narrow and the table has no row of an image that their frames do not speak of.
abbrev pub OneWidth : World → Type 0
OneWidth w =
    ((m : ℕ) → m < length w.sites → wide_at w m ≡ true)
    ⊎ (((m : ℕ) → m < length w.sites → wide_at w m ≡ false) × AllByRecursion (λ row. row.image ≤ narrow_images) w.table)

-- no mote is on
abbrev pub AllOff : World → Type 0
AllOff w = (m : ℕ) → (site w m).runs ≡ None
