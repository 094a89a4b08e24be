-- What is played from worlds that agree with their tables, and over chips as they are (docs/PROMISES.md, "The report and what it
-- tells").
use Rattle.std.specs.Prelude.{◌≡◌, ℕ, ◌<◌, ◌≤◌, Bool, List, length, slice_index_or, Some}
use Rattle.std.specs.List.{AllByRecursion}
use Rattle.dg_object.specs.Object.{Row}
use Rattle.dg_volume.specs.Store.{Store}
use Rattle.dg_volume.specs.Shaped.{IsShaped}
use Rattle.dg_volume.specs.Table.{row_at, IsTable}
use Rattle.dg_volume.specs.Agreement.{Agrees}
use Rattle.dg_mote.specs.Agreement.{IsHonest}
use Rattle.dg_base.specs.declared.events.Event.{Event}
use Rattle.dg_base.specs.declared.events.Event.TheVariants.{Inject, Frame}
use Rattle.dg_script.specs.Items.{Item, Declares, Applies}
use Rattle.dg_rules.specs.Sizes.{most_motes}
use Rattle.dg_rules.specs.World.{World, no_site, first_world}
use Rattle.dg_rules.specs.Events.{IsTaken, does}
use Rattle.dg_rules.specs.Runs.{Played, Plays}
use Rattle.dg_rules.specs.Premises.{LinkFits, WorldAgrees, AllOff, PlayedInRange, IsTrueThen}

-- What is played from a world that agrees with its table and in which no mote is on: every number is in its range, and
-- every event is true in the world of its moment.
pub record PlaysFrom (u : World) (played : List Played) (v : World) : Type 0 where
  pub agrees : WorldAgrees u
  pub off : AllOff u
  pub plays : Plays u played v
  pub ranges : AllByRecursion (PlayedInRange (length u.sites)) played
  pub are_true : AllByRecursion IsTrueThen played

-- ---- chips as they are

-- what the chip of mote m stands for
abbrev pub store_of : List Store → ℕ → Store
store_of stores m = slice_index_or stores m no_site.store

-- what the chips stand for agrees with a table
pub record StoresAgree (table : List Row) (stores : List Store) : Type 0 where
  pub is_table : IsTable table
  pub each : (m : ℕ) → m < length stores → Agrees table (store_of stores m)

-- Each has a slot for each image, and an order in its ranges, as has every store that a chip stands for.
abbrev pub AreShaped : List Store → Type 0
AreShaped stores = (m : ℕ) → m < length stores → IsShaped (store_of stores m)

-- An event holds to a table under two conditions. A frame that it brings from outside is honest by the table of its moment. A row
-- that it injects is this table's, if the rules take the injection and this table has its image version.
abbrev pub HoldsTo : List Row → World → Event → Type 0
HoldsTo table w (Inject mote image version dt word) = IsTaken (does w (Inject mote image version dt word))
    → (row kept : Row) → row_at w.declared image version ≡ Some row → row_at table image version ≡ Some kept → kept ≡ row
HoldsTo table w (Frame mote dt word bytes) = IsHonest w.table bytes
HoldsTo table w event = Unit {0}

abbrev pub ItemHoldsTo : List Row → Item → World → Type 0
ItemHoldsTo table (Declares row) w = Unit {0}
ItemHoldsTo table (Applies step reported) w = HoldsTo table w step.event

abbrev pub HoldsToThen : List Row → Played → Type 0
HoldsToThen table p = ItemHoldsTo table p.item p.before

-- what is played over chips that stand for these stores, against a table: every number is in its range
pub record PlaysBoards (table : List Row) (stores : List Store) (links : List (ℕ × ℕ)) (narrow : List Bool)
    (played : List Played) (v : World) : Type 0 where
  pub shaped : AreShaped stores
  pub plays : Plays (first_world table links narrow stores) played v
  pub few : length stores ≤ most_motes
  pub links_fit : AllByRecursion (LinkFits (length stores)) links
  pub ranges : AllByRecursion (PlayedInRange (length stores)) played
