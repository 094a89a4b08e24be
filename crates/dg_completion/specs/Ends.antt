-- Runs that end with an undisturbed rest, and how many sweeps it has (docs/SCRIPTS.md, "Sweeps that are enough").
use Rattle.std.specs.Prelude.{◌≡◌, ℕ, ◌+◌, ◌-◌, ◌<◌, ◌≤◌, min, true, List, [], ◌∷◌, ◌++◌, length, None, Some}
use Rattle.std.specs.List.{AllByRecursion}
use Rattle.dg_base.specs.declared.events.Event.{Event}
use Rattle.dg_object.specs.Object.{Row}
use Rattle.dg_volume.specs.Sizes.{images}
use Rattle.dg_volume.specs.Store.{held, held_whole}
use Rattle.dg_script.specs.Items.{Item, Declares, Applies}
use Rattle.dg_rules.specs.World.{World, store_at}
use Rattle.dg_rules.specs.Runs.{Played, Plays}
use Rattle.dg_rules.specs.Premises.{OneWidth}
use Rattle.dg_rules.specs.Begins.{PlaysFrom}
use Rattle.dg_completion.specs.Rests.{IsFree, IsRest}
use Rattle.dg_completion.specs.Completion.{Follows, IsOn, HasRoomAt, newest, page_count, pages_kept, within, DoneBelow, IsEnough}

-- the event of an item; a declaration has none
abbrev pub event_in : Item → List Event
event_in (Declares row) = []
event_in (Applies step reported) = step.event ∷ []

-- the events of what was played, in their order
unfoldable pub events_of : List Played → List Event
events_of [] = []
events_of (p ∷ ps) = event_in p.item ++ events_of ps

-- the item has no cut
abbrev pub IsUncutItem : Item → Type 0
IsUncutItem (Declares row) = Unit {0}
IsUncutItem (Applies step reported) = step.cut ≡ None

abbrev pub IsUncut : Played → Type 0
IsUncut p = IsUncutItem p.item

-- What was played has no cuts, and its events disturb no rest. Then these events are a run from the world in which all rows that
-- are declared meanwhile are declared already.
abbrev pub PlayedLaw : Type 0
PlayedLaw = (ps : List Played) (w v : World) → AllByRecursion IsUncut ps → AllByRecursion IsFree (events_of ps)
    → Plays w ps v → Follows (record w { declared = v.declared }) (events_of ps) v

-- What was played ends, in world v, with a rest of n sweeps that begins in world w: its events are sweeps, with ticks and
-- heard frames between their rounds, and no power is cut. Images may be declared meanwhile. Every mote is on when it
-- begins, all are of one width, and each has room when it ends.
pub record EndsInRest (played : List Played) (w : World) (n : ℕ) (v : World) : Type 0 where
  pub before : List Played
  pub rest : List Played
  pub parts : played ≡ before ++ rest
  pub run : Plays w rest v
  pub sweeps : IsRest w.links n (events_of rest)
  pub uncut : AllByRecursion IsUncut rest
  pub on : (m : ℕ) → m < length w.sites → IsOn w m
  pub widths : OneWidth w
  pub room : (m : ℕ) → m < length w.sites → HasRoomAt v m

-- every mote keeps the newest version of each image whole
abbrev pub KeepsNewest : World → Type 0
KeepsNewest v = (i : ℕ) (row : Row) (m : ℕ) → 1 ≤ i → i < images → newest v.table i ≡ Some row → m < length v.sites
    → held (store_at v m) i ≡ Some (held_whole row)

-- If a run of true events from a world that agrees with its table ends with a rest of enough sweeps, every mote keeps the newest
-- version of each image whole.
abbrev pub EndsLaw : Type 0
EndsLaw = (u : World) (played : List Played) (w v : World) (n k : ℕ) → PlaysFrom u played v → EndsInRest played w n v
    → IsEnough w k → k ≤ n → KeepsNewest v

-- Pages travelled along the links as in a pipeline, by t sweeps from world w to world v. If every smaller image was whole
-- everywhere, a mote within j links of a whole copy of an image's newest row has t + 1 - j pages of it, or all.
abbrev pub PagesCome : (w : World) (t : ℕ) (v : World) → Type 0
PagesCome w t v = (i : ℕ) (row : Row) → DoneBelow w i → 1 ≤ i → i < images → newest w.table i ≡ Some row
    → (m j : ℕ) → m < length w.sites → 1 ≤ j → within w row j m ≡ true
    → min (page_count row) (t + 1 - j) ≤ pages_kept (store_at v m) row

-- This holds after a rest, also of fewer sweeps than enough.
abbrev pub EndsPipelineLaw : Type 0
EndsPipelineLaw =
    (u : World) (played : List Played) (w v : World) (t : ℕ) → PlaysFrom u played v → EndsInRest played w t v → PagesCome w t v
