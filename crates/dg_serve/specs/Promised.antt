-- What is promised of what a service did, each with its premises (docs/PROMISES.md, "The service").
use Rattle.std.specs.Prelude.{◌≡◌, ℕ, ◌<◌, true, List, [], ◌∷◌, ◌++◌, length, map, Option, IsSome}
use Rattle.std.specs.List.{AllByRecursion}
use Rattle.dg_base.specs.declared.events.Event.{Event}
use Rattle.dg_link.specs.Inboxes.{Inboxes}
use Rattle.dg_object.specs.Object.{Row}
use Rattle.dg_volume.specs.Store.{Store}
use Rattle.dg_rules.specs.World.{World, first_world}
use Rattle.dg_rules.specs.Runs.{Played, Plays, EachAfter}
use Rattle.dg_script.specs.Ranges.{EventInRange}
use Rattle.dg_rules.specs.Begins.{store_of, StoresAgree, HoldsTo, HoldsToThen}
use Rattle.dg_rules.specs.Premises.{PlayedInRange, LeavesAgreement, WorldAgrees}
use Rattle.dg_rules.specs.Promises.{IsLegal, KeepsAll, StartsRow, StopsAgree}
use Rattle.dg_rules.specs.Events.{does}
use Rattle.dg_rules.specs.Consistency.{WorldConsistent, LeavesConsistent, StartsSound, StopsConsistent}
use Rattle.dg_rules.specs.Golden.{KeepsGoldenRow, WorldKeepsGolden, FindsImage}
use Rattle.dg_mote.specs.Consistency.{StoreIsConsistent}
use Rattle.dg_script.specs.Places.{first_place, none_narrow}
use Rattle.dg_script.specs.Items.{Applies, items_of, place_behind}
use Rattle.dg_script.specs.declared.line.Line.{Line}
use Rattle.dg_script.specs.declared.line.Line.TheVariants.{Motes, Boards}
use Rattle.dg_world.specs.Alone.{uncut}
use Rattle.dg_serve.specs.Services.{Part, Moment}
use Rattle.dg_serve.specs.Endings.{TakesFor, event_of}
use Rattle.dg_serve.specs.Traces.{IsScript}

-- a run of the rules over these events, between these worlds
pub record RunOf (motes : ℕ) (u : World) (events : List Event) (v : World) : Type 0 where
  pub played : List Played
  -- no power is cut in them
  pub items : map (λ (p : Played). p.item) played ≡ map (λ e. Applies (uncut e) true) events
  pub plays : Plays u played v
  pub ranges : AllByRecursion (PlayedInRange motes) played

-- A prefix of what was played, or all of it, and the world that it leads to. What is promised of honest frames is promised of
-- each prefix: a frame that is not honest takes nothing from what was played before it.
pub record ServedFirst (u : World) (played : List Played) : Type 0 where
  pub first : List Played
  pub rest : List Played
  pub last : World
  pub parts : played ≡ first ++ rest
  pub plays : Plays u first last

-- What the boards stand for agrees with the table, and each frame that came is honest by it.
pub record ServedFramesAreHonest (table : List Row) (stores : List Store) (played : List Played) : Type 0 where
  pub agree : StoresAgree table stores
  pub hold : AllByRecursion (HoldsToThen table) played

-- ---- whatever bytes the frames carry

-- every board keeps golden whole
abbrev pub StoresKeepGolden : List Store → Type 0
StoresKeepGolden stores = (m : ℕ) → m < length stores → KeepsGoldenRow (store_of stores m)

-- What was played of this many motes from such boards, up to this world.
pub record ServiceStaysConsistent (golden : Row) (motes : ℕ) (played : List Played) (v : World) : Type 0 where
  -- every store is consistent, after each event and in the last world
  pub stores : AllByRecursion (LeavesConsistent golden) played
  pub ends : WorldConsistent golden v
  -- what starts is golden byte for byte, or an object that fits its own descriptor
  pub starts : AllByRecursion (StartsSound golden) played
  -- wherever a stop comes in the next event, each store that the chip may then stand for is consistent
  pub halves : (e : Event) → EventInRange motes e → StopsConsistent golden v e

pub record ServiceKeepsGolden (motes : ℕ) (played : List Played) (v : World) : Type 0 where
  -- every mote keeps golden whole and asks for other images, after each event and in the last world
  pub kept : AllByRecursion (λ (p : Played). WorldKeepsGolden p.after) played
  pub ends : WorldKeepsGolden v
  -- the next event finds an image to start, golden if no other
  pub found : (e : Event) → EventInRange motes e → FindsImage (does v e)

-- ---- what a service keeps

-- What holds of what was played first, where the frames of it are honest.
pub record HonestService (motes : ℕ) (table : List Row) {u : World} {ps : List Played} (f : ServedFirst u ps) : Type 0 where
  -- each step is legal after those before it
  pub legal : EachAfter IsLegal [] f.first
  -- no version falls, and a complete page stays unless a newer version of its image replaces it
  pub keeps : AllByRecursion KeepsAll f.first
  -- what starts is a row of the table
  pub starts : AllByRecursion StartsRow f.first
  -- the world after each event agrees with its table, and so does the one that it leads to
  pub agrees : AllByRecursion LeavesAgreement f.first × WorldAgrees f.last
  -- each store that the chip may stand for, wherever a stop comes in the next event, agrees with the table, if that event is
  -- honest too
  pub halves : (e : Event) → EventInRange motes e → HoldsTo table f.last e → StopsAgree f.last e

-- The events are those of a run of wide motes up to this moment. What is promised of a script over boards as they are holds of
-- this run. The link exposed these inboxes, if any, before it was opened.
pub record KeepsRules (told : Option Inboxes) (table : List Row) (stores : List Store) (links : List (ℕ × ℕ)) (motes : ℕ)
    (events : List Event) (last : Moment) : Type 0 where
  pub run : RunOf motes (first_world table links none_narrow stores) events last.world
  -- over a link that exposes its inboxes each frame that came was sent by a mote of the link: so it is honest, where the
  -- boards agree
  pub honest : IsSome told → StoresAgree table stores → ServedFramesAreHonest table stores run.played
  -- and so is the frame that the next event takes from them
  pub next : IsSome told → StoresAgree table stores → (part : Part) (dt word : ℕ) (bytes : List ℕ) (after : Option Inboxes)
      → TakesFor (event_of part dt word bytes) last.inboxes after → HoldsTo table last.world (event_of part dt word bytes)
  pub honestly : (f : ServedFirst (first_world table links none_narrow stores) run.played)
      → ServedFramesAreHonest table stores f.first → HonestService motes table f
  -- with any frames at all, over consistent boards: each store stays consistent,
  -- and what starts is golden or fits its own descriptor
  pub consistent : (golden : Row) → ((m : ℕ) → m < length stores → StoreIsConsistent golden (store_of stores m))
      → ServiceStaysConsistent golden motes run.played last.world
  -- with any frames at all, over boards that keep golden whole: they still do, and a start finds it
  pub golden : StoresKeepGolden stores → ServiceKeepsGolden motes run.played last.world

-- ---- the outcome of replaying its trace

-- the world in which the run of these lines begins, over boards as they are that stand for these stores
abbrev pub world_by : List Line → List Row → List Store → World
world_by lines table stores =
    first_world table (place_behind first_place lines).links (place_behind first_place lines).narrow stores

-- The bytes are a script of these lines, over this many boards as they are. Where these stand for these stores, a run of the
-- rules over its items leads to this world, and no run over them leads to another.
pub record ReplaysTo (bytes : List ℕ) (lines : List Line) (motes : ℕ) (table : List Row) (stores : List Store) (v : World)
    : Type 0 where
  pub script : IsScript bytes lines
  pub rest : List Line
  pub over_boards : lines ≡ Motes motes ∷ Boards ∷ rest
  pub played : List Played
  pub items : map (λ (p : Played). p.item) played ≡ items_of lines
  pub plays : Plays (world_by lines table stores) played v
  pub only : (others : List Played) (w : World) → map (λ (p : Played). p.item) others ≡ items_of lines
      → Plays (world_by lines table stores) others w → w ≡ v
