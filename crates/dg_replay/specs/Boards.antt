-- What a replay leaves of the boards (docs/PROMISES.md, "The report and what it tells").
use Rattle.std.specs.Prelude.{◌≡◌, ◌≢◌, ℕ, ◌-◌, ◌<◌, ◌≤◌, Bool, false, List, [], ◌∷◌, length, slice_get, Option, Some}
use Rattle.std.specs.Prelude.{None, IfSome}
use Rattle.dg_nor.specs.Device.{Device}
use Rattle.dg_nor.specs.Trail.{Trail, operations, MayLeave}
use Rattle.dg_volume.specs.Store.{Store, IsNear, fresh}
use Rattle.dg_volume.specs.Stands.{Stands}
use Rattle.dg_base.specs.declared.events.Cut.{Cut as CutOfPower}
use Rattle.dg_base.specs.declared.events.Step.{Step}
use Rattle.dg_script.specs.declared.line.Line.{Line}
use Rattle.dg_script.specs.declared.line.Line.TheVariants.{Golden, Boards}
use Rattle.dg_rules.specs.Sizes.{most_events}
use Rattle.dg_rules.specs.World.{World, store_at}
use Rattle.dg_rules.specs.Events.{does, mote_of, trail_of}
use Rattle.dg_rules.specs.Steps.{EndsRun}
use Rattle.dg_world.specs.Boards.{BoardsEndure, WorldStands, BoardStopped}
use Rattle.dg_world.specs.Counts.{AreSteady}
use Rattle.dg_world.specs.Applied.{SameBoards}
use Rattle.dg_world.specs.Mounted.{NoVolumeAt, MountedTo}
use Rattle.dg_script.specs.Items.{Item, Applies}

-- before there is a world, no board is used
abbrev pub BoardsStand : Option World → List Device → List Device → Type 0
BoardsStand None old new = new ≡ old
BoardsStand (Some w) old new = WorldStands w old new

-- ---- a board that stopped

-- The boards of a world's motes, except this one, stand for its stores. No mote's board was stopped on entry, and all other
-- boards are as before.
pub record OthersStand (w : World) (board : ℕ) (old new : List Device) : Type 0 where
  pub all : BoardsEndure old new
  pub stands : (m : ℕ) (d : Device) → m < length w.sites → m ≢ board → slice_get new m ≡ Some d → Stands d.image (store_at w m)
  pub came : (m : ℕ) (d : Device) → m < length w.sites → slice_get old m ≡ Some d → d.stopped ≡ false
  pub others : (m : ℕ) → length w.sites ≤ m → slice_get new m ≡ slice_get old m

-- The boards before this one stand for the store, and were not stopped on entry. Those after it are as before.
pub record OthersFormatted (chip : Store) (board : ℕ) (old new : List Device) : Type 0 where
  pub all : BoardsEndure old new
  pub stands : (m : ℕ) (d : Device) → m < board → slice_get new m ≡ Some d → Stands d.image chip
  pub came : (m : ℕ) (d : Device) → m < board → slice_get old m ≡ Some d → d.stopped ≡ false
  pub others : (m : ℕ) → board < m → slice_get new m ≡ slice_get old m

-- A board that goes through these stores stopped after some of the operations, and before any cut.
pub record StopsOn (trail : Trail Store) (cut : Option CutOfPower) (image : List ℕ) : Type 0 where
  pub done : ℕ
  pub within : done ≤ operations trail
  pub uncut : IfSome cut (λ c. done ≤ c.after - 1)
  pub leaves : MayLeave Stands IsNear trail done image

-- The boards were only read up to this one, which stopped. Those before it are volumes, and were not stopped on entry. Those
-- after it are as before.
pub record OthersMounted (board : ℕ) (old new : List Device) : Type 0 where
  pub mounted : MountedTo board old new
  pub read : SameBoards old new

-- A board that stops in an event is that of the event's mote. There were fewer than a million events before it.
pub record EventStops (w : World) (step : Step) (board : ℕ) (image : List ℕ) (old new : List Device) : Type 0 where
  pub few : w.events < most_events
  pub at : board ≡ mote_of step.event
  pub there : StopsOn (trail_of (does w step.event) (store_at w (mote_of step.event))) step.cut image
  pub others : OthersStand w board old new

-- A board stopped in the first of these items, which is an event.
abbrev pub ItemStops : List Item → Option World → (board : ℕ) → List ℕ → (old new : List Device) → Type 0
ItemStops (Applies step reported ∷ left) (Some w) board image old new = EventStops w step board image old new
ItemStops left last board image old new = ⊥

-- Where a board stopped in a line, of which these items are left: in formatting, in mounting, or in an event.
-- No other line uses a board.
abbrev pub LineStops : Line → List Item → Option World → (board : ℕ) → List ℕ → (old new : List Device) → Type 0
LineStops (Golden name used content) left None board image old new = OthersFormatted (fresh name content used) board old new
LineStops Boards left None board image old new = OthersMounted board old new
LineStops line left last board image old new = ItemStops left last board image old new

-- It stopped in the reading at the end. The boards before that reading stood for the world's stores, and each keeps its bytes.
pub record ReadingStops (w : World) (board : ℕ) (image : List ℕ) (old new : List Device) : Type 0 where
  pub stands : Stands image (store_at w board)
  pub others : OthersStand w board old new
  pub unread : List Device
  pub stood : WorldStands w old unread
  pub read : SameBoards unread new

-- where it stopped, in one of these lines or in the reading after them
abbrev pub BoardStops : List Line → List Item → Option World → (board : ℕ) → List ℕ → (old new : List Device) → Type 0
BoardStops [] left None board image old new = ⊥
BoardStops [] left (Some w) board image old new = ReadingStops w board image old new
BoardStops (line ∷ rest) left last board image old new = LineStops line left last board image old new

-- A board of this many motes stopped when a replay had come to this world, with these lines left to do, and these items of the
-- first of them.
pub record StoppedIn (motes : ℕ) (rest : List Line) (left : List Item) (last : Option World) (old new : List Device) : Type
    0 where
  pub stopped : BoardStopped motes old new
  pub there : BoardStops rest left last stopped.board stopped.after.image old new

-- ---- a replay that ends before its script

-- One of the boards of the motes, which are used as they are, is not a volume. Those before it are volumes, and were not stopped
-- on entry. All were only read, those after it are as before. No board stopped, and no board's count rose.
pub record NoVolumeIn (motes : ℕ) (old new : List Device) : Type 0 where
  pub board : ℕ
  pub at : NoVolumeAt board motes old new
  pub read : SameBoards old new
  pub calm : AreSteady old new

-- the first of these items is an event
pub record EventNext (items : List Item) : Type 0 where
  pub step : Step
  pub reported : Bool
  pub more : List Item
  pub is : items ≡ Applies step reported ∷ more

-- a world is there, and P holds of it
abbrev pub InSome : Option World → (World → Type 0) → Type 0
InSome None P = ⊥
InSome (Some w) P = P w

-- The next item is an event, which finds no image to start. The boards stand for the world in which the run ends. No board
-- stopped, and no board's count rose.
pub record LacksImage (w : World) (left : List Item) (old new : List Device) : Type 0 where
  pub next : EventNext left
  pub after : World
  pub ends : EndsRun w next.step after
  pub boards : WorldStands after old new
