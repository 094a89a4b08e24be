-- What a step does to a world and its boards (docs/PROMISES.md, "What other calls promise").
use Rattle.std.specs.Prelude.{◌≡◌, ◌≢◌, ◌⊎◌, ℕ, ◌-◌, ◌<◌, ◌≤◌, Bool, true, false, List, ◌++◌, length, slice_get, Some, IfSome}
use Rattle.std.specs.List.{filter}
use Rattle.dg_words.specs.Counts.{Rose}
use Rattle.dg_nor.specs.Device.{Device, Endures, MadeMore}
use Rattle.dg_nor.specs.Fuse.{beneath_of}
use Rattle.dg_nor.specs.Trail.{operations, MayLeave}
use Rattle.dg_slot.specs.Pages.{program}
use Rattle.dg_object.specs.Object.{Row}
use Rattle.dg_volume.specs.Store.{Store, IsNear}
use Rattle.dg_volume.specs.Consistent.{Consistent}
use Rattle.dg_rules.specs.Consistency.{WorldConsistent}
use Rattle.dg_volume.specs.Stands.{Stands}
use Rattle.dg_volume.specs.Start.{Runs}
use Rattle.dg_rules.specs.World.{World as RuleWorld, store_at}
use Rattle.dg_rules.specs.Events.{EventEffect, Goes, trail_of, does, mote_of}
use Rattle.dg_rules.specs.Changes.{is_reported}
use Rattle.dg_rules.specs.Steps.{WorldStep, EndsRun, blows}
use Rattle.dg_rules.specs.Made.{made_in}
use Rattle.dg_base.specs.declared.events.Step.{Step}
use Rattle.dg_script.specs.declared.report.Report.{Report}
use Rattle.dg_world.specs.declared.world.World.{World}
use Rattle.dg_world.specs.Worlds.{IsWorld}
use Rattle.dg_world.specs.Deployments.{Deployment}
use Rattle.dg_world.specs.Counts.{AreSteady}

-- No board but this one was used. No count fell, and a board is stopped only if it was before, or if its count rose.
pub record OneBoard (board : ℕ) (old new : List Device) : Type 0 where
  pub count : length new ≡ length old
  pub others : (m : ℕ) → m ≢ board → slice_get new m ≡ slice_get old m
  pub counts : (m : ℕ) (a b : Device) → slice_get old m ≡ Some a → slice_get new m ≡ Some b → a.faults ≤ b.faults
  pub endures : (m : ℕ) (a b : Device) → slice_get old m ≡ Some a → slice_get new m ≡ Some b
      → Endures (beneath_of a) (beneath_of b)

-- n programs and erases more were made on this board, if it counts them
abbrev pub MadeOn : (board n : ℕ) → (old new : List Device) → Type 0
MadeOn board n old new = (a b : Device) → slice_get old board ≡ Some a → slice_get new board ≡ Some b → MadeMore n a.made b.made

-- A step was applied to a, which is b afterwards. The rules allow it, and it is reported as they say. No board stopped, and no
-- board's count rose, even where a cut fired. The pages of what was started, if anything, are in program memory.
pub record Applied (w : RuleWorld) (x : Step) (reported : Bool) (a b : Deployment) : Type 0 where
  pub world : RuleWorld
  pub reports : List Report
  pub step : WorldStep w x world reports
  pub stood : IsWorld b.world b.boards world
  pub report_now : b.reported ≡ a.reported ++ filter (is_reported reported) reports
  pub boards : OneBoard (mote_of x.event) a.boards b.boards
  pub calm : AreSteady a.boards b.boards
  -- the operations of the event's trail were made, up to the one that its cut interrupted
  pub made : MadeOn (mote_of x.event) (made_in w x) a.boards b.boards
  pub memory : (d : EventEffect) (r : Runs) (c : Device) → does w x.event ≡ Goes d → blows x.cut d.trail ≡ false
      → d.started ≡ Some r
      → slice_get b.boards (mote_of x.event) ≡ Some c → program c.image (length r.pages) ≡ r.pages

-- The board of the event's mote stopped. It stands for a store that the event's trail leaves after `done` operations. The cut
-- of the step, if it has one, did not fire before.
pub record FlashAt (w : RuleWorld) (x : Step) (board : ℕ) (old new : List Device) : Type 0 where
  pub at : board ≡ mote_of x.event
  pub before : Device
  pub after : Device
  pub was : slice_get old board ≡ Some before
  pub is : slice_get new board ≡ Some after
  pub stopped : after.stopped ≡ true
  pub cause : (before.stopped ≡ true) ⊎ Rose before.faults after.faults
  pub done : ℕ
  pub within : done ≤ operations (trail_of (does w x.event) (store_at w (mote_of x.event)))
  pub uncut : IfSome x.cut (λ cut. done ≤ cut.after - 1)
  pub leaves : MayLeave Stands IsNear (trail_of (does w x.event) (store_at w (mote_of x.event))) done after.image
  pub boards : OneBoard board old new

-- A start found no image: the boards stand for the world in which the run ended. No board stopped, and no board's count rose.
pub record RunEnded (w : RuleWorld) (x : Step) (old new : List Device) : Type 0 where
  pub world : RuleWorld
  pub ends : EndsRun w x world
  pub stood : (m : ℕ) (d : Device) → m < length world.sites → slice_get new m ≡ Some d → Stands d.image (store_at world m)
  pub boards : OneBoard (mote_of x.event) old new
  pub calm : AreSteady old new
  pub made : MadeOn (mote_of x.event) (made_in w x) old new

-- The boards were only read. No count fell, a board is stopped only if it was before, or if its count rose, and no program and no
-- erase was made on any other.
pub record SameBoards (old new : List Device) : Type 0 where
  pub count : length new ≡ length old
  pub images : (m : ℕ) (a b : Device) → slice_get old m ≡ Some a → slice_get new m ≡ Some b → b.image ≡ a.image
  pub counts : (m : ℕ) (a b : Device) → slice_get old m ≡ Some a → slice_get new m ≡ Some b → a.faults ≤ b.faults
  pub endures : (m : ℕ) (a b : Device) → slice_get old m ≡ Some a → slice_get new m ≡ Some b
      → Endures (beneath_of a) (beneath_of b)
  pub none_made : (m : ℕ) (a b : Device) → slice_get old m ≡ Some a → slice_get new m ≡ Some b → b.stopped ≡ false
      → MadeMore 0 a.made b.made

-- A board stopped while the boards were read.
pub record ReadFlash (board : ℕ) (old new : List Device) : Type 0 where
  pub before : Device
  pub after : Device
  pub was : slice_get old board ≡ Some before
  pub is : slice_get new board ≡ Some after
  pub stopped : after.stopped ≡ true
  pub cause : (before.stopped ≡ true) ⊎ Rose before.faults after.faults

-- ---- whatever frames carry

-- the boards stand for a world whose stores are consistent
pub record BoardsAreConsistent (golden : Row) (v : World) (boards : List Device) : Type 0 where
  pub world : RuleWorld
  pub stands : IsWorld v boards world
  pub consistent : WorldConsistent golden world

-- the board stands for a consistent store
pub record BoardIsConsistent (golden : Row) (board : Device) : Type 0 where
  pub store : Store
  pub stands : Stands board.image store
  pub consistent : Consistent golden store
