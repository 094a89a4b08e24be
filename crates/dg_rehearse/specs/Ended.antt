-- How a rehearsal ended, and what that means (docs/COMMANDS.md, "Rehearsing by the clock").
use Rattle.std.specs.Prelude.{◌≡◌, ◌≢◌, ℕ, ◌+◌, ◌*◌, ◌<◌, ◌≤◌, ◌==◌, ◌&&◌, Bool, true, false, List}
use Rattle.std.specs.Prelude.{length, Contains, Option, Some}
use Rattle.std.specs.Prelude.{IsSomeAnd}
use Rattle.std.specs.List.{AllByRecursion, list_any}
use Rattle.dg_base.specs.declared.events.Event.TheVariants.{Inject, Order}
use Rattle.dg_base.specs.declared.events.Step.{Step}
use Rattle.dg_nor.specs.Device.{Device}
use Rattle.dg_netcfg.specs.declared.profile.NetProfile.{NetProfile}
use Rattle.dg_object.specs.Object.{pages_for}
use Rattle.dg_volume.specs.Store.{Store, held, held_whole}
use Rattle.dg_script.specs.Sizes.{most_used_bytes}
use Rattle.dg_script.specs.declared.report.Report.{Report}
use Rattle.dg_script.specs.declared.report.Report.TheVariants.{MoteOn, Kept}
use Rattle.dg_rules.specs.Changes.{final_lines}
use Rattle.dg_rules.specs.Sizes.{most_events}
use Rattle.dg_rules.specs.World.{World, Running, site, store_at}
use Rattle.dg_world.specs.Alone.{uncut}
use Rattle.dg_rehearse.specs.Along.{IsAlong}
use Rattle.dg_rehearse.specs.Rehearsed.{Rehearsed, Staging, planned_row}
use Rattle.dg_rehearse.specs.declared.plan.Ending.{Ending}
use Rattle.dg_rehearse.specs.declared.plan.Ending.TheVariants.{Complete, OutOfTime, TooMany, TooLong}
use Rattle.dg_rehearse.specs.declared.plan.Plan.{Plan}
use Rattle.dg_rehearse.specs.declared.plan.Rehearsal.{Rehearsal}

-- ---- what is promised

-- a chip keeps the image that was injected, whole
abbrev pub KeepsPlanned : Plan → Store → Type 0
KeepsPlanned p s = held s p.image ≡ Some (held_whole (planned_row p))

-- a mote is on, and runs it
abbrev pub RunsImage : Plan → Option Running → Type 0
RunsImage p runs = IsSomeAnd runs (λ r. (r.image_version.image ≡ p.image) × (r.image_version.version ≡ p.version))

-- Every mote keeps it and, if it was ordered, runs it.
pub record IsUpdateComplete (n : NetProfile) (p : Plan) (w : World) : Type 0 where
  pub keeps : (m : ℕ) → m < n.motes → KeepsPlanned p (store_at w m)
  pub runs : p.ordered ≡ true → (m : ℕ) → m < n.motes → RunsImage p (site w m).runs

-- the bytes that a script must have free for another turn
abbrev pub turn_room : ℕ
turn_room = 16 * 64

-- What each ending means for the last world and the script: every mote has the image, the schedule lasted the minutes that
-- were asked for, the script has as many events as it may have, or it has no room for another turn.
abbrev pub EndsAs : Ending → NetProfile → Plan → World → (script : List ℕ) → Type 0
EndsAs Complete n p w script = IsUpdateComplete n p w
EndsAs OutOfTime n p w script = p.minutes * 60000 ≤ w.moment
EndsAs TooMany n p w script = w.events ≡ most_events
EndsAs TooLong n p w script = most_used_bytes < length script + turn_room

-- the image of the plan is injected into its mote
abbrev pub InjectsImage : Plan → List Step → Type 0
InjectsImage p steps = (word : ℕ) × Contains steps (uncut (Inject p.at p.image p.version 0 word))

-- and ordered there, if the plan says so
abbrev pub OrdersImage : Plan → List Step → Type 0
OrdersImage p steps = p.ordered ≡ true → (word : ℕ) × Contains steps (uncut (Order p.at 1 p.image p.version 0 word))

-- the steps inject the image, and order it if the plan says so
abbrev pub HasBegun : Plan → List Step → Type 0
HasBegun p steps = InjectsImage p steps × OrdersImage p steps

-- A rehearsal ended as it says, at its moment. Unless there were too many events, the image was injected, and ordered if the
-- plan says so.
pub record RehearsalEnded (n : NetProfile) (p : Plan) (initial boards : List Device) (r : Rehearsal) : Type 0 where
  pub told : Rehearsed n p initial boards r.script.items
  pub ends : EndsAs r.ending n p told.world r.script.items
  pub moment : r.moment ≡ told.world.moment
  pub begun : r.ending ≢ TooMany → HasBegun p told.steps

-- Frames are delivered only along links of the profile.
pub record DeliversAlong (n : NetProfile) (p : Plan) (initial boards : List Device) (script : List ℕ) : Type 0 where
  pub told : Rehearsed n p initial boards script
  pub along : AllByRecursion (IsAlong n) told.run.played

-- ---- what last lines say

abbrev pub tells_kept : (m image version pages : ℕ) → Report → Bool
tells_kept m image version pages (Kept mote i v k) = (mote == m) && ((i == image) && ((v == version) && (k == pages)))
tells_kept m image version pages _ = false

abbrev pub tells_on : (m image version : ℕ) → Report → Bool
tells_on m image version (MoteOn mote i v) = (mote == m) && ((i == image) && (v == version))
tells_on m image version _ = false

-- lines say that a mote keeps all pages of the image of a plan and, if it was ordered, runs it
abbrev pub TellsOf : Plan → ℕ → List Report → Type 0
TellsOf p m lines = (list_any (tells_kept m p.image p.version (pages_for (length p.content))) lines ≡ true)
    × (p.ordered ≡ true → list_any (tells_on m p.image p.version) lines ≡ true)

abbrev pub TellsEach : ℕ → Plan → List Report → Type 0
TellsEach motes p lines = (m : ℕ) → m < motes → TellsOf p m lines

-- what an ending means, as the last lines say it
abbrev pub Ends : Ending → NetProfile → Plan → (script : List ℕ) → World → Type 0
Ends Complete n p script w = TellsEach n.motes p (final_lines w)
Ends OutOfTime n p script w = p.minutes * 60000 ≤ w.moment
Ends TooMany n p script w = w.events ≡ most_events
Ends TooLong n p script w = most_used_bytes < length script + turn_room

-- what it means for a staging after which nothing is played
abbrev pub EndsNow : Ending → Plan → Staging → Type 0
EndsNow Complete p s = ⊥
EndsNow OutOfTime p s = p.minutes * 60000 ≤ s.moment
EndsNow TooMany p s = ⊥
EndsNow TooLong p s = most_used_bytes < length s.script + turn_room

-- it ends as the ending says and, unless there were too many events, it has begun
abbrev pub EndsBegun : Ending → NetProfile → Plan → (script : List ℕ) → List Step → World → Type 0
EndsBegun e n p script more w = Ends e n p script w × (e ≢ TooMany → HasBegun p more)
