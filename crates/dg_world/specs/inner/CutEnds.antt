-- How an event ends at a board whose power may be cut.
use Rattle.std.specs.Prelude.{◌≡◌, ℕ, Bool, true, false, List, Option, Result, Ok, Err}
use Rattle.dg_nor.specs.Device.{Endures}
use Rattle.dg_nor.specs.Fuse.{beneath_of}
use Rattle.dg_nor.specs.Trail.{operations, MayLeave}
use Rattle.dg_volume.specs.Store.{IsNear}
use Rattle.dg_volume.specs.Stands.{Stands}
use Rattle.dg_rules.specs.World.{World as RuleWorld, store_at}
use Rattle.dg_rules.specs.Events.{EventEffect, Does, Refuses, Goes, trail_of}
use Rattle.dg_rules.specs.Steps.{blows, before_cut}
use Rattle.dg_rules.specs.Made.{made_by}
use Rattle.dg_base.specs.declared.events.Cut.{Cut as PowerCut}
use Rattle.dg_world.specs.Cuts.{IsStopped, StepFoundNoImage}
use Rattle.dg_world.specs.inner.OutcomeEndings.{ReportsEffect, BeforeReports}
use Rattle.dg_world.specs.inner.Counts.{CountStays, MadeUnless}
use Rattle.dg_node.specs.Hosts.{Host}
use Rattle.dg_node.specs.declared.report.ChipReport.{ChipReport}
use Rattle.dg_node.specs.declared.node.Node.{Node}
use Rattle.dg_world.specs.inner.EventOutcomes.{EventOutcome, EventEnded, Refused, Unreported, Sends, Changes, Starts, Halt}
use Rattle.dg_world.specs.inner.EventOutcomes.{Stopped, NotAVolume, NoImage, Whole, Cut}

-- how an event that answered this ended, by whether a cut fired over a board that is not itself stopped
abbrev pub ended : Bool → Result EventOutcome Halt → Result EventEnded Halt
ended blown (Ok outcome) = Ok (Whole outcome)
ended true (Err (Stopped before)) = Ok (Cut before)
ended false (Err (Stopped before)) = Err (Stopped before)
ended blown (Err NotAVolume) = Err NotAVolume
ended blown (Err NoImage) = Err NoImage

-- the whole event was done, and no cut fired
pub record EventIsWhole (w : RuleWorld) (m : ℕ) (does : Does) (cut : Option PowerCut) (u : Option Node)
    (image : List ℕ) (outcome : EventOutcome) : Type 0 where
  pub effect : EventEffect
  pub goes : does ≡ Goes effect
  pub whole : blows cut effect.trail ≡ false
  pub tells : ReportsEffect w m effect outcome u image

-- the cut fired in the operation with its number
pub record EventIsCut (w : RuleWorld) (m : ℕ) (does : Does) (cut : Option PowerCut) (image : List ℕ)
    (before : Option ChipReport) : Type 0 where
  pub effect : EventEffect
  pub goes : does ≡ Goes effect
  pub blown : blows cut effect.trail ≡ true
  pub leaves : MayLeave Stands IsNear effect.trail (before_cut cut) image
  pub is_report : BeforeReports before effect.trail (store_at w m)

-- What an event whose power may have been cut answers. The host was a and is b.
abbrev pub PlayEnds : Result EventEnded Halt → RuleWorld → (m : ℕ) → Does → Option PowerCut → (a b : Host) → Type 0
PlayEnds (Ok (Whole (Refused why))) w m does cut a b = (does ≡ Refuses why) × (b.board.image ≡ a.board.image) × (b.runs ≡ a.runs)
PlayEnds (Ok (Whole Unreported)) w m does cut a b = EventIsWhole w m does cut b.runs b.board.image Unreported
PlayEnds (Ok (Whole (Sends frame))) w m does cut a b = EventIsWhole w m does cut b.runs b.board.image (Sends frame)
PlayEnds (Ok (Whole (Changes old new))) w m does cut a b = EventIsWhole w m does cut b.runs b.board.image (Changes old new)
PlayEnds (Ok (Whole (Starts x))) w m does cut a b = EventIsWhole w m does cut b.runs b.board.image (Starts x)
PlayEnds (Ok (Cut before)) w m does cut a b = EventIsCut w m does cut b.board.image before
PlayEnds (Err (Stopped before)) w m does cut a b = IsStopped w m does cut b.board
PlayEnds (Err NoImage) w m does cut a b = StepFoundNoImage does cut b.board.image
PlayEnds (Err NotAVolume) w m does cut a b = ⊥

-- The event ended so, and the board's count did not fall: it is stopped only if it was before, or if its count rose. The count
-- does not change unless the board stopped, even where a cut fired. The operations of the event's trail were made, up to the one
-- that the cut interrupted.
pub record EventPlayed (r : Result EventEnded Halt) (w : RuleWorld) (m : ℕ) (does : Does) (cut : Option PowerCut)
    (a b : Host) : Type 0 where
  pub ends : PlayEnds r w m does cut a b
  pub endures : Endures (beneath_of a.board) (beneath_of b.board)
  pub count : CountStays r a.board b.board
  pub made : MadeUnless r (made_by cut (operations (trail_of does (store_at w m)))) a.board b.board
