-- Events that a mote takes part in alone, over its board: it powers on, it ticks, or a frame comes to it
-- (docs/ARCHITECTURE.md, "The way of a script line").
use Rattle.std.specs.Prelude.{◌≡◌, ℕ, true, List, [], Option, None, Result, Ok, Err}
use Rattle.dg_nor.specs.Device.{Device, Endures}
use Rattle.dg_nor.specs.Fuse.{beneath_of}
use Rattle.dg_nor.specs.Reads.{Looked}
use Rattle.dg_volume.specs.Stands.{IsVolume, IsNoVolume}
use Rattle.dg_mote.specs.Motes.{sent_in}
use Rattle.dg_mote.specs.declared.outbox.Outbox.{Outbox}
use Rattle.dg_rules.specs.World.{World as RuleWorld}
use Rattle.dg_rules.specs.Events.{does, mote_of}
use Rattle.dg_base.specs.declared.events.Event.{Event}
use Rattle.dg_base.specs.declared.events.Event.TheVariants.{Tick, Hear, Last, Reset, Inject, Order as OrderEvent, Frame}
use Rattle.dg_base.specs.declared.events.Step.{Step}
use Rattle.dg_script.specs.declared.report.Report.{Report}
use Rattle.dg_world.specs.Cuts.{IsStopped, StepFoundNoImage}
use Rattle.dg_world.specs.Stepped.{StepDone, board_state}
use Rattle.dg_world.specs.declared.outcome.Fault.{Fault}
use Rattle.dg_world.specs.declared.outcome.Fault.TheVariants as fault
use Rattle.dg_node.specs.declared.node.Node.{Node}

-- the event depends neither on other motes nor on what was sent or declared
abbrev pub IsAlone : Event → Type 0
IsAlone (Tick mote dt word) = Unit {0}
IsAlone (Hear mote dt word frame) = ⊥
IsAlone (Last from to dt word) = ⊥
IsAlone (Reset mote dt word) = Unit {0}
IsAlone (Inject mote image version dt word) = ⊥
IsAlone (OrderEvent mote number image version dt word) = ⊥
IsAlone (Frame mote dt word bytes) = Unit {0}

-- a mote powers on
abbrev pub IsReset : Event → Type 0
IsReset (Reset mote dt word) = Unit {0}
IsReset event = ⊥

-- the event without a cut
abbrev pub uncut : Event → Step
uncut event = record { event = event; cut = None }

-- The event was done at its board, and is a step of the world.
pub record AloneDone (w : RuleWorld) (event : Event) (u : Option Node) (frame : Option (List ℕ)) (new : Device) : Type
    0 where
  pub reported : List Report
  pub done : StepDone w (uncut event) true frame [] (board_state new u reported)

-- What the event answers from a board that stood for the mote's store.
abbrev pub AloneEnds : Result Outbox Fault → RuleWorld → Event → Option Node → Device → Type 0
AloneEnds (Ok out) w event u new = AloneDone w event u (sent_in out) new
AloneEnds (Err fault.Stopped) w event u new = IsStopped w (mote_of event) (does w event) None new
AloneEnds (Err fault.NotAVolume) w event u new = ⊥
AloneEnds (Err fault.NoImage) w event u new = StepFoundNoImage (does w event) None new.image

-- the count of a board does not change unless the board stopped
abbrev pub CountKeeps : {T : Type 0} → Result T Fault → Device → Device → Type 0
CountKeeps (Ok x) old new = new.faults ≡ old.faults
CountKeeps (Err fault.Stopped) old new = Unit {0}
CountKeeps (Err fault.NotAVolume) old new = new.faults ≡ old.faults
CountKeeps (Err fault.NoImage) old new = new.faults ≡ old.faults

pub record PlaysAlone (r : Result Outbox Fault) (w : RuleWorld) (event : Event) (u : Option Node)
    (old new : Device) : Type 0 where
  pub ends : AloneEnds r w event u new
  pub endures : Endures (beneath_of old) (beneath_of new)
  pub count : CountKeeps r old new

-- a board stopped, and kept its bytes if it was not a volume
pub record PowerStopped (old new : Device) : Type 0 where
  pub stopped : new.stopped ≡ true
  pub same : IsNoVolume old.image → new.image ≡ old.image

-- What a start answers, whether the board is a volume or not.
abbrev pub PowerEnds : {T : Type 0} → Result T Fault → Device → Device → Type 0
PowerEnds (Ok x) old new = IsVolume old.image
PowerEnds (Err fault.Stopped) old new = PowerStopped old new
PowerEnds (Err fault.NotAVolume) old new = IsNoVolume old.image × Looked old new
PowerEnds (Err fault.NoImage) old new = IsVolume old.image

pub record Powers {T : Type 0} (r : Result T Fault) (old new : Device) : Type 0 where
  pub ends : PowerEnds r old new
  pub endures : Endures (beneath_of old) (beneath_of new)
  pub count : CountKeeps r old new
