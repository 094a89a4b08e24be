-- The effect of an event at one mote, over the store of its chip: what a world and a service share (docs/SCRIPTS.md, "What
-- events do").
use Rattle.std.specs.Prelude.{ℕ, Bool, List, Option, Some, None}
use Rattle.dg_nor.specs.Trail.{Trail, last, joined}
use Rattle.dg_volume.specs.Store.{Store}
use Rattle.dg_volume.specs.Start.{Runs, boot}
use Rattle.dg_volume.specs.declared.volume.StartCause.{StartCause}
use Rattle.dg_volume.specs.declared.volume.StartCause.TheVariants as cause
use Rattle.dg_frame.specs.declared.Message.{Message}
use Rattle.dg_mote.specs.Model.{MoteState, MoteStep, begun_mote}
use Rattle.dg_mote.specs.Ticks.{tick_of}
use Rattle.dg_mote.specs.Hears.{heard_of}
use Rattle.dg_mote.specs.declared.mote.Did.{Did}
use Rattle.dg_mote.specs.declared.mote.Did.TheVariants.{Sent, Idle, Restart}

-- the mote afterwards, None if there was no image to start; the trail; what was started, and what was sent
pub record Effect : Type 0 where
  pub mote : Option MoteState
  pub trail : Trail Store
  pub started : Option Runs
  pub sent : Option Message

abbrev pub boot_by : Option Runs → Trail Store → (id : ℕ) (wide : Bool) (now word : ℕ) → Effect
boot_by None t id wide now word = record { mote = None; trail = t; started = None; sent = None }
boot_by (Some r) t id wide now word =
    record { mote = Some (begun_mote id wide now word); trail = t; started = Some r; sent = None }

abbrev pub boots : StartCause → Store → (id : ℕ) (wide : Bool) (now word : ℕ) → Effect
boots k s id wide now word = let b = boot k s in boot_by b.runs b.trail id wide now word

-- it powers on
unfoldable pub reset_effect : Store → (id : ℕ) (wide : Bool) (now word : ℕ) → Effect
reset_effect s id wide now word = boots cause.Power s id wide now word

abbrev pub on : {A : Type 0} → MoteStep A → Effect
on step = record { mote = Some step.mote; trail = step.trail; started = None; sent = step.sent }

-- a frame that is heard sends nothing
abbrev pub silent : {A : Type 0} → MoteStep A → Effect
silent step = record { mote = Some step.mote; trail = step.trail; started = None; sent = None }

-- a tick that answers Restart continues with a start
abbrev pub tick_by : Did → MoteStep Did → (now word : ℕ) → Effect
tick_by Restart step now word =
    let e = boots cause.Order (last step.trail) step.mote.id step.mote.wide now word in
    record e { trail = joined step.trail e.trail }
tick_by Sent step now word = on step
tick_by Idle step now word = on step

unfoldable pub tick_effect : MoteState → Store → (now word : ℕ) → Effect
tick_effect m s now word = let step = tick_of m s now word in tick_by step.answer step now word

unfoldable pub frame_effect : MoteState → Store → (now word : ℕ) → List ℕ → Effect
frame_effect m s now word bytes = silent (heard_of m s now word bytes)
