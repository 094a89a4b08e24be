-- The mote that an event leaves is timely.
use Rattle.std.proofs.Common.{ℕ, Bool, List}
use Rattle.std.specs.Prelude.{Option, Some, None, IfSome}
use Rattle.dg_nor.specs.Trail.{Trail, last}
use Rattle.dg_volume.specs.Store.{Store}
use Rattle.dg_volume.specs.Start.{Runs, boot}
use Rattle.dg_volume.specs.declared.volume.StartCause.TheVariants as cause
use Rattle.dg_mote.specs.Model.{MoteState, MoteStep, begun_mote}
use Rattle.dg_mote.specs.Ticks.{tick_of}
use Rattle.dg_mote.specs.Hears.{heard_of}
use Rattle.dg_mote.specs.Effects.{boot_by, tick_by, reset_effect, tick_effect, frame_effect}
use Rattle.dg_mote.specs.Timely.{Timely}
use Rattle.dg_mote.specs.declared.mote.Did.{Did}
use Rattle.dg_mote.specs.declared.mote.Did.TheVariants as did

module _ (begins : (id now word : ℕ) (wide : Bool) → Timely (begun_mote id wide now word) now) where
  abbrev IsTimely : ℕ → Option MoteState → Type 0
  IsTimely now o = IfSome o (λ m. Timely m now)

  boot_timely : (o : Option Runs) (t : Trail Store) (id : ℕ) (wide : Bool) (now word : ℕ) → IsTimely now (boot_by o t id wide now word).mote
  boot_timely None t id wide now word = tt
  boot_timely (Some r) t id wide now word = begins id now word wide

  pub reset_timely : (s : Store) (id now word : ℕ) (wide : Bool) → IsTimely now (reset_effect s id wide now word).mote
  unfolding reset_effect
  reset_timely s id now word wide = boot_timely (boot cause.Power s).runs (boot cause.Power s).trail id wide now word

  tick_by_timely : (d : Did) (step : MoteStep Did) (now word : ℕ) → Timely step.mote now → IsTimely now (tick_by d step now word).mote
  tick_by_timely did.Sent step now word timely = timely
  tick_by_timely did.Idle step now word timely = timely
  tick_by_timely did.Restart step now word timely = let b = boot cause.Order (last step.trail) in boot_timely b.runs b.trail step.mote.id step.mote.wide now word

  pub tick_timely : (m : MoteState) (s : Store) (now word : ℕ) → Timely (tick_of m s now word).mote now → IsTimely now (tick_effect m s now word).mote
  unfolding tick_effect
  tick_timely m s now word timely = let step = tick_of m s now word in tick_by_timely step.answer step now word timely

  pub hear_timely : (m : MoteState) (s : Store) (now word : ℕ) (bytes : List ℕ) → Timely (heard_of m s now word bytes).mote now → IsTimely now (frame_effect m s now word bytes).mote
  unfolding frame_effect
  hear_timely m s now word bytes timely = timely
