-- What starts, ticks and heard frames do to a base mote and its chip, by what its node did.
use Rattle.std.proofs.Common.{◌≡◌, ℕ, Bool, List, refl, ap, sym, ◌∙◌, subst}
use Rattle.std.specs.Prelude.{Option, Some, None, option_map, Result, Ok, Err, IfSome}
use Rattle.dg_nor.specs.Device.{Device, Ran}
use Rattle.dg_nor.specs.Trail.{Trail, last}
use Rattle.dg_volume.specs.Store.{Store}
use Rattle.dg_volume.specs.Stands.{Stands, IsNoVolume}
use Rattle.dg_volume.specs.Start.{Runs, boot}
use Rattle.dg_volume.specs.declared.volume.StartCause.TheVariants as cause
use Rattle.dg_base.specs.declared.events.ImageVersion.{ImageVersion}
use Rattle.dg_frame.specs.Spelling.{frame_of}
use Rattle.dg_boot.specs.declared.BootFault.{BootFault}
use Rattle.dg_boot.specs.declared.BootFault.TheVariants as boot_fault
use Rattle.dg_mote.specs.Model.{MoteState}
use Rattle.dg_mote.specs.Effects.{Effect, boot_by, reset_effect}
use Rattle.dg_mote.specs.Motes.{IsMote}
use Rattle.dg_mote.specs.Timely.{Timely}
use Rattle.dg_node.specs.declared.node.Node.{Node}
use Rattle.dg_node.specs.declared.answers.Ticked.{Ticked}
use Rattle.dg_node.specs.declared.answers.Ticked.TheVariants as ticked
use Rattle.dg_node.specs.declared.answers.TickFault.{TickFault}
use Rattle.dg_node.specs.declared.answers.TickFault.TheVariants as tick_fault
use Rattle.dg_node.specs.Hosts.{host}
use Rattle.dg_node.specs.Nodes.{NodeStands, node_runs, node_mote}
use Rattle.dg_node.specs.Ends.{NodeEnd, Quiet, Sent, Starts, Stopped, NotAVolume, NoImage, NodeDone, EffectDone, PowerFinds, power_end, tick_end}
use Rattle.dg_end.specs.Conversions.{end_of_boot}
use Rattle.dg_serial_base.specs.Based.{RefusedBy}
use Rattle.dg_serial_base.specs.inner.Ends.{end_of_tick, result_of}
use Rattle.dg_serial_base.specs.inner.Standing.{Calm, Counts, CountsBy, IsLeft, FailedBy, EffectEnds}
use Rattle.dg_end.specs.declared.ends.End.{End}

-- ---- chips that did not stop

pub calm_ran : (n : ℕ) (a b : Device) → Ran n a b → Calm a b
calm_ran n a b r = record { faults = r.faults; stopped = r.stopped }

pub calm_same : (a : Device) → Calm a a
calm_same a = record { faults = refl; stopped = refl }

pub calm_then : (a b c : Device) → Calm a b → Calm b c → Calm a c
calm_then a b c x y = record { faults = y.faults ∙ x.faults; stopped = y.stopped ∙ x.stopped }

-- ---- starts

boot_silent : (o : Option Runs) (t : Trail Store) (id : ℕ) (wide : Bool) (now word : ℕ) → (boot_by o t id wide now word).sent ≡ None
boot_silent None t id wide now word = refl
boot_silent (Some r) t id wide now word = refl

pub reset_silent : (s : Store) (id : ℕ) (wide : Bool) (now word : ℕ) → (reset_effect s id wide now word).sent ≡ None
unfolding reset_effect
reset_silent s id wide now word = let b = boot cause.Power s in boot_silent b.runs b.trail id wide now word

-- ---- what an event of the node left

left_by : (o : Option MoteState) (r : Option Runs) (w : Option ImageVersion) (c : List ℕ) (u : Node) (s : Store) (now : ℕ) → NodeStands c (Some u) s (node_runs o r w) → IfSome o (λ m. Timely m now)
    → (state : MoteState) × (o ≡ Some state) × IsMote c (node_mote u) state s × Timely state now
left_by None r w c u s now stands timely = absurd stands
left_by (Some m) (Some r) w c u s now stands timely = (m, refl, stands.1, timely)
left_by (Some m) None (Some w) c u s now stands timely = (m, refl, stands.1, timely)
left_by (Some m) None None c u s now stands timely = absurd stands

module _ (frame : Option (List ℕ)) (e : Effect) (x : Option Node) (a b : Device) where
  pub leaves : (u : Node) (now : ℕ) → EffectDone e frame (host a x) (host b (Some u)) → IfSome e.mote (λ m. Timely m now) → IsLeft e b.image (node_mote u) now
  leaves u now went timely =
      let left = left_by e.mote e.started _ b.image u (last e.trail) now went.runs timely in
      record { state = left.0; on = left.1; mote = left.2; timely = left.3 }

  pub effect_ends : (r : NodeEnd) (s : Store) (u : Node) (now : ℕ) → NodeDone r frame e (host a x) (host b (Some u)) → Stands a.image s → IfSome e.mote (λ m. Timely m now) → EffectEnds (result_of r) s e now b (node_mote u)
  effect_ends Quiet s u now done stands timely = leaves u now done.0 timely
  effect_ends Sent s u now done stands timely = leaves u now done.0 timely
  effect_ends (Starts image) s u now done stands timely = leaves u now done.0 timely
  effect_ends Stopped s u now done stands timely = record { between = a; stands = stands; stops = done.0 }
  effect_ends NotAVolume s u now done stands timely = absurd done
  effect_ends NoImage s u now done stands timely = record { none = done.none; silent = done.silent; stands = done.stands }

  pub frame_said : (r : NodeEnd) (y : Option Node) → NodeDone r frame e (host a x) (host b y) → (t : Unit {0}) → result_of r ≡ Ok t → frame ≡ option_map frame_of e.sent
  frame_said Quiet y done t ok = done.0.sent
  frame_said Sent y done t ok = done.0.sent
  frame_said (Starts image) y done t ok = done.0.sent
  frame_said Stopped y done t ok = cc
  frame_said NotAVolume y done t ok = cc
  frame_said NoImage y done t ok = cc

  -- a start that failed
  pub start_failed : (f : BootFault) (s : Store) (y : Option Node) → NodeDone (power_end (Err f)) frame e (host a x) (host b y) → Stands a.image s → FailedBy (end_of_boot f) s e b
  start_failed boot_fault.Stopped s y done stands = record { between = a; stands = stands; stops = done.0 }
  start_failed boot_fault.NotAVolume s y done stands = done
  start_failed boot_fault.NoImage s y done stands = record { none = done.none; silent = done.silent; stands = done.stands }

pub tick_ok : (t : Ticked) → result_of (tick_end (Ok t)) ≡ Ok tt
tick_ok ticked.Idle = refl
tick_ok ticked.Sent = refl
tick_ok (ticked.Restarted image) = refl

pub tick_err : (f : TickFault) → result_of (tick_end (Err f)) ≡ Err (end_of_tick f)
tick_err tick_fault.Stopped = refl
tick_err tick_fault.NoImage = refl

-- ---- what a start found

pub start_none : (T : Type 0) (f : BootFault) (a b : Device) → PowerFinds (Err f) a b → IsNoVolume a.image → RefusedBy {T = T} (Err (end_of_boot f)) a b
start_none T boot_fault.Stopped a b finds none = finds.1 none
start_none T boot_fault.NotAVolume a b finds none = finds.1
start_none T boot_fault.NoImage a b finds none = none finds.0 finds.1

pub start_counts : (f : BootFault) (E : Store → Effect) (x y : Option Node) (a b : Device) → PowerFinds (Err f) a b → ((s : Store) → Stands a.image s → NodeDone (power_end (Err f)) None (E s) (host a x) (host b y)) → CountsBy (end_of_boot f) a b
start_counts boot_fault.Stopped E x y a b finds done = finds.0.cause
start_counts boot_fault.NotAVolume E x y a b finds done = calm_ran 0 a b finds.1.ran
start_counts boot_fault.NoImage E x y a b finds done = calm_ran _ a b (done finds.0 finds.1).ran
