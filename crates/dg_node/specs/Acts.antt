-- What injections and orders do at a board and at the node that runs there.
use Rattle.std.specs.Prelude.{◌≡◌, ◌+◌, ℕ, Bool, true, false, Option, Some, None, option_map, IsSomeAnd, Result, Ok, Err}
use Rattle.dg_nor.specs.Device.{Device, Took}
use Rattle.dg_nor.specs.Trail.{Trail, last, resting}
use Rattle.dg_nor.specs.Reads.{Looked}
use Rattle.dg_object.specs.Object.{Row}
use Rattle.dg_control.specs.declared.snapshot.Order.{Order}
use Rattle.dg_volume.specs.Store.{Store}
use Rattle.dg_volume.specs.Acts.{Stops}
use Rattle.dg_volume.specs.Trails.{order_trail, inject_trail}
use Rattle.dg_volume.specs.declared.volume.InjectFault.{InjectFault}
use Rattle.dg_volume.specs.declared.volume.OrderFault.{OrderFault}
use Rattle.dg_volume.specs.declared.volume.MountFault.{MountFault}
use Rattle.dg_volume.specs.declared.volume.MountFault.TheVariants as mount_fault
use Rattle.dg_mote.specs.Model.{MoteState, maintains}
use Rattle.dg_mote.specs.Effects.{Effect}
use Rattle.dg_node.specs.Ends.{EffectDone}
use Rattle.dg_node.specs.Hosts.{Host}
use Rattle.dg_node.specs.Known.{SeesOrder, bytes_looked_at}
use Rattle.dg_node.specs.Reports.{IsReportOf}
use Rattle.dg_node.specs.declared.report.ChipReport.{ChipReport}
use Rattle.dg_node.specs.declared.acts.Change.{Change}
use Rattle.dg_node.specs.declared.acts.ActFault.{ActFault}
use Rattle.dg_node.specs.declared.acts.ActFault.TheVariants as act_fault
use Rattle.dg_node.specs.declared.acts.Ordered.{Ordered}
use Rattle.dg_node.specs.declared.acts.Ordered.TheVariants as ordered
use Rattle.dg_node.specs.declared.acts.Injected.{Injected}
use Rattle.dg_node.specs.declared.acts.Injected.TheVariants as injected

-- ---- effects, at a node that is on or off

-- a mote that is on returns to maintaining after an act on its volume
abbrev pub acts_effect : Option MoteState → Trail Store → (now word : ℕ) → Effect
acts_effect o t now word = record { mote = option_map (λ m. maintains m now word) o; trail = t; started = None; sent = None }

abbrev pub order_effect : Option MoteState → Store → Order → (now word : ℕ) → Effect
order_effect o s order now word = acts_effect o (order_trail s order) now word

abbrev pub inject_effect : Option MoteState → Store → Row → (now word : ℕ) → Effect
inject_effect o s row now word = acts_effect o (inject_trail s row) now word

-- ---- how an act ends

-- the act was done
pub record ActKept {R : Type 0} (x : Change) (refusal : Option R) (e : Effect) (s : Store) (a b : Host) : Type 0 where
  pub allowed : refusal ≡ None
  pub went : EffectDone e None a b
  pub before : IsReportOf x.before s
  pub after : IsReportOf x.after (last e.trail)
  pub tells : SeesOrder x.orderly b.board.image

-- it was refused, and nothing has changed
pub record ActRefused {R : Type 0} (why : R) (orderly : Bool) (refusal : Option R) (a b : Host) : Type 0 where
  pub cause : refusal ≡ Some why
  pub looked : Looked a.board b.board
  pub same : b.runs ≡ a.runs
  pub tells : SeesOrder orderly b.board.image

-- a refused act only reads the chip
abbrev pub trail_unless : {R : Type 0} → Option R → Trail Store → Store → Trail Store
trail_unless None t s = t
trail_unless (Some why) t s = resting s 0

-- The chip stopped. If a fuse fired in the act, this is the report of the chip before the act.
pub record StoppedInAct {R : Type 0} (before : Option ChipReport) (refusal : Option R) (e : Effect) (s : Store)
    (old new : Device) : Type 0 where
  pub stops : Stops (trail_unless refusal e.trail s) old new
  pub told : old.blown ≡ false → new.blown ≡ true → IsSomeAnd before (λ x. IsReportOf x s)

abbrev pub ActFails : {R : Type 0} → ActFault → Option R → Effect → Store → (a b : Host) → Type 0
ActFails (act_fault.Stopped before) refusal e s a b = StoppedInAct before refusal e s a.board b.board
ActFails act_fault.NotAVolume refusal e s a b = ⊥

-- What an order with this effect did at a board that stood for s: the host was a and is b.
abbrev pub NodeOrdered : Result Ordered ActFault → Option OrderFault → Effect → Store → (a b : Host) → Type 0
NodeOrdered (Ok (ordered.Kept x)) refusal e s a b = ActKept x refusal e s a b
NodeOrdered (Ok (ordered.Refused why orderly)) refusal e s a b = ActRefused why orderly refusal a b
NodeOrdered (Err fault) refusal e s a b = ActFails fault refusal e s a b

abbrev pub NodeInjected : Result Injected ActFault → Option InjectFault → Effect → Store → (a b : Host) → Type 0
NodeInjected (Ok (injected.Kept x)) refusal e s a b = ActKept x refusal e s a b
NodeInjected (Ok (injected.Refused why orderly)) refusal e s a b = ActRefused why orderly refusal a b
NodeInjected (Err fault) refusal e s a b = ActFails fault refusal e s a b

-- what a refused injection read of a board if mounting it again reads n bytes
abbrev pub InjectTook : Result Injected ActFault → (n : ℕ) → (old new : Device) → Type 0
InjectTook (Ok (injected.Kept x)) n old new = Unit {0}
InjectTook (Ok (injected.Refused why orderly)) n old new = Took (n + bytes_looked_at why) old new
InjectTook (Err fault) n old new = Unit {0}

-- whether the chip is reported to be orderly
abbrev pub is_orderly_ordered : Ordered → Bool
is_orderly_ordered (ordered.Kept x) = x.orderly
is_orderly_ordered (ordered.Refused why orderly) = orderly

abbrev pub is_orderly_injected : Injected → Bool
is_orderly_injected (injected.Kept x) = x.orderly
is_orderly_injected (injected.Refused why orderly) = orderly

-- ---- by the faults of the crates below

abbrev pub mount_failed : MountFault → ActFault
mount_failed mount_fault.Stopped = act_fault.Stopped None
mount_failed mount_fault.NotAVolume = act_fault.NotAVolume
