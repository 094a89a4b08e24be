-- What injections and orders do at a board.
use Rattle.std.proofs.Common.{◌≡◌, ◌≢◌, ◌⊎◌, ⊎_elim, inl, inr, ℕ, ◌+◌, Bool, true, false, List, [], ◌∷◌, refl, ap, sym, ◌∙◌, subst, arith}
use Rattle.std.specs.Prelude.{Option, Some, None, option_map, Result, Ok, Err, IsErrAnd, IfOk}
use Rattle.std.proofs.lemmas.Bool.{both_ways}
use Rattle.dg_nor.specs.Device.{Device, Halts}
use Rattle.dg_nor.specs.Trail.{Stage, Trail, operations, last, LeavesFrom, Leaves, EachWorks, resting}
use Rattle.dg_nor.specs.Reads.{Looked, ReadStopped}
use Rattle.dg_nor.proofs.DeviceLemmas.{Halts_first, Ran-none}
use Rattle.dg_nor.proofs.ReadLemmas.{Looked_then}
use Rattle.dg_volume.specs.Store.{Store, IsNear}
use Rattle.dg_volume.specs.Stands.{Stands}
use Rattle.dg_volume.specs.Acts.{Acted, Stops}
use Rattle.dg_volume.specs.Changes.{UnlessOrderRefused, UnlessInjectRefused}
use Rattle.dg_volume.specs.Trails.{BeginsAt}
use Rattle.dg_volume.proofs.BeginLemmas.{begins_resting}
use Rattle.dg_volume.specs.declared.volume.Volume.{Volume}
use Rattle.dg_volume.specs.declared.volume.Injected.{Injected as VolumeInjected}
use Rattle.dg_volume.specs.declared.volume.InjectFault.{InjectFault}
use Rattle.dg_volume.specs.declared.volume.InjectFault.TheVariants as inject
use Rattle.dg_volume.specs.declared.volume.OrderFault.{OrderFault}
use Rattle.dg_volume.specs.declared.volume.OrderFault.TheVariants as order_fault
use Rattle.dg_volume.specs.declared.volume.MountFault.{MountFault}
use Rattle.dg_volume.specs.declared.volume.MountFault.TheVariants as mount_fault
use Rattle.dg_mote.specs.Model.{MoteState, maintains}
use Rattle.dg_mote.specs.Effects.{Effect}
use Rattle.dg_mote.specs.Motes.{IsMote}
use Rattle.dg_mote.specs.declared.mote.Mote.{Mote}
use Rattle.dg_node.specs.declared.node.Node.{Node}
use Rattle.dg_node.specs.declared.report.ChipReport.{ChipReport}
use Rattle.dg_node.specs.declared.acts.ActFault.{ActFault}
use Rattle.dg_node.specs.declared.acts.Change.{Change}
use Rattle.dg_node.specs.Hosts.{host}
use Rattle.dg_node.specs.Known.{MountDone, SeesOrder}
use Rattle.dg_node.specs.Nodes.{NodeStands, NodeRunning, running_mote, node_runs, node_image, node_mote}
use Rattle.dg_node.specs.Reports.{IsReportOf}
use Rattle.dg_node.specs.Acts.{acts_effect, ActKept, trail_unless, ActFails, NodeOrdered, NodeInjected, mount_failed, InjectTook, is_orderly_ordered, is_orderly_injected}
use Rattle.dg_node.specs.inner.Faults.{order_failed, inject_failed}
use Rattle.dg_nor.specs.Device.{Took}
use Rattle.dg_nor.proofs.TakenLemmas.{Took_then}
use Rattle.dg_object.specs.Object.{Row}
use Rattle.dg_slot.specs.Layout.{page_size}
use Rattle.dg_volume.specs.Changes.{inject_refusal}
use Rattle.dg_volume.specs.Trails.{inject_by, inject_trail}
use Rattle.dg_node.proofs.KnownLemmas.{took_within}
use Rattle.dg_node.proofs.NodeLemmas.{ran_after, stops_after}

-- ---- before the first operation

near_same : (s : Store) → IsNear s s
near_same s = record { same = refl; room = inl refl }

leaves_from : (s : Store) (stages : List (Stage Store)) → EachWorks stages → LeavesFrom IsNear s stages 0 s
unfolding LeavesFrom EachWorks
leaves_from s [] works = near_same s
leaves_from s (stage ∷ stages) works = inr (works.0, inl (near_same s))

leaves_start : (s : Store) (t : Trail Store) → BeginsAt s t → Leaves IsNear t 0 s
leaves_start s t b = subst (λ (x : Store). LeavesFrom IsNear x t.stages 0 s) (sym b.first) (leaves_from s t.stages b.works)

-- a read that stopped, as a stop of an act that begins there
read_stops : (s : Store) (t : Trail Store) (a b : Device) → BeginsAt s t → Stands a.image s → ReadStopped a b → Stops t a b
read_stops s t a b begins stands r =
    let e : 0 + operations t ≡ operations t = omega arith in
    record {
      done = 0;
      halts = subst (λ (n : ℕ). Halts n 0 a b) e (Halts_first (operations t) r.halts);
      leaves = record { store = s; stands_for = subst (λ (c : List ℕ). Stands c s) (sym r.same_image) stands; allowed = leaves_start s t begins };
    }

-- no fuse fires in a read
read_whole : (a b : Device) → ReadStopped a b → a.blown ≡ false → b.blown ≡ true → ⊥
read_whole a b r whole blown = ⊎_elim (λ was. both_ways a.blown whole was) (λ out. omega (arith, out.0)) (r.halts.fired blown)

begins_unless : {R : Type 0} (refusal : Option R) (t : Trail Store) (s : Store) → BeginsAt s t → BeginsAt s (trail_unless refusal t s)
begins_unless None t s begins = begins
begins_unless (Some why) t s begins = begins_resting s 0

pub mount_fails : {R : Type 0} (f : MountFault) (refusal : Option R) (e : Effect) (s : Store) (v u : Option Node) (a b : Device) → BeginsAt s e.trail → Stands a.image s → MountDone (Err f) a b → ActFails (mount_failed f) refusal e s (host a v) (host b u)
mount_fails mount_fault.Stopped refusal e s v u a b begins stands r =
    record { stops = read_stops s (trail_unless refusal e.trail s) a b (begins_unless refusal e.trail s begins) stands r; told = λ whole blown. absurd (read_whole a b r whole blown) }
mount_fails mount_fault.NotAVolume refusal e s v u a b begins stands r = r.0 s stands

-- what holds of the fault that is passed on holds of the answer
pub handed : {T : Type 0} (P : Result T ActFault → Type 0) (r : Result T ActFault) (f : ActFault) → IsErrAnd r (λ e. e ≡ f) → P (Err f) → P r
handed P (Ok x) f is p = absurd is
handed P (Err e) f is p = subst (λ (x : ActFault). P (Err x)) (sym is) p

-- ---- the node continues

pub reloads : (p : Option Node) (v : Node) (q : Option Node) (u : Mote) (c d : List ℕ) (s t : Store) (r : Option NodeRunning) (now word : ℕ) → p ≡ Some v → q ≡ Some (record v { mote = u }) → ((m : MoteState) → IsMote c (node_mote v) m s → IsMote d u (maintains m now word) t) → NodeStands c p s r
    → NodeStands d q t (node_runs (option_map (λ m. maintains m now word) (running_mote r)) None (option_map node_image p))
reloads None v q u c d s t r now word is to goes stands = cc
reloads (Some w) v None u c d s t r now word is to goes stands = cc
reloads (Some w) v (Some x) u c d s t None now word is to goes stands = absurd stands
reloads (Some w) v (Some x) u c d s t (Some r) now word is to goes stands =
    let same : w ≡ v = cc in
    let new : x ≡ record v { mote = u } = cc in (
      ap (λ (n : Node). n.image_version) new ∙ ap (λ (n : Node). n.image_version) (sym same),
      subst (λ (n : Node). IsMote d n.mote (maintains r.mote now word) t) (sym new) (goes r.mote (subst (λ (n : Node). IsMote c n.mote r.mote s) same stands.1)),
    )

-- ---- acts that were done, and acts that were not

pub act_kept : {R : Type 0} (x : Change) (refusal : Option R) (o : Option MoteState) (t : Trail Store) (now word : ℕ) (s : Store) (v : Volume) (p u : Option Node) (a m b : Device) → refusal ≡ None → Looked a m → Acted t m b v → IsReportOf x.before s → IsReportOf x.after (last t) → SeesOrder x.orderly b.image
    → NodeStands b.image u (last t) (node_runs (option_map (λ y. maintains y now word) o) None (option_map node_image p)) → ActKept x refusal (acts_effect o t now word) s (host a p) (host b u)
act_kept x refusal o t now word s v p u a m b none looked acted before after tells stands = record {
  allowed = none;
  went = record { ran = ran_after (operations t) a m b looked.ran acted.ran; stands = acted.mounted.stands; runs = stands; sent = refl; read = tt; memory = tt };
  before = before;
  after = after;
  tells = tells;
}

same_device : (a b : Device) → b ≡ a → Looked a b
same_device a b e = subst (λ (d : Device). Looked a d) (sym e) (record { same_image = refl; ran = Ran-none a })

stops_unless : {R : Type 0} (refusal : Option R) (t : Trail Store) (s : Store) (a b : Device) → refusal ≡ None → Stops t a b → Stops (trail_unless refusal t s) a b
stops_unless refusal t s a b none stops = subst (λ o. Stops (trail_unless o t s) a b) (sym none) stops

took_same_device : (n : ℕ) (a m b : Device) → Took n a m → b ≡ m → Took (n + 0) a b
took_same_device n a m b took same = took_within n (n + 0) a b (omega arith) (subst (λ (d : Device). Took n a d) (sym same) took)

module _ (before : ChipReport) (orderly : Bool) (e : Effect) (s : Store) (v : Option Node) (a m b : Device) where
  pub order_fails : (f : OrderFault) (refusal : Option OrderFault) → UnlessOrderRefused {T = Unit {0}} (Err f) refusal → (f ≢ order_fault.Stopped → refusal ≡ Some f) → Looked a m → (f ≢ order_fault.Stopped → b ≡ m) → (f ≡ order_fault.Stopped → Stops e.trail m b) → IsReportOf before s
      → (f ≢ order_fault.Stopped → SeesOrder orderly b.image) → NodeOrdered (order_failed f before orderly) refusal e s (host a v) (host b v)
  order_fails order_fault.Stopped refusal none some looked same stops report tells =
      record { stops = stops_unless refusal e.trail s a b none (stops_after e.trail a m b looked.ran (stops refl)); told = λ whole blown. report }
  order_fails (order_fault.Worn room) refusal none some looked same stops report tells =
      record { cause = some (λ h. cc); looked = Looked_then looked (same_device m b (same (λ h. cc))); same = refl; tells = tells (λ h. cc) }
  order_fails (order_fault.OldOrder kept) refusal none some looked same stops report tells =
      record { cause = some (λ h. cc); looked = Looked_then looked (same_device m b (same (λ h. cc))); same = refl; tells = tells (λ h. cc) }

  pub inject_fails : (f : InjectFault) (refusal : Option InjectFault) → UnlessInjectRefused {T = VolumeInjected} (Err f) refusal → (f ≢ inject.Stopped → refusal ≡ Some f) → (refusal ≡ Some inject.Taken → e.trail ≡ resting s 0) → Looked a m
      → (f ≢ inject.Stopped → f ≢ inject.Taken → b ≡ m) → (f ≡ inject.Taken → Looked m b) → (f ≡ inject.Stopped → Stops e.trail m b) → IsReportOf before s → (f ≢ inject.Stopped → SeesOrder orderly b.image)
      → NodeInjected (inject_failed f before orderly) refusal e s (host a v) (host b v)
  inject_fails inject.Stopped refusal none some rests looked same taken stops report tells =
      let all = stops_after e.trail a m b looked.ran (stops refl) in
      record {
        stops = ⊎_elim (λ is. stops_unless refusal e.trail s a b is all)
            (λ is. subst (λ o. Stops (trail_unless o e.trail s) a b) (sym is) (subst (λ (t : Trail Store). Stops t a b) (rests is) all)) none;
        told = λ whole blown. report;
      }
  inject_fails inject.Empty refusal none some rests looked same taken stops report tells =
      record { cause = some (λ h. cc); looked = Looked_then looked (same_device m b (same (λ h. cc) (λ h. cc))); same = refl; tells = tells (λ h. cc) }
  inject_fails inject.TooLarge refusal none some rests looked same taken stops report tells =
      record { cause = some (λ h. cc); looked = Looked_then looked (same_device m b (same (λ h. cc) (λ h. cc))); same = refl; tells = tells (λ h. cc) }
  inject_fails (inject.Stale kept) refusal none some rests looked same taken stops report tells =
      record { cause = some (λ h. cc); looked = Looked_then looked (same_device m b (same (λ h. cc) (λ h. cc))); same = refl; tells = tells (λ h. cc) }
  inject_fails inject.Reserved refusal none some rests looked same taken stops report tells =
      record { cause = some (λ h. cc); looked = Looked_then looked (same_device m b (same (λ h. cc) (λ h. cc))); same = refl; tells = tells (λ h. cc) }
  inject_fails (inject.Worn room) refusal none some rests looked same taken stops report tells =
      record { cause = some (λ h. cc); looked = Looked_then looked (same_device m b (same (λ h. cc) (λ h. cc))); same = refl; tells = tells (λ h. cc) }
  inject_fails inject.Taken refusal none some rests looked same taken stops report tells =
      record { cause = some (λ h. cc); looked = Looked_then looked (taken refl); same = refl; tells = tells (λ h. cc) }

-- what it read
module _ (before : ChipReport) (orderly : Bool) (a m b : Device) where
  pub inject_took : (f : InjectFault) (n : ℕ) → Took n a m → (f ≢ inject.Stopped → f ≢ inject.Taken → b ≡ m) → (f ≡ inject.Taken → Took page_size m b) → InjectTook (inject_failed f before orderly) n a b
  inject_took inject.Stopped n took same page = tt
  inject_took inject.Empty n took same page = took_same_device n a m b took (same (λ h. cc) (λ h. cc))
  inject_took inject.TooLarge n took same page = took_same_device n a m b took (same (λ h. cc) (λ h. cc))
  inject_took (inject.Stale kept) n took same page = took_same_device n a m b took (same (λ h. cc) (λ h. cc))
  inject_took inject.Reserved n took same page = took_same_device n a m b took (same (λ h. cc) (λ h. cc))
  inject_took (inject.Worn room) n took same page = took_same_device n a m b took (same (λ h. cc) (λ h. cc))
  inject_took inject.Taken n took same page = Took_then {b = m} took (page refl)

-- a refused injection has no trail
pub refused_trail : (s : Store) (row : Row) (f : InjectFault) → inject_refusal s row ≡ Some f → inject_trail s row ≡ resting s 0
unfolding inject_trail
refused_trail s row f is = ap (λ (x : Option InjectFault). inject_by x s row) is

is_taken : (e : InjectFault) → (e ≡ inject.Taken) ⊎ (e ≢ inject.Taken)
is_taken inject.Taken = inl refl
is_taken inject.Empty = inr (λ h. cc)
is_taken inject.TooLarge = inr (λ h. cc)
is_taken (inject.Stale kept) = inr (λ h. cc)
is_taken inject.Reserved = inr (λ h. cc)
is_taken (inject.Worn room) = inr (λ h. cc)
is_taken inject.Stopped = inr (λ h. cc)

-- a refused injection changed nothing, and at most read
pub inject_same : (e : InjectFault) (v u : Volume) (a b : Device) → (e ≢ inject.Taken → (b ≡ a) × (u ≡ v)) → (e ≡ inject.Taken → Looked a b × (u ≡ v)) → (b.image ≡ a.image) × (u ≡ v)
inject_same e v u a b same taken = ⊎_elim
    (λ is. let x = taken is in (x.0.same_image, x.1))
    (λ other. let x = same other in (ap (λ (d : Device). d.image) x.0, x.1))
    (is_taken e)

-- ---- whether it reports the chip as orderly

pub order_sees : (before : ChipReport) (orderly : Bool) (c : List ℕ) (f : OrderFault) → (f ≢ order_fault.Stopped → SeesOrder orderly c) → IfOk (order_failed f before orderly) (λ x. SeesOrder (is_orderly_ordered x) c)
order_sees before orderly c order_fault.Stopped tells = tt
order_sees before orderly c (order_fault.Worn room) tells = tells (λ h. cc)
order_sees before orderly c (order_fault.OldOrder kept) tells = tells (λ h. cc)

pub inject_sees : (before : ChipReport) (orderly : Bool) (c : List ℕ) (f : InjectFault) → (f ≢ inject.Stopped → SeesOrder orderly c) → IfOk (inject_failed f before orderly) (λ x. SeesOrder (is_orderly_injected x) c)
inject_sees before orderly c inject.Stopped tells = tt
inject_sees before orderly c inject.Empty tells = tells (λ h. cc)
inject_sees before orderly c inject.TooLarge tells = tells (λ h. cc)
inject_sees before orderly c (inject.Stale kept) tells = tells (λ h. cc)
inject_sees before orderly c inject.Reserved tells = tells (λ h. cc)
inject_sees before orderly c (inject.Worn room) tells = tells (λ h. cc)
inject_sees before orderly c inject.Taken tells = tells (λ h. cc)
