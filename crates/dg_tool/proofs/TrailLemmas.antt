-- Verbs that make a trail of the board's store.
use Rattle.std.proofs.Common.{◌≡◌, ◌≢◌, ℕ, ◌<◌, List, length, map, get_or, set, Option, Some, None, Ok, Err, refl, sym, subst}
use Rattle.dg_nor.specs.Device.{Device}
use Rattle.dg_nor.specs.Reads.{Looked, ReadStopped}
use Rattle.dg_nor.specs.Trail.{Trail}
use Rattle.dg_control.specs.declared.snapshot.Order.{Order}
use Rattle.dg_volume.specs.Store.{Store}
use Rattle.dg_volume.specs.Stands.{Stands, IsVolume, IsNoVolume, Mounted, IsMounted}
use Rattle.dg_volume.specs.Acts.{Acted, Stops}
use Rattle.dg_volume.specs.Changes.{order_refusal, UnlessOrderRefused}
use Rattle.dg_volume.specs.Trails.{order_trail, BeginsAt}
use Rattle.dg_volume.specs.declared.volume.Volume.{Volume}
use Rattle.dg_volume.specs.declared.volume.MountFault.{MountFault}
use Rattle.dg_volume.specs.declared.volume.MountFault.TheVariants as mount
use Rattle.dg_volume.specs.declared.volume.OrderFault.{OrderFault}
use Rattle.dg_volume.specs.declared.volume.OrderFault.TheVariants as order_fault
use Rattle.dg_nor.proofs.ReadLemmas.{Looked-none}
use Rattle.dg_boot.proofs.ReadLemmas.{ran_after}
use Rattle.dg_boot.proofs.BootLemmas.{read_stops, stops_looked}
use Rattle.dg_end.specs.Lines.{Outcome}
use Rattle.dg_end.specs.Conversions.{end_of_mount, end_of_order}
use Rattle.dg_end.specs.declared.ends.End.TheVariants as ends
use Rattle.dg_end.specs.declared.refusal.Refusal.TheVariants as refusals
use Rattle.dg_tool.specs.Endings.{VerbEnding, by_store, StandsAs, FirstAs}
use Rattle.dg_tool.specs.Verbs.{order_by}
use Rattle.dg_tool.specs.inner.OnChip.{order_text}
use Rattle.dg_tool.specs.Done.{verb_rule, Completed, VerbStopsOn, NeedsBoard, OnBoards}
use Rattle.dg_tool.specs.inner.OnChip.{CompletedOn}
use Rattle.dg_tool.specs.inner.OneBoard.{OnStore}
use Rattle.dg_tool.proofs.OutcomeLemmas.{on_volume, unmounted, made_store, memory_store, refused_store, stopped_store, looked_store, halts_stopped}
use Rattle.dg_tool.proofs.BoardLemmas.{on_first}

pub looked_same : (a b : Device) → b ≡ a → Looked a b
looked_same a b e = subst (λ (x : Device). Looked a x) (sym e) (Looked-none a)

pub went : (t : Trail Store) (a b : Device) (v : Volume) → Acted t a b v → Completed t a b
went t a b v h = record { ran = h.ran; stands = h.mounted.stands }

pub went_looked : (t : Trail Store) (a m b : Device) → Looked a m → Completed t m b → Completed t a b
went_looked t a m b looked h = record { ran = ran_after looked.ran h.ran; stands = h.stands }

-- a board that is not mounted, and was to complete a trail
pub stops_before : (trail : Store → Trail Store) (a b : Device) → ((s : Store) → BeginsAt s (trail s)) → (chip : Option Store) → StandsAs a.image chip → ReadStopped a b → VerbStopsOn trail chip a b
stops_before trail a b begins None none h = h
stops_before trail a b begins (Some s) stands h = read_stops s (trail s) a b (begins s) stands h

-- a board that was mounted was a volume
pub volume_of : (c : List ℕ) (v : Volume) → IsMounted c v → IsVolume c
volume_of c v h = (h.0, h.1.stands)

-- ---- the first of the boards

module _ {N : Type 0} (f : N → Device) (items : List N) (x y : N) (failed : Type 0) (by : Store → VerbEnding) (acted halted : Option Store → Device → Device → Type 0) (some : 0 < length items) (needs : (s : Store) → NeedsBoard (by s)) where
  abbrev pub was : Device
  was = f (get_or items 0 x)

  abbrev pub FirstComes : Outcome → Type 0
  FirstComes outcome = OnBoards outcome (verb_rule (FirstAs (map f items)) (λ chip. by_store chip by) acted halted) failed (map f items) (map f (set items 0 y))

  -- it was mounted, and then acted on
  pub acted_first : (outcome : Outcome) (m : Device) (v : Volume) → Looked was m → m.image ≡ was.image → IsMounted was.image v → ((s : Store) → Stands was.image s → Mounted was.image v s)
      → ((s : Store) → acted (Some s) m (f y) → acted (Some s) was (f y)) → ((s : Store) → halted (Some s) m (f y) → halted (Some s) was (f y)) → ((s : Store) → Mounted m.image v s → OnStore outcome (by s) (acted (Some s)) (halted (Some s)) m (f y)) → FirstComes outcome
  acted_first outcome m v looked same volume mounted g h did =
      on_first failed f items x y outcome (λ chip. by_store chip by) acted halted some
      (on_volume by acted halted was (f y) outcome
      (λ s stands. looked_store outcome (by s) (acted (Some s)) (acted (Some s)) (halted (Some s)) (halted (Some s)) was m (f y) (needs s) looked (g s) (h s) (did s (subst (λ (c : List ℕ). Mounted c v s) (sym same) (mounted s stands))))
      (volume_of was.image v volume))

  -- it was not mounted
  pub unmounted_first : (fault : MountFault) → ((chip : Option Store) → StandsAs was.image chip → ReadStopped was (f y) → halted chip was (f y)) → (fault ≡ mount.Stopped → ReadStopped was (f y)) → (fault ≡ mount.NotAVolume → IsNoVolume was.image) → (fault ≡ mount.NotAVolume → Looked was (f y)) → FirstComes (Err (end_of_mount fault))
  unmounted_first fault held stopped none looked =
      on_first failed f items x y (Err (end_of_mount fault)) (λ chip. by_store chip by) acted halted some (unmounted by acted halted was (f y) fault needs held stopped none looked)

-- the same of an act that makes a trail
module _ {N : Type 0} (f : N → Device) (items : List N) (x y : N) (failed : Type 0) (by : Store → VerbEnding) (trail : Store → Trail Store) (some : 0 < length items) (needs : (s : Store) → NeedsBoard (by s)) where
  pub trail_first : (outcome : Outcome) (m : Device) (v : Volume) → Looked (f (get_or items 0 x)) m → m.image ≡ (f (get_or items 0 x)).image → IsMounted (f (get_or items 0 x)).image v → ((s : Store) → Stands (f (get_or items 0 x)).image s → Mounted (f (get_or items 0 x)).image v s)
      → ((s : Store) → Mounted m.image v s → OnStore outcome (by s) (Completed (trail s)) (Stops (trail s)) m (f y)) → FirstComes f items x y failed by (CompletedOn trail) (VerbStopsOn trail) some needs outcome
  trail_first outcome m v looked same volume mounted did =
      acted_first f items x y failed by (CompletedOn trail) (VerbStopsOn trail) some needs outcome m v looked same volume mounted (λ s. went_looked (trail s) (f (get_or items 0 x)) m (f y) looked) (λ s. stops_looked (trail s) (f (get_or items 0 x)) m (f y) looked) did

  pub trail_unmounted : ((s : Store) → BeginsAt s (trail s)) → (fault : MountFault) → (fault ≡ mount.Stopped → ReadStopped (f (get_or items 0 x)) (f y)) → (fault ≡ mount.NotAVolume → IsNoVolume (f (get_or items 0 x)).image) → (fault ≡ mount.NotAVolume → Looked (f (get_or items 0 x)) (f y))
      → FirstComes f items x y failed by (CompletedOn trail) (VerbStopsOn trail) some needs (Err (end_of_mount fault))
  trail_unmounted begins fault stopped none looked = unmounted_first f items x y failed by (CompletedOn trail) (VerbStopsOn trail) some needs fault (stops_before trail (f (get_or items 0 x)) (f y) begins) stopped none looked

-- ---- order

pub order_needs : (o : Order) (refusal : Option OrderFault) → NeedsBoard (order_by o refusal)
order_needs o None = tt
order_needs o (Some fault) = tt

module _ (s : Store) (o : Order) (a b : Device) where
  abbrev pub OrderDone : Outcome → Type 0
  OrderDone outcome = OnStore outcome (order_by o (order_refusal s o)) (Completed (order_trail s o)) (Stops (order_trail s o)) a b

  by_refusal : (outcome : Outcome) (refusal : Option OrderFault) → order_refusal s o ≡ refusal → OnStore outcome (order_by o refusal) (Completed (order_trail s o)) (Stops (order_trail s o)) a b → OrderDone outcome
  by_refusal outcome refusal e h = subst (λ (x : Option OrderFault). OnStore outcome (order_by o x) (Completed (order_trail s o)) (Stops (order_trail s o)) a b) (sym e) h

  pub order_kept : (v : Volume) (text : List ℕ) → order_refusal s o ≡ None → text ≡ order_text o → Acted (order_trail s o) a b v → OrderDone (Ok text)
  order_kept v text none is acted = by_refusal (Ok text) None none (made_store (Completed (order_trail s o)) (Stops (order_trail s o)) a b text (order_text o) is (went (order_trail s o) a b v acted))

  pub order_wants : (v : Volume) → order_refusal s o ≡ None → Acted (order_trail s o) a b v → OrderDone (Err ends.Memory)
  order_wants v none acted = by_refusal (Err ends.Memory) None none (memory_store (Completed (order_trail s o)) (Stops (order_trail s o)) a b (order_by o None) (went (order_trail s o) a b v acted))

  -- it was refused, or stopped
  pub order_fails : (U : Type 0) (fault : OrderFault) → UnlessOrderRefused {T = U} (Err fault) (order_refusal s o) → (fault ≢ order_fault.Stopped → order_refusal s o ≡ Some fault) → (fault ≢ order_fault.Stopped → b ≡ a) → (fault ≡ order_fault.Stopped → Stops (order_trail s o) a b)
      → OrderDone (Err (end_of_order fault))
  order_fails U order_fault.Stopped allowed refused same stopped = by_refusal (Err ends.FlashFault) None allowed (stopped_store (Completed (order_trail s o)) (Stops (order_trail s o)) a b (order_by o None) tt (stopped refl) (halts_stopped (stopped refl).halts))
  order_fails U (order_fault.Worn room) allowed refused same stopped = by_refusal (Err (ends.Refused (refusals.Worn room))) (Some (order_fault.Worn room)) (refused (λ e. cc)) (refused_store (Completed (order_trail s o)) (Stops (order_trail s o)) a b (refusals.Worn room) (looked_same a b (same (λ e. cc))))
  order_fails U (order_fault.OldOrder kept) allowed refused same stopped = by_refusal (Err (ends.Refused (refusals.OldOrder kept))) (Some (order_fault.OldOrder kept)) (refused (λ e. cc)) (refused_store (Completed (order_trail s o)) (Stops (order_trail s o)) a b (refusals.OldOrder kept) (looked_same a b (same (λ e. cc))))
