-- What is read of a board that is mounted again.
use Rattle.std.proofs.Common.{◌≡◌, ◌≢◌, ◌⊎◌, ⊎_elim, inl, inr, ℕ, ◌+◌, ◌≤◌, Bool, true, List, refl, sym, subst, arith}
use Rattle.std.specs.Prelude.{Result, Ok, Err, IfOk, OnOk, IsErrOf}
use Rattle.dg_nor.specs.Device.{Device, Took}
use Rattle.dg_nor.specs.Reads.{Looked, ReadStopped}
use Rattle.dg_nor.proofs.TakenLemmas.{Took-more, Took-same, Took_then}
use Rattle.dg_control.specs.Sizes.{place_size}
use Rattle.dg_control.specs.Store.{IsOrderlyChip}
use Rattle.dg_control.specs.Mounted.{IsControlOf}
use Rattle.dg_volume.specs.Remount.{RemountBytes}
use Rattle.dg_volume.specs.Store.{Store}
use Rattle.dg_volume.specs.Stands.{Stands, IsVolume, IsNoVolume, Mounted, IsMounted, NothingLent, control_of}
use Rattle.dg_volume.specs.declared.volume.Volume.{Volume}
use Rattle.dg_volume.specs.declared.volume.OrderFault.{OrderFault}
use Rattle.dg_volume.specs.declared.volume.OrderFault.TheVariants as order_fault
use Rattle.dg_volume.specs.declared.volume.MountFault.{MountFault}
use Rattle.dg_volume.specs.declared.volume.MountFault.TheVariants as mount_fault
use Rattle.dg_node.specs.Known.{IsKnownChip, SeesOrder, MountDone, OrderReads}

-- ---- mounting

pub mount_done : (r : Result Volume MountFault) (a b : Device) → IfOk r (λ v. (s : Store) → Stands a.image s → Mounted a.image v s) → IfOk r (λ v. IsMounted a.image v) → IfOk r NothingLent → OnOk r (Looked a b) → b.image ≡ a.image
    → (IsErrOf r mount_fault.NotAVolume → IsNoVolume a.image) → (IsErrOf r mount_fault.NotAVolume → Looked a b) → (IsErrOf r mount_fault.Stopped → ReadStopped a b) → MountDone r a b
mount_done (Ok v) a b mounted volume free looked same none only stopped = record {
  mounted = λ s stands. subst (λ (c : List ℕ). Mounted c v s) (sym same) (mounted s stands);
  volume = subst (λ (c : List ℕ). IsMounted c v) (sym same) volume;
  free = free;
  looked = looked;
}
mount_done (Err mount_fault.Stopped) a b mounted volume free looked same none only stopped = stopped refl
mount_done (Err mount_fault.NotAVolume) a b mounted volume free looked same none only stopped = (none refl, only refl)

-- ---- what was read

pub took_within : (n k : ℕ) (a b : Device) → n ≤ k → Took n a b → Took k a b
took_within n k a b l h = Took-more l h

took_only : {n : ℕ} {a m b : Device} → Took n a m → b.taken ≡ m.taken → Took n a b
took_only {n} {a} {m} {b} took same = took_within (n + 0) n a b (omega arith) (Took_then {b = m} took (Took-same 0 same))

pub order_reads : (known : Bool) (a m b : Device) → (known ≡ true → (n : ℕ) → RemountBytes a.image n → Took n a m) → m.image ≡ a.image → b.taken ≡ m.taken → IsVolume b.image → (IsOrderlyChip m.image → IsOrderlyChip b.image)
    → ((p q : ℕ) → RemountBytes m.image p → RemountBytes b.image q → q ≤ p + place_size) → OrderReads known a b
order_reads known a m b took image taken volume orderly bytes = record {
  took = λ is n remount. took_only (took is n remount) taken;
  stays = λ is. record { volume = volume; orderly = orderly (subst (λ (c : List ℕ). IsOrderlyChip c) (sym image) is.orderly) };
  bytes = λ p q here after. bytes p q (subst (λ (c : List ℕ). RemountBytes c p) (sym image) here) after;
}

-- a board that was only mounted
pub mount_reads : (known : Bool) (a m : Device) → ((c : List ℕ) (p q : ℕ) → RemountBytes c p → RemountBytes c q → p ≡ q) → (known ≡ true → (n : ℕ) → RemountBytes a.image n → Took n a m) → m.image ≡ a.image → OrderReads known a m
mount_reads known a m one took image = record {
  took = took;
  stays = λ is. subst (λ (c : List ℕ). IsKnownChip c) (sym image) is;
  bytes = λ p q here after. let e : p ≡ q = one a.image p q here (subst (λ (c : List ℕ). RemountBytes c q) image after) in omega (arith, e);
}

order_is_stopped : (e : OrderFault) → (e ≡ order_fault.Stopped) ⊎ (e ≢ order_fault.Stopped)
order_is_stopped order_fault.Stopped = inl refl
order_is_stopped (order_fault.Worn room) = inr (λ h. cc)
order_is_stopped (order_fault.OldOrder kept) = inr (λ h. cc)

-- an order that was not kept leaves a volume
pub order_volume : (e : OrderFault) (m b : Device) → IsVolume m.image → (e ≡ order_fault.Stopped → IsVolume b.image) → (e ≢ order_fault.Stopped → b ≡ m) → IsVolume b.image
order_volume e m b volume stopped same = ⊎_elim stopped (λ other. subst (λ (d : Device). IsVolume d.image) (sym (same other)) volume) (order_is_stopped e)

pub same_order : (o : Bool) (v u : Volume) (a b : Device) → (b.image ≡ a.image) × (u ≡ v) → IsControlOf a.image (control_of v) → ((c : List ℕ) → IsControlOf c (control_of u) → SeesOrder o c) → SeesOrder o b.image
same_order o v u a b same is tells =
    tells b.image (subst (λ (c : List ℕ). IsControlOf c (control_of u)) (sym same.0) (subst (λ (x : Volume). IsControlOf a.image (control_of x)) (sym same.1) is))
