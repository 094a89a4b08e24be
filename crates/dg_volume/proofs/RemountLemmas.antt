-- A volume that is mounted again, and how many bytes that reads.
use Rattle.std.proofs.Common.{◌≡◌, ⊎_elim, ℕ, zero, suc, ◌+◌, ◌-◌, ◌*◌, ◌<◌, ◌≤◌, Bool, false, List, take, length, get_or, Option, Some, None, IsSomeAnd, refl, sym, ap, subst, ◌∙◌, arith}
use Rattle.std.specs.List.{sum_by}
use Rattle.std.proofs.lemmas.List.Sums.{sum_by-take-le, sum_by_more, sum_by_more_le}
use Rattle.dg_nor.specs.Device.{Device, Took}
use Rattle.dg_nor.proofs.TakenLemmas.{Took_then, Took-more}
use Rattle.dg_control.specs.Sizes.{places, place_size}
use Rattle.dg_control.specs.Store.{ControlStore, Controls, current, HasTorn, IsOrderlyChip, StaysOrderly, remount_most, commit_operations, committed, commit_trail, MayCommit}
use Rattle.dg_control.specs.Store.{IsNearControl}
use Rattle.dg_control.specs.Mounted.{control_snapshot, control_room, control_store, IsControlOf}
use Rattle.dg_control.specs.declared.control.Control.{Control}
use Rattle.dg_control.proofs.RemountLemmas.{orderly_again, one_mounted, torn_here}
use Rattle.dg_control.proofs.TornLemmas.{one_torn}
use Rattle.dg_control.proofs.PlacesLemmas.{told_of, blank_is_not_committed}
use Rattle.dg_control.specs.Places.{place_in, IsCommitted}
use Rattle.dg_control.specs.Snapshot.{place_of}
use Rattle.dg_control.specs.declared.spelled.Spelled.{Spelled}
use Rattle.dg_nor.specs.Chip.{sector}
use Rattle.std.proofs.lemmas.Bool.{cases_lt}
use Rattle.dg_nor.specs.Trail.{operations}
use Rattle.dg_nor.proofs.TrailLemmas.{operations-stepping, Leaves-stepping}
use Rattle.dg_slot.specs.Kept.{Held}
use Rattle.dg_volume.specs.Sizes.{images, golden_version}
use Rattle.dg_volume.specs.Store.{Store, held}
use Rattle.dg_volume.specs.Told.{Says, told, slot_told}
use Rattle.dg_volume.specs.Stands.{Stands, IsVolume, kept_at, Mounted, IsMounted}
use Rattle.dg_volume.specs.Reading.{SlotKeeps}
use Rattle.dg_volume.specs.declared.volume.Volume.{Volume}
use Rattle.dg_volume.proofs.CommitLemmas.{controls_of}
use Rattle.dg_volume.proofs.StoreLemmas.{slot_of, one_held, one_store}
use Rattle.dg_control.specs.declared.snapshot.SlotState.{SlotState}
use Rattle.dg_control.specs.declared.snapshot.SlotState.TheVariants.{Dirty}
use Rattle.dg_control.specs.declared.snapshot.Snapshot.{Snapshot}
use Rattle.dg_control.proofs.CommitLemmas.{one_control}
use Rattle.dg_volume.specs.Remount.{header_most, live, slots_live, RemountBytes}

-- ---- the slots that are read one after the other

pub took_slot : (slots : List SlotState) (i : ℕ) → i < length slots → {a b c : Device} → Took (header_most * sum_by live (take i slots)) a b → Took (header_most * live (get_or slots i Dirty)) b c → Took (header_most * sum_by live (take (i + 1) slots)) a c
took_slot slots i within before here =
    let more = sum_by_more live slots i Dirty within in
    Took-more (omega (arith, more)) (Took_then before here)

pub took_stopped : (slots : List SlotState) (i : ℕ) → i < length slots → {a b c : Device} → Took (header_most * sum_by live (take i slots)) a b → Took (header_most * live (get_or slots i Dirty)) b c → Took (header_most * sum_by live slots) a c
took_stopped slots i within before here =
    let more = sum_by_more_le live slots i Dirty within in
    Took-more (omega (arith, more)) (Took_then before here)

pub took_slots : (slots : List SlotState) (i : ℕ) → {a b : Device} → Took (header_most * sum_by live (take i slots)) a b → Took (header_most * sum_by live slots) a b
took_slots slots i before =
    let part = sum_by-take-le live slots i in
    Took-more (omega (arith, part)) before

-- the first slot was read by a device that was not stopped
pub awake_after : (slots : List SlotState) (i : ℕ) (before now : Bool) → (0 < i → 1 ≤ live (get_or slots 0 Dirty) → before ≡ false) → now ≡ before → (1 ≤ live (get_or slots i Dirty) → now ≡ false) → 1 ≤ live (get_or slots 0 Dirty) → before ≡ false
awake_after slots zero before now was same here golden = sym same ∙ here golden
awake_after slots (suc i) before now was same here golden = was (omega arith) golden

-- ---- the volume that was mounted again

pub remounted : (c d : List ℕ) (v : Volume) (r : Snapshot) (s : Store) → Stands c s → IsControlOf c v.control → r ≡ control_snapshot v.control → d ≡ c
    → ((i : ℕ) → i < images → (h : Option Held) × SlotKeeps d i (get_or r.slots i Dirty) h × (kept_at v i ≡ told h)) → Mounted c v s
remounted c d v r s stands control now same found =
    let p = control_snapshot v.control in
    let room = control_room v.control in
    let controls = controls_of c v.control control in
    let one = one_control c stands.snapshot p s.room room stands.controls controls in
    record {
      control = control;
      stands = stands;
      tells = record {
        says = subst (λ (x : Snapshot). Says x s) one.0 stands.says;
        room = sym one.1;
        kept = λ i known free.
            let x = found i known in
            let here : SlotKeeps c i (get_or p.slots i Dirty) x.0 = subst (λ (q : Snapshot). SlotKeeps c i (get_or q.slots i Dirty) x.0) now (subst (λ (y : List ℕ). SlotKeeps y i (get_or r.slots i Dirty) x.0) same x.1) in
            x.2 ∙ ap told (one_held c i (get_or p.slots i Dirty) x.0 (held s i) here (slot_of c s p room controls stands i known));
      };
    }

-- two volumes that were mounted from one chip
pub same_control : (c : List ℕ) (v w : Volume) → IsMounted c v → IsMounted c w → v.control ≡ w.control
same_control c v w p q = one_mounted c v.control w.control p.1.control q.1.control

pub same_kept : (c : List ℕ) (v w : Volume) → IsMounted c v → IsMounted c w → (i : ℕ) → i < images → kept_at v i ≡ kept_at w i
same_kept c v w p q i known = p.1.tells.kept i known (λ x. x) ∙ ap (λ (s : Store). told (held s i)) (one_store c p.0 q.0 p.1.stands q.1.stands) ∙ sym (q.1.tells.kept i known (λ x. x))

-- each slot keeps what the snapshot says of it
pub keeps_again : (c d : List ℕ) (v : Control) (r : Snapshot) (s : Store) → Stands c s → IsControlOf c v → r ≡ control_snapshot v → d ≡ c → (i : ℕ) → i < images → SlotKeeps d i (get_or r.slots i Dirty) (held s i)
keeps_again c d v r s stands control now same i known =
    subst (λ (y : List ℕ). SlotKeeps y i (get_or r.slots i Dirty) (held s i)) (sym same)
    (subst (λ (q : Snapshot). SlotKeeps c i (get_or q.slots i Dirty) (held s i)) (sym now) (slot_of c s (control_snapshot v) (control_room v) (controls_of c v control) stands i known))

-- golden is Live
some_live : (x : SlotState) (h : Option Held) → x ≡ slot_told h → IsSomeAnd h (λ k. (k.version ≡ golden_version) × (length k.complete ≡ k.pages)) → 1 ≤ live x
some_live x None told golden = absurd golden
some_live x (Some k) told golden = let one = ap live told in omega (arith, one)

pub golden_live : (c d : List ℕ) (v : Control) (r : Snapshot) (s : Store) → Stands c s → IsControlOf c v → r ≡ control_snapshot v → d ≡ c → 1 ≤ live (get_or r.slots 0 Dirty)
golden_live c d v r s stands control now same = some_live (get_or r.slots 0 Dirty) (held s 0) (keeps_again c d v r s stands control now same 0 (omega arith)).state stands.contains.golden.whole

pub took_all : (c : List ℕ) (v : Control) (r : Snapshot) (n : ℕ) {a b d : Device} → IsControlOf c v → r ≡ control_snapshot v → (most : RemountBytes c n) → Took (remount_most most.torn) a b → Took (header_most * slots_live r) b d → Took n a d
took_all c v r n control now most first second =
    let same : slots_live r ≡ slots_live most.snapshot = ap slots_live (now ∙ (one_control c (control_snapshot v) most.snapshot (control_room v) most.room (controls_of c v control) most.controls).0) in
    let all = most.all in
    Took-more (omega (arith, all, same)) (Took_then first second)

pub took_control : (c : List ℕ) (n : ℕ) {a b : Device} → (most : RemountBytes c n) → Took (remount_most most.torn) a b → Took n a b
took_control c n most first =
    let all = most.all in
    Took-more (omega (arith, all)) first

-- ---- a commit that leaves the slots unchanged

pub more_bytes : (c d : List ℕ) (p q : Snapshot) (i j m n : ℕ) → Controls c p i → Controls d q j → q.slots ≡ p.slots → StaysOrderly c d → RemountBytes c m → RemountBytes d n → n ≤ m + place_size
unfolding StaysOrderly
more_bytes c d p q i j m n old new same stays was is =
    let torn = stays.1 was.torn is.torn was.has_torn is.has_torn in
    let before : was.snapshot ≡ p = (one_control c was.snapshot p was.room i was.controls old).0 in
    let after : is.snapshot ≡ q = (one_control d is.snapshot q is.room j is.controls new).0 in
    let slots : slots_live is.snapshot ≡ slots_live was.snapshot = ap slots_live after ∙ ap (sum_by live) same ∙ sym (ap slots_live before) in
    omega (arith, was.all, is.all, torn, slots)

-- the same chip
pub same_bytes : (c : List ℕ) (m n : ℕ) → RemountBytes c m → RemountBytes c n → n ≤ m + place_size
same_bytes c m n was is = more_bytes c c was.snapshot was.snapshot was.room was.room m n was.controls was.controls refl (orderly_again c) was is

pub stays_orderly : (c d : List ℕ) → StaysOrderly c d → IsOrderlyChip c → IsOrderlyChip d
unfolding StaysOrderly
stays_orderly c d stays = stays.0

-- what a stopped commit leaves has these slots too
pub record SameSlots (d : List ℕ) (slots : List SlotState) : Type 0 where
  pub snapshot : Snapshot
  pub room : ℕ
  pub controls : Controls d snapshot room
  pub same : snapshot.slots ≡ slots

pub stopped_slots : (v : Control) (next : Snapshot) (k : ℕ) (d : List ℕ) → next.slots ≡ (control_snapshot v).slots → MayCommit (control_store v) next k d → SameSlots d (control_snapshot v).slots
stopped_slots v next k d same may =
    let left = may.leaves in
    let x = left.store in
    let s = control_store v in
    let count : operations (commit_trail s next) ≡ commit_operations s.room = operations-stepping s (commit_operations s.room) (committed s next) in
    let within : k < commit_operations s.room = omega (arith, may.within, count) in
    record {
      snapshot = x.snapshot;
      room = x.room;
      controls = left.stands_for;
      same = ⊎_elim (λ near. ap (λ (p : Snapshot). p.slots) near.snapshot) (λ done. ap (λ (y : ControlStore). y.snapshot.slots) done.1 ∙ same)
          ((Leaves-stepping IsNearControl s (commit_operations s.room) (committed s next) k x within).0 left.allowed);
    }

-- ---- a volume has exactly one such number

spelled_committed : (s : Spelled) → IsCommitted (place_of s)
unfolding place_of
spelled_committed s = refl

has_torn : (c : List ℕ) (s : Snapshot) (room : ℕ) → Controls c s room → (torn : ℕ) × HasTorn c torn
has_torn c s room k =
    let cells = sector c (current k.generation) in
    let x = told_of cells s k.form k.told in
    let place = x.told.place in
    let committed : IsCommitted (place_in cells place) = subst IsCommitted (sym x.told.spelled) (spelled_committed x.written) in
    let before : place + k.free < places = ⊎_elim (λ less. less) (λ past. absurd (blank_is_not_committed (place_in cells place) (k.are_free.clear place past x.told.in_sector) committed)) (cases_lt (place + k.free) places) in (
      places - place - 1 - k.free,
      record {
        generation = k.generation;
        counted = k.counted;
        are_torn = record { place = place; committed = committed; last = x.told.last; free = k.free; are_free = k.are_free; all = omega (arith, before) };
      },
    )

pub some_bytes : (c : List ℕ) → IsVolume c → (n : ℕ) × RemountBytes c n
some_bytes c volume =
    let p = volume.1.snapshot in
    let torn = has_torn c p volume.0.room volume.1.controls in
    (remount_most torn.0 + header_most * slots_live p, record { torn = torn.0; has_torn = torn.1; snapshot = p; room = volume.0.room; controls = volume.1.controls; all = refl })

one_has_torn : (c : List ℕ) (t u : ℕ) → HasTorn c t → HasTorn c u → t ≡ u
one_has_torn c t u was is =
    let n = was.generation in
    sym (one_torn (sector c (current n)) t u was.are_torn (torn_here c c n (current n) was.counted refl refl u is))

pub one_bytes : (c : List ℕ) (m n : ℕ) → RemountBytes c m → RemountBytes c n → m ≡ n
one_bytes c m n was is =
    let torn = one_has_torn c was.torn is.torn was.has_torn is.has_torn in
    let live_same : slots_live was.snapshot ≡ slots_live is.snapshot = ap slots_live (one_control c was.snapshot is.snapshot was.room is.room was.controls is.controls).0 in
    omega (arith, was.all, is.all, torn, live_same)
