-- One page of an image is filled in a volume.
use Rattle.std.proofs.Common.{◌≡◌, ℕ, ◌<◌, ◌≤◌, Bool, true, false, cond, List, Option, Some, None, refl, sym, ap, subst, ◌∙◌, inl, inr, ⊎_elim, arith}
use Rattle.std.specs.Prelude.{option_map}
use Rattle.dg_nor.specs.Chip.{Touches}
use Rattle.dg_nor.specs.Device.{Device, Ran, Halts, Halted}
use Rattle.dg_nor.specs.Trail.{resting, stepping, MayLeave, LeavesFrom}
use Rattle.dg_nor.proofs.DeviceLemmas.{Halted-weaker}
use Rattle.dg_nor.proofs.TrailLemmas.{operations-stepping, operations-resting, last-stepping, Leaves-resting}
use Rattle.dg_slot.specs.Layout.{header_sector, slot_end, page_operations}
use Rattle.dg_slot.specs.Kept.{Held, KeepsImage, with_page}
use Rattle.dg_slot.specs.Fits.{may_seal}
use Rattle.dg_slot.specs.Jobs.{Opens, IsOpen, outline_of_slot, seal_trail, SlotStops}
use Rattle.dg_slot.specs.declared.states.OpenSlot.{OpenSlot}
use Rattle.dg_volume.specs.Sizes.{images}
use Rattle.dg_volume.specs.Store.{Store, held, IsNear}
use Rattle.dg_volume.specs.Told.{told, told_held}
use Rattle.dg_volume.specs.Stands.{Stands, MountedBut, Mounted, Tells, kept_at}
use Rattle.dg_volume.specs.Changes.{keeping, paged}
use Rattle.dg_volume.specs.Trails.{sealing_trail}
use Rattle.dg_volume.specs.Acts.{Acted, Stops}
use Rattle.dg_volume.specs.declared.volume.Volume.{Volume}
use Rattle.dg_volume.proofs.HeldLemmas.{held_paged}
use Rattle.dg_volume.proofs.BehindLemmas.{told_but, slot_counts, slot_same}
use Rattle.dg_volume.proofs.CommitLemmas.{near_same}

-- ---- what is kept of an image that is reported as kept

pub record IsHeld (s : Store) (i : ℕ) : Type 0 where
  pub kept : Held
  pub here : held s i ≡ Some kept

held_by : (s : Store) (i : ℕ) (o : Option Held) → held s i ≡ o → (told o ≡ None → ⊥) → IsHeld s i
held_by s i None is some = absurd (some refl)
held_by s i (Some h) is some = record { kept = h; here = is }

pub is_held : (v : Volume) (s : Store) (i : ℕ) → i < images → Tells v s → (kept_at v i ≡ None → ⊥) → IsHeld s i
is_held v s i known tells some = held_by s i (held s i) refl (λ e. some (tells.kept i known (λ x. x) ∙ e))

pub some_kept : (v : Volume) (s : Store) (i : ℕ) (h : Held) → i < images → Tells v s → held s i ≡ Some h → kept_at v i ≡ None → ⊥
some_kept v s i h known tells here none =
    let e : Some (told_held h) ≡ None = sym (tells.kept i known (λ x. x) ∙ ap told here) ∙ none in
    cc

-- ---- the page is complete

pub paged_is : (s : Store) (i : ℕ) (h : Held) (page : List ℕ) → held s i ≡ Some h → paged i page s ≡ keeping i (Some (with_page h page)) s
paged_is s i h page here = ap (λ (o : Option Held). keeping i (option_map (λ k. with_page k page) o) s) here

-- what the chip stands for then, before the slot is put back
pub page_counts : (c d : List ℕ) (v : Volume) (s : Store) (i : ℕ) (h : Held) (page : List ℕ) → 1 ≤ i → i < images → held s i ≡ Some h → Touches (header_sector i) (slot_end i) c d → KeepsImage d i (with_page h page)
    → MountedBut (λ j. j ≡ i) c v s → MountedBut (λ j. j ≡ i) d v (paged i page s)
page_counts c d v s i h page not_golden known here touches keeps m =
    subst (MountedBut (λ j. j ≡ i) d v) (sym (paged_is s i h page here)) (slot_counts c d v s i h (with_page h page) not_golden known here refl touches keeps m)

pub page_mounted : (c d : List ℕ) (v w : Volume) (s : Store) (i : ℕ) (h : Held) (page : List ℕ) (o : OpenSlot) → 1 ≤ i → i < images → (outline_of_slot o).image ≡ i → held s i ≡ Some h → Touches (header_sector i) (slot_end i) c d
    → IsOpen d o (with_page h page) → Mounted c v s → ((t : Store) (g : Held) → MountedBut (λ j. j ≡ (outline_of_slot o).image) d v t → held t (outline_of_slot o).image ≡ Some g → Opens o g → Mounted d w t) → Mounted d w (paged i page s)
page_mounted c d v w s i h page o not_golden known image here touches opened m back =
    let g = with_page h page in
    let t = paged i page s in
    let keeps : KeepsImage d i g = subst (λ (n : ℕ). KeepsImage d n g) image opened.keeps in
    let but : MountedBut (λ j. j ≡ i) d v t = page_counts c d v s i h page not_golden known here touches keeps (told_but c v s i m) in
    let kept : held t i ≡ Some g = held_paged s i h page (omega (arith, known, m.stands.contains.count)) here in
    back t g (subst (λ (n : ℕ). MountedBut (λ j. j ≡ n) d v t) (sym image) but) (subst (λ (n : ℕ). held t n ≡ Some g) (sym image) kept) opened.opens

pub page_acted : (a b : Device) (w : Volume) (s t : Store) → Ran page_operations a b → Mounted b.image w t → Acted (stepping s page_operations t) a b w
page_acted a b w s t ran mounted = record {
  ran = subst (λ (n : ℕ). Ran n a b) (sym (operations-stepping s page_operations t)) ran;
  mounted = subst (Mounted b.image w) (sym (last-stepping s page_operations t)) mounted;
}

-- ---- its filling is stopped

abbrev Keeping : ℕ → List ℕ → Held → Type 0
Keeping i c g = KeepsImage c i g

abbrev Itself : Held → Held → Type 0
Itself x y = y ≡ x

page_leaves : (n : ℕ) (c d : List ℕ) (v : Volume) (s : Store) (i : ℕ) (h : Held) (page : List ℕ) (k : ℕ) → 1 ≤ i → i < images → held s i ≡ Some h → Touches (header_sector i) (slot_end i) c d → MountedBut (λ j. j ≡ i) c v s
    → MayLeave (Keeping i) Itself (stepping h n (with_page h page)) k d → MayLeave Stands IsNear (stepping s n (paged i page s)) k d
unfolding LeavesFrom
page_leaves n c d v s i h page k not_golden known here touches m may =
    let g = with_page h page in
    let t = paged i page s in
    let before : KeepsImage d i h → Stands d s = λ keeps. (slot_same (λ j. j ≡ i) c d v s i h not_golden known here touches keeps m).stands in
    let after : KeepsImage d i g → Stands d t = λ keeps. (page_counts c d v s i h page not_golden known here touches keeps m).stands in
    let keeps : (x : Held) → may.store ≡ x → KeepsImage d i x = λ x e. subst (KeepsImage d i) e may.stands_for in
    ⊎_elim
    (λ over. record { store = t; stands_for = after (keeps g over.1); allowed = inl (over.0, near_same t) })
    (λ inside. ⊎_elim
    (λ near. record { store = s; stands_for = before (keeps h near); allowed = inr (inside.0, inl (near_same s)) })
    (λ done. record { store = t; stands_for = after (keeps g done.1); allowed = inr (inside.0, inr (done.0, refl)) })
    inside.1)
    may.allowed

-- n operations, the last of which makes the page complete
pub page_stops : (n : ℕ) (a b : Device) (v : Volume) (s : Store) (i : ℕ) (h : Held) (page : List ℕ) → 1 ≤ i → i < images → held s i ≡ Some h → Touches (header_sector i) (slot_end i) a.image b.image → MountedBut (λ j. j ≡ i) a.image v s
    → SlotStops i (stepping h n (with_page h page)) a b → Stops (stepping s n (paged i page s)) a b
page_stops n a b v s i h page not_golden known here touches m stops =
    let t = paged i page s in
    let May : ℕ → List ℕ → Type 0 = MayLeave (Keeping i) Itself (stepping h n (with_page h page)) in
    let To : ℕ → List ℕ → Type 0 = MayLeave Stands IsNear (stepping s n t) in
    let halted : Halted n May a b = subst (λ (m : ℕ). Halted m May a b) (operations-stepping h n (with_page h page)) stops in
    let left : Halted n To a b = Halted-weaker {may' = To} (λ k within may. page_leaves n a.image b.image v s i h page k not_golden known here touches m may) halted in
    subst (λ (m : ℕ). Halted m To a b) (sym (operations-stepping s n t)) left

-- n operations before that
pub fill_stops : (n done : ℕ) (a b : Device) (v : Volume) (s : Store) (i : ℕ) (h : Held) → 1 ≤ i → i < images → held s i ≡ Some h → Touches (header_sector i) (slot_end i) a.image b.image → KeepsImage b.image i h → MountedBut (λ j. j ≡ i) a.image v s
    → Halts n done a b → Stops (resting s n) a b
fill_stops n done a b v s i h not_golden known here touches keeps m halts =
    let To : ℕ → List ℕ → Type 0 = MayLeave Stands IsNear (resting s n) in
    let stands : Stands b.image s = (slot_same (λ j. j ≡ i) a.image b.image v s i h not_golden known here touches keeps m).stands in
    subst (λ (k : ℕ). Halted k To a b) (sym (operations-resting s n))
    (record { done = done; halts = halts; leaves = record { store = s; stands_for = stands; allowed = (Leaves-resting IsNear s n done s).1 (near_same s) } })

-- the same without a volume
pub rest_stops : (n done : ℕ) (a b : Device) (s : Store) → Stands b.image s → Halts n done a b → Stops (resting s n) a b
rest_stops n done a b s stands halts =
    let To : ℕ → List ℕ → Type 0 = MayLeave Stands IsNear (resting s n) in
    subst (λ (k : ℕ). Halted k To a b) (sym (operations-resting s n))
    (record { done = done; halts = halts; leaves = record { store = s; stands_for = stands; allowed = (Leaves-resting IsNear s n done s).1 (near_same s) } })

unfit_stops : (a b : Device) (v : Volume) (s : Store) (i : ℕ) (h : Held) → 1 ≤ i → i < images → held s i ≡ Some h → Touches (header_sector i) (slot_end i) a.image b.image → MountedBut (λ j. j ≡ i) a.image v s → SlotStops i (resting h 0) a b → Stops (resting s 0) a b
unfit_stops a b v s i h not_golden known here touches m stops =
    let still : stops.leaves.store ≡ h = (Leaves-resting Itself h 0 stops.done stops.leaves.store).0 stops.leaves.allowed in
    let keeps : KeepsImage b.image i h = subst (KeepsImage b.image i) still stops.leaves.stands_for in
    fill_stops 0 stops.done a b v s i h not_golden known here touches keeps m (subst (λ (k : ℕ). Halts k stops.done a b) (operations-resting h 0) stops.halts)

-- if the page fits, sealing makes it complete
pub seal_stops : (a b : Device) (v : Volume) (s : Store) (i : ℕ) (h : Held) (page : List ℕ) → 1 ≤ i → i < images → held s i ≡ Some h → Touches (header_sector i) (slot_end i) a.image b.image → MountedBut (λ j. j ≡ i) a.image v s
    → SlotStops i (seal_trail i h page) a b → Stops (sealing_trail s i h page) a b
seal_stops a b v s i h page not_golden known here touches m =
    by_fit (may_seal i h page)
    (page_stops 1 a b v s i h page not_golden known here touches m)
    (unfit_stops a b v s i h not_golden known here touches m)
  where
    by_fit : (fits : Bool) → (SlotStops i (stepping h 1 (with_page h page)) a b → Stops (stepping s 1 (paged i page s)) a b) → (SlotStops i (resting h 0) a b → Stops (resting s 0) a b)
        → SlotStops i (cond fits (stepping h 1 (with_page h page)) (resting h 0)) a b → Stops (cond fits (stepping s 1 (paged i page s)) (resting s 0)) a b
    by_fit true sealed unfit = sealed
    by_fit false sealed unfit = unfit
