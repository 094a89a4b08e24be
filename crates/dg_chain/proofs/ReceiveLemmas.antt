-- A data page is filled and sealed, or its filling is stopped.
use Rattle.std.proofs.Common.{◌≡◌, ℕ, ◌+◌, ◌-◌, ◌≤◌, Bool, true, false, ◌&&◌, Result, Ok, Err, List, refl, subst, inl, inr, ⊎_elim, arith}
use Rattle.std.specs.Prelude.{⊤, if◌then◌else◌, IfOk, OnErr}
use Rattle.sha2.specs.Sha256.{sha256}
use Rattle.dg_nor.specs.Device.{Device, Ran, Halts, Halted}
use Rattle.dg_nor.specs.Trail.{Trail, operations_of, resting, stepping, MayLeave, Leaves, LeavesFrom}
use Rattle.dg_nor.proofs.DeviceLemmas.{Halted_first, Halted_second, Halted_once, Halted-weaker, Ran_then}
use Rattle.dg_slot.specs.Layout.{packets}
use Rattle.dg_slot.specs.Kept.{Held, KeepsImage, with_page}
use Rattle.dg_slot.specs.Fits.{may_seal}
use Rattle.dg_slot.specs.Jobs.{SlotStops}
use Rattle.dg_chain.specs.Checking.{is_same}
use Rattle.dg_chain.specs.Answers.{chained_trail, SealsChained}
use Rattle.dg_chain.specs.Receiving.{fill_operations, receive_page_trail, ReceivesDataPage}
use Rattle.dg_chain.specs.declared.sealing.ChainSealing.{ChainSealing}
use Rattle.dg_chain.specs.declared.sealing.ChainSealing.TheVariants.{Sealed, Foreign, Bad}

-- ---- acts of which only the number of operations is specified

pub halted_within : (m n total : ℕ) {may : ℕ → List ℕ → Type 0} (a b c : Device) → m + n ≤ total → Ran m a b → Halted n may b c → Halted total (λ _ _. ⊤) a c
halted_within m n total {may} a b c fits ran h =
    let e : m + n + (total - (m + n)) ≡ total = omega arith in
    subst (λ (k : ℕ). Halted k (λ _ _. ⊤) a c) e (Halted_first {may = λ _ _. ⊤} (total - (m + n)) (Halted_second {may = λ _ _. ⊤} may ran (λ k l x. tt) h))

-- the erase stops
pub erase_halts : (a b : Device) → Halts 1 0 a b → Halted fill_operations (λ _ _. ⊤) a b
erase_halts a b h = Halted_first {m = 1} {may = λ _ _. ⊤} packets (Halted_once (λ _ _. ⊤) h tt)

-- ---- how it stops

abbrev May : ℕ → Trail Held → ℕ → List ℕ → Type 0
May image t = MayLeave (λ c g. KeepsImage c image g) (λ a b. b ≡ a) t

-- while the page is filled
filling_by : (t : Bool) (image : ℕ) (h g : Held) (a c : Device) → KeepsImage c.image image h → Halted fill_operations (λ _ _. ⊤) a c → SlotStops image (if t then stepping h 50 g else resting h fill_operations) a c
unfolding operations_of LeavesFrom
filling_by true image h g a c keeps halted =
    Halted_first {m = 49} {may = May image (stepping h 50 g)} 1 (Halted-weaker {may' = May image (stepping h 50 g)} (λ k within x. record { store = h; stands_for = keeps; allowed = inr (omega arith, inl refl) }) halted)
filling_by false image h g a c keeps halted =
    Halted-weaker {may' = May image (resting h fill_operations)} (λ k within x. record { store = h; stands_for = keeps; allowed = refl }) halted

pub filling_stops : (expected : List ℕ) (image : ℕ) (h : Held) (page : List ℕ) (a c : Device) → KeepsImage c.image image h → Halted fill_operations (λ _ _. ⊤) a c → SlotStops image (receive_page_trail expected image h page) a c
filling_stops expected image h page a c keeps halted = filling_by (is_same (sha256 page) expected && may_seal image h page) image h (with_page h page) a c keeps halted

-- at the gate
later : (h g x : Held) (k : ℕ) → k ≤ 1 → Leaves (λ a b. b ≡ a) (stepping h 1 g) k x → Leaves (λ a b. b ≡ a) (stepping h 50 g) (49 + k) x
unfolding LeavesFrom
later h g x k within l = ⊎_elim
    (λ over. inl (omega (arith, over.0), over.1))
    (λ inside. inr (omega (arith, inside.0), ⊎_elim (λ near. inl near) (λ done. inr (omega (arith, done.0), done.1)) inside.1))
    l

unsealed_stops : (image : ℕ) (h : Held) (a b c : Device) → Ran 49 a b → SlotStops image (resting h 0) b c → SlotStops image (resting h fill_operations) a c
unfolding operations_of LeavesFrom
unsealed_stops image h a b c ran stops =
    Halted_second {m = 49} {n = 0} {may = May image (resting h fill_operations)} (May image (resting h 0)) ran (λ k within x. record { store = x.store; stands_for = x.stands_for; allowed = x.allowed }) stops

sealing_by : (s m : Bool) (image : ℕ) (h g : Held) (a b c : Device) → Ran 49 a b → SlotStops image (if s then (if m then stepping h 1 g else resting h 0) else resting h 0) b c
    → SlotStops image (if s && m then stepping h 50 g else resting h fill_operations) a c
unfolding operations_of
sealing_by true true image h g a b c ran stops =
    Halted_second {m = 49} {n = 1} {may = May image (stepping h 50 g)} (May image (stepping h 1 g)) ran (λ k within x. record { store = x.store; stands_for = x.stands_for; allowed = later h g x.store k within x.allowed }) stops
sealing_by true false image h g a b c ran stops = unsealed_stops image h a b c ran stops
sealing_by false m image h g a b c ran stops = unsealed_stops image h a b c ran stops

pub sealing_stops : (expected : List ℕ) (image i : ℕ) (h : Held) (page made : List ℕ) (a b c : Device) → i ≡ image → made ≡ page → Ran 49 a b → SlotStops i (chained_trail expected i h made) b c → SlotStops image (receive_page_trail expected image h page) a c
sealing_stops expected image i h page made a b c e f ran stops =
    let first : SlotStops image (chained_trail expected image h made) b c = subst (λ (n : ℕ). SlotStops n (chained_trail expected n h made) b c) e stops in
    let here : SlotStops image (chained_trail expected image h page) b c = subst (λ (l : List ℕ). SlotStops image (chained_trail expected image h l) b c) f first in
    sealing_by (is_same (sha256 page) expected) (may_seal image h page) image h (with_page h page) a b c ran here

-- ---- what it returns

received_by : (expected : List ℕ) (image : ℕ) (h : Held) (page : List ℕ) (a b c : Device) (answer : ChainSealing) → Ran 49 a b → SealsChained expected image h page b c answer → ReceivesDataPage expected image h page a c answer
received_by expected image h page a b c (Sealed o next) ran seals = (seals.0, seals.1, seals.2.0, seals.2.1, Ran_then ran seals.2.2)
received_by expected image h page a b c (Foreign found o) ran seals = (seals.0, seals.1, seals.2, Ran_then ran seals.3.ran)
received_by expected image h page a b c (Bad kept found o) ran seals = (seals.0, seals.1.0, seals.1.1, seals.1.2, seals.1.3, Ran_then ran seals.1.4.ran)

pub received : (expected : List ℕ) (image i : ℕ) (h : Held) (page made : List ℕ) (a b c : Device) (answer : ChainSealing) → i ≡ image → made ≡ page → Ran 49 a b → SealsChained expected i h made b c answer → ReceivesDataPage expected image h page a c answer
received expected image i h page made a b c answer e f ran seals =
    let first : SealsChained expected image h made b c answer = subst (λ (n : ℕ). SealsChained expected n h made b c answer) e seals in
    received_by expected image h page a b c answer ran (subst (λ (l : List ℕ). SealsChained expected image h l b c answer) f first)

-- ---- what a result says is weakened

pub if_ok_then : {T E : Type 0} (P Q : T → Type 0) (r : Result T E) → ((x : T) → P x → Q x) → IfOk r P → IfOk r Q
if_ok_then P Q (Ok x) f p = f x p
if_ok_then P Q (Err e) f p = tt

pub on_err_then : {T E : Type 0} (P Q : Type 0) (r : Result T E) → (P → Q) → OnErr r P → OnErr r Q
on_err_then P Q (Ok x) f p = tt
on_err_then P Q (Err e) f p = f p
