-- A data page is read and compared with the expected digest before it is sealed.
use Rattle.std.proofs.Common.{◌≡◌, ℕ, ◌+◌, Bool, true, false, List, refl, sym, ap, ◌∙◌, subst, arith}
use Rattle.std.specs.Prelude.{if◌then◌else◌}
use Rattle.sha2.specs.Sha256.{sha256}
use Rattle.dg_nor.specs.Device.{Device, Halted}
use Rattle.dg_nor.specs.Reads.{Looked, ReadStopped}
use Rattle.dg_nor.specs.Trail.{operations, operations_of, resting, LeavesFrom, MayLeave}
use Rattle.dg_nor.proofs.DeviceLemmas.{Halted_second, Ran_then}
use Rattle.dg_slot.specs.Kept.{Held, KeepsImage}
use Rattle.dg_slot.specs.Jobs.{IsJob, Packets, seal_trail, Seals, SlotStops}
use Rattle.dg_slot.specs.declared.states.OpenSlot.{OpenSlot}
use Rattle.dg_slot.specs.declared.states.PageJob.{PageJob}
use Rattle.dg_slot.specs.declared.states.Sealing.TheVariants as sealing
use Rattle.dg_nor.proofs.ReadLemmas.{Looked_then}
use Rattle.dg_slot.proofs.SealLemmas.{seal_unread}
use Rattle.dg_chain.specs.Checking.{is_same, field_of}
use Rattle.dg_chain.specs.Answers.{chained_trail, SealsChained}
use Rattle.dg_chain.specs.declared.sealing.ChainSealing.TheVariants.{Sealed, Bad}
use Rattle.dg_chain.proofs.WalkLemmas.{same_refl}

-- ---- how it stops

stops_reading : (t : Bool) (image : ℕ) (h : Held) (page : List ℕ) (a b : Device) → KeepsImage a.image image h → ReadStopped a b → SlotStops image (if t then seal_trail image h page else resting h 0) a b
unfolding operations_of LeavesFrom
stops_reading true image h page a b keeps stopped = seal_unread image h page a b keeps stopped
stops_reading false image h page a b keeps stopped = record {
  done = 0;
  halts = stopped.halts;
  leaves = record { store = h; stands_for = subst (λ (c : List ℕ). KeepsImage c image h) (sym stopped.same_image) keeps; allowed = refl };
}

-- in the read of the page
pub chained_unread : (expected : List ℕ) (image : ℕ) (h : Held) (page : List ℕ) (a b : Device) → KeepsImage a.image image h → ReadStopped a b → SlotStops image (chained_trail expected image h page) a b
chained_unread expected image h page a b keeps stopped = stops_reading (is_same (sha256 page) expected) image h page a b keeps stopped

halted_behind : (n : ℕ) (may : ℕ → List ℕ → Type 0) (a b c : Device) → Looked a b → Halted n may b c → Halted n may a c
halted_behind n may a b c looked h =
    let e : 0 + n ≡ n = omega arith in
    subst (λ (k : ℕ). Halted k may a c) e (Halted_second {may = may} may looked.ran (λ k within x. let f : k ≡ 0 + k = omega arith in subst (λ (j : ℕ). may j c.image) f x) h)

-- in the seal
pub chained_stops : (expected : List ℕ) (image : ℕ) (h : Held) (page : List ℕ) (a b c : Device) → sha256 page ≡ expected → Looked a b → SlotStops image (seal_trail image h page) b c → SlotStops image (chained_trail expected image h page) a c
chained_stops expected image h page a b c e looked stops =
    let t = seal_trail image h page in
    let same : is_same (sha256 page) expected ≡ true = ap (is_same (sha256 page)) (sym e) ∙ same_refl (sha256 page) in
    let here : SlotStops image t a c = halted_behind (operations t) (MayLeave (λ d g. KeepsImage d image g) (λ x y. y ≡ x) t) a b c looked stops in
    subst (λ (b : Bool). SlotStops image (if b then t else resting h 0) a c) (sym same) here

-- ---- what it returns

pub job_same : (c d : List ℕ) (j : PageJob) (h : Held) (ps : Packets) → d ≡ c → IsJob c j h ps → IsJob d j h ps
job_same c d j h ps e job = subst (λ (x : List ℕ). IsJob x j h ps) (sym e) job

pub chained_sealed : (expected : List ℕ) (image : ℕ) (h : Held) (page next : List ℕ) (o : OpenSlot) (a b c : Device) → sha256 page ≡ expected → next ≡ field_of page → Looked a b → Seals image h page b c (sealing.Sealed o)
    → SealsChained expected image h page a c (Sealed o next)
chained_sealed expected image h page next o a b c e f looked seals = (e, f, (seals.0, seals.1, Ran_then looked.ran seals.2))

pub chained_bad : (expected : List ℕ) (image : ℕ) (h : Held) (page : List ℕ) (kept found : ℕ) (o : OpenSlot) (a b c : Device) → sha256 page ≡ expected → Looked a b → Seals image h page b c (sealing.Bad kept found o)
    → SealsChained expected image h page a c (Bad kept found o)
chained_bad expected image h page kept found o a b c e looked seals = (e, (seals.0, seals.1, seals.2, seals.3, Looked_then looked seals.4))
