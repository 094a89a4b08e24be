-- Acts of which only the number of operations is specified.
use Rattle.std.proofs.Common.{◌≡◌, ℕ, ◌+◌, ◌-◌, ◌≤◌, List, subst, arith}
use Rattle.std.specs.Prelude.{⊤}
use Rattle.dg_nor.specs.Device.{Device, Ran, Halted}
use Rattle.dg_nor.specs.Reads.{ActStopped}
use Rattle.dg_nor.proofs.DeviceLemmas.{Halted_first, Halted_second}

-- m operations were made, and then an act stopped, of `total` operations in all
pub halted_within : (m n total : ℕ) {may : ℕ → List ℕ → Type 0} (a b c : Device) → m + n ≤ total → Ran m a b → Halted n may b c → Halted total (λ _ _. ⊤) a c
halted_within m n total {may} a b c fits ran h =
    let e : m + n + (total - (m + n)) ≡ total = omega arith in
    subst (λ (k : ℕ). Halted k (λ _ _. ⊤) a c) e (Halted_first {may = λ _ _. ⊤} (total - (m + n)) (Halted_second {may = λ _ _. ⊤} may ran (λ k l x. tt) h))

-- a device that is stopped, and why
pub stopped_by : {n : ℕ} {may : ℕ → List ℕ → Type 0} (a b : Device) → Halted n may a b → ActStopped a b
stopped_by a b h = record { stopped = h.halts.stopped; cause = h.halts.cause; unchanged = h.halts.unchanged; faults = h.halts.faults; references = h.halts.references }

pub stopped_after : {m n : ℕ} {may : ℕ → List ℕ → Type 0} (a b c : Device) → Ran m a b → Halted n may b c → ActStopped a c
stopped_after {m} {n} a b c ran h = stopped_by a c (halted_within m n (m + n) a b c (omega arith) ran h)

pub halted_after : {m n : ℕ} {may : ℕ → List ℕ → Type 0} (a b c : Device) → Ran m a b → Halted n may b c → Halted (m + n) (λ _ _. ⊤) a c
halted_after {m} {n} a b c ran h = halted_within m n (m + n) a b c (omega arith) ran h
