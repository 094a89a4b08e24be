-- Reads before an act.
use Rattle.std.proofs.Common.{◌≡◌, ℕ, ◌+◌, ◌-◌, ◌≤◌, subst, arith}
use Rattle.std.specs.Prelude.{⊤}
use Rattle.dg_nor.specs.Device.{Device, Ran, Halts, Halted}
use Rattle.dg_nor.specs.Reads.{ActStopped}
use Rattle.dg_nor.proofs.DeviceLemmas.{Ran_then, Halts_first, Halts_second}

pub ActStopped-halts : {n d : ℕ} {a b : Device} → Halts n d a b → ActStopped a b
ActStopped-halts h = record { stopped = h.stopped; cause = h.cause; unchanged = h.unchanged; faults = h.faults; references = h.references }

-- a read before operations
pub ran_after : {n : ℕ} {a b c : Device} → Ran 0 a b → Ran n b c → Ran n a c
ran_after {n} {a} {b} {c} p q = let e : 0 + n ≡ n = omega arith in subst (λ (m : ℕ). Ran m a c) e (Ran_then p q)

pub halts_after : {n d : ℕ} {a b c : Device} → Ran 0 a b → Halts n d b c → Halts n d a c
halts_after {n} {d} {a} {b} {c} p q =
    let e : 0 + n ≡ n = omega arith in
    let f : 0 + d ≡ d = omega arith in
    subst (λ (m : ℕ). Halts m d a c) e (subst (λ (m : ℕ). Halts (0 + n) m a c) f (Halts_second p q))

-- ---- one operation, or an act, that stopped after others that were made

pub halts_within : {m done : ℕ} {a b : Device} (n : ℕ) → Halts m done a b → m ≤ n → Halts n done a b
halts_within {m} {done} {a} {b} n h within =
    let e : m + (n - m) ≡ n = omega arith in
    subst (λ (k : ℕ). Halts k done a b) e (Halts_first (n - m) h)

pub halted_after : {m k done : ℕ} {a b c : Device} (n : ℕ) → Ran m a b → Halts k done b c → m + k ≤ n → Halted n (λ _ _. ⊤) a c
halted_after {m} {k} {done} n ran h within = record { done = m + done; halts = halts_within n (Halts_second ran h) within; leaves = tt }

pub halted_more : {m k : ℕ} {a b c : Device} (n : ℕ) → Ran m a b → Halted k (λ _ _. ⊤) b c → m + k ≤ n → Halted n (λ _ _. ⊤) a c
halted_more n ran h within = halted_after n ran h.halts within
