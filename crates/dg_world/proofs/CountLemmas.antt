-- Boards that go on.
use Rattle.std.proofs.Common.{◌≡◌, ℕ, ◌<◌, List, length, get_or, refl, sym, ap, ◌∙◌, subst, arith}
use Rattle.std.proofs.lemmas.Option.{slice_get-get_or, slice_get_within}
use Rattle.dg_nor.specs.Device.{Device, Ran, Halts, WorkedOrStopped, MadeMore}
use Rattle.dg_nor.specs.Fuse.{beneath_of}
use Rattle.dg_nor.specs.Reads.{ReadStopped}
use Rattle.dg_nor.specs.Trail.{operations}
use Rattle.dg_nor.proofs.MaskLemmas.{Endures_ran, Endures_halts}
use Rattle.dg_nor.proofs.TrailLemmas.{operations-resting}
use Rattle.dg_volume.specs.Store.{Store}
use Rattle.dg_rules.specs.Events.{EventEffect, Does, Refuses, Goes, trail_of}
use Rattle.dg_script.specs.declared.report.Cause.{Cause}
use Rattle.std.proofs.lemmas.Bool.{both_ways}
use Rattle.dg_world.specs.Counts.{IsSteady, AreSteady}

-- a board that ran did not stop
pub steady_ran : {n : ℕ} {a b : Device} → Ran n a b → IsSteady a b
steady_ran r = record { faults = r.faults; stopped = r.stopped }

pub steady_same : (a : Device) → IsSteady a a
steady_same a = record { faults = refl; stopped = refl }

pub steady_then : {a b c : Device} → IsSteady a b → IsSteady b c → IsSteady a c
steady_then first second = record { faults = second.faults ∙ first.faults; stopped = second.stopped ∙ first.stopped }

-- over one list of boards and then another
pub AreSteady_then : (old mid new : List Device) → length mid ≡ length old → AreSteady old mid → AreSteady mid new → AreSteady old new
AreSteady_then old mid new count first second = λ m a b here there.
    let within : m < length mid = omega (arith, slice_get_within old m a here, count) in
    let between = slice_get-get_or mid m a within in
    steady_then (first m a (get_or mid m a) here between) (second m (get_or mid m a) b between there)

-- ---- the operations that were made

-- those of a device that ran
pub worked_ran : {n : ℕ} {a b : Device} → Ran n a b → WorkedOrStopped n (beneath_of a) (beneath_of b)
worked_ran r = record { endures = Endures_ran r; made = λ awake. r.made }

-- a device that stopped
pub worked_halts : {n done : ℕ} (k : ℕ) {a b : Device} → Halts n done a b → WorkedOrStopped k (beneath_of a) (beneath_of b)
worked_halts k {a} {b} h = record { endures = Endures_halts h; made = λ awake. absurd (both_ways b.stopped awake h.stopped) }

-- all those of an event
pub made_goes : (does : Does) (d : EventEffect) (s : Store) (a b : Device) → does ≡ Goes d → Ran (operations d.trail) a b → MadeMore (operations (trail_of does s)) a.made b.made
made_goes does d s a b goes r = subst (λ (n : ℕ). MadeMore n a.made b.made) (sym (ap (λ (D : Does). operations (trail_of D s)) goes)) r.made

-- none, if it is refused
pub made_refused : (does : Does) (why : Cause) (s : Store) (a b : Device) → does ≡ Refuses why → Ran 0 a b → MadeMore (operations (trail_of does s)) a.made b.made
made_refused does why s a b refuses r =
    subst (λ (n : ℕ). MadeMore n a.made b.made) (sym (ap (λ (D : Does). operations (trail_of D s)) refuses ∙ operations-resting s 0)) r.made
