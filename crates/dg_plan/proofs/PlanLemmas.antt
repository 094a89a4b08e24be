-- What a plan is after an act over it as a device.
use Rattle.std.proofs.Common.{◌≡◌, ℕ, ◌+◌, ◌-◌, ◌≤◌, List, length, take, drop, ap, sym, subst, arith}
use Rattle.std.proofs.lemmas.List.{length-take-le}
use Rattle.std.specs.Prelude.{Some, ⊤, Result, Ok, Err, OnOk}
use Rattle.dg_nor.specs.Device.{Device, Ran, Halts, Halted, more}
use Rattle.dg_nor.specs.Reads.{Looked, ReadStopped, ActStopped}
use Rattle.dg_nor.specs.Trail.{Trail, operations, last, resting}
use Rattle.dg_nor.proofs.TrailLemmas.{operations-resting, last-resting}
use Rattle.dg_nor.proofs.DeviceLemmas.{Ran_then, Halts_first, Halts_second}
use Rattle.dg_volume.specs.Store.{Store}
use Rattle.dg_volume.specs.Stands.{Stands}
use Rattle.dg_volume.specs.Acts.{Acted}
use Rattle.dg_volume.specs.declared.volume.Volume.{Volume}
use Rattle.dg_plan.specs.declared.plan.Plan.{Plan}
use Rattle.dg_plan.specs.Plans.{planned, commands_of, chip_of, lists_of, lent_of, plan_device}
use Rattle.dg_plan.specs.Acts.{IsPlanOf}

-- ---- what is lent

pub lists_lent : (p q : Plan) → lent_of p ≡ lent_of q → lists_of p ≡ lists_of q
lists_lent p q e = ap (take 2) e

pub chip_lent : (p q : Plan) → lent_of p ≡ lent_of q → chip_of p ≡ chip_of q
chip_lent p q e = ap (drop 4) e

size_lent : (p q : Plan) → lent_of p ≡ lent_of q → length p.commands.now ≡ length q.commands.now
size_lent p q e = ap (λ (xs : List ℕ). Rattle.std.specs.Prelude.slice_index xs 2) e

-- ---- an act that ran

room_fell : (a b n : ℕ) → Some a ≡ more n (Some b) → a ≡ n + b
room_fell a b n e = let h : a ≡ b + n = cc in omega (arith, h)

count_of : (p : Plan) → length (commands_of p) ≡ p.count
count_of p = length-take-le p.count p.commands.now p.few

count_rose : (a b m l n : ℕ) → m ≡ l → a ≤ l → b ≤ m → l - a ≡ n + (m - b) → b ≡ a + n
count_rose a b m l n same few many fell = omega arith

pub plan_by : (t : Trail Store) (old new : Plan) → Stands (planned new) (last t) → Ran (operations t) (plan_device old) (plan_device new) → IsPlanOf t old new
plan_by t old new stands ran =
    let room = room_fell (length old.commands.now - old.count) (length new.commands.now - new.count) (operations t) ran.left in
    let rose : new.count ≡ old.count + operations t = count_rose old.count new.count (length new.commands.now) (length old.commands.now) (operations t) (size_lent new old ran.references) old.few new.few room in
    record {
      stands = stands;
      room = room;
      count = let a = count_of old in let b = count_of new in omega (arith, a, b, rose);
      chip = chip_lent new old ran.references;
    }

-- a device that was only read, and then something else
none_first : (n : ℕ) → 0 + n ≡ n
none_first n = omega arith

pub looked_ran : {n : ℕ} {a b c : Device} → Looked a b → Ran n b c → Ran n a c
looked_ran {n} {a} {b} {c} looked ran = subst (λ (k : ℕ). Ran k a c) (none_first n) (Ran_then looked.ran ran)

pub looked_halted : {n : ℕ} {may : ℕ → List ℕ → Type 0} {a b c : Device} → Looked a b → Halted n may b c → Halted n may a c
looked_halted {n} {may} {a} {b} {c} looked halted = record {
  done = halted.done;
  halts = subst (λ (k : ℕ). Halts k halted.done a c) (none_first n) (subst (λ (k : ℕ). Halts (0 + n) k a c) (none_first halted.done) (Halts_second looked.ran halted.halts));
  leaves = halted.leaves;
}

pub read_halted : (n : ℕ) {a b : Device} → ReadStopped a b → Halted n (λ _ _. ⊤) a b
read_halted n {a} {b} stopped = record { done = 0; halts = subst (λ (k : ℕ). Halts k 0 a b) (none_first n) (Halts_first n stopped.halts); leaves = tt }

-- a chip that was only read, and then an act
pub plan_of_act : (t : Trail Store) (old mid new : Plan) (v : Volume) → Looked (plan_device old) (plan_device mid) → Acted t (plan_device mid) (plan_device new) v → IsPlanOf t old new
plan_of_act t old mid new v looked acted = plan_by t old new acted.mounted.stands (looked_ran looked acted.ran)

-- operations that leave the store unchanged
pub plan_of_rest : (n : ℕ) (s : Store) (old new : Plan) → Stands (planned new) s → Ran n (plan_device old) (plan_device new) → IsPlanOf (resting s n) old new
plan_of_rest n s old new stands ran =
    plan_by (resting s n) old new (subst (Stands (planned new)) (sym (last-resting s n)) stands)
    (subst (λ (k : ℕ). Ran k (plan_device old) (plan_device new)) (sym (operations-resting s n)) ran)

-- ---- an act that stopped

pub act_stopped : {n done : ℕ} {a b : Device} → Halts n done a b → ActStopped a b
act_stopped h = record { stopped = h.stopped; cause = h.cause; unchanged = h.unchanged; faults = h.faults; references = h.references }

-- ---- a packet's result

pub planned_rest : {E : Type 0} (r : Result (Unit {0}) E) (n : ℕ) (old new : Plan) → OnOk r (Ran n (plan_device old) (plan_device new)) → ((s : Store) → Stands (planned old) s → Stands (planned new) s)
    → OnOk r ((s : Store) → Stands (planned old) s → IsPlanOf (resting s n) old new)
planned_rest (Ok x) n old new ran stays = λ s stands. plan_of_rest n s old new (stays s stands) ran
planned_rest (Err e) n old new ran stays = tt
