-- Stops before, after and within a list of commands.
use Rattle.std.proofs.Common.{◌≡◌, ℕ, zero, suc, ◌-◌, ◌≤◌, List, [], ◌∷◌, length, take, take_all, refl, sym, ap, subst, inl, inr, arith}
use Rattle.dg_nor.specs.Trail.{Trail, Stage, operations, operations_of, last, last_of, EachWorks, LeavesFrom}
use Rattle.dg_volume.specs.Store.{Store, IsNear}
use Rattle.dg_volume.specs.Stands.{Stands}
use Rattle.dg_plan.specs.declared.plan.Plan.{Plan}
use Rattle.dg_plan.specs.declared.command.Command.{Command}
use Rattle.dg_plan.specs.Commands.{carried_out}
use Rattle.dg_plan.specs.Plans.{commands_of, bytes_of_plan, chip_of}
use Rattle.dg_plan.specs.Acts.{IsPlanOf}
use Rattle.dg_plan.specs.Stops.{StopsAt}

near_itself : (s : Store) → IsNear s s
near_itself s = record { same = refl; room = inl refl }

leaves_first : (s : Store) (stages : List (Stage Store)) → EachWorks stages → LeavesFrom IsNear s stages 0 s
unfolding LeavesFrom EachWorks
leaves_first s [] works = near_itself s
leaves_first s (stage ∷ stages) works = inr (works.0, inl (near_itself s))

leaves_last : (s : Store) (stages : List (Stage Store)) (k : ℕ) → operations_of stages ≤ k → LeavesFrom IsNear s stages k (last_of s stages)
unfolding LeavesFrom operations_of last_of
leaves_last s [] k enough = near_itself s
leaves_last s (stage ∷ stages) k enough = inl (omega (arith, enough), leaves_last stage.after stages (k - stage.operations) (omega (arith, enough)))

pub stops_first : (t : Trail Store) (p : Plan) → EachWorks t.stages → Stands (chip_of p) t.first → StopsAt t p 0
unfolding carried_out
stops_first t p works stands = record { store = t.first; stands_for = stands; allowed = leaves_first t.first t.stages works }

-- there was no command before
alone : (cs : List Command) → cs ≡ [] → length cs ≡ 0
alone cs e = ap length e

pub stops_last : (t : Trail Store) (old new : Plan) → commands_of old ≡ [] → IsPlanOf t old new → StopsAt t new (operations t)
stops_last t old new none plan =
    let count : length (commands_of new) ≡ operations t = let zero_before = alone (commands_of old) none in omega (arith, zero_before, plan.count) in
    let whole : take (operations t) (commands_of new) ≡ commands_of new = take_all (operations t) (commands_of new) (omega (arith, count)) in
    record {
      store = last t;
      stands_for = subst (λ (cs : List Command). Stands (carried_out (bytes_of_plan new) cs (chip_of new)) (last t)) (sym whole) plan.stands;
      allowed = leaves_last t.first t.stages (operations t) (omega arith);
    }

pub stops_one : (t : Trail Store) (old new : Plan) (k : ℕ) → commands_of old ≡ [] → IsPlanOf t old new → operations t ≡ 1 → EachWorks t.stages → Stands (chip_of old) t.first → k ≤ 1 → StopsAt t new k
stops_one t old new zero none plan one works stands few = stops_first t new works (subst (λ (c : List ℕ). Stands c t.first) (sym plan.chip) stands)
stops_one t old new (suc zero) none plan one works stands few = subst (StopsAt t new) one (stops_last t old new none plan)
stops_one t old new (suc (suc k)) none plan one works stands few = absurd (omega (arith, few))
