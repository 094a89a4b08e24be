use Rattle.std.proofs.Common.{◌≡◌, ℕ, ◌+◌, ◌-◌, sym, subst, arith}
use Rattle.dg_nor.specs.Trail.{operations, Leaves}
use Rattle.dg_nor.proofs.TrailLemmas.{operations-joined, last-joined, Leaves-joined_early, Leaves-joined_late, Halted-joined_second}
use Rattle.dg_volume.specs.Store.{IsNear}
use Rattle.dg_volume.specs.Stands.{Stands}
use Rattle.dg_volume.proofs.ActLemmas.{acted_then, stops_first}
use Rattle.dg_volume.proofs.BeginLemmas.{begins_joined}
use Rattle.dg_volume.proofs.laws.trails_join.Goals as goal

pub returns-clause-operations : goal.returns-clause-operations
returns-clause-operations c t u = operations-joined t u

pub returns-clause-early : goal.returns-clause-early
returns-clause-early c t u k s works h = Leaves-joined_early IsNear t u k s works h

pub returns-clause-late : goal.returns-clause-late
returns-clause-late c t u k s same =
    let n = operations t in
    let e : n + k - n ≡ k = omega arith in
    let both = Leaves-joined_late IsNear t u (n + k) s same (omega arith) in
    (λ l. subst (λ (j : ℕ). Leaves IsNear u j s) e (both.0 l), λ l. both.1 (subst (λ (j : ℕ). Leaves IsNear u j s) (sym e) l))

pub returns-clause-begins : goal.returns-clause-begins
returns-clause-begins c s t u first second = begins_joined s t u first second.works

pub returns-clause-ends : goal.returns-clause-ends
returns-clause-ends c t u same = last-joined t u same

pub returns-clause-acted : goal.returns-clause-acted
returns-clause-acted x t u a b c v w same first second = acted_then t u a b c v w same first second

pub returns-clause-stopped_first : goal.returns-clause-stopped_first
returns-clause-stopped_first x t u a b works same stops = stops_first t u a b works same stops

pub returns-clause-stopped_second : goal.returns-clause-stopped_second
returns-clause-stopped_second x t u a b c same ran stops = Halted-joined_second Stands IsNear t u same ran stops
