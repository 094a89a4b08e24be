use Rattle.std.proofs.Common.{◌≡◌, ◌≤◌}
use Rattle.std.specs.Prelude.{replicate, None}
use Rattle.std.specs.Vec.{vec_capacity}
use Rattle.dg_world.proofs.declare.all_off.Given as goal

abbrev pub invariant-loop : goal.invariant-loop
invariant-loop l = (l.off.items ≡ replicate l.counter None) × (l.motes ≤ vec_capacity l.off)
