use Rattle.std.proofs.Common.{◌≡◌, ◌+◌, ◌-◌, ◌≤◌, ◌++◌, vec_len}
use Rattle.std.specs.Vec.{vec_capacity}
use Rattle.dg_world.specs.inner.Finished.{kept_reports}
use Rattle.dg_world.proofs.finish.push_keeps.Given as goal

abbrev pub invariant-loop-image : goal.invariant-loop-image
invariant-loop-image l = record {
  reported : l.out.items ≡ l.initial.out.items ++ kept_reports l.mote l.chip_report (l.image - 1);
  room : vec_capacity l.out ≡ vec_capacity l.initial.out;
  few : vec_len l.out + 1 ≤ vec_len l.initial.out + l.image;
  some : 1 ≤ l.image;
}
