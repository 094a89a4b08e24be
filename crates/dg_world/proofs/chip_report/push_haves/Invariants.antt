use Rattle.std.proofs.Common.{◌≡◌, ◌+◌, ◌≤◌, ◌++◌, vec_len}
use Rattle.std.specs.Vec.{vec_capacity}
use Rattle.dg_world.specs.inner.ChipReports.{have_lines}
use Rattle.dg_world.proofs.chip_report.push_haves.Given as goal

abbrev pub invariant-loop-image : goal.invariant-loop-image
invariant-loop-image l = record {
  reported : l.out.items ≡ l.initial.out.items ++ have_lines l.mote l.before l.after l.image;
  room : vec_capacity l.out ≡ vec_capacity l.initial.out;
  few : vec_len l.out ≤ vec_len l.initial.out + l.image;
}
