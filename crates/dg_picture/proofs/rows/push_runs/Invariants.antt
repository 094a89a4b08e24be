use Rattle.std.proofs.Common.{◌≡◌, ◌++◌}
use Rattle.dg_layout.specs.Layout.{each}
use Rattle.dg_picture.specs.Picture.{run_of}
use Rattle.dg_picture.proofs.rows.push_runs.Given as goal

abbrev pub invariant-loop-mote : goal.invariant-loop-mote
invariant-loop-mote l = l.out.items ≡ l.initial.out.items ++ each (run_of l.frame l.told) l.mote
