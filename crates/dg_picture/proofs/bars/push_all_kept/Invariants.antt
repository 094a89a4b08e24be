use Rattle.std.proofs.Common.{◌≡◌, ◌++◌}
use Rattle.dg_layout.specs.Layout.{each}
use Rattle.dg_picture.specs.Picture.{kept_of}
use Rattle.dg_picture.proofs.bars.push_all_kept.Given as goal

abbrev pub invariant-loop-mote : goal.invariant-loop-mote
invariant-loop-mote l = l.out.items ≡ l.initial.out.items ++ each (kept_of l.frame l.image l.told) l.mote
