use Rattle.std.proofs.Common.{◌≡◌, ◌++◌}
use Rattle.dg_layout.specs.Layout.{each}
use Rattle.dg_picture.specs.Picture.{versions_text}
use Rattle.dg_picture.proofs.versions.push_versions.Given as goal

abbrev pub invariant-loop-mote : goal.invariant-loop-mote
invariant-loop-mote l = l.out.items ≡ l.initial.out.items ++ each (versions_text l.frame l.grid l.changes l.image) l.mote
