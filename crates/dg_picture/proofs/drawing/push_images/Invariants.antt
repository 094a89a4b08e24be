use Rattle.std.proofs.Common.{◌≡◌, ◌++◌}
use Rattle.dg_layout.specs.Layout.{each}
use Rattle.dg_picture.specs.Picture.{images_text}
use Rattle.dg_picture.proofs.drawing.push_images.Given as goal

abbrev pub invariant-loop-before : goal.invariant-loop-before
invariant-loop-before l = l.out.items ≡ l.initial.out.items ++ each (images_text l.frame l.grid l.told l.changes) l.before
