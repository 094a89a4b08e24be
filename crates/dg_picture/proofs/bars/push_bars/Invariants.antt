use Rattle.std.proofs.Common.{◌≡◌, ◌++◌}
use Rattle.dg_layout.specs.Layout.{each}
use Rattle.dg_layout.specs.Counts.{held}
use Rattle.dg_picture.specs.Picture.{bar_text}
use Rattle.dg_picture.proofs.bars.push_bars.Given as goal

abbrev pub invariant-loop-mote : goal.invariant-loop-mote
invariant-loop-mote l = l.out.items ≡ l.initial.out.items ++ each (bar_text (held l.counts) l.frame l.grid l.changes l.image) l.mote
