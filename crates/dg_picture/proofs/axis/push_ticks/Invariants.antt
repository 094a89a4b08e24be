use Rattle.std.proofs.Common.{◌≡◌, ◌++◌}
use Rattle.dg_layout.specs.Layout.{each}
use Rattle.dg_picture.specs.Picture.{tick_text}
use Rattle.dg_picture.proofs.axis.push_ticks.Given as goal

abbrev pub invariant-loop-tick : goal.invariant-loop-tick
invariant-loop-tick l = l.out.items ≡ l.initial.out.items ++ each (tick_text l.timed l.frame l.grid) l.tick
