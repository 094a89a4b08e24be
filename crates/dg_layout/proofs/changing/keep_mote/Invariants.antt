use Rattle.std.proofs.Common.{◌≡◌, ◌+◌, ◌++◌}
use Rattle.dg_layout.specs.Layout.{each}
use Rattle.dg_story.specs.Reports.{first_of}
use Rattle.dg_layout.proofs.changing.keep_mote.Given as goal

abbrev pub invariant-loop-before : goal.invariant-loop-before
invariant-loop-before l = l.changes.items ≡ l.initial.changes.items ++ each (λ i. first_of l.told l.mote (i + 1)) l.before
