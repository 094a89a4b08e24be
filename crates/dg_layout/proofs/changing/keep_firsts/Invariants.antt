use Rattle.std.proofs.Common.{◌≡◌, ◌+◌, ◌++◌}
use Rattle.dg_layout.specs.Layout.{each}
use Rattle.dg_story.specs.Reports.{first_of}
use Rattle.dg_layout.proofs.changing.keep_firsts.Given as goal

abbrev pub invariant-loop-mote : goal.invariant-loop-mote
invariant-loop-mote l = l.changes.items ≡ l.initial.changes.items ++ each (λ mote. each (λ i. first_of l.told mote (i + 1)) l.frame.images) l.mote
