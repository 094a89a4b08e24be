use Rattle.std.proofs.Common.{◌≡◌, ◌+◌, ◌-◌, ◌≤◌, vec_len}
use Rattle.dg_base.specs.Outside.{Takes}
use Rattle.dg_base.specs.Sizes.{most_input}
use Rattle.dg_input.proofs.whole.read_pieces.Given as goal

-- the bytes were taken from the source, and are at most one more than those that are used
abbrev pub invariant-loop-source : goal.invariant-loop-source
invariant-loop-source g l =
    Takes (g.S.Source.left l.initial.source) (g.S.Source.left l.source) l.bytes.items
    × (g.S.Source.faults l.source ≡ g.S.Source.faults l.initial.source) × (vec_len l.bytes ≤ most_input + 1)

abbrev pub decreases-loop-source : goal.decreases-loop-source
decreases-loop-source g l = most_input + 1 - vec_len l.bytes
