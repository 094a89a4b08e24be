use Rattle.std.proofs.Common.{◌≡◌, ℕ, ◌+◌, ◌-◌, ◌≤◌, List, length}
use Rattle.dg_base.specs.Outside.{Takes}
use Rattle.dg_base.specs.Sizes.{most_input}
use Rattle.dg_ihex.specs.Streams.{Fed}
use Rattle.dg_input.proofs.read_pieces.Given as goal

-- the reader was given the bytes that were taken from the source, at most one more than those that are used
abbrev pub invariant-loop-count : goal.invariant-loop-count
invariant-loop-count g l =
    ((bytes : List ℕ) × Takes (g.S.Source.left l.initial.source) (g.S.Source.left l.source) bytes × (l.count ≡ length bytes) × Fed l.reader bytes)
    × (g.S.Source.faults l.source ≡ g.S.Source.faults l.initial.source) × (l.count ≤ most_input + 1)

abbrev pub decreases-loop-count : goal.decreases-loop-count
decreases-loop-count g l = most_input + 1 - l.count
