use Rattle.std.proofs.Common.{◌≡◌, ◌-◌, length}
use Rattle.dg_lines.specs.LineReading.{most_kept}
use Rattle.dg_lines.proofs.PassingLemmas.{Looking}
use Rattle.dg_lines.proofs.line_reader.LineReader.next_far.Given as goal

-- some bytes came after those that were there, and no LF is among those that were searched
abbrev pub invariant-loop-at : goal.invariant-loop-at
invariant-loop-at g l =
    Looking (g.S.Source.left l.initial.input) (g.S.Source.left l.input) l.initial.self l.self l.looked
    × (g.S.Source.faults l.input ≡ g.S.Source.faults l.initial.input)

-- the bytes for which there is room
abbrev pub decreases-loop-at : goal.decreases-loop-at
decreases-loop-at g l = most_kept - length l.self.ahead
