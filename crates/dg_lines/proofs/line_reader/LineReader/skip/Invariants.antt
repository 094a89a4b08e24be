use Rattle.std.proofs.Common.{◌≡◌, ◌+◌, ◌-◌, length}
use Rattle.dg_lines.specs.LineReading.{most_used_bytes}
use Rattle.dg_lines.proofs.PassingLemmas.{Passing}
use Rattle.dg_lines.proofs.line_reader.LineReader.skip.Given as goal

-- some bytes were taken, and no line ended among them
abbrev pub invariant-loop-stop : goal.invariant-loop-stop
invariant-loop-stop g l =
    Passing (g.S.Source.left l.initial.input) (g.S.Source.left l.input) l.initial.self l.self
    × (g.S.Source.faults l.input ≡ g.S.Source.faults l.initial.input)

-- the bytes that may still be taken
abbrev pub decreases-loop-stop : goal.decreases-loop-stop
decreases-loop-stop g l = most_used_bytes - (l.self.passed + length l.self.ahead)
