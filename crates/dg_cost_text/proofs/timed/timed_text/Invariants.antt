use Rattle.std.proofs.Common.{take}
use Rattle.dg_cost_text.specs.Timed.{IsStampedReport}
use Rattle.dg_cost_text.proofs.timed.timed_text.Given as goal

-- the bytes so far are written
abbrev pub invariant-loop-byte : goal.invariant-loop-byte
invariant-loop-byte l = IsStampedReport (take l.byte-index l.report) l.text.items
