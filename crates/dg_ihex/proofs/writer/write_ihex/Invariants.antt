-- the lines of the pieces so far
use Rattle.std.proofs.Common.{◌≡◌}
use Rattle.std.specs.List.{flat_map, range_with_len}
use Rattle.dg_ihex.specs.Written.{lines_at}
use Rattle.dg_ihex.specs.inner.Words.{ended_by_feed}
use Rattle.dg_ihex.proofs.writer.write_ihex.Given as goal

abbrev pub invariant-loop-piece : goal.invariant-loop-piece
invariant-loop-piece l = l.text.items ≡ flat_map ended_by_feed (flat_map (lines_at l.bytes) (range_with_len 0 l.piece))
