use Rattle.std.proofs.Common.{ℕ, ◌+◌, ◌-◌, ◌≤◌, List, ◌++◌, length, take}
use Rattle.dg_ihex.specs.Sizes.{most_text}
use Rattle.dg_ihex.specs.Streams.{Going}
use Rattle.dg_ihex.proofs.stream.Stream.take_piece.Given as goal

-- the stream has read the piece up to a place
abbrev pub invariant-loop-from : goal.invariant-loop-from
invariant-loop-from l =
    (l.from ≤ length l.piece)
    × ((input : List ℕ) → Going l.initial.self input → length input + length l.piece ≤ most_text + 1 → Going l.self (input ++ take l.from l.piece))

abbrev pub decreases-loop-from : goal.decreases-loop-from
decreases-loop-from l = length l.piece - l.from
