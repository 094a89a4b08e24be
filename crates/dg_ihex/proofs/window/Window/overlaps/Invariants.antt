-- the rest of the addresses has one that is given, if all of them have
use Rattle.std.proofs.Common.{◌≡◌, ◌+◌, ◌-◌, List, length}
use Rattle.std.specs.List.{list_any, range_with_len}
use Rattle.dg_ihex.specs.Blocks.{Block}
use Rattle.dg_ihex.specs.inner.Words.{is_given}
use Rattle.dg_ihex.specs.Windows.{Holds}
use Rattle.dg_ihex.proofs.window.Window.overlaps.Given as goal

abbrev pub invariant-loop-at : goal.invariant-loop-at
invariant-loop-at l =
    (blocks : List Block) → Holds l.self blocks
    → list_any (is_given blocks) (range_with_len l.at (l.address + length l.bytes - l.at)) ≡ list_any (is_given blocks) (range_with_len l.address (length l.bytes))
