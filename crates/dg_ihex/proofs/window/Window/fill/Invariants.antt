-- the bytes so far are those of the image
use Rattle.std.proofs.Common.{◌≡◌, ◌+◌, List, take, map, unwrap_or}
use Rattle.std.specs.List.{range_with_len}
use Rattle.dg_ihex.specs.Blocks.{Block, byte_at, lowest_of}
use Rattle.dg_ihex.specs.Windows.{Holds}
use Rattle.dg_ihex.proofs.window.Window.fill.Given as goal

abbrev pub invariant-loop-at : goal.invariant-loop-at
invariant-loop-at l =
    (blocks : List Block) → Holds l.self blocks → take l.at l.image ≡ map (λ k. unwrap_or (byte_at blocks (lowest_of blocks + k)) 255) (range_with_len 0 l.at)
