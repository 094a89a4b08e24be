-- A window of cells, which holds the blocks that came so far (Intel Hexadecimal Object File Format Specification, revision A).
use Rattle.std.specs.Prelude.{◌≡◌, ◌≤◌, List}
use Rattle.dg_ihex.specs.Sizes.{longest_image}
use Rattle.dg_ihex.specs.declared.window.Window.{Window}
use Rattle.dg_ihex.specs.Blocks.{Block, byte_at, lowest_of, past_blocks, span_of}
use Rattle.dg_ihex.specs.Cells.{Keeps}

-- a window holds what blocks give, of which no two are too far apart
pub record Holds (window : Window) (blocks : List Block) : Type 0 where
  pub lowest : window.lowest ≡ lowest_of blocks
  pub past : window.past ≡ past_blocks blocks
  pub close : span_of blocks ≤ longest_image
  pub cells : Keeps window.shift window.cells.items (byte_at blocks)
