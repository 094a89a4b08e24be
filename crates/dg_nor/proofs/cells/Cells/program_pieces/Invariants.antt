-- The first bytes were programmed.
use Rattle.std.proofs.Common.{◌≡◌, ◌-◌, ◌≤◌, length}
use Rattle.dg_words.specs.Cells.{part}
use Rattle.dg_nor.specs.Chip.{programmed}
use Rattle.dg_nor.specs.Backing.{cells_image}
use Rattle.dg_nor.proofs.cells.Cells.program_pieces.Given as goal

abbrev pub invariant-loop-done : goal.invariant-loop-done
invariant-loop-done l = record {
  inside : l.done ≤ length l.bytes;
  made : cells_image l.self ≡ programmed (cells_image l.fn.self) l.at (part l.bytes 0 l.done);
}

abbrev pub decreases-loop-done : goal.decreases-loop-done
decreases-loop-done l = length l.bytes - l.done
