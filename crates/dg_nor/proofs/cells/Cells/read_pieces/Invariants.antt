-- The first bytes were read.
use Rattle.std.proofs.Common.{◌≡◌, ◌-◌, ◌≤◌, length}
use Rattle.dg_words.specs.Cells.{part}
use Rattle.dg_nor.specs.Backing.{cells_image}
use Rattle.dg_nor.proofs.cells.Cells.read_pieces.Given as goal

abbrev pub invariant-loop-done : goal.invariant-loop-done
invariant-loop-done l = record {
  inside : l.done ≤ length l.into;
  long : length l.into ≡ length l.initial.into;
  read : part l.into 0 l.done ≡ part (cells_image l.self) l.at l.done;
}

abbrev pub decreases-loop-done : goal.decreases-loop-done
decreases-loop-done l = length l.into - l.done
