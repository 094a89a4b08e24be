use Rattle.std.proofs.Common.{◌≡◌, ℕ, ◌+◌, ◌<◌, length, slice_index}
use Rattle.dg_nor.specs.Sparse.{board_pieces}
use Rattle.dg_nor.proofs.cells.places_in_order.Given as goal

abbrev pub invariant-loop-piece : goal.invariant-loop-piece
invariant-loop-piece l = record {
  long : length l.places ≡ board_pieces;
  done : (k : ℕ) → k < l.piece → slice_index l.places k ≡ k + 1;
}
