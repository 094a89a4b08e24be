use Rattle.std.proofs.Common.{sym, ◌∙◌, arith}
use Rattle.std.proofs.lemmas.Bool.{false≢true}
use Rattle.dg_object.proofs.RestLemmas.{more_is_filled, piece_of_filled}
use Rattle.dg_object.proofs.descriptor.is_filling.Goals as goal

pub returns-then-not-is_filled_piece : goal.returns-then-not-is_filled_piece
returns-then-not-is_filled_piece c = (
  λ yes. absurd (false≢true yes),
  λ each. absurd (false≢true (sym c.if-not-is_filled_piece.true ∙ c.is_filled_piece.ensures.1 (λ i low. piece_of_filled c.args.bytes.now c.loop-at.at c.min-len.result i each low))),
)

pub loop-at-preserved : goal.loop-at-preserved
loop-at-preserved c = record {
  within = omega arith;
  filled = more_is_filled c.args.bytes.now c.loop-at.at c.min-len.result (omega arith) c.loop-at.invariant.filled (c.is_filled_piece.ensures.0 c.if-not-is_filled_piece.false);
}
