use Rattle.std.proofs.Common.{◌++◌, ◌∙◌, arith}
use Rattle.std.proofs.lemmas.List.{length-append}
use Rattle.std.proofs.lemmas.Result.{IfOk-from_err}
use Rattle.dg_base.proofs.OutsideLemmas.{Takes-join}
use Rattle.dg_input.proofs.PieceLemmas.{ok_unlike}
use Rattle.dg_input.proofs.read_pieces.Goals as goal

-- the bytes before this piece, and those that came with the failure
pub returns-in_err-came-clause-taken : goal.returns-in_err-came-clause-taken
returns-in_err-came-clause-taken g c =
    let left = g.S.Source.left in
    let before = c.loop-count.invariant.0 in
    let piece = c.in_err-came.ensures.taken in (
      before.0 ++ piece.0,
      Takes-join (left c.args.source.now) (left c.loop-count.source) (left c.feed_piece.new.source) before.0 piece.0 before.1 piece.1,
      omega (arith, length-append before.0 piece.0, before.2, piece.2, c.loop-count.invariant.2),
      IfOk-from_err c.from_residual.result _ c.from_residual.ensures.0,
    )

pub loop-count-preserved : goal.loop-count-preserved
loop-count-preserved g c =
    let left = g.S.Source.left in
    let before = c.loop-count.invariant.0 in
    let piece = c.in_ok-came.ensures.taken in (
      (
        before.0 ++ piece.0,
        Takes-join (left c.args.source.now) (left c.loop-count.source) (left c.feed_piece.new.source) before.0 piece.0 before.1 piece.1,
        omega (arith, length-append before.0 piece.0, before.2, piece.3),
        piece.4 before.0 before.3 (omega (arith, before.2, c.loop-count.invariant.2)),
      ),
      c.in_ok-came.ensures.unfailed (ok_unlike _ _) ∙ c.loop-count.invariant.1,
      omega (arith, piece.2, piece.3, c.loop-count.invariant.2),
    )
