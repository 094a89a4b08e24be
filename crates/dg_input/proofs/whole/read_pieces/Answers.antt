use Rattle.std.proofs.Common.{◌≡◌, ◌++◌, length-append, arith}
use Rattle.std.proofs.lemmas.Result.{IfOk-from_err}
use Rattle.dg_base.proofs.OutsideLemmas.{Takes-join}
use Rattle.dg_input.proofs.whole.read_pieces.Goals as goal

-- the bytes before this piece, and those that came with the failure
pub returns-in_err-keep_piece-clause-taken : goal.returns-in_err-keep_piece-clause-taken
returns-in_err-keep_piece-clause-taken g c =
    let piece = c.keep_piece.ensures.taken in
    let before = c.loop-source.bytes.items in
    let left = g.S.Source.left in (
      before ++ piece.0,
      Takes-join (left c.args.source.now) (left c.loop-source.source) (left c.keep_piece.new.source) before piece.0 c.loop-source.invariant.0 piece.1,
      omega (arith, length-append before piece.0, piece.2),
      IfOk-from_err c.from_residual.result (λ v. v.items ≡ before ++ piece.0) c.from_residual.ensures.0,
    )
