use Rattle.std.proofs.Common.{arith, subst}
use Rattle.std.proofs.lemmas.Result.{err_from_is_err_and}
use Rattle.dg_ihex.specs.Streams.{Going}
use Rattle.dg_ihex.proofs.StreamLemmas.{piece_whole}
use Rattle.dg_ihex.proofs.stream.Stream.take_piece.Goals as goal

pub returns-in_err-from : goal.returns-in_err-from
returns-in_err-from c input g few =
    let p = err_from_is_err_and c.from_residual.result c.from_residual.ensures.1 in
    rw (p.1, p.2) (c.in_err-from.ensures.goes input (c.loop-from.invariant.1 input g few) few)

pub loop-from-preserved : goal.loop-from-preserved
loop-from-preserved c = (c.in_ok-from.ensures.on.1, λ input g few. c.in_ok-from.ensures.goes input (c.loop-from.invariant.1 input g few) few)

pub returns : goal.returns
returns c input g few = subst (Going c.loop-from.self) (piece_whole input c.args.piece.now c.loop-from.from (omega arith)) (c.loop-from.invariant.1 input g few)
