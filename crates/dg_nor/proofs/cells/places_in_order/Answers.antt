use Rattle.std.proofs.Common.{◌+◌, get_or, set, length-set, sym, ap, ◌∙◌, ⊎_elim, arith}
use Rattle.std.proofs.lemmas.Bool.{cases_eq}
use Rattle.std.proofs.lemmas.List.{get_or-set_same, get_or-set_other}
use Rattle.dg_nor.proofs.cells.places_in_order.Goals as goal

pub loop-piece-preserved : goal.loop-piece-preserved
loop-piece-preserved c =
    let places = c.loop-piece.places in
    let piece = c.loop-piece.piece in
    let before = c.loop-piece.invariant in
    record {
      long = length-set places piece (piece + 1) ∙ before.long;
      done = λ k h. ⊎_elim
          (λ e. ap (λ j. get_or (set places piece (piece + 1)) j 0) e ∙ get_or-set_same places piece (piece + 1) 0 (omega arith) ∙ ap (λ j. j + 1) (sym e))
          (λ ne. get_or-set_other places piece k (piece + 1) 0 ne ∙ before.done k (omega arith))
          (cases_eq k piece);
    }

pub returns : goal.returns
returns c = λ k h. c.loop-piece.invariant.done k (omega arith)
