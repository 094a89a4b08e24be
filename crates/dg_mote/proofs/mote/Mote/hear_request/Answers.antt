use Rattle.std.proofs.Common.{◌≡◌, true, false, ◌∙◌, arith}
use Rattle.std.specs.Prelude.{◌==◌}
use Rattle.std.proofs.lemmas.Bool.Decides.{nat_tests}
use Rattle.dg_mote.proofs.ServeLemmas.{rests_chosen, rests_passed}
use Rattle.dg_mote.proofs.mote.Mote.hear_request.Goals as goal

pub returns-then-to-self-clause-rests : goal.returns-then-to-self-clause-rests
returns-then-to-self-clause-rests c d m s is =
    let same = c.if-to-self.true ∙ is.id in
    let e : c.args.to == m.id ≡ true = grind (arith, nat_tests) in
    rests_chosen (c.args.to == m.id) _ _ d s _ _ e (c.answer_request.ensures.rests d m s is)

pub returns-else-to-self-clause-rests : goal.returns-else-to-self-clause-rests
returns-else-to-self-clause-rests c d m s is =
    let other = c.if-to-self.false in
    let id = is.id in
    let e : c.args.to == m.id ≡ false = grind (arith, nat_tests) in
    rests_passed (c.args.to == m.id) _ _ d s _ _ e (c.overhear_request.ensures.rests d m s is)
