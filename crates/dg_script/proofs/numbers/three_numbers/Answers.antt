use Rattle.std.proofs.Common.{◌≡◌, ◌∷◌, Some, length, sym, ap, ◌∙◌}
use Rattle.std.proofs.lemmas.Bool.{eqb-true}
use Rattle.dg_script.proofs.NumberLineLemmas.{no_numbers}
use Rattle.dg_script.proofs.numbers.three_numbers.Goals as goal

pub returns-clause-numbers : goal.returns-clause-numbers
returns-clause-numbers c =
    let none : length c.in_ok-third.rest.now ≡ 0 = eqb-true _ _ (sym c.is_empty.ensures ∙ c.if-not-is_empty.false) in
    c.in_ok-first.ensures.number
    ∙ ap (λ os. Some c.in_ok-first.first ∷ os) (
    c.in_ok-second.ensures.number
    ∙ ap (λ os. Some c.in_ok-second.second ∷ os) (
    c.in_ok-third.ensures.number ∙ ap (λ os. Some c.in_ok-third.third ∷ os) (no_numbers c.in_ok-third.rest.now none)
    )
    )
