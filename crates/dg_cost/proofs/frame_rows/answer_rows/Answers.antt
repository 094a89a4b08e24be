use Rattle.std.proofs.Common.{[], ◌∷◌, ℕ, List, refl}
use Rattle.std.specs.Prelude.{codes}
use Rattle.dg_cost_text.proofs.MomentLemmas.{none_yet, then_none, named_then}
use Rattle.dg_cost.proofs.frame_rows.answer_rows.Goals as goal

abbrev answers : List (List ℕ)
answers =
    codes "refused" ∷ codes "dropped" ∷ codes "noted" ∷ codes "same" ∷ codes "other" ∷ codes "asks" ∷ codes "serves" ∷ codes "merged"
    ∷ codes "took" ∷ codes "sealed" ∷ codes "bad" ∷ codes "cut" ∷ []

pub returns : goal.returns
returns c =
    let answered = named_then (codes "answer.") [] answers c.args.hot.now.answers (none_yet c.new-rows.ensures) c.in_ok-each.ensures (λ rest. refl) in
    then_none (then_none answered c.in_ok-push_neighbours.ensures) c.in_ok-push_packets.ensures
