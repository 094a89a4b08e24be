use Rattle.std.proofs.Common.{ℕ, ◌%◌, List, [], ◌∷◌, ◌++◌, refl, ap, ◌∙◌}
use Rattle.dg_trial.proofs.CutLemmas.{one_cut}
use Rattle.dg_trial.proofs.disturbing.chosen_cut.Goals as goal

pub returns : goal.returns
returns c = one_cut _ _ refl (c.new.ensures ∙ c.push_reserved.ensures.items ∙ ap (λ (xs : List ℕ). xs ++ (c.args.third % 256) ∷ []) c.in_ok-mask.ensures.items)
