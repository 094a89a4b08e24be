use Rattle.std.proofs.Common.{ℕ, ◌%◌, List, [], ◌∷◌, ◌++◌, refl, ap, ◌∙◌}
use Rattle.dg_trial.proofs.CutLemmas.{one_cut}
use Rattle.dg_rehearse.proofs.cutting.start_cut.Goals as goal

pub returns-clause-value : goal.returns-clause-value
returns-clause-value c = one_cut _ _ refl (c.new.ensures ∙ c.push_reserved.ensures.items ∙ ap (λ (xs : List ℕ). xs ++ (c.args.mask % 256) ∷ []) c.in_ok-bytes.ensures.items)
