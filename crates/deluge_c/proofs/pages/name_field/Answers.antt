use Rattle.std.proofs.Common.{◌∙◌, ℕ, List, ◌++◌, length, drop, replicate, ap}
use Rattle.std.proofs.lemmas.List.{drop-replicate}
use Rattle.dg_words.specs.Lists.{padded}
use Rattle.deluge_c.proofs.pages.name_field.Goals as goal

pub returns : goal.returns
unfolding padded
returns c =
    let n = length c.args.name.now in
    ap (λ (xs : List ℕ). xs ++ drop n (replicate 16 0)) c.copy_from_slice.ensures.after ∙ ap (λ (ys : List ℕ). c.args.name.now ++ ys) (drop-replicate n 16 0)
