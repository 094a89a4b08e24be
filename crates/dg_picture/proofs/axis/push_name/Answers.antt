use Rattle.std.proofs.Common.{◌≡◌, ℕ, List, [], ◌∷◌, ◌++◌, ◌+◌, OnOk, subst}
use Rattle.std.specs.Prelude.{codes}
use Rattle.std.specs.Fmt.{decimal}
use Rattle.dg_words.specs.Lists.{concatenated}
use Rattle.dg_picture.proofs.axis.push_name.Goals as goal

abbrev named : (foot : ℕ) → (name : List ℕ) → List ℕ
named foot name =
    concatenated (codes "<text x=\"80\" y=\"" ∷ decimal (foot + 16) ∷ codes "\" class=\"m\">" ∷ name ∷ codes "</text>\n" ∷ [])

pub returns : goal.returns
returns c =
    subst (λ (name : List ℕ). OnOk c.push_pieces.result (c.push_pieces.new.out.items ≡ c.args.out.now.items ++ named c.args.foot name))
    c.axis_name.ensures c.push_pieces.ensures
