use Rattle.std.proofs.Common.{rules, ◌≡◌, [], ◌∷◌, ◌++◌, append_assoc, ◌∙◌, subst, ap, List, ℕ}
use Rattle.dg_lines.specs.Fields.{field_text, IsPrefixOf}
use Rattle.dg_lines.proofs.FrontLemmas.{on_err}
use Rattle.dg_lines.proofs.spelling.push_behind.Goals as goal

pub returns-clause-err : goal.returns-clause-err
returns-clause-err c =
    let before = c.args.out.now.items in
    let mid = c.push.new.self.items in
    let after = c.push_field.new.out.items in
    let text = field_text c.args.field in
    let there : mid ≡ before ++ 32 ∷ [] = search rules in
    let whole : mid ++ text ≡ before ++ (32 ∷ text) = ap (λ (xs : List ℕ). xs ++ text) there ∙ append_assoc before (32 ∷ []) text in
    let P : List ℕ → Type 0 = λ xs. IsPrefixOf after xs in
    on_err c.push_field.result (subst P whole) c.push_field.ensures.err
