use Rattle.std.proofs.Common.{rules, ◌≡◌, [], ◌∷◌, ◌++◌, append_assoc, ◌∙◌, subst, ap, List, ℕ}
use Rattle.dg_lines.specs.Fields.{fields_text, IsPrefixOf}
use Rattle.dg_lines.proofs.FrontLemmas.{any_err, front_none, front_first}
use Rattle.dg_lines.proofs.spelling.push_line.Goals as goal

pub returns-in_err-push_fields-clause-err : goal.returns-in_err-push_fields-clause-err
returns-in_err-push_fields-clause-err c =
    let before = c.args.out.now.items in
    let word = c.args.word.now in
    let text = fields_text c.args.fields.now in
    let mid = c.extend_from_slice.new.self.items in
    let after = c.push_fields.new.out.items in
    let there : mid ≡ before ++ word = search rules in
    let whole : (mid ++ text) ++ 10 ∷ [] ≡ before ++ (word ++ text ++ 10 ∷ []) =
    ap (λ (xs : List ℕ). (xs ++ text) ++ 10 ∷ []) there ∙ ap (λ (xs : List ℕ). xs ++ 10 ∷ []) (append_assoc before word text) ∙ append_assoc before (word ++ text) (10 ∷ []) in
    let P : List ℕ → Type 0 = λ xs. IsPrefixOf after xs in
    any_err c.from_residual-in_err-push_fields.result (subst P whole (front_first (mid ++ text) after (10 ∷ []) c.in_err-push_fields.ensures.err))

pub returns-in_err-push-clause-err : goal.returns-in_err-push-clause-err
returns-in_err-push-clause-err c =
    let before = c.args.out.now.items in
    let word = c.args.word.now in
    let text = fields_text c.args.fields.now in
    let mid = c.extend_from_slice.new.self.items in
    let last = c.push_fields.new.out.items in
    let after = c.push.new.self.items in
    let there : mid ≡ before ++ word = search rules in
    let appended : last ≡ mid ++ text = search rules in
    let same : after ≡ last = search rules in
    let whole : last ++ 10 ∷ [] ≡ before ++ (word ++ text ++ 10 ∷ []) =
    ap (λ (xs : List ℕ). xs ++ 10 ∷ []) appended
    ∙ ap (λ (xs : List ℕ). (xs ++ text) ++ 10 ∷ []) there ∙ ap (λ (xs : List ℕ). xs ++ 10 ∷ []) (append_assoc before word text) ∙ append_assoc before (word ++ text) (10 ∷ []) in
    let P : List ℕ → Type 0 = λ xs. IsPrefixOf after xs in
    any_err c.from_residual-in_err-push.result (subst P whole (front_none last after (10 ∷ []) same))
