use Rattle.std.proofs.Common.{rules, ◌≡◌, ◌++◌, codes, append_assoc, ◌∙◌, subst, ap, List, ℕ}
use Rattle.dg_base.specs.Hexadecimal.{hex_text}
use Rattle.dg_lines.specs.Fields.{IsPrefixOf}
use Rattle.dg_lines.proofs.FrontLemmas.{on_err, front_none}
use Rattle.dg_lines.proofs.spelling.push_content.Goals as goal

pub returns-clause-err : goal.returns-clause-err
returns-clause-err c =
    let before = c.args.out.now.items in
    let mid = c.extend_from_slice.new.self.items in
    let after = c.push_hex.new.out.items in
    let text = hex_text c.args.bytes.now in
    let there : mid ≡ before ++ codes "hex:" = search rules in
    let whole : mid ++ text ≡ before ++ (codes "hex:" ++ text) = ap (λ (xs : List ℕ). xs ++ text) there ∙ append_assoc before (codes "hex:") text in
    let P : List ℕ → Type 0 = λ xs. IsPrefixOf after xs in
    on_err c.push_hex.result (λ same. subst P whole (front_none mid after text same)) c.push_hex.ensures.err
