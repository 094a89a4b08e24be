use Rattle.std.proofs.Common.{◌≡◌, ◌∙◌, ap, sym, [], map, string_bytes, option_map, Some, None}
use Rattle.std.specs.Prelude.{unwrap_or}
use Rattle.std.proofs.lemmas.Result.{IfOk-weaker}
use Rattle.clap.proofs.WalkLemmas.{raw_values-rows}
use Rattle.clap.specs.Words.{all_of, found_of, rows_of}
use Rattle.dg_command.specs.Values.{texts_at}
use Rattle.dg_command.proofs.values.texts.Goals as goal

pub returns-in-Some : goal.returns-in-Some
unfolding texts_at
returns-in-Some c =
    let f = found_of c.args.matches.now in
    let name = c.args.name.now in
    let is : all_of name (rows_of f) ≡ Some (map (λ v. v.now) c.in-Some.found.now) = sym (raw_values-rows f name) ∙ (sym c.get_strs.ensures ∙ ap (option_map (λ s. map (λ v. v.now) s.now)) c.in-Some.is) in
    IfOk-weaker c.copies.result _ _ (λ s h. h ∙ sym (ap (λ o. unwrap_or o []) is)) c.copies.ensures

pub returns-in-None : goal.returns-in-None
unfolding texts_at
returns-in-None c =
    let f = found_of c.args.matches.now in
    let name = c.args.name.now in
    let is : all_of name (rows_of f) ≡ None = sym (raw_values-rows f name) ∙ (sym c.get_strs.ensures ∙ ap (option_map (λ s. map (λ v. v.now) s.now)) c.in-None.is) in
    ap (map string_bytes) c.new.ensures.items ∙ sym (ap (λ o. unwrap_or o []) is)
