use Rattle.std.proofs.Common.{◌≡◌, ◌∙◌, ap, sym, [], option_map, Some, None}
use Rattle.std.specs.Prelude.{unwrap_or}
use Rattle.std.proofs.lemmas.Result.{IfOk-weaker}
use Rattle.clap.proofs.WalkLemmas.{first_value-rows}
use Rattle.clap.specs.Words.{found_of, first_of, rows_of}
use Rattle.dg_command.specs.Values.{text_at}
use Rattle.dg_command.proofs.values.text.Goals as goal

pub returns-in-Some : goal.returns-in-Some
unfolding text_at
returns-in-Some c =
    let f = found_of c.args.matches.now in
    let name = c.args.name.now in
    let is : first_of name (rows_of f) ≡ Some c.in-Some.text.now = sym (first_value-rows f name) ∙ (sym c.get_str.ensures ∙ ap (option_map (λ s. s.now)) c.in-Some.is) in
    IfOk-weaker c.from_str.result _ _ (λ s h. h ∙ sym (ap (λ o. unwrap_or o []) is)) c.from_str.ensures.ok

pub returns-in-None : goal.returns-in-None
unfolding text_at
returns-in-None c =
    let f = found_of c.args.matches.now in
    let name = c.args.name.now in
    let is : first_of name (rows_of f) ≡ None = sym (first_value-rows f name) ∙ (sym c.get_str.ensures ∙ ap (option_map (λ s. s.now)) c.in-None.is) in
    c.new.ensures.bytes ∙ sym (ap (λ o. unwrap_or o []) is)
