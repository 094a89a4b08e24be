use Rattle.std.proofs.Common.{◌≡◌, ◌∙◌, ap}
use Rattle.std.proofs.lemmas.Result.{IfOk-weaker}
use Rattle.clap.specs.Words.{app_of, new_app}
use Rattle.clap.specs.Simple.{app_of_fields}
use Rattle.dg_command.specs.Verbs.{command_word}
use Rattle.dg_command.proofs.AppLemmas.{built_app}
use Rattle.dg_command.proofs.apps.verb_command.Goals as goal

pub returns : goal.returns
returns c =
    let begins : app_of c.in_ok-command.command ≡ new_app (command_word c.args.verb) =
    ap app_of_fields c.in_ok-command.ensures.0 ∙ (ap app_of_fields c.after_help.ensures ∙ (ap app_of_fields c.about.ensures ∙ (c.new.ensures.app ∙ ap new_app c.word.ensures))) in
    IfOk-weaker c.args-2.result _ _ (λ m h. built_app c.args.verb c.in_ok-arguments.arguments.items c.in_ok-command.command m begins c.in_ok-arguments.ensures h) c.args-2.ensures
