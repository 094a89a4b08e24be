use Rattle.std.proofs.Common.{◌≡◌, ◌∙◌, ap, true, codes}
use Rattle.clap.specs.Words.{App, app_of, new_app}
use Rattle.clap.specs.Simple.{app_of_fields}
use Rattle.dg_command.specs.Apps.{top_app}
use Rattle.dg_command.proofs.apps.top_command.Goals as goal

abbrev versioned : App → App
versioned a = record a { top = record a.top { has_version = true } }

abbrev nameless : App → App
nameless a = record a { top = record a.top { no_binary_name = true } }

pub returns : goal.returns
unfolding top_app
returns c =
    let plain : app_of c.after_help.result ≡ new_app (codes "deluge") =
    ap app_of_fields c.after_help.ensures ∙ (ap app_of_fields c.override_usage.ensures ∙ (ap app_of_fields c.about.ensures ∙ c.new.ensures.app)) in
    let told : app_of c.version.result ≡ versioned (app_of c.after_help.result) = ap app_of_fields c.version.ensures in
    let last : app_of c.no_binary_name.result ≡ nameless (app_of c.version.result) = ap app_of_fields c.no_binary_name.ensures in
    last ∙ ap nameless (told ∙ ap versioned plain)
