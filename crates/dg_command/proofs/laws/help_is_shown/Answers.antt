use Rattle.std.proofs.Common.{refl}
use Rattle.clap.proofs.OnLiterals.{clap_on_literals}
use Rattle.dg_command.specs.Apps.{app_of_verb, top_app}
use Rattle.dg_command.specs.Asking.{asked_of}
use Rattle.dg_command.specs.Laws.{split_words}
use Rattle.dg_command.specs.Values.{number_under, text_at, texts_at}
use Rattle.dg_command.proofs.laws.help_is_shown.Goals as goal

pub returns-clause-top : goal.returns-clause-top
unfolding clap_on_literals app_of_verb top_app asked_of split_words number_under text_at texts_at
returns-clause-top c = refl

pub returns-clause-version : goal.returns-clause-version
unfolding clap_on_literals app_of_verb top_app asked_of split_words number_under text_at texts_at
returns-clause-version c = refl

pub returns-clause-verb : goal.returns-clause-verb
unfolding clap_on_literals app_of_verb top_app asked_of split_words number_under text_at texts_at
returns-clause-verb c = refl

pub returns-clause-first : goal.returns-clause-first
unfolding clap_on_literals app_of_verb top_app asked_of split_words number_under text_at texts_at
returns-clause-first c = refl

pub returns-clause-late : goal.returns-clause-late
unfolding clap_on_literals app_of_verb top_app asked_of split_words number_under text_at texts_at
returns-clause-late c = refl
