use Rattle.std.proofs.Common.{refl}
use Rattle.clap.proofs.OnLiterals.{clap_on_literals}
use Rattle.dg_command.specs.Apps.{app_of_verb, top_app}
use Rattle.dg_command.specs.Asking.{asked_of}
use Rattle.dg_command.specs.Laws.{split_words}
use Rattle.dg_command.specs.Values.{number_under, text_at, texts_at}
use Rattle.dg_command.proofs.laws.misused_words.Goals as goal

pub returns-clause-no_word : goal.returns-clause-no_word
unfolding clap_on_literals app_of_verb top_app asked_of split_words number_under text_at texts_at
returns-clause-no_word c = refl

pub returns-clause-unknown : goal.returns-clause-unknown
unfolding clap_on_literals app_of_verb top_app asked_of split_words number_under text_at texts_at
returns-clause-unknown c = refl

pub returns-clause-missing : goal.returns-clause-missing
unfolding clap_on_literals app_of_verb top_app asked_of split_words number_under text_at texts_at
returns-clause-missing c = refl

pub returns-clause-twice : goal.returns-clause-twice
unfolding clap_on_literals app_of_verb top_app asked_of split_words number_under text_at texts_at
returns-clause-twice c = refl

pub returns-clause-too_high : goal.returns-clause-too_high
unfolding clap_on_literals app_of_verb top_app asked_of split_words number_under text_at texts_at
returns-clause-too_high c = refl

pub returns-clause-too_low : goal.returns-clause-too_low
unfolding clap_on_literals app_of_verb top_app asked_of split_words number_under text_at texts_at
returns-clause-too_low c = refl

pub returns-clause-name : goal.returns-clause-name
unfolding clap_on_literals app_of_verb top_app asked_of split_words number_under text_at texts_at
returns-clause-name c = refl

pub returns-clause-short_root : goal.returns-clause-short_root
unfolding clap_on_literals app_of_verb top_app asked_of split_words number_under text_at texts_at
returns-clause-short_root c = refl

pub returns-clause-no_root : goal.returns-clause-no_root
unfolding clap_on_literals app_of_verb top_app asked_of split_words number_under text_at texts_at
returns-clause-no_root c = refl

pub returns-clause-golden_received : goal.returns-clause-golden_received
unfolding clap_on_literals app_of_verb top_app asked_of split_words number_under text_at texts_at
returns-clause-golden_received c = refl

pub returns-clause-long_step : goal.returns-clause-long_step
unfolding clap_on_literals app_of_verb top_app asked_of split_words number_under text_at texts_at
returns-clause-long_step c = refl

pub returns-clause-file_of_a_script : goal.returns-clause-file_of_a_script
unfolding clap_on_literals app_of_verb top_app asked_of split_words number_under text_at texts_at
returns-clause-file_of_a_script c = refl

pub returns-clause-no_form : goal.returns-clause-no_form
unfolding clap_on_literals app_of_verb top_app asked_of split_words number_under text_at texts_at
returns-clause-no_form c = refl
