use Rattle.std.proofs.Common.{refl}
use Rattle.clap.proofs.OnLiterals.{clap_on_literals}
use Rattle.dg_command.specs.Apps.{app_of_verb, top_app}
use Rattle.dg_command.specs.Asking.{asked_of}
use Rattle.dg_command.specs.Laws.{split_words}
use Rattle.dg_command.specs.Values.{number_under, text_at, texts_at}
use Rattle.dg_command.proofs.laws.forms_of_a_command.Goals as goal

pub returns-clause-turned : goal.returns-clause-turned
unfolding clap_on_literals app_of_verb top_app asked_of split_words number_under text_at texts_at
returns-clause-turned c = refl

pub returns-clause-attached : goal.returns-clause-attached
unfolding clap_on_literals app_of_verb top_app asked_of split_words number_under text_at texts_at
returns-clause-attached c = refl

pub returns-clause-plus : goal.returns-clause-plus
unfolding clap_on_literals app_of_verb top_app asked_of split_words number_under text_at texts_at
returns-clause-plus c = refl

pub returns-clause-any_file : goal.returns-clause-any_file
unfolding clap_on_literals app_of_verb top_app asked_of split_words number_under text_at texts_at
returns-clause-any_file c = λ file. refl
