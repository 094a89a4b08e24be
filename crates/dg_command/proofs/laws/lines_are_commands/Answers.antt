use Rattle.std.proofs.Common.{refl}
use Rattle.clap.proofs.OnLiterals.{clap_on_literals}
use Rattle.dg_command.specs.Apps.{app_of_verb, top_app}
use Rattle.dg_command.specs.Asking.{asked_of}
use Rattle.dg_command.specs.Laws.{split_words}
use Rattle.dg_command.specs.Values.{number_under, text_at, texts_at}
use Rattle.dg_command.proofs.laws.lines_are_commands.Goals as goal

pub returns-clause-replay : goal.returns-clause-replay
unfolding clap_on_literals app_of_verb top_app asked_of split_words number_under text_at texts_at
returns-clause-replay c = refl

pub returns-clause-in_memory : goal.returns-clause-in_memory
unfolding clap_on_literals app_of_verb top_app asked_of split_words number_under text_at texts_at
returns-clause-in_memory c = refl

pub returns-clause-serve : goal.returns-clause-serve
unfolding clap_on_literals app_of_verb top_app asked_of split_words number_under text_at texts_at
returns-clause-serve c = refl

pub returns-clause-format : goal.returns-clause-format
unfolding clap_on_literals app_of_verb top_app asked_of split_words number_under text_at texts_at
returns-clause-format c = refl

pub returns-clause-inject : goal.returns-clause-inject
unfolding clap_on_literals app_of_verb top_app asked_of split_words number_under text_at texts_at
returns-clause-inject c = refl

pub returns-clause-order : goal.returns-clause-order
unfolding clap_on_literals app_of_verb top_app asked_of split_words number_under text_at texts_at
returns-clause-order c = refl

pub returns-clause-boot : goal.returns-clause-boot
unfolding clap_on_literals app_of_verb top_app asked_of split_words number_under text_at texts_at
returns-clause-boot c = refl

pub returns-clause-ping : goal.returns-clause-ping
unfolding clap_on_literals app_of_verb top_app asked_of split_words number_under text_at texts_at
returns-clause-ping c = refl

pub returns-clause-dump : goal.returns-clause-dump
unfolding clap_on_literals app_of_verb top_app asked_of split_words number_under text_at texts_at
returns-clause-dump c = refl

pub returns-clause-trial : goal.returns-clause-trial
unfolding clap_on_literals app_of_verb top_app asked_of split_words number_under text_at texts_at
returns-clause-trial c = refl

pub returns-clause-drip : goal.returns-clause-drip
unfolding clap_on_literals app_of_verb top_app asked_of split_words number_under text_at texts_at
returns-clause-drip c = refl

pub returns-clause-base : goal.returns-clause-base
unfolding clap_on_literals app_of_verb top_app asked_of split_words number_under text_at texts_at
returns-clause-base c = refl

pub returns-clause-old_form : goal.returns-clause-old_form
unfolding clap_on_literals app_of_verb top_app asked_of split_words number_under text_at texts_at
returns-clause-old_form c = refl

pub returns-clause-last_image : goal.returns-clause-last_image
unfolding clap_on_literals app_of_verb top_app asked_of split_words number_under text_at texts_at
returns-clause-last_image c = refl

pub returns-clause-migrate : goal.returns-clause-migrate
unfolding clap_on_literals app_of_verb top_app asked_of split_words number_under text_at texts_at
returns-clause-migrate c = refl
