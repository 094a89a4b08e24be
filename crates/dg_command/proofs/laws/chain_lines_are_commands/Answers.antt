use Rattle.std.proofs.Common.{refl}
use Rattle.clap.proofs.OnLiterals.{clap_on_literals}
use Rattle.dg_command.specs.Apps.{app_of_verb, top_app}
use Rattle.dg_command.specs.Asking.{asked_of}
use Rattle.dg_command.specs.Laws.{split_words}
use Rattle.dg_command.specs.Values.{number_under, text_at, texts_at}
use Rattle.dg_command.proofs.laws.chain_lines_are_commands.Goals as goal

pub returns-clause-wrap : goal.returns-clause-wrap
unfolding clap_on_literals app_of_verb top_app asked_of split_words number_under text_at texts_at
returns-clause-wrap c = refl

pub returns-clause-check : goal.returns-clause-check
unfolding clap_on_literals app_of_verb top_app asked_of split_words number_under text_at texts_at
returns-clause-check c = refl

pub returns-clause-receive : goal.returns-clause-receive
unfolding clap_on_literals app_of_verb top_app asked_of split_words number_under text_at texts_at
returns-clause-receive c = refl
