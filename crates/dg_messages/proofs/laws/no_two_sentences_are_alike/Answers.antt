use Rattle.std.proofs.Common.{ap, sym, ◌∙◌}
use Rattle.dg_messages.specs.Telling.{begins_with, found_opening, told_number}
use Rattle.dg_messages.proofs.TellLemmas.{tells, some_number}
use Rattle.dg_messages.proofs.laws.no_two_sentences_are_alike.Goals as goal

pub returns-clause-told : goal.returns-clause-told
returns-clause-told c cause = tells cause

pub returns-clause-alike : goal.returns-clause-alike
returns-clause-alike c a b e = sym (tells a) ∙ ap told_number e ∙ tells b

pub returns-clause-some : goal.returns-clause-some
unfolding begins_with found_opening
returns-clause-some c a e = some_number a (ap told_number (sym e) ∙ tells a)
