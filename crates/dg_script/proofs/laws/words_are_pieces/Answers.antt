use Rattle.dg_script.proofs.PieceLemmas.{are_words}
use Rattle.dg_script.proofs.laws.words_are_pieces.Goals as goal

pub returns : goal.returns
returns c = λ text. are_words text
