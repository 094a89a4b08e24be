use Rattle.dg_script.proofs.SpelledLemmas.{is_spelled}
use Rattle.dg_script.proofs.laws.what_is_spelled_fits.Goals as goal

pub returns-clause-stands : goal.returns-clause-stands
returns-clause-stands c = λ place text line e. (is_spelled place text line e).stands

pub returns-clause-fits : goal.returns-clause-fits
returns-clause-fits c = λ place text line e. (is_spelled place text line e).fits

pub returns-clause-played : goal.returns-clause-played
returns-clause-played c = λ place text line e. (is_spelled place text line e).played
