use Rattle.dg_ihex.proofs.FaultLemmas.{image_given, image_gap, length-image_of}
use Rattle.dg_ihex.proofs.laws.an_image_holds_what_is_given.Goals as goal

pub returns-clause-given : goal.returns-clause-given
returns-clause-given c blocks address byte h = image_given blocks address byte h

pub returns-clause-gap : goal.returns-clause-gap
returns-clause-gap c blocks address low high h = image_gap blocks address low high h

pub returns-clause-length : goal.returns-clause-length
returns-clause-length c blocks = length-image_of blocks
