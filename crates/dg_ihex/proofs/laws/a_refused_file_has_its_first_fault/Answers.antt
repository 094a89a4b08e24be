use Rattle.std.proofs.Common.{arith}
use Rattle.dg_ihex.proofs.FaultLemmas.{found}
use Rattle.dg_ihex.proofs.laws.a_refused_file_has_its_first_fault.Goals as goal

pub returns-clause-fault : goal.returns-clause-fault
returns-clause-fault c bytes fault h = (found bytes).fault fault h

pub returns-clause-sound : goal.returns-clause-sound
returns-clause-sound c bytes image h n within = (found bytes).sound image h n (omega arith)

pub returns-clause-image : goal.returns-clause-image
returns-clause-image c bytes image h = (found bytes).image image h
