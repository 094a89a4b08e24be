use Rattle.dg_node.proofs.NodeLemmas.{rest_is}
use Rattle.dg_node.proofs.node.Node.due.Goals as goal

pub returns-clause-rests : goal.returns-clause-rests
returns-clause-rests c = λ d m s now word mote l. rest_is m s now word (c.due.ensures.rests d m s mote now word l)
