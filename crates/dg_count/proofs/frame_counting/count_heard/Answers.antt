use Rattle.dg_count.proofs.FaultLemmas.{one_brought}
use Rattle.dg_count.proofs.frame_counting.count_heard.Goals as goal

pub returns : goal.returns
returns c past p shown has =
    c.hear.ensures past p
    (one_brought c.args.number c.args.mote c.fault_of.result c.requires.hears c.requires.mote c.requires.number c.fault_of.ensures shown) has
