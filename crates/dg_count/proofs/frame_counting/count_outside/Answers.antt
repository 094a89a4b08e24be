use Rattle.dg_count.proofs.FaultLemmas.{bytes_brought_in}
use Rattle.dg_count.proofs.frame_counting.count_outside.Goals as goal

pub returns : goal.returns
returns c past p shown has =
    c.take.ensures past p
    (bytes_brought_in c.args.mote c.is_wide.result c.args.bytes.now c.bytes_fault-fault.result c.requires.outside c.requires.bytes c.requires.mote
    c.is_wide.ensures c.bytes_fault-fault.ensures shown) has
