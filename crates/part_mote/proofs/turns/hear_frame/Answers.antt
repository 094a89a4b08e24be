use Rattle.std.specs.Prelude.{None, Some}
use Rattle.dg_mote.specs.Effects.{frame_effect}
use Rattle.part_mote.proofs.NodeLemmas.{leaves_timely}
use Rattle.part_mote.proofs.turns.hear_frame.Goals as goal

pub returns : goal.returns
returns g c =
    let x = c.requires.node in
    let done = c.in_ok-hear.ensures.done x.0 x.1 x.2 in
    leaves_timely (frame_effect x.0 x.1 c.args.now c.args.word c.args.frame.now) None (Some c.args.node.now) (g.N.Nor.device c.args.chip.now) (g.N.Nor.device c.hear.new.board) c.hear.new.self c.args.now done.0
    (c.a_node_stays_timely.ensures.heard x.0 x.1 c.args.now c.args.word c.args.frame.now x.3)
