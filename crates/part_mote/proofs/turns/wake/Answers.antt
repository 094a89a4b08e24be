use Rattle.std.specs.Prelude.{None, true}
use Rattle.dg_mote.specs.Effects.{reset_effect}
use Rattle.part_mote.proofs.NodeLemmas.{leaves_timely}
use Rattle.part_mote.proofs.turns.wake.Goals as goal

pub returns : goal.returns
returns g c =
    let s = c.in_ok-powered.ensures.finds in
    let done = c.in_ok-powered.ensures.done s.0 None s.1 in
    leaves_timely (reset_effect s.0 c.args.id true 0 c.from.result) None None (g.N.Nor.device c.args.chip.now) (g.N.Nor.device c.power.new.board) c.in_ok-powered.powered.node 0 done.0
    (c.a_node_stays_timely.ensures.powered s.0 c.args.id 0 c.from.result true)
