use Rattle.std.specs.Prelude.{None, Some}
use Rattle.dg_mote.specs.Effects.{tick_effect}
use Rattle.dg_mote.specs.Motes.{sent_in}
use Rattle.part_mote.proofs.NodeLemmas.{tick_leaves}
use Rattle.part_mote.proofs.turns.tick.Goals as goal

pub returns : goal.returns
returns g c =
    let x = c.requires.node in
    let done = c.in-Ok.ensures x.0 x.1 x.2 in
    tick_leaves c.in-Ok.field-0 (tick_effect x.0 x.1 c.args.now c.args.word) (sent_in c.tick.new.out) (Some c.args.node.now) (g.N.Nor.device c.args.chip.now) (g.N.Nor.device c.tick.new.board) c.tick.new.self c.args.now done
    (c.a_node_stays_timely.ensures.ticked x.0 x.1 c.args.now c.args.word x.3)
