use Rattle.std.proofs.Common.{refl}
use Rattle.dg_drip_script.specs.Reports.{node_text}
use Rattle.dg_drip_run.proofs.FinishLemmas.{told_next}
use Rattle.dg_drip_run.proofs.finish.push_nodes.Goals as goal

pub loop-node-preserved : goal.loop-node-preserved
loop-node-preserved c = λ w h.
    told_next (node_text w) c.loop-node.node c.args.text.now.items c.loop-node.text.items c.push_node.new.text.items (node_text w c.loop-node.node) (c.loop-node.invariant w h) refl (c.in_ok-push_node.ensures w h)
