use Rattle.std.proofs.Common.{ap, Err}
use Rattle.dg_boot.specs.declared.BootFault.{BootFault}
use Rattle.dg_node.proofs.NodeLemmas.{started, start_fails}
use Rattle.dg_node.proofs.power.begin.Goals as goal

pub node_of_start-requires-clause-free : goal.node_of_start-requires-clause-free
node_of_start-requires-clause-free g c = let v = c.in-Ok.ensures.volume in (c.in-Ok.ensures.started v.0 v.1).free

pub returns-in-Ok-clause-done : goal.returns-in-Ok-clause-done
returns-in-Ok-clause-done g c = λ s before stands.
    started c.args.cause s c.args.at.id c.args.at.wide c.args.at.now c.args.at.word before _ _ c.in-Ok.started c.node_of_start.result c.node_of_start.ensures (c.in-Ok.ensures.started s stands)

pub returns-in-Err-clause-done : goal.returns-in-Err-clause-done
returns-in-Err-clause-done g c = λ s before stands.
    start_fails c.args.cause s c.args.at.id c.args.at.wide c.args.at.now c.args.at.word c.in-Err.fault before _ _
    (λ is. c.in-Err.ensures.stopped (ap (λ (e : BootFault). Err e) is) s stands) (λ is. c.in-Err.ensures.not_a_volume (ap (λ (e : BootFault). Err e) is))
    (λ is. c.in-Err.ensures.no_image (ap (λ (e : BootFault). Err e) is) s stands) stands
