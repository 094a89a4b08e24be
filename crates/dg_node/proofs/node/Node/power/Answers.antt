use Rattle.std.proofs.Common.{sym, subst, None}
use Rattle.dg_mote.specs.Effects.{Effect}
use Rattle.dg_node.specs.Hosts.{host}
use Rattle.dg_node.specs.Ends.{NodeDone, power_end, powered_in}
use Rattle.dg_node.proofs.NodeLemmas.{reset_is}
use Rattle.dg_node.proofs.node.Node.power.Goals as goal

pub returns-clause-done : goal.returns-clause-done
returns-clause-done g c = λ s before stands.
    let at = c.args.at in
    subst (λ (e : Effect). NodeDone (power_end c.begin.result) None e (host (g.N.Nor.device c.args.board.now) before) (host (g.N.Nor.device c.begin.new.board) (powered_in c.begin.result)))
    (sym (reset_is s at.id at.wide at.now at.word)) (c.begin.ensures.done s before stands)
