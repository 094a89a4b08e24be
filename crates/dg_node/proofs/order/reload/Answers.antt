use Rattle.std.proofs.Common.{subst, refl}
use Rattle.std.specs.Prelude.{IfSome}
use Rattle.dg_node.specs.Nodes.{IsTimelyNode}
use Rattle.dg_node.proofs.ActLemmas.{reloads}
use Rattle.dg_node.proofs.order.reload.Goals as goal

pub reload-requires-clause-mote : goal.reload-requires-clause-mote
reload-requires-clause-mote c =
    let x = c.requires.node in
    let y = subst (λ v. IfSome v (λ n. IsTimelyNode x.0 n c.args.now)) c.in-Some.is x.1 in
    (x.0, y.0, y.1, y.2, y.3)

pub returns-in-Some : goal.returns-in-Some
returns-in-Some c = λ d e s t r stands mounted.
    reloads c.args.runs.now c.in-Some.node _ c.reload.new.self d e s t r c.args.now c.args.word c.in-Some.is refl (λ m is. c.reload.ensures d e m s t is mounted) stands
