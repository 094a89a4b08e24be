use Rattle.std.proofs.Common.{subst, sym, Some, Err, None}
use Rattle.dg_mote.specs.Effects.{boots}
use Rattle.dg_volume.specs.declared.volume.StartCause.TheVariants as cause
use Rattle.dg_node.specs.Ends.{NodeDone, Starts, tick_end, power_end}
use Rattle.dg_node.specs.Hosts.{host}
use Rattle.dg_node.specs.declared.answers.TickFault.{TickFault}
use Rattle.dg_node.proofs.NodeLemmas.{start_as, restart_fails}
use Rattle.dg_node.proofs.node.Node.restart.Goals as goal

pub returns-in-Ok : goal.returns-in-Ok
returns-in-Ok g c = λ s before stands.
    let old = c.args.self.now in
    start_as (Starts c.in-Ok.field-0.image) s c.id.result old.mote.id c.wide.result old.mote.wide c.args.now c.args.word before (Some c.in-Ok.field-0.node) _ _ c.id.ensures c.wide.ensures (c.in-Ok.ensures.done s before stands)

pub returns-in-Err : goal.returns-in-Err
returns-in-Err g c = λ s before stands.
    let old = c.args.self.now in
    let e = boots cause.Order s old.mote.id old.mote.wide c.args.now c.args.word in
    let a = g.N.Nor.device c.args.board.now in
    let b = g.N.Nor.device c.begin.new.board in
    let x = restart_fails c.in-Err.fault e before (Some old) a b (start_as (power_end (Err c.in-Err.fault)) s c.id.result old.mote.id c.wide.result old.mote.wide c.args.now c.args.word before None _ _ c.id.ensures c.wide.ensures (c.in-Err.ensures.done s before stands)) in
    subst (λ (f : TickFault). NodeDone (tick_end (Err f)) None e (host a before) (host b (Some old))) (sym c.restart_fault.ensures) x
