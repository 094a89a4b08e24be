use Rattle.std.proofs.Common.{subst, sym, refl, Some}
use Rattle.dg_mote.specs.Ticks.{tick_of}
use Rattle.dg_mote.specs.Motes.{Done, sent_in}
use Rattle.dg_node.specs.declared.node.Node.{Node}
use Rattle.dg_node.specs.Ends.{tick_end}
use Rattle.dg_node.proofs.NodeLemmas.{tick_idles, tick_sends, tick_stops, tick_restarts, restart_stands}
use Rattle.dg_node.proofs.node.Node.tick.Goals as goal

pub restart-requires-clause-stands : goal.restart-requires-clause-stands
restart-requires-clause-stands g c =
    let r = c.requires.node in
    let u : Node = record { image_version = c.args.self.now.image_version; mote = c.tick.new.self } in
    let done = subst (λ d. Done (tick_of r.0 r.1 c.args.now c.args.word) (g.N.Nor.device c.args.board.now) (g.N.Nor.device c.tick.new.nor) u.mote d) c.in-Ok-Restart.field-0-is (c.in-Ok-Restart.ensures.done r.0 r.1 r.2) in
    (r.1, restart_stands r.0 r.1 c.args.now c.args.word u _ _ (c.a_restart_is_for_the_order.ensures.nothing r.0 r.1 c.args.now c.args.word (sym done.answers)) done)

pub returns-in-Ok-Idle : goal.returns-in-Ok-Idle
returns-in-Ok-Idle g c = λ m s mote.
    let u : Node = record { image_version = c.args.self.now.image_version; mote = c.tick.new.self } in
    let done = subst (λ d. Done (tick_of m s c.args.now c.args.word) (g.N.Nor.device c.args.board.now) (g.N.Nor.device c.tick.new.nor) u.mote d) c.in-Ok-Idle.field-0-is (c.in-Ok-Idle.ensures.done m s mote) in
    tick_idles m s c.args.now c.args.word c.args.self.now u _ _ (sent_in c.tick.new.out) refl mote done (c.in-Ok-Idle.ensures.sent m s mote) (c.in-Ok-Idle.ensures.read m s mote)

pub returns-in-Ok-Sent : goal.returns-in-Ok-Sent
returns-in-Ok-Sent g c = λ m s mote.
    let u : Node = record { image_version = c.args.self.now.image_version; mote = c.tick.new.self } in
    let done = subst (λ d. Done (tick_of m s c.args.now c.args.word) (g.N.Nor.device c.args.board.now) (g.N.Nor.device c.tick.new.nor) u.mote d) c.in-Ok-Sent.field-0-is (c.in-Ok-Sent.ensures.done m s mote) in
    tick_sends m s c.args.now c.args.word c.args.self.now u _ _ (sent_in c.tick.new.out) refl mote done (c.in-Ok-Sent.ensures.sent m s mote) (c.in-Ok-Sent.ensures.read m s mote)

pub returns-in-Ok-Restart : goal.returns-in-Ok-Restart
returns-in-Ok-Restart g c = λ m s mote.
    let u : Node = record { image_version = c.args.self.now.image_version; mote = c.tick.new.self } in
    let done = subst (λ d. Done (tick_of m s c.args.now c.args.word) (g.N.Nor.device c.args.board.now) (g.N.Nor.device c.tick.new.nor) u.mote d) c.in-Ok-Restart.field-0-is (c.in-Ok-Restart.ensures.done m s mote) in
    let is = c.a_restart_is_for_the_order.ensures.nothing m s c.args.now c.args.word (sym done.answers) in
    tick_restarts m s c.args.now c.args.word (tick_end c.restart.result) (sent_in c.tick.new.out) u (Some c.args.self.now) (Some c.restart.new.self) _ _ _ is done (c.in-Ok-Restart.ensures.sent m s mote)
    (c.restart.ensures s (Some c.args.self.now) (restart_stands m s c.args.now c.args.word u _ _ is done))

pub returns-in-Err : goal.returns-in-Err
returns-in-Err g c = λ m s mote.
    let u : Node = record { image_version = c.args.self.now.image_version; mote = c.tick.new.self } in
    tick_stops m s c.args.now c.args.word (Some c.args.self.now) (Some u) _ _ (sent_in c.tick.new.out) (c.in-Err.ensures.stopped m s mote) c.in-Err.ensures.nothing_sent
