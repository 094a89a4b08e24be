use Rattle.std.proofs.Common.{◌^◌, [], arith}
use Rattle.dg_serve.specs.Standings.{service_standing}
use Rattle.dg_single.specs.Overs.{seat}
use Rattle.dg_single.proofs.TurnOver.{none_turned, turned_next, turned_way, turned_halts, turned_all, turned_late}
use Rattle.dg_single.proofs.turns.play_turns.Goals as goal

pub loop-turn-init : goal.loop-turn-init
loop-turn-init g c = none_turned (seat c.args.profile.now.motes c.args.mote c.args.profile.now.links) (2 ^ 60) (g.N.Nor.device c.args.board.now) (service_standing (c.args.service.now, []) (g.K.Sink, c.args.out.now) (g.L.Link, c.args.link.now) (g.C.Clock, c.args.clock.now)) c.requires.under_way

pub play_turn-requires-clause-allowed : goal.play_turn-requires-clause-allowed
play_turn-requires-clause-allowed g c = c.requires.allowed

pub play_turn-requires-clause-known : goal.play_turn-requires-clause-known
play_turn-requires-clause-known g c = c.requires.known

pub play_turn-requires-clause-under_way : goal.play_turn-requires-clause-under_way
play_turn-requires-clause-under_way g c = turned_way (seat c.args.profile.now.motes c.args.mote c.args.profile.now.links) c.loop-turn._turn (2 ^ 60) (2 ^ 59) (g.N.Nor.device c.args.board.now) (g.N.Nor.device c.loop-turn.board) (service_standing (c.args.service.now, []) (g.K.Sink, c.args.out.now) (g.L.Link, c.args.link.now) (g.C.Clock, c.args.clock.now)) (service_standing (c.loop-turn.service, []) (g.K.Sink, c.loop-turn.out) (g.L.Link, c.loop-turn.link) (g.C.Clock, c.loop-turn.clock)) c.requires.under_way c.loop-turn.invariant (omega arith)

pub returns-then-service-ge-LATEST : goal.returns-then-service-ge-LATEST
returns-then-service-ge-LATEST g c = record { goes = turned_late (seat c.args.profile.now.motes c.args.mote c.args.profile.now.links) c.loop-turn._turn c.args.turns (g.N.Nor.device c.args.board.now) (g.N.Nor.device c.loop-turn.board) (service_standing (c.args.service.now, []) (g.K.Sink, c.args.out.now) (g.L.Link, c.args.link.now) (g.C.Clock, c.args.clock.now)) (service_standing (c.loop-turn.service, []) (g.K.Sink, c.loop-turn.out) (g.L.Link, c.loop-turn.link) (g.C.Clock, c.loop-turn.clock)) (omega arith) (omega arith) c.loop-turn.invariant }

pub returns-in_err-play_turn : goal.returns-in_err-play_turn
returns-in_err-play_turn g c = record {
  goes = turned_halts c.from_residual.result c.in_err-play_turn.field-0.0 (seat c.args.profile.now.motes c.args.mote c.args.profile.now.links) c.loop-turn._turn c.args.turns (g.N.Nor.device c.args.board.now) (g.N.Nor.device c.loop-turn.board) (g.N.Nor.device c.play_turn.new.board) (service_standing (c.args.service.now, []) (g.K.Sink, c.args.out.now) (g.L.Link, c.args.link.now) (g.C.Clock, c.args.clock.now)) (service_standing (c.loop-turn.service, []) (g.K.Sink, c.loop-turn.out) (g.L.Link, c.loop-turn.link) (g.C.Clock, c.loop-turn.clock)) (service_standing (c.play_turn.new.service, []) (g.K.Sink, c.play_turn.new.out) (g.L.Link, c.play_turn.new.link) (g.C.Clock, c.play_turn.new.clock)) (omega arith) c.from_residual.ensures.1 c.loop-turn.invariant c.in_err-play_turn.ensures.goes;
}

pub loop-turn-preserved : goal.loop-turn-preserved
loop-turn-preserved g c = turned_next (seat c.args.profile.now.motes c.args.mote c.args.profile.now.links) c.loop-turn._turn (g.N.Nor.device c.args.board.now) (g.N.Nor.device c.loop-turn.board) (g.N.Nor.device c.play_turn.new.board) (service_standing (c.args.service.now, []) (g.K.Sink, c.args.out.now) (g.L.Link, c.args.link.now) (g.C.Clock, c.args.clock.now)) (service_standing (c.loop-turn.service, []) (g.K.Sink, c.loop-turn.out) (g.L.Link, c.loop-turn.link) (g.C.Clock, c.loop-turn.clock)) (service_standing (c.play_turn.new.service, []) (g.K.Sink, c.play_turn.new.out) (g.L.Link, c.play_turn.new.link) (g.C.Clock, c.play_turn.new.clock)) c.loop-turn.invariant c.in_ok-play_turn.ensures.goes

pub returns : goal.returns
returns g c = record { goes = turned_all (seat c.args.profile.now.motes c.args.mote c.args.profile.now.links) c.loop-turn._turn c.args.turns (g.N.Nor.device c.args.board.now) (g.N.Nor.device c.loop-turn.board) (service_standing (c.args.service.now, []) (g.K.Sink, c.args.out.now) (g.L.Link, c.args.link.now) (g.C.Clock, c.args.clock.now)) (service_standing (c.loop-turn.service, []) (g.K.Sink, c.loop-turn.out) (g.L.Link, c.loop-turn.link) (g.C.Clock, c.loop-turn.clock)) (omega arith) c.loop-turn.invariant }
