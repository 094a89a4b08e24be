use Rattle.std.proofs.Common.{[], arith}
use Rattle.std.specs.Prelude.{Ok, Err}
use Rattle.dg_serve.specs.Standings.{service_standing}
use Rattle.dg_single.specs.Overs.{seat}
use Rattle.dg_single.proofs.TurnOver.{looked_only, look_failed, looked_and_ticked, tick_failed, may_tick}
use Rattle.dg_single.proofs.turns.play_turn.Goals as goal

pub look-requires-clause-allowed : goal.look-requires-clause-allowed
look-requires-clause-allowed g c = c.requires.allowed

pub look-requires-clause-known : goal.look-requires-clause-known
look-requires-clause-known g c = c.requires.known

pub look-requires-clause-under_way : goal.look-requires-clause-under_way
look-requires-clause-under_way g c = let w = c.requires.under_way in record { boards = w.boards; owns = w.owns; way = record { ready = w.way.ready; early = omega (arith, w.way.early); some = w.way.some } }

pub returns-in_err-came : goal.returns-in_err-came
returns-in_err-came g c = record {
  goes = look_failed c.from_residual.result c.in_err-came.field-0.0 (seat c.args.profile.now.motes c.args.mote c.args.profile.now.links) (g.N.Nor.device c.args.board.now) (g.N.Nor.device c.look.new.board) (service_standing (c.args.service.now, []) (g.K.Sink, c.args.out.now) (g.L.Link, c.args.link.now) (g.C.Clock, c.args.clock.now)) (service_standing (c.look.new.service, []) (g.K.Sink, c.look.new.out) (g.L.Link, c.look.new.link) (g.C.Clock, c.look.new.clock)) c.from_residual.ensures.1 c.in_err-came.ensures.goes;
}

pub returns-then-not-calls : goal.returns-then-not-calls
returns-then-not-calls g c = record { goes = looked_only (Ok tt) (seat c.args.profile.now.motes c.args.mote c.args.profile.now.links) (g.N.Nor.device c.args.board.now) (g.N.Nor.device c.look.new.board) (service_standing (c.args.service.now, []) (g.K.Sink, c.args.out.now) (g.L.Link, c.args.link.now) (g.C.Clock, c.args.clock.now)) (service_standing (c.look.new.service, []) (g.K.Sink, c.look.new.out) (g.L.Link, c.look.new.link) (g.C.Clock, c.look.new.clock)) c.in_ok-came.ensures.goes }

pub tick-requires-clause-allowed : goal.tick-requires-clause-allowed
tick-requires-clause-allowed g c = c.requires.allowed

pub tick-requires-clause-known : goal.tick-requires-clause-known
tick-requires-clause-known g c = c.requires.known

pub tick-requires-clause-under_way : goal.tick-requires-clause-under_way
tick-requires-clause-under_way g c = may_tick (seat c.args.profile.now.motes c.args.mote c.args.profile.now.links) (g.N.Nor.device c.args.board.now) (g.N.Nor.device c.look.new.board) (service_standing (c.args.service.now, []) (g.K.Sink, c.args.out.now) (g.L.Link, c.args.link.now) (g.C.Clock, c.args.clock.now)) (service_standing (c.look.new.service, []) (g.K.Sink, c.look.new.out) (g.L.Link, c.look.new.link) (g.C.Clock, c.look.new.clock)) c.requires.under_way c.in_ok-came.ensures.goes

pub returns-in_err-tick : goal.returns-in_err-tick
returns-in_err-tick g c = record {
  goes = tick_failed c.from_residual-in_err-tick.result c.in_err-tick.field-0.0 (seat c.args.profile.now.motes c.args.mote c.args.profile.now.links) (g.N.Nor.device c.args.board.now) (g.N.Nor.device c.tick.new.board) (service_standing (c.args.service.now, []) (g.K.Sink, c.args.out.now) (g.L.Link, c.args.link.now) (g.C.Clock, c.args.clock.now)) (service_standing (c.tick.new.service, []) (g.K.Sink, c.tick.new.out) (g.L.Link, c.tick.new.link) (g.C.Clock, c.tick.new.clock)) c.from_residual-in_err-tick.ensures.1
      (looked_and_ticked (Err c.in_err-tick.field-0.0) (seat c.args.profile.now.motes c.args.mote c.args.profile.now.links) (g.N.Nor.device c.args.board.now) (g.N.Nor.device c.look.new.board) (g.N.Nor.device c.tick.new.board) (service_standing (c.args.service.now, []) (g.K.Sink, c.args.out.now) (g.L.Link, c.args.link.now) (g.C.Clock, c.args.clock.now)) (service_standing (c.look.new.service, []) (g.K.Sink, c.look.new.out) (g.L.Link, c.look.new.link) (g.C.Clock, c.look.new.clock)) (service_standing (c.tick.new.service, []) (g.K.Sink, c.tick.new.out) (g.L.Link, c.tick.new.link) (g.C.Clock, c.tick.new.clock)) c.in_ok-came.ensures.goes c.in_err-tick.ensures.goes);
}

pub returns : goal.returns
returns g c = record { goes = looked_and_ticked (Ok tt) (seat c.args.profile.now.motes c.args.mote c.args.profile.now.links) (g.N.Nor.device c.args.board.now) (g.N.Nor.device c.look.new.board) (g.N.Nor.device c.tick.new.board) (service_standing (c.args.service.now, []) (g.K.Sink, c.args.out.now) (g.L.Link, c.args.link.now) (g.C.Clock, c.args.clock.now)) (service_standing (c.look.new.service, []) (g.K.Sink, c.look.new.out) (g.L.Link, c.look.new.link) (g.C.Clock, c.look.new.clock)) (service_standing (c.tick.new.service, []) (g.K.Sink, c.tick.new.out) (g.L.Link, c.tick.new.link) (g.C.Clock, c.tick.new.clock)) c.in_ok-came.ensures.goes c.in_ok-tick.ensures.goes }
