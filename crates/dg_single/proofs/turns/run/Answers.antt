use Rattle.std.proofs.Common.{◌^◌, [], replicate, arith}
use Rattle.dg_serve.specs.Standings.{service_standing}
use Rattle.dg_single.specs.Overs.{seat}
use Rattle.dg_single.proofs.OverLemmas.{owns_alike, ready_more, under_way}
use Rattle.dg_single.proofs.TurnOver.{begin_halts, run_halts, run_done, early_begun}
use Rattle.dg_single.proofs.turns.run.Goals as goal

pub begin-requires-clause-allowed : goal.begin-requires-clause-allowed
begin-requires-clause-allowed g c = c.requires.allowed

pub begin-requires-clause-known : goal.begin-requires-clause-known
begin-requires-clause-known g c = c.requires.known

pub begin-requires-clause-ready : goal.begin-requires-clause-ready
begin-requires-clause-ready g c = λ boards owns. ready_more c.args.profile.now.motes 0 c.args.mote _ (omega arith) (c.requires.ready boards owns)

pub begin-requires-clause-early : goal.begin-requires-clause-early
begin-requires-clause-early g c = omega (arith, c.requires.early)

pub returns-in_err-begin : goal.returns-in_err-begin
returns-in_err-begin g c = record {
  goes = begin_halts c.from_residual.result c.in_err-begin.field-0.0 (seat c.args.profile.now.motes c.args.mote c.args.profile.now.links) c.args.turns (g.N.Nor.device c.args.board.now) (g.N.Nor.device c.begin.new.board) (service_standing (c.args.service.now, []) (g.K.Sink, c.args.out.now) (g.L.Link, c.args.link.now) (g.C.Clock, c.args.clock.now)) (service_standing (c.begin.new.service, []) (g.K.Sink, c.begin.new.out) (g.L.Link, c.begin.new.link) (g.C.Clock, c.begin.new.clock)) c.from_residual.ensures.1 c.in_err-begin.ensures.goes;
}

pub play_turns-requires-clause-allowed : goal.play_turns-requires-clause-allowed
play_turns-requires-clause-allowed g c = c.requires.allowed

pub play_turns-requires-clause-known : goal.play_turns-requires-clause-known
play_turns-requires-clause-known g c = c.requires.known

pub play_turns-requires-clause-under_way : goal.play_turns-requires-clause-under_way
play_turns-requires-clause-under_way g c =
    let early = early_begun (seat c.args.profile.now.motes c.args.mote c.args.profile.now.links) (g.N.Nor.device c.args.board.now) (g.N.Nor.device c.begin.new.board) (service_standing (c.args.service.now, []) (g.K.Sink, c.args.out.now) (g.L.Link, c.args.link.now) (g.C.Clock, c.args.clock.now)) (service_standing (c.begin.new.service, []) (g.K.Sink, c.begin.new.out) (g.L.Link, c.begin.new.link) (g.C.Clock, c.begin.new.clock)) (replicate c.args.profile.now.motes (g.N.Nor.device c.args.board.now)) (owns_alike c.args.profile.now.motes c.args.mote (g.N.Nor.device c.args.board.now) c.requires.known) c.requires.early c.in_ok-begin.ensures.goes in
    under_way (seat c.args.profile.now.motes c.args.mote c.args.profile.now.links) (g.N.Nor.device c.args.board.now) (g.N.Nor.device c.begin.new.board) (service_standing (c.args.service.now, []) (g.K.Sink, c.args.out.now) (g.L.Link, c.args.link.now) (g.C.Clock, c.args.clock.now)) (service_standing (c.begin.new.service, []) (g.K.Sink, c.begin.new.out) (g.L.Link, c.begin.new.link) (g.C.Clock, c.begin.new.clock)) (2 ^ 60) c.requires.known c.requires.ready c.requires.early early c.in_ok-begin.ensures.goes

pub returns-in_err-play_turns : goal.returns-in_err-play_turns
returns-in_err-play_turns g c = record {
  goes = run_halts c.from_residual-in_err-play_turns.result c.in_err-play_turns.field-0.0 (seat c.args.profile.now.motes c.args.mote c.args.profile.now.links) c.args.turns (g.N.Nor.device c.args.board.now) (g.N.Nor.device c.begin.new.board) (g.N.Nor.device c.play_turns.new.board) (service_standing (c.args.service.now, []) (g.K.Sink, c.args.out.now) (g.L.Link, c.args.link.now) (g.C.Clock, c.args.clock.now)) (service_standing (c.begin.new.service, []) (g.K.Sink, c.begin.new.out) (g.L.Link, c.begin.new.link) (g.C.Clock, c.begin.new.clock)) (service_standing (c.play_turns.new.service, []) (g.K.Sink, c.play_turns.new.out) (g.L.Link, c.play_turns.new.link) (g.C.Clock, c.play_turns.new.clock)) c.from_residual-in_err-play_turns.ensures.1 c.in_ok-begin.ensures.goes c.in_err-play_turns.ensures.goes;
}

pub returns : goal.returns
returns g c = record { goes = run_done (seat c.args.profile.now.motes c.args.mote c.args.profile.now.links) c.args.turns (g.N.Nor.device c.args.board.now) (g.N.Nor.device c.begin.new.board) (g.N.Nor.device c.play_turns.new.board) (service_standing (c.args.service.now, []) (g.K.Sink, c.args.out.now) (g.L.Link, c.args.link.now) (g.C.Clock, c.args.clock.now)) (service_standing (c.begin.new.service, []) (g.K.Sink, c.begin.new.out) (g.L.Link, c.begin.new.link) (g.C.Clock, c.begin.new.clock)) (service_standing (c.play_turns.new.service, []) (g.K.Sink, c.play_turns.new.out) (g.L.Link, c.play_turns.new.link) (g.C.Clock, c.play_turns.new.clock)) c.in_ok-begin.ensures.goes c.in_ok-play_turns.ensures.goes }
