use Rattle.std.proofs.Common.{[], set, refl, inl, inr, arith, sym, subst}
use Rattle.std.specs.Prelude.{Ok, Err}
use Rattle.dg_base.specs.declared.answers.Status.TheVariants as status
use Rattle.dg_outside.specs.Outside.{Outside, output_of, link_state, outside}
use Rattle.dg_end.specs.Lines.{HasFixedLine}
use Rattle.dg_serve.specs.Endings.{end_of_stop}
use Rattle.dg_serve.specs.Standings.{Standing, service_standing}
use Rattle.dg_serve.proofs.ServeLemmas.{unread, ready_opened, told_end}
use Rattle.dg_single.proofs.ServeOver.{began_done, began_stopped, not_begun_over, owned, goes_rise}
use Rattle.dg_single.specs.Overs.{seat}
use Rattle.dg_single.proofs.serving.serve_mote.Goals as goal

pub open_service-requires : goal.open_service-requires
open_service-requires g c = record { allowed = c.requires.allowed }

pub run-requires-clause-allowed : goal.run-requires-clause-allowed
run-requires-clause-allowed g c = c.requires.allowed

pub run-requires-clause-known : goal.run-requires-clause-known
run-requires-clause-known g c = c.requires.known

pub run-requires-clause-ready : goal.run-requires-clause-ready
run-requires-clause-ready g c = λ boards owns. ready_opened c.args.profile.now c.args.seed _ _ _ (c.in-Ok.ensures.opens unread unread boards) owns.enough

pub run-requires-clause-early : goal.run-requires-clause-early
run-requires-clause-early g c = (c.in-Ok.ensures.opens unread unread []).moment

pub returns-in-Err-clause-served : goal.returns-in-Err-clause-served
returns-in-Err-clause-served g c = λ before after boards owns.
    let a : Outside = outside before (output_of (g.K.Sink, c.args.out.now)) (link_state (g.L.Link, c.args.link.now)) (g.C.Clock.told c.args.clock.now) boards in
    let m : Outside = outside after (output_of (g.K.Sink, c.open_service.new.out)) (link_state (g.L.Link, c.open_service.new.link)) (g.C.Clock.told c.open_service.new.clock) (set boards c.args.mote (g.N.Nor.device c.args.board.now)) in
    inl (not_begun_over c.in-Err.stop c.fail.result c.args.profile.now c.args.mote a m (g.N.Nor.device c.args.board.now) (output_of (g.K.Sink, c.fail.new.out)) owns.is refl (c.in-Err.ensures.opens before after boards) (told_end c.fail.result c.from.result (end_of_stop c.in-Err.stop) (output_of (g.K.Sink, c.open_service.new.out)) (output_of (g.K.Sink, c.fail.new.out)) c.from.ensures c.fail.ensures.ends))

pub returns-in-Err-clause-writes : goal.returns-in-Err-clause-writes
returns-in-Err-clause-writes g c = omega (arith, c.open_service.ensures.writes, c.fail.ensures.counts)

pub returns-in-Ok-run-clause-served : goal.returns-in-Ok-run-clause-served
returns-in-Ok-run-clause-served g c = λ before after boards owns.
    let a : Outside = outside before (output_of (g.K.Sink, c.args.out.now)) (link_state (g.L.Link, c.args.link.now)) (g.C.Clock.told c.args.clock.now) boards in
    let p : Standing = service_standing (c.in-Ok.service, boards) (g.K.Sink, c.open_service.new.out) (g.L.Link, c.open_service.new.link) (g.C.Clock, c.open_service.new.clock) in
    let q : Standing = service_standing (c.run.new.service, set boards c.args.mote (g.N.Nor.device c.run.new.board)) (g.K.Sink, c.run.new.out) (g.L.Link, c.run.new.link) (g.C.Clock, c.run.new.clock) in
    inr (began_done c.args.profile.now c.args.mote c.args.seed c.args.turns a after p q (c.in-Ok.ensures.opens before after boards) c.requires.known (c.in-Ok-run.ensures.goes boards owns))

pub returns-clause-served : goal.returns-clause-served
returns-clause-served g c = λ before after boards owns.
    let a : Outside = outside before (output_of (g.K.Sink, c.args.out.now)) (link_state (g.L.Link, c.args.link.now)) (g.C.Clock.told c.args.clock.now) boards in
    let p : Standing = service_standing (c.in-Ok.service, boards) (g.K.Sink, c.open_service.new.out) (g.L.Link, c.open_service.new.link) (g.C.Clock, c.open_service.new.clock) in
    let q : Standing = service_standing (c.run.new.service, set boards c.args.mote (g.N.Nor.device c.run.new.board)) (g.K.Sink, c.run.new.out) (g.L.Link, c.run.new.link) (g.C.Clock, c.run.new.clock) in
    inr (began_stopped c.args.profile.now c.args.mote c.args.seed c.args.turns a after p q (c.in-Ok.ensures.opens before after boards) c.requires.known c.in-Err-run.stop c.fail-in-Err-run.result (output_of (g.K.Sink, c.fail-in-Err-run.new.out)) (c.in-Err-run.ensures.goes boards owns) (told_end c.fail-in-Err-run.result c.from-in-Err-run.result (end_of_stop c.in-Err-run.stop) (output_of (g.K.Sink, c.run.new.out)) (output_of (g.K.Sink, c.fail-in-Err-run.new.out)) c.from-in-Err-run.ensures c.fail-in-Err-run.ensures.ends) (λ fixed. c.fail-in-Err-run.ensures.room (subst HasFixedLine (sym c.from-in-Err-run.ensures) fixed)))

pub returns-in-Ok-run-clause-writes : goal.returns-in-Ok-run-clause-writes
returns-in-Ok-run-clause-writes g c = let rise = goes_rise (Ok tt) (seat c.args.profile.now.motes c.args.mote c.args.profile.now.links) c.args.turns _ _ (c.in-Ok-run.ensures.goes _ (owned c.args.profile.now.motes c.args.mote (g.N.Nor.device c.args.board.now) c.requires.known)) in
    let n = rise.0 in omega (arith, n, c.open_service.ensures.writes)

pub returns-in-Ok-run-clause-sends : goal.returns-in-Ok-run-clause-sends
returns-in-Ok-run-clause-sends g c = let rise = goes_rise (Ok tt) (seat c.args.profile.now.motes c.args.mote c.args.profile.now.links) c.args.turns _ _ (c.in-Ok-run.ensures.goes _ (owned c.args.profile.now.motes c.args.mote (g.N.Nor.device c.args.board.now) c.requires.known)) in
    let n = rise.1 in omega (arith, n, c.open_service.ensures.sends)

pub returns-clause-writes : goal.returns-clause-writes
returns-clause-writes g c = let rise = goes_rise (Err c.in-Err-run.stop) (seat c.args.profile.now.motes c.args.mote c.args.profile.now.links) c.args.turns _ _ (c.in-Err-run.ensures.goes _ (owned c.args.profile.now.motes c.args.mote (g.N.Nor.device c.args.board.now) c.requires.known)) in
    let n = rise.0 in omega (arith, n, c.open_service.ensures.writes, c.fail-in-Err-run.ensures.counts)

pub returns-clause-sends : goal.returns-clause-sends
returns-clause-sends g c = let rise = goes_rise (Err c.in-Err-run.stop) (seat c.args.profile.now.motes c.args.mote c.args.profile.now.links) c.args.turns _ _ (c.in-Err-run.ensures.goes _ (owned c.args.profile.now.motes c.args.mote (g.N.Nor.device c.args.board.now) c.requires.known)) in
    let n = rise.1 in omega (arith, n, c.open_service.ensures.sends)

pub returns-in-Err-clause-buffers : goal.returns-in-Err-clause-buffers
returns-in-Err-clause-buffers g c = let b = c.a_mote_buffers_little.ensures in (b.alive, b.values)

pub returns-in-Ok-run-clause-buffers : goal.returns-in-Ok-run-clause-buffers
returns-in-Ok-run-clause-buffers g c = let b = c.a_mote_buffers_little.ensures in (b.alive, b.values)

pub returns-clause-buffers : goal.returns-clause-buffers
returns-clause-buffers g c = let b = c.a_mote_buffers_little.ensures in (b.alive, b.values)
