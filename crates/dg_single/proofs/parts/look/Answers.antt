use Rattle.std.proofs.Common.{[], refl, arith}
use Rattle.std.specs.Prelude.{Ok, Err}
use Rattle.dg_base.specs.declared.events.Event.TheVariants.{Frame}
use Rattle.dg_serve.specs.Services.{Looks}
use Rattle.dg_serve.specs.Standings.{Standing, service_standing}
use Rattle.dg_serve.proofs.TurnLemmas.{DrawnTo, part_ends, looks_part, event_asks}
use Rattle.dg_serve.proofs.LookLemmas.{none_came, look_fails, came_is, none_is}
use Rattle.dg_single.proofs.OverLemmas.{ready_over}
use Rattle.dg_single.proofs.LookOver.{look_exit, none_over, halts_over}
use Rattle.dg_single.proofs.parts.look.Goals as goal

pub receive-requires : goal.receive-requires
receive-requires g c = omega (arith, c.requires.known, c.requires.under_way.way.ready.addressees)

pub returns-in_err-bytes : goal.returns-in_err-bytes
returns-in_err-bytes g c = record {
  goes = λ boards owns.
      let p : Standing = service_standing (c.args.service.now, boards) (g.K.Sink, c.args.out.now) (g.L.Link, c.args.link.now) (g.C.Clock, c.args.clock.now) in
      look_exit c.args.profile.now.motes c.args.mote c.args.profile.now.links p _ c.from_residual.result c.in_err-bytes.field-0.0 c.from_residual.ensures.1 (halts_over c.args.profile.now.motes c.args.mote c.args.profile.now.links p boards (g.N.Nor.device c.args.board.now) owns.is (service_standing (c.args.service.now, []) (g.K.Sink, c.args.out.now) (g.L.Link, c.receive.new.link) (g.C.Clock, c.args.clock.now)) c.in_err-bytes.field-0.0 (look_fails c.args.profile.now.motes c.args.mote c.args.profile.now.links p _ refl refl refl refl refl c.in_err-bytes.ensures.same_port c.in_err-bytes.field-0.0 c.in_err-bytes.ensures.received c.in_err-bytes.ensures.counts));
}

pub next-timing-requires-clause-known : goal.next-timing-requires-clause-known
next-timing-requires-clause-known g c = c.requires.under_way.way.ready.reading

pub next-timing-requires-clause-early : goal.next-timing-requires-clause-early
next-timing-requires-clause-early g c = c.requires.under_way.way.early

pub apply_event-requires-clause-allowed : goal.apply_event-requires-clause-allowed
apply_event-requires-clause-allowed g c = c.requires.allowed

pub apply_event-requires-clause-asks : goal.apply_event-requires-clause-asks
apply_event-requires-clause-asks g c =
    let boards = c.requires.under_way.boards in
    let p : Standing = service_standing (c.args.service.now, boards) (g.K.Sink, c.args.out.now) (g.L.Link, c.args.link.now) (g.C.Clock, c.args.clock.now) in
    let m : Standing = service_standing (record { motes = c.args.service.now.motes; timeline = c.next-timing.new.self; text = c.args.service.now.text; alloc = c.args.service.now.alloc }, boards) (g.K.Sink, c.args.out.now) (g.L.Link, c.receive.new.link) (g.C.Clock, c.next-timing.new.clock) in
    let d : DrawnTo p m c.next-timing.result.dt c.next-timing.result.word = record { timed = record { dt_is = c.next-timing.ensures.dt; rises = c.next-timing.ensures.rises; answered = c.next-timing.ensures.told; draw_is = c.next-timing.ensures.word; moment = c.next-timing.ensures.moment; fits = record { dt = c.next-timing.ensures.short; word = c.next-timing.ensures.drawn } }; boards = refl; motes = refl; written = refl; port = c.in_ok-bytes.ensures.same_port; failures = c.in_ok-bytes.ensures.counts; faults = refl; addressees = c.in_ok-bytes.ensures.same_motes; reached = c.next-timing.ensures.goes_on; known = c.next-timing.ensures.reached; short = c.next-timing.ensures.short } in
    let came = came_is c.in_ok-bytes.field-0 c.in-Some.bytes c.args.mote _ _ c.in-Some.is c.in_ok-bytes.ensures.received in
    (boards, m.clock, m.reached, c.requires.under_way.owns, event_asks c.args.profile.now.motes c.args.mote c.args.profile.now.links (Frame c.args.mote c.next-timing.result.dt c.next-timing.result.word c.in-Some.bytes) c.next-timing.result.dt c.next-timing.result.word p m d c.requires.under_way.way ((c.requires.known, came.1), d.timed.fits) tt refl c.requires.known (λ reset. reset) refl refl)

pub returns-in-Ok : goal.returns-in-Ok
returns-in-Ok g c = record {
  goes = λ boards owns.
      let p : Standing = service_standing (c.args.service.now, boards) (g.K.Sink, c.args.out.now) (g.L.Link, c.args.link.now) (g.C.Clock, c.args.clock.now) in
      let m : Standing = service_standing (record { motes = c.args.service.now.motes; timeline = c.next-timing.new.self; text = c.args.service.now.text; alloc = c.args.service.now.alloc }, boards) (g.K.Sink, c.args.out.now) (g.L.Link, c.receive.new.link) (g.C.Clock, c.next-timing.new.clock) in
      let d : DrawnTo p m c.next-timing.result.dt c.next-timing.result.word = record { timed = record { dt_is = c.next-timing.ensures.dt; rises = c.next-timing.ensures.rises; answered = c.next-timing.ensures.told; draw_is = c.next-timing.ensures.word; moment = c.next-timing.ensures.moment; fits = record { dt = c.next-timing.ensures.short; word = c.next-timing.ensures.drawn } }; boards = refl; motes = refl; written = refl; port = c.in_ok-bytes.ensures.same_port; failures = c.in_ok-bytes.ensures.counts; faults = refl; addressees = c.in_ok-bytes.ensures.same_motes; reached = c.next-timing.ensures.goes_on; known = c.next-timing.ensures.reached; short = c.next-timing.ensures.short } in
      let came = came_is c.in_ok-bytes.field-0 c.in-Some.bytes c.args.mote _ _ c.in-Some.is c.in_ok-bytes.ensures.received in
      let ready = ready_over c.args.profile.now.motes c.args.profile.now.motes p c.requires.under_way.boards boards c.requires.under_way.way.ready owns.enough in
      part_ends c.args.profile.now.motes c.args.profile.now.motes c.args.profile.now.motes c.args.profile.now.links (Looks c.args.mote) (λ dt word. Frame c.args.mote dt word c.in-Some.bytes) c.in-Some.bytes c.next-timing.result.dt c.next-timing.result.word p m _ d (looks_part c.args.profile.now.motes c.args.mote c.in-Some.bytes p.inboxes m.inboxes c.requires.known came.0 came.1) (Ok tt) ready (c.in-Ok.ensures.ends boards (g.C.Clock.told c.next-timing.new.clock) (g.C.Clock.reached c.next-timing.new.clock) owns) refl refl;
}

pub returns-in-Err : goal.returns-in-Err
returns-in-Err g c = record {
  goes = λ boards owns.
      let p : Standing = service_standing (c.args.service.now, boards) (g.K.Sink, c.args.out.now) (g.L.Link, c.args.link.now) (g.C.Clock, c.args.clock.now) in
      let m : Standing = service_standing (record { motes = c.args.service.now.motes; timeline = c.next-timing.new.self; text = c.args.service.now.text; alloc = c.args.service.now.alloc }, boards) (g.K.Sink, c.args.out.now) (g.L.Link, c.receive.new.link) (g.C.Clock, c.next-timing.new.clock) in
      let d : DrawnTo p m c.next-timing.result.dt c.next-timing.result.word = record { timed = record { dt_is = c.next-timing.ensures.dt; rises = c.next-timing.ensures.rises; answered = c.next-timing.ensures.told; draw_is = c.next-timing.ensures.word; moment = c.next-timing.ensures.moment; fits = record { dt = c.next-timing.ensures.short; word = c.next-timing.ensures.drawn } }; boards = refl; motes = refl; written = refl; port = c.in_ok-bytes.ensures.same_port; failures = c.in_ok-bytes.ensures.counts; faults = refl; addressees = c.in_ok-bytes.ensures.same_motes; reached = c.next-timing.ensures.goes_on; known = c.next-timing.ensures.reached; short = c.next-timing.ensures.short } in
      let came = came_is c.in_ok-bytes.field-0 c.in-Some.bytes c.args.mote _ _ c.in-Some.is c.in_ok-bytes.ensures.received in
      let ready = ready_over c.args.profile.now.motes c.args.profile.now.motes p c.requires.under_way.boards boards c.requires.under_way.way.ready owns.enough in
      part_ends c.args.profile.now.motes c.args.profile.now.motes c.args.profile.now.motes c.args.profile.now.links (Looks c.args.mote) (λ dt word. Frame c.args.mote dt word c.in-Some.bytes) c.in-Some.bytes c.next-timing.result.dt c.next-timing.result.word p m _ d (looks_part c.args.profile.now.motes c.args.mote c.in-Some.bytes p.inboxes m.inboxes c.requires.known came.0 came.1) (Err c.in-Err.stop) ready (c.in-Err.ensures.ends boards (g.C.Clock.told c.next-timing.new.clock) (g.C.Clock.reached c.next-timing.new.clock) owns) refl refl;
}

pub returns-in-None : goal.returns-in-None
returns-in-None g c = record {
  goes = λ boards owns.
      let p : Standing = service_standing (c.args.service.now, boards) (g.K.Sink, c.args.out.now) (g.L.Link, c.args.link.now) (g.C.Clock, c.args.clock.now) in
      let x = none_is c.in_ok-bytes.field-0 c.args.mote _ _ c.in-None.is c.in_ok-bytes.ensures.received in
      let ready = ready_over c.args.profile.now.motes c.args.profile.now.motes p c.requires.under_way.boards boards c.requires.under_way.way.ready owns.enough in
      none_over c.args.profile.now.motes c.args.mote c.args.profile.now.links p boards (g.N.Nor.device c.args.board.now) owns.is (service_standing (c.args.service.now, []) (g.K.Sink, c.args.out.now) (g.L.Link, c.receive.new.link) (g.C.Clock, c.args.clock.now)) (none_came c.args.profile.now.motes c.args.mote c.args.profile.now.links p (g.L.Link.inboxes c.receive.new.link) (g.L.Link.mote_count c.receive.new.link) (g.L.Link.faults c.receive.new.link) (g.L.Link.first_port c.receive.new.link) x.1 c.in_ok-bytes.ensures.same_motes c.in_ok-bytes.ensures.counts c.in_ok-bytes.ensures.same_port ready x.0);
}
