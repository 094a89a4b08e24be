use Rattle.std.proofs.Common.{[], refl}
use Rattle.dg_base.specs.declared.events.Event.TheVariants.{Tick}
use Rattle.dg_serve.specs.Services.{Ticks}
use Rattle.dg_serve.specs.Standings.{Standing, service_standing}
use Rattle.dg_serve.proofs.TurnLemmas.{DrawnTo, part_ends, ticks_part, event_asks}
use Rattle.dg_single.proofs.OverLemmas.{ready_over}
use Rattle.dg_single.proofs.parts.tick.Goals as goal

pub next-timing-requires-clause-known : goal.next-timing-requires-clause-known
next-timing-requires-clause-known g c = c.requires.under_way.way.ready.reading

pub next-timing-requires-clause-early : goal.next-timing-requires-clause-early
next-timing-requires-clause-early g c = c.requires.under_way.way.early

pub apply_event-requires-clause-allowed : goal.apply_event-requires-clause-allowed
apply_event-requires-clause-allowed g c = c.requires.allowed

pub apply_event-requires-clause-asks : goal.apply_event-requires-clause-asks
apply_event-requires-clause-asks g c =
    let boards = c.requires.under_way.boards in
    let p : Standing = service_standing (c.args.service.now, boards) (g.K.Sink, c.args.out.now) (g.L.Link, c.args.link.now) (g.C.Clock, c.args.clock.now) in
    let m : Standing = service_standing (record { motes = c.args.service.now.motes; timeline = c.next-timing.new.self; text = c.args.service.now.text; alloc = c.args.service.now.alloc }, boards) (g.K.Sink, c.args.out.now) (g.L.Link, c.args.link.now) (g.C.Clock, c.next-timing.new.clock) in
    let d : DrawnTo p m c.next-timing.result.dt c.next-timing.result.word = record { timed = record { dt_is = c.next-timing.ensures.dt; rises = c.next-timing.ensures.rises; answered = c.next-timing.ensures.told; draw_is = c.next-timing.ensures.word; moment = c.next-timing.ensures.moment; fits = record { dt = c.next-timing.ensures.short; word = c.next-timing.ensures.drawn } }; boards = refl; motes = refl; written = refl; port = refl; failures = refl; faults = refl; addressees = refl; reached = c.next-timing.ensures.goes_on; known = c.next-timing.ensures.reached; short = c.next-timing.ensures.short } in
    (boards, m.clock, m.reached, c.requires.under_way.owns, event_asks c.args.profile.now.motes c.args.mote c.args.profile.now.links (Tick c.args.mote c.next-timing.result.dt c.next-timing.result.word) c.next-timing.result.dt c.next-timing.result.word p m d c.requires.under_way.way (c.requires.known, d.timed.fits) tt refl c.requires.known (λ reset. reset) refl refl)

pub returns : goal.returns
returns g c = record {
  goes = λ boards owns.
      let p : Standing = service_standing (c.args.service.now, boards) (g.K.Sink, c.args.out.now) (g.L.Link, c.args.link.now) (g.C.Clock, c.args.clock.now) in
      let m : Standing = service_standing (record { motes = c.args.service.now.motes; timeline = c.next-timing.new.self; text = c.args.service.now.text; alloc = c.args.service.now.alloc }, boards) (g.K.Sink, c.args.out.now) (g.L.Link, c.args.link.now) (g.C.Clock, c.next-timing.new.clock) in
      let d : DrawnTo p m c.next-timing.result.dt c.next-timing.result.word = record { timed = record { dt_is = c.next-timing.ensures.dt; rises = c.next-timing.ensures.rises; answered = c.next-timing.ensures.told; draw_is = c.next-timing.ensures.word; moment = c.next-timing.ensures.moment; fits = record { dt = c.next-timing.ensures.short; word = c.next-timing.ensures.drawn } }; boards = refl; motes = refl; written = refl; port = refl; failures = refl; faults = refl; addressees = refl; reached = c.next-timing.ensures.goes_on; known = c.next-timing.ensures.reached; short = c.next-timing.ensures.short } in
      let ready = ready_over c.args.profile.now.motes c.args.profile.now.motes p c.requires.under_way.boards boards c.requires.under_way.way.ready owns.enough in
      part_ends c.args.profile.now.motes c.args.profile.now.motes c.args.profile.now.motes c.args.profile.now.links (Ticks c.args.mote) (λ dt word. Tick c.args.mote dt word) [] c.next-timing.result.dt c.next-timing.result.word p m _ d (ticks_part c.args.profile.now.motes c.args.mote p.inboxes c.requires.known) c.apply_event.result ready (c.apply_event.ensures.ends boards (g.C.Clock.told c.next-timing.new.clock) (g.C.Clock.reached c.next-timing.new.clock) owns) refl refl;
}
