use Rattle.std.proofs.Common.{◌∷◌, [], ◌++◌, refl, sym, subst, None, Ok, Err}
use Rattle.dg_mote.specs.Effects.{tick_effect}
use Rattle.dg_mote.specs.Motes.{sent_in}
use Rattle.dg_node.specs.Ends.{tick_end}
use Rattle.dg_end.specs.declared.ends.End.{End}
use Rattle.dg_serial_base.specs.BaseEvents.{Ticks}
use Rattle.dg_serial_base.specs.inner.Standing.{BaseEventEnds, base_event_left}
use Rattle.dg_serial_base.specs.declared.running.Running.{Running}
use Rattle.dg_serial_base.proofs.BaseEventLemmas.{timely_next, done_at, ends_stood, frame_longs}
use Rattle.dg_serial_base.proofs.StartLemmas.{tick_ok, tick_err, frame_said}
use Rattle.dg_serial_base.proofs.running.Running.tick.Goals as goal

pub tick-requires-clause-node : goal.tick-requires-clause-node
tick-requires-clause-node g c =
    let x = c.requires.stood.4 in
    (x.state, c.requires.stood.3.store, x.mote, timely_next c.a_mote_stays_timely.ensures.later x.state _ _ _ _ x.timely c.next-timing.ensures.now c.next-timing.ensures.moment)

pub returns-in-Err-clause-ends : goal.returns-in-Err-clause-ends
returns-in-Err-clause-ends g c = λ b s done before stood.
    let t = c.next-timing.result in
    let f = c.in-Err.fault in
    let u : Running = record { node = c.tick.new.self; timeline = c.next-timing.new.self } in
    let new = g.N.Nor.device c.tick.new.board in
    let frame = sent_in c.tick.new.out in
    let timely = timely_next c.a_mote_stays_timely.ensures.later stood.state _ _ _ _ stood.timely c.next-timing.ensures.now c.next-timing.ensures.moment in
    subst (λ (x : End). BaseEventEnds (Err x) b s done Ticks before (base_event_left u new frame)) (sym c.end_of_tick.ensures)
    (subst (λ r. BaseEventEnds r b s done Ticks before (base_event_left u new frame)) (tick_err f)
    (done_at b s done before c.args.self.now _ stood Ticks (λ now word. tick_effect stood.state before.store now word) t.now t.word (c.next-timing.ensures.drawn b before.events stood.time) refl
    (tick_end (Err f)) u (g.N.Nor.device c.args.nor.now) new frame c.next-timing.ensures.now (c.next-timing.ensures.time b before.events stood.time) stood.mote.mounted.stands (c.in-Err.ensures stood.state before.store stood.mote)
    (c.a_node_stays_timely.ensures.ticked stood.state before.store t.now t.word timely)))

pub returns-in-Ok-clause-ends : goal.returns-in-Ok-clause-ends
returns-in-Ok-clause-ends g c = λ b s done before stood.
    let t = c.next-timing.result in
    let x = c.in-Ok.field-0 in
    let u : Running = record { node = c.tick.new.self; timeline = c.next-timing.new.self } in
    let new = g.N.Nor.device c.tick.new.board in
    let frame = sent_in c.tick.new.out in
    let timely = timely_next c.a_mote_stays_timely.ensures.later stood.state _ _ _ _ stood.timely c.next-timing.ensures.now c.next-timing.ensures.moment in
    subst (λ r. BaseEventEnds r b s done Ticks before (base_event_left u new frame)) (tick_ok x)
    (done_at b s done before c.args.self.now _ stood Ticks (λ now word. tick_effect stood.state before.store now word) t.now t.word (c.next-timing.ensures.drawn b before.events stood.time) refl
    (tick_end (Ok x)) u (g.N.Nor.device c.args.nor.now) new frame c.next-timing.ensures.now (c.next-timing.ensures.time b before.events stood.time) stood.mote.mounted.stands (c.in-Ok.ensures stood.state before.store stood.mote)
    (c.a_node_stays_timely.ensures.ticked stood.state before.store t.now t.word timely))

pub returns-in-Ok-clause-stood : goal.returns-in-Ok-clause-stood
returns-in-Ok-clause-stood g c =
    let r = c.requires.stood in
    let before = r.3 in
    let stood = r.4 in
    let t = c.next-timing.result in
    let x = c.in-Ok.field-0 in
    let u : Running = record { node = c.tick.new.self; timeline = c.next-timing.new.self } in
    let new = g.N.Nor.device c.tick.new.board in
    let frame = sent_in c.tick.new.out in
    let timely = timely_next c.a_mote_stays_timely.ensures.later stood.state _ _ _ _ stood.timely c.next-timing.ensures.now c.next-timing.ensures.moment in
    ends_stood (Ok tt) r.0 r.1 r.2 Ticks before u new frame
    (subst (λ q. BaseEventEnds q r.0 r.1 r.2 Ticks before (base_event_left u new frame)) (tick_ok x)
    (done_at r.0 r.1 r.2 before c.args.self.now _ stood Ticks (λ now word. tick_effect stood.state before.store now word) t.now t.word (c.next-timing.ensures.drawn r.0 before.events stood.time) refl
    (tick_end (Ok x)) u (g.N.Nor.device c.args.nor.now) new frame c.next-timing.ensures.now (c.next-timing.ensures.time r.0 before.events stood.time) stood.mote.mounted.stands (c.in-Ok.ensures stood.state before.store stood.mote)
    (c.a_node_stays_timely.ensures.ticked stood.state before.store t.now t.word timely)))

pub returns-in-Ok-clause-frame : goal.returns-in-Ok-clause-frame
returns-in-Ok-clause-frame g c =
    let r = c.requires.stood in
    let before = r.3 in
    let stood = r.4 in
    let t = c.next-timing.result in
    let x = c.in-Ok.field-0 in
    frame_longs (tick_effect stood.state before.store t.now t.word).sent
    (frame_said (sent_in c.tick.new.out) (tick_effect stood.state before.store t.now t.word) _ _ _ (tick_end (Ok x)) _ (c.in-Ok.ensures stood.state before.store stood.mote) tt (tick_ok x))
