use Rattle.std.proofs.Common.{◌∷◌, [], ◌++◌, refl, None}
use Rattle.dg_mote.specs.Effects.{frame_effect}
use Rattle.dg_node.specs.Ends.{Quiet, Stopped}
use Rattle.dg_serial_base.specs.BaseEvents.{Hears}
use Rattle.dg_serial_base.specs.inner.Standing.{BaseEventEnds, base_event_left}
use Rattle.dg_serial_base.specs.declared.running.Running.{Running}
use Rattle.dg_end.specs.declared.ends.End.TheVariants as ends
use Rattle.dg_serial_base.proofs.BaseEventLemmas.{timely_next, done_at}
use Rattle.dg_serial_base.proofs.ResultLemmas.{handed}
use Rattle.dg_serial_base.proofs.running.Running.hear.Goals as goal

pub hear-requires-clause-node : goal.hear-requires-clause-node
hear-requires-clause-node g c =
    let x = c.requires.stood.4 in
    (x.state, c.requires.stood.3.store, x.mote, timely_next c.a_mote_stays_timely.ensures.later x.state _ _ _ _ x.timely c.next-timing.ensures.now c.next-timing.ensures.moment)

pub returns-in_err-hear-clause-ends : goal.returns-in_err-hear-clause-ends
returns-in_err-hear-clause-ends g c = λ b s done before stood.
    let bytes = c.args.bytes.now in
    let t = c.next-timing.result in
    let u : Running = record { node = c.hear.new.self; timeline = c.next-timing.new.self } in
    let new = g.N.Nor.device c.hear.new.board in
    let timely = timely_next c.a_mote_stays_timely.ensures.later stood.state _ _ _ _ stood.timely c.next-timing.ensures.now c.next-timing.ensures.moment in
    handed (λ r. BaseEventEnds r b s done (Hears bytes) before (base_event_left u new None)) c.from_residual.result ends.FlashFault c.from_residual.ensures.1
    (done_at b s done before c.args.self.now _ stood (Hears bytes) (λ now word. frame_effect stood.state before.store now word bytes) t.now t.word (c.next-timing.ensures.drawn b before.events stood.time) refl
    Stopped u (g.N.Nor.device c.args.nor.now) new None c.next-timing.ensures.now (c.next-timing.ensures.time b before.events stood.time) stood.mote.mounted.stands (c.in_err-hear.ensures.done stood.state before.store stood.mote)
    (c.a_node_stays_timely.ensures.heard stood.state before.store t.now t.word bytes timely))

pub returns-clause-ends : goal.returns-clause-ends
returns-clause-ends g c = λ b s done before stood.
    let bytes = c.args.bytes.now in
    let t = c.next-timing.result in
    let u : Running = record { node = c.hear.new.self; timeline = c.next-timing.new.self } in
    let timely = timely_next c.a_mote_stays_timely.ensures.later stood.state _ _ _ _ stood.timely c.next-timing.ensures.now c.next-timing.ensures.moment in
    done_at b s done before c.args.self.now _ stood (Hears bytes) (λ now word. frame_effect stood.state before.store now word bytes) t.now t.word (c.next-timing.ensures.drawn b before.events stood.time) refl
    Quiet u (g.N.Nor.device c.args.nor.now) (g.N.Nor.device c.hear.new.board) None c.next-timing.ensures.now (c.next-timing.ensures.time b before.events stood.time) stood.mote.mounted.stands
    (c.in_ok-hear.ensures.done stood.state before.store stood.mote) (c.a_node_stays_timely.ensures.heard stood.state before.store t.now t.word bytes timely)

pub returns-clause-stood : goal.returns-clause-stood
returns-clause-stood g c =
    let r = c.requires.stood in
    let before = r.3 in
    let stood = r.4 in
    let bytes = c.args.bytes.now in
    let t = c.next-timing.result in
    let u : Running = record { node = c.hear.new.self; timeline = c.next-timing.new.self } in
    let timely = timely_next c.a_mote_stays_timely.ensures.later stood.state _ _ _ _ stood.timely c.next-timing.ensures.now c.next-timing.ensures.moment in
    let x = done_at r.0 r.1 r.2 before c.args.self.now _ stood (Hears bytes) (λ now word. frame_effect stood.state before.store now word bytes) t.now t.word (c.next-timing.ensures.drawn r.0 before.events stood.time) refl
    Quiet u (g.N.Nor.device c.args.nor.now) (g.N.Nor.device c.hear.new.board) None c.next-timing.ensures.now (c.next-timing.ensures.time r.0 before.events stood.time) stood.mote.mounted.stands
    (c.in_ok-hear.ensures.done stood.state before.store stood.mote) (c.a_node_stays_timely.ensures.heard stood.state before.store t.now t.word bytes timely) in
    (r.0, r.1, r.2 ++ Hears bytes ∷ [], x.there, x.stood)
