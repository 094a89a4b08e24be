use Rattle.std.proofs.Common.{refl, subst, inl, arith}
use Rattle.dg_base.specs.Outside.{Puts, PutsPrefix}
use Rattle.dg_outside.specs.Outside.{Outside, output_of, link_state, outside}
use Rattle.dg_serve.specs.Traces.{lines_text, head_lines}
use Rattle.dg_serve.specs.declared.stop.Stop.TheVariants as stop
use Rattle.dg_serve.proofs.ApplyLemmas.{err_is}
use Rattle.dg_serve.proofs.OpenLemmas.{none_at, none_many, opens_err, open_hindered, nothing_put, head_is}
use Rattle.dg_serve.proofs.serving.open_service.Goals as goal

pub write_head-requires : goal.write_head-requires
write_head-requires g c = c.requires.allowed

pub open-requires : goal.open-requires
open-requires g c = c.requires.allowed

pub returns-in_err-motes-clause-opens : goal.returns-in_err-motes-clause-opens
returns-in_err-motes-clause-opens g c = λ before after boards.
    let a : Outside = outside before (output_of (g.K.Sink, c.args.out.now)) (link_state (g.L.Link, c.args.link.now)) (g.C.Clock.told c.args.clock.now) boards in
    let b : Outside = outside after (output_of (g.K.Sink, c.args.out.now)) (link_state (g.L.Link, c.args.link.now)) (g.C.Clock.told c.args.clock.now) boards in
    opens_err c.from_residual.result stop.Memory c.args.profile.now c.args.seed a _ _ b c.from_residual.ensures.1 (nothing_put (g.K.Sink.written c.args.out.now) (lines_text (head_lines c.args.profile.now)), refl, inl refl) refl

pub returns-in_err-write_head-clause-opens : goal.returns-in_err-write_head-clause-opens
returns-in_err-write_head-clause-opens g c = λ before after boards.
    let a : Outside = outside before (output_of (g.K.Sink, c.args.out.now)) (link_state (g.L.Link, c.args.link.now)) (g.C.Clock.told c.args.clock.now) boards in
    let b : Outside = outside after (output_of (g.K.Sink, c.args.out.now)) (link_state (g.L.Link, c.args.link.now)) (g.C.Clock.told c.args.clock.now) boards in
    opens_err c.from_residual-in_err-write_head.result stop.Memory c.args.profile.now c.args.seed a _ _ b c.from_residual-in_err-write_head.ensures.1 (nothing_put (g.K.Sink.written c.args.out.now) (lines_text (head_lines c.args.profile.now)), refl, inl refl) refl

pub returns-in_err-put-clause-opens : goal.returns-in_err-put-clause-opens
returns-in_err-put-clause-opens g c = λ before after boards.
    let a : Outside = outside before (output_of (g.K.Sink, c.args.out.now)) (link_state (g.L.Link, c.args.link.now)) (g.C.Clock.told c.args.clock.now) boards in
    let b : Outside = outside after (output_of (g.K.Sink, c.put.new.out)) (link_state (g.L.Link, c.args.link.now)) (g.C.Clock.told c.args.clock.now) boards in
    let front = subst (λ t. PutsPrefix (g.K.Sink.written c.args.out.now) (g.K.Sink.written c.put.new.out) t) (head_is c.as_slice.result.now c.write_head.new.text.items c.new-text.result.items (lines_text (head_lines c.args.profile.now)) c.as_slice.ensures.value c.in_ok-write_head.ensures c.new-text.ensures.items) c.in_err-put.ensures.err in
    opens_err c.from_residual-in_err-put.result stop.Write c.args.profile.now c.args.seed a _ _ b (err_is c.from_residual-in_err-put.result c.in_err-put.field-0.0 stop.Write c.from_residual-in_err-put.ensures.1 c.in_err-put.ensures.cause) (front, c.in_err-put.ensures.failed, refl) refl

pub returns-in_err-open-clause-opens : goal.returns-in_err-open-clause-opens
returns-in_err-open-clause-opens g c = λ before after boards.
    let a : Outside = outside before (output_of (g.K.Sink, c.args.out.now)) (link_state (g.L.Link, c.args.link.now)) (g.C.Clock.told c.args.clock.now) boards in
    let b : Outside = outside after (output_of (g.K.Sink, c.put.new.out)) (link_state (g.L.Link, c.open.new.link)) (g.C.Clock.told c.args.clock.now) boards in
    let put = subst (λ t. Puts (g.K.Sink.written c.args.out.now) (g.K.Sink.written c.put.new.out) t) (head_is c.as_slice.result.now c.write_head.new.text.items c.new-text.result.items (lines_text (head_lines c.args.profile.now)) c.as_slice.ensures.value c.in_ok-write_head.ensures c.new-text.ensures.items) c.in_ok-put.ensures.ok in
    opens_err c.from_residual-in_err-open.result c.in_err-open.field-0.0 c.args.profile.now c.args.seed a _ _ b c.from_residual-in_err-open.ensures.1 (open_hindered c.in_err-open.field-0.0 c.args.profile.now a b (g.L.Link.mote_count c.open.new.link) c.in_err-open.ensures.opens put c.in_ok-put.ensures.unfailed) refl

pub returns-clause-opens : goal.returns-clause-opens
returns-clause-opens g c = λ before after boards. record {
  motes = none_many c.in_ok-motes.motes.items c.args.profile.now.motes c.in_ok-motes.ensures;
  off = λ m. none_at c.in_ok-motes.motes.items c.args.profile.now.motes m c.in_ok-motes.ensures;
  moment = c.begin-timeline.ensures.moment;
  draws = c.begin-timeline.ensures.draws;
  told = c.begin-timeline.ensures.told;
  known = c.begin-timeline.ensures.reached;
  addressees_are = c.in_ok-open.ensures.opens.2;
  put = subst (λ t. Puts (g.K.Sink.written c.args.out.now) (g.K.Sink.written c.put.new.out) t) (head_is c.as_slice.result.now c.write_head.new.text.items c.new-text.result.items (lines_text (head_lines c.args.profile.now)) c.as_slice.ensures.value c.in_ok-write_head.ensures c.new-text.ensures.items) c.in_ok-put.ensures.ok;
  link = c.in_ok-open.ensures.opens.0;
  writes = c.in_ok-put.ensures.unfailed;
  failures = c.in_ok-open.ensures.opens.1;
}
