use Rattle.std.proofs.Common.{[], true, refl, None}
use Rattle.dg_mote.specs.Effects.{reset_effect}
use Rattle.dg_serial_base.specs.BaseEvents.{Base, powered}
use Rattle.dg_serial_base.specs.inner.Standing.{PowerEnds, Counts}
use Rattle.dg_end.specs.Conversions.{end_of_boot}
use Rattle.dg_serial_base.specs.Based.{RefusedBy}
use Rattle.dg_serial_base.specs.declared.running.Running.{Running}
use Rattle.dg_serial_base.proofs.PowerLemmas.{power_stood, power_fails}
use Rattle.dg_serial_base.proofs.ResultLemmas.{handed}
use Rattle.dg_serial_base.proofs.StartLemmas.{calm_ran, leaves, start_failed, start_none, start_counts}
use Rattle.dg_serial_base.proofs.running.Running.power.Goals as goal

pub returns-in_err-powered-clause-ends : goal.returns-in_err-powered-clause-ends
returns-in_err-powered-clause-ends g c = λ s stands.
    let b : Base = record { id = c.args.id; step = c.args.step; seed = c.args.seed } in
    let drawn = c.next-timing.ensures.drawn b 0 (c.begin-timeline.ensures.time b refl refl) in
    let t = c.next-timing.result in
    let f = c.in_err-powered.field-0.0 in
    let new = g.N.Nor.device c.power.new.board in
    handed (λ r. PowerEnds r b s new) c.from_residual.result (end_of_boot f) c.from_residual.ensures.1
    (power_fails b s (end_of_boot f) t.now t.word drawn.0 drawn.1 new
    (start_failed None (reset_effect s b.id true t.now t.word) None (g.N.Nor.device c.args.nor.now) new f s None (c.in_err-powered.ensures.done s None stands) stands))

pub returns-in_err-powered-clause-none : goal.returns-in_err-powered-clause-none
returns-in_err-powered-clause-none g c = λ none.
    let f = c.in_err-powered.field-0.0 in
    let a = g.N.Nor.device c.args.nor.now in
    let new = g.N.Nor.device c.power.new.board in
    handed (λ r. RefusedBy r a new) c.from_residual.result (end_of_boot f) c.from_residual.ensures.1 (start_none Running f a new c.in_err-powered.ensures.finds none)

pub returns-in_err-powered-clause-counts : goal.returns-in_err-powered-clause-counts
returns-in_err-powered-clause-counts g c =
    let f = c.in_err-powered.field-0.0 in
    let t = c.next-timing.result in
    let a = g.N.Nor.device c.args.nor.now in
    let new = g.N.Nor.device c.power.new.board in
    handed (λ r. Counts r a new) c.from_residual.result (end_of_boot f) c.from_residual.ensures.1
    (start_counts f (λ s. reset_effect s c.args.id true t.now t.word) None None a new c.in_err-powered.ensures.finds (λ s stands. c.in_err-powered.ensures.done s None stands))

pub returns-clause-ends : goal.returns-clause-ends
returns-clause-ends g c = λ s stands.
    let b : Base = record { id = c.args.id; step = c.args.step; seed = c.args.seed } in
    let zero = c.begin-timeline.ensures.time b refl refl in
    let drawn = c.next-timing.ensures.drawn b 0 zero in
    let t = c.next-timing.result in
    let new = g.N.Nor.device c.power.new.board in
    let v : Running = record { node = c.in_ok-powered.powered.node; timeline = c.next-timing.new.self } in
    let done = c.in_ok-powered.ensures.done s None stands in
    power_stood b s t.now t.word drawn.0 drawn.1 v new c.next-timing.ensures.now (c.next-timing.ensures.time b 0 zero)
    (leaves None (reset_effect s b.id true t.now t.word) None (g.N.Nor.device c.args.nor.now) new v.node t.now done.0 (c.a_node_stays_timely.ensures.powered s b.id t.now t.word true))

pub returns-clause-stood : goal.returns-clause-stood
returns-clause-stood g c =
    let b : Base = record { id = c.args.id; step = c.args.step; seed = c.args.seed } in
    let zero = c.begin-timeline.ensures.time b refl refl in
    let drawn = c.next-timing.ensures.drawn b 0 zero in
    let t = c.next-timing.result in
    let new = g.N.Nor.device c.power.new.board in
    let v : Running = record { node = c.in_ok-powered.powered.node; timeline = c.next-timing.new.self } in
    let s = c.in_ok-powered.ensures.finds in
    let done = c.in_ok-powered.ensures.done s.0 None s.1 in
    let x = power_stood b s.0 t.now t.word drawn.0 drawn.1 v new c.next-timing.ensures.now (c.next-timing.ensures.time b 0 zero)
    (leaves None (reset_effect s.0 b.id true t.now t.word) None (g.N.Nor.device c.args.nor.now) new v.node t.now done.0 (c.a_node_stays_timely.ensures.powered s.0 b.id t.now t.word true)) in
    (b, s.0, [], powered b s.0, x.0)

pub returns-clause-counts : goal.returns-clause-counts
returns-clause-counts g c =
    let s = c.in_ok-powered.ensures.finds in
    calm_ran _ _ _ (c.in_ok-powered.ensures.done s.0 None s.1).0.ran
