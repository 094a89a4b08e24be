use Rattle.std.proofs.Common.{sym, subst, Some, None, Ok, Err}
use Rattle.dg_nor.proofs.MaskLemmas.{Endures_ran}
use Rattle.dg_rules.specs.World.{store_at}
use Rattle.dg_rules.specs.Events.{of_effect}
use Rattle.dg_mote.specs.Effects.{reset_effect}
use Rattle.dg_node.specs.Ends.{NodeDone, power_end}
use Rattle.dg_node.specs.Hosts.{host}
use Rattle.dg_world.specs.inner.Faults.{fault_of_start}
use Rattle.dg_world.proofs.AloneLemmas.{powers_on}
use Rattle.dg_world.proofs.OutcomeLemmas.{as_outcome_err, told_as, is_started}
use Rattle.dg_world.proofs.TickLemmas.{reset_same, node_begins, power_halts, power_references, powers_of}
use Rattle.dg_world.proofs.starting.reset.Goals as goal

pub returns-in_err-powered-clause-ends : goal.returns-in_err-powered-clause-ends
returns-in_err-powered-clause-ends g c = λ w m at stands.
    let old = c.args.runs.now in
    let a = g.N.Nor.device c.args.board.now in
    let b = g.N.Nor.device c.power.new.board in
    let f = c.in_err-powered.field-0.0 in
    let s = store_at w m in
    let e = reset_effect s m c.args.wide c.args.now c.args.word in
    let done = subst (λ i. NodeDone (power_end (Err f)) None (reset_effect s i c.args.wide c.args.now c.args.word) (host a old) (host b None)) (sym at) (c.in_err-powered.ensures.done s old stands) in
    as_outcome_err w m (of_effect w e None) old old a b c.from_residual.result (fault_of_start f) c.args.outcome.now None c.from_residual.ensures.1 c.requires.nothing.before
    (power_halts w m e old old None a b f (reset_same s m c.args.wide c.args.now c.args.word) done)

pub returns-in_err-powered-clause-powers : goal.returns-in_err-powered-clause-powers
returns-in_err-powered-clause-powers g c =
    let f = c.in_err-powered.field-0.0 in
    powers_on c.from_residual.result (fault_of_start f) _ _ c.from_residual.ensures.1
    (powers_of f (λ s. reset_effect s c.args.id c.args.wide c.args.now c.args.word) c.args.runs.now None _ _ c.in_err-powered.ensures.finds (λ s stands. c.in_err-powered.ensures.done s c.args.runs.now stands))

pub returns-in_err-powered-clause-same_reference : goal.returns-in_err-powered-clause-same_reference
returns-in_err-powered-clause-same_reference g c =
    power_references c.in_err-powered.field-0.0 (λ s. reset_effect s c.args.id c.args.wide c.args.now c.args.word) c.args.runs.now None _ _ c.in_err-powered.ensures.finds (λ s stands. c.in_err-powered.ensures.done s c.args.runs.now stands)

pub returns-clause-ends : goal.returns-clause-ends
returns-clause-ends g c = λ w m at stands.
    let x = c.in_ok-powered.powered in
    let n = c.requires.nothing in
    let old = c.args.runs.now in
    let a = g.N.Nor.device c.args.board.now in
    let b = g.N.Nor.device c.power.new.board in
    let s = store_at w m in
    told_as w m _ _ _ _ _ _ _ (is_started _ _ x.image _ _ n.sent n.refused)
    (node_begins w m (reset_effect s m c.args.wide c.args.now c.args.word) old x.node a b x.image (reset_same s m c.args.wide c.args.now c.args.word)
    (subst (λ i. NodeDone (power_end (Ok x)) None (reset_effect s i c.args.wide c.args.now c.args.word) (host a old) (host b (Some x.node))) (sym at) (c.in_ok-powered.ensures.done s old stands)))

pub returns-clause-powers : goal.returns-clause-powers
returns-clause-powers g c =
    let v = c.in_ok-powered.ensures.finds in
    let ran = (c.in_ok-powered.ensures.done v.0 None v.1).0.ran in
    record { ends = v; endures = Endures_ran ran; count = ran.faults }

pub returns-clause-same_reference : goal.returns-clause-same_reference
returns-clause-same_reference g c =
    let v = c.in_ok-powered.ensures.finds in
    (c.in_ok-powered.ensures.done v.0 None v.1).0.ran.references
