use Rattle.std.proofs.Common.{inl, inr, ap, sym, subst, ◌∙◌, Some, None, Ok, Err}
use Rattle.std.specs.Prelude.{option_map}
use Rattle.dg_frame.specs.Spelling.{frame_of}
use Rattle.dg_rules.specs.World.{store_at}
use Rattle.dg_rules.specs.Events.{of_effect}
use Rattle.dg_mote.specs.Effects.{tick_effect}
use Rattle.dg_mote.specs.Motes.{sent_in}
use Rattle.dg_node.specs.Ends.{NodeDone, tick_end}
use Rattle.dg_node.specs.Hosts.{host}
use Rattle.dg_node.specs.declared.answers.Ticked.TheVariants as ticked
use Rattle.dg_world.specs.inner.Faults.{fault_of_tick}
use Rattle.dg_world.specs.declared.outcome.Outcome.{Outcome}
use Rattle.dg_world.specs.inner.OutcomeEndings.{OutcomeEnds}
use Rattle.dg_world.proofs.OutcomeLemmas.{as_outcome_err, told_as, is_started, is_sent}
use Rattle.dg_world.proofs.TickLemmas.{effect_same, node_ends, tick_quiet, tick_halts, node_references}
use Rattle.dg_world.proofs.ticking.tick_on.Goals as goal

pub returns-in-Err-clause-ends : goal.returns-in-Err-clause-ends
returns-in-Err-clause-ends g c = λ w m r stands mote.
    let a = g.N.Nor.device c.args.board.now in
    let b = g.N.Nor.device c.tick.new.board in
    let v = c.args.node.now in
    let u = c.tick.new.self in
    let s = store_at w m in
    let f = c.in-Err.fault in
    let e = tick_effect r.mote s c.args.now c.args.word in
    let t : Outcome = record c.args.outcome.now { outbox = c.tick.new.out } in
    as_outcome_err w m (of_effect w e (Some r.image_version)) (Some v) (Some u) a b {T = Unit {0}} (Err c.from.result) (fault_of_tick f) t None c.from.ensures c.requires.nothing.before
    (tick_halts w m (of_effect w e (Some r.image_version)) (Some v) (Some u) a b f (sent_in c.tick.new.out)
    (node_ends w m e (Some r.image_version) (Some v) a b (λ _. ap Some (sym mote.0)) c.one_reading.ensures.wider (effect_same s r.mote c.args.now c.args.word) (tick_end (Err f)) (sent_in c.tick.new.out) u (c.in-Err.ensures r.mote s mote.1)))

pub returns-in-Err-clause-same_reference : goal.returns-in-Err-clause-same_reference
returns-in-Err-clause-same_reference g c =
    let x = c.requires.mote in
    node_references (tick_end (Err c.in-Err.fault)) (sent_in c.tick.new.out) (tick_effect x.0 x.1 c.args.now c.args.word) (Some c.args.node.now) (Some c.tick.new.self) _ _ (c.in-Err.ensures x.0 x.1 x.2)

pub returns-in-Ok-Idle : goal.returns-in-Ok-Idle
returns-in-Ok-Idle g c =
    let a = g.N.Nor.device c.args.board.now in
    let b = g.N.Nor.device c.tick.new.board in
    let v = c.args.node.now in
    let u = c.tick.new.self in
    let t = c.in-Ok-Idle.field-0 in
    let frame = sent_in c.tick.new.out in
    let n = c.requires.nothing in
    record {
      ends = λ w m r stands mote.
          let s = store_at w m in
          let e = tick_effect r.mote s c.args.now c.args.word in
          told_as w m _ _ _ _ _ _ _ (is_sent frame _ _ _ _ n.refused n.started n.before)
          (subst (λ q. OutcomeEnds q w m (of_effect w e (Some r.image_version)) (host a (Some v)) (host b (Some u))) (tick_quiet t frame (inl c.in-Ok-Idle.field-0-is))
          (node_ends w m e (Some r.image_version) (Some v) a b (λ _. ap Some (sym mote.0)) c.one_reading.ensures.wider (effect_same s r.mote c.args.now c.args.word) (tick_end (Ok t)) frame u (c.in-Ok-Idle.ensures r.mote s mote.1)));
      sees = n.orderly;
      same_reference = let x = c.requires.mote in node_references (tick_end (Ok t)) frame (tick_effect x.0 x.1 c.args.now c.args.word) (Some v) (Some u) a b (c.in-Ok-Idle.ensures x.0 x.1 x.2);
    }

pub returns-in-Ok-Sent : goal.returns-in-Ok-Sent
returns-in-Ok-Sent g c =
    let a = g.N.Nor.device c.args.board.now in
    let b = g.N.Nor.device c.tick.new.board in
    let v = c.args.node.now in
    let u = c.tick.new.self in
    let t = c.in-Ok-Sent.field-0 in
    let frame = sent_in c.tick.new.out in
    let n = c.requires.nothing in
    record {
      ends = λ w m r stands mote.
          let s = store_at w m in
          let e = tick_effect r.mote s c.args.now c.args.word in
          told_as w m _ _ _ _ _ _ _ (is_sent frame _ _ _ _ n.refused n.started n.before)
          (subst (λ q. OutcomeEnds q w m (of_effect w e (Some r.image_version)) (host a (Some v)) (host b (Some u))) (tick_quiet t frame (inr c.in-Ok-Sent.field-0-is))
          (node_ends w m e (Some r.image_version) (Some v) a b (λ _. ap Some (sym mote.0)) c.one_reading.ensures.wider (effect_same s r.mote c.args.now c.args.word) (tick_end (Ok t)) frame u (c.in-Ok-Sent.ensures r.mote s mote.1)));
      sees = n.orderly;
      same_reference = let x = c.requires.mote in node_references (tick_end (Ok t)) frame (tick_effect x.0 x.1 c.args.now c.args.word) (Some v) (Some u) a b (c.in-Ok-Sent.ensures x.0 x.1 x.2);
    }

pub returns-in-Ok-Restarted : goal.returns-in-Ok-Restarted
returns-in-Ok-Restarted g c =
    let a = g.N.Nor.device c.args.board.now in
    let b = g.N.Nor.device c.tick.new.board in
    let v = c.args.node.now in
    let u = c.tick.new.self in
    let t = c.in-Ok-Restarted.field-0 in
    let image = c.in-Ok-Restarted.image in
    let frame = sent_in c.tick.new.out in
    let n = c.requires.nothing in
    record {
      ends = λ w m r stands mote.
          let s = store_at w m in
          let e = tick_effect r.mote s c.args.now c.args.word in
          let done = subst (λ q. NodeDone (tick_end (Ok q)) frame e (host a (Some v)) (host b (Some u))) c.in-Ok-Restarted.field-0-is (c.in-Ok-Restarted.ensures r.mote s mote.1) in
          told_as w m _ _ _ _ _ _ _ (is_started frame _ image _ _ (done.0.sent ∙ ap (option_map frame_of) done.1) n.refused)
          (node_ends w m e (Some r.image_version) (Some v) a b (λ _. ap Some (sym mote.0)) c.one_reading.ensures.wider (effect_same s r.mote c.args.now c.args.word) (tick_end (Ok (ticked.Restarted image))) frame u done);
      sees = n.orderly;
      same_reference = let x = c.requires.mote in node_references (tick_end (Ok t)) frame (tick_effect x.0 x.1 c.args.now c.args.word) (Some v) (Some u) a b (c.in-Ok-Restarted.ensures x.0 x.1 x.2);
    }
