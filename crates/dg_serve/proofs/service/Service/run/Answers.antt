use Rattle.std.proofs.Common.{◌*◌, ◌%◌, ◌∷◌, [], arith}
use Rattle.std.proofs.lemmas.Nat.{mod_below}
use Rattle.dg_serve.specs.Each.{each}
use Rattle.dg_serve.specs.Services.{Looks, Ticks, plan}
use Rattle.dg_serve.specs.inner.Stretches.{beginning, turn_of_all}
use Rattle.dg_serve.proofs.GoLemmas.{went_then, went_as, went_halts, goes_then, halts_more}
use Rattle.dg_serve.proofs.LoopLemmas.{halts_exit, goes_as, still_under_way, loop_begins, loop_next, loop_halts, loop_moved, loop_ends, step_of, steps_are_turns, few_steps}
use Rattle.dg_serve.proofs.StartLemmas.{begun_under_way}
use Rattle.dg_serve.proofs.service.Service.run.Goals as goal

pub begin_all-requires-clause-allowed : goal.begin_all-requires-clause-allowed
begin_all-requires-clause-allowed g c = c.requires.allowed

pub begin_all-requires-clause-ready : goal.begin_all-requires-clause-ready
begin_all-requires-clause-ready g c = c.requires.ready

pub begin_all-requires-clause-early : goal.begin_all-requires-clause-early
begin_all-requires-clause-early g c = c.requires.early

pub returns-in_err-begin_all : goal.returns-in_err-begin_all
returns-in_err-begin_all g c = record {
  goes = halts_exit c.from_residual.result c.in_err-begin_all.field-0.0 c.args.profile.now.motes 0 c.args.profile.now.motes c.args.profile.now.links (plan c.args.profile.now.motes c.args.turns) _ _ c.from_residual.ensures.1
      (halts_more c.in_err-begin_all.field-0.0 c.args.profile.now.motes 0 c.args.profile.now.links (beginning c.args.profile.now.motes) (each c.args.turns (λ turn. turn_of_all c.args.profile.now.motes)) _ _ c.in_err-begin_all.ensures.goes);
}

pub overflow_mul-step-end : goal.overflow_mul-step-end
overflow_mul-step-end g c =
    let few = few_steps c.args.turns c.from-motes.result c.requires.few (omega (arith, c.requires.allowed.motes.1, c.from-motes.ensures)) in
    omega (arith, few)

pub loop-step-init : goal.loop-step-init
loop-step-init g c = loop_begins c.args.profile.now.motes c.args.profile.now.motes c.args.profile.now.links (step_of c.from-motes.result) _ c.in_ok-begin_all.ensures.goes.ready

pub overflow_cast-mote : goal.overflow_cast-mote
overflow_cast-mote g c =
    let below = mod_below c.loop-step.step c.from-motes.result (omega (arith, c.requires.allowed.motes.0, c.from-motes.ensures)) in
    omega (arith, below, c.from-motes.ensures, c.requires.allowed.motes.1)

pub look-requires-clause-allowed : goal.look-requires-clause-allowed
look-requires-clause-allowed g c = c.requires.allowed

pub look-requires-clause-known : goal.look-requires-clause-known
look-requires-clause-known g c = let below = mod_below c.loop-step.step c.from-motes.result (omega (arith, c.requires.allowed.motes.0, c.from-motes.ensures)) in omega (arith, below, c.from-motes.ensures)

pub look-requires-clause-under_way : goal.look-requires-clause-under_way
look-requires-clause-under_way g c =
    let most = c.requires.allowed.motes.1 in
    let few = few_steps c.args.turns c.from-motes.result c.requires.few (omega (arith, most, c.from-motes.ensures)) in
    let way = begun_under_way c.args.profile.now.motes c.args.profile.now.links _ _ most c.requires.ready c.requires.early c.in_ok-begin_all.ensures.goes in
    let moved = loop_moved c.args.profile.now.motes c.args.profile.now.motes c.args.profile.now.motes c.args.profile.now.links c.loop-step.step 2 (step_of c.from-motes.result) _ _ (λ k. omega arith) c.loop-step.invariant in
    still_under_way c.args.profile.now.motes c.args.profile.now.links (each c.loop-step.step (step_of c.from-motes.result)) _ _ _ _ c.loop-step.invariant way (omega (arith, moved, few, way.early, c.loop-step-test.true))

pub returns-in_err-look : goal.returns-in_err-look
returns-in_err-look g c = record {
  goes = goes_then c.from_residual-in_err-look.result c.args.profile.now.motes 0 c.args.profile.now.motes c.args.profile.now.motes c.args.profile.now.links (beginning c.args.profile.now.motes) (each c.args.turns (λ turn. turn_of_all c.args.profile.now.motes)) _ _ _ (omega arith) (omega arith) c.in_ok-begin_all.ensures.goes
      (goes_as c.from_residual-in_err-look.result c.args.profile.now.motes c.args.profile.now.motes c.args.profile.now.motes c.args.profile.now.links (each (c.args.turns * c.from-motes.result) (step_of c.from-motes.result)) (each c.args.turns (λ turn. turn_of_all c.args.profile.now.motes)) _ _ (steps_are_turns c.from-motes.result c.args.profile.now.motes c.args.turns c.from-motes.ensures)
      (loop_halts c.from_residual-in_err-look.result c.in_err-look.field-0.0 c.args.profile.now.motes c.args.profile.now.motes c.args.profile.now.motes c.args.profile.now.motes c.args.profile.now.links c.loop-step.step (c.args.turns * c.from-motes.result) (step_of c.from-motes.result) _ _ _ (omega arith) (omega arith) c.from_residual-in_err-look.ensures.1 c.loop-step.invariant
      (halts_more c.in_err-look.field-0.0 c.args.profile.now.motes c.args.profile.now.motes c.args.profile.now.links (Looks (c.loop-step.step % c.from-motes.result) ∷ []) (Ticks (c.loop-step.step % c.from-motes.result) ∷ []) _ _ c.in_err-look.ensures.goes)));
}

pub tick-requires-clause-allowed : goal.tick-requires-clause-allowed
tick-requires-clause-allowed g c = c.requires.allowed

pub tick-requires-clause-known : goal.tick-requires-clause-known
tick-requires-clause-known g c = let below = mod_below c.loop-step.step c.from-motes.result (omega (arith, c.requires.allowed.motes.0, c.from-motes.ensures)) in omega (arith, below, c.from-motes.ensures)

pub tick-requires-clause-under_way : goal.tick-requires-clause-under_way
tick-requires-clause-under_way g c =
    let most = c.requires.allowed.motes.1 in
    let few = few_steps c.args.turns c.from-motes.result c.requires.few (omega (arith, most, c.from-motes.ensures)) in
    let way = begun_under_way c.args.profile.now.motes c.args.profile.now.links _ _ most c.requires.ready c.requires.early c.in_ok-begin_all.ensures.goes in
    let moved = loop_moved c.args.profile.now.motes c.args.profile.now.motes c.args.profile.now.motes c.args.profile.now.links c.loop-step.step 2 (step_of c.from-motes.result) _ _ (λ k. omega arith) c.loop-step.invariant in
    let heard = c.in_ok-look.ensures.goes.moved in
    let both = went_then c.args.profile.now.motes c.args.profile.now.motes c.args.profile.now.motes c.args.profile.now.motes c.args.profile.now.links (each c.loop-step.step (step_of c.from-motes.result)) (Looks (c.loop-step.step % c.from-motes.result) ∷ []) _ _ _ (omega arith) c.loop-step.invariant c.in_ok-look.ensures.goes in
    still_under_way c.args.profile.now.motes c.args.profile.now.links _ _ _ _ _ both way (omega (arith, moved, heard, few, way.early, c.loop-step-test.true))

pub returns-in_err-tick : goal.returns-in_err-tick
returns-in_err-tick g c = record {
  goes = goes_then c.from_residual-in_err-tick.result c.args.profile.now.motes 0 c.args.profile.now.motes c.args.profile.now.motes c.args.profile.now.links (beginning c.args.profile.now.motes) (each c.args.turns (λ turn. turn_of_all c.args.profile.now.motes)) _ _ _ (omega arith) (omega arith) c.in_ok-begin_all.ensures.goes
      (goes_as c.from_residual-in_err-tick.result c.args.profile.now.motes c.args.profile.now.motes c.args.profile.now.motes c.args.profile.now.links (each (c.args.turns * c.from-motes.result) (step_of c.from-motes.result)) (each c.args.turns (λ turn. turn_of_all c.args.profile.now.motes)) _ _ (steps_are_turns c.from-motes.result c.args.profile.now.motes c.args.turns c.from-motes.ensures)
      (loop_halts c.from_residual-in_err-tick.result c.in_err-tick.field-0.0 c.args.profile.now.motes c.args.profile.now.motes c.args.profile.now.motes c.args.profile.now.motes c.args.profile.now.links c.loop-step.step (c.args.turns * c.from-motes.result) (step_of c.from-motes.result) _ _ _ (omega arith) (omega arith) c.from_residual-in_err-tick.ensures.1 c.loop-step.invariant
      (went_halts c.in_err-tick.field-0.0 c.args.profile.now.motes c.args.profile.now.motes c.args.profile.now.motes c.args.profile.now.links (Looks (c.loop-step.step % c.from-motes.result) ∷ []) (Ticks (c.loop-step.step % c.from-motes.result) ∷ []) _ _ _ (omega arith) c.in_ok-look.ensures.goes c.in_err-tick.ensures.goes)));
}

pub loop-step-preserved : goal.loop-step-preserved
loop-step-preserved g c =
    loop_next c.args.profile.now.motes c.args.profile.now.motes c.args.profile.now.motes c.args.profile.now.motes c.args.profile.now.links c.loop-step.step (step_of c.from-motes.result) _ _ _ (omega arith) c.loop-step.invariant
    (went_then c.args.profile.now.motes c.args.profile.now.motes c.args.profile.now.motes c.args.profile.now.motes c.args.profile.now.links (Looks (c.loop-step.step % c.from-motes.result) ∷ []) (Ticks (c.loop-step.step % c.from-motes.result) ∷ []) _ _ _ (omega arith) c.in_ok-look.ensures.goes c.in_ok-tick.ensures.goes)

pub returns : goal.returns
returns g c = record {
  goes = went_then c.args.profile.now.motes 0 c.args.profile.now.motes c.args.profile.now.motes c.args.profile.now.links (beginning c.args.profile.now.motes) (each c.args.turns (λ turn. turn_of_all c.args.profile.now.motes)) _ _ _ (omega arith) c.in_ok-begin_all.ensures.goes
      (went_as c.args.profile.now.motes c.args.profile.now.motes c.args.profile.now.motes c.args.profile.now.links (each (c.args.turns * c.from-motes.result) (step_of c.from-motes.result)) (each c.args.turns (λ turn. turn_of_all c.args.profile.now.motes)) _ _ (steps_are_turns c.from-motes.result c.args.profile.now.motes c.args.turns c.from-motes.ensures)
      (loop_ends c.args.profile.now.motes c.args.profile.now.motes c.args.profile.now.motes c.args.profile.now.links c.loop-step.step (c.args.turns * c.from-motes.result) (step_of c.from-motes.result) _ _ (omega arith) c.loop-step.invariant));
}
