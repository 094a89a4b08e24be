use Rattle.std.proofs.Common.{◌∷◌, [], ◌+◌, arith}
use Rattle.dg_serve.specs.Services.{Begins}
use Rattle.dg_serve.proofs.LoopLemmas.{loop_begins, loop_next, loop_halts, loop_moved, loop_begun}
use Rattle.dg_serve.proofs.service.Service.begin_all.Goals as goal

pub loop-mote-init : goal.loop-mote-init
loop-mote-init g c = loop_begins c.args.profile.now.motes 0 c.args.profile.now.links (λ mote. Begins mote ∷ []) _ c.requires.ready

pub begin-requires-clause-allowed : goal.begin-requires-clause-allowed
begin-requires-clause-allowed g c = c.requires.allowed

pub begin-requires-clause-known : goal.begin-requires-clause-known
begin-requires-clause-known g c = omega arith

pub begin-requires-clause-ready : goal.begin-requires-clause-ready
begin-requires-clause-ready g c = c.loop-mote.invariant.ready

pub begin-requires-clause-early : goal.begin-requires-clause-early
begin-requires-clause-early g c =
    let moved = loop_moved c.args.profile.now.motes 0 c.loop-mote.mote c.args.profile.now.links c.loop-mote.mote 1 (λ mote. Begins mote ∷ []) _ _ (λ k. omega arith) c.loop-mote.invariant in
    let most = c.requires.allowed.motes.1 in
    omega (arith, moved, most, c.requires.early)

pub returns-in_err-begin : goal.returns-in_err-begin
returns-in_err-begin g c = record {
  goes = loop_halts c.from_residual.result c.in_err-begin.field-0.0 c.args.profile.now.motes 0 c.loop-mote.mote c.args.profile.now.motes c.args.profile.now.links c.loop-mote.mote c.args.profile.now.motes (λ mote. Begins mote ∷ []) _ _ _ (omega arith) (omega arith) c.from_residual.ensures.1 c.loop-mote.invariant c.in_err-begin.ensures.goes;
}

pub loop-mote-preserved : goal.loop-mote-preserved
loop-mote-preserved g c = loop_next c.args.profile.now.motes 0 c.loop-mote.mote (c.loop-mote.mote + 1) c.args.profile.now.links c.loop-mote.mote (λ mote. Begins mote ∷ []) _ _ _ (omega arith) c.loop-mote.invariant c.in_ok-begin.ensures.goes

pub returns : goal.returns
returns g c = record { goes = loop_begun c.args.profile.now.motes c.args.profile.now.links c.loop-mote.mote c.args.profile.now.motes (λ mote. Begins mote ∷ []) _ _ (omega arith) c.loop-mote.invariant }
