use Rattle.std.proofs.Common.{subst, sym, ap, ◌∙◌}
use Rattle.dg_rules.specs.World.{site, store_at, frame_at}
use Rattle.dg_rules.specs.Events.{hear_by, heard_sent, mote_of}
use Rattle.dg_shared.specs.Finds.{last_heard}
use Rattle.dg_world.specs.inner.Outcomes.{as_outcome}
use Rattle.dg_world.proofs.DispatchLemmas.{ApplyEnsures, tick_applies, hear_applies, last_applies, frame_applies, reset_applies, inject_applies, order_applies, ends_at}
use Rattle.dg_world.proofs.UnseenLemmas.{StaysUnused, unseen_at, tick_unseen, hear_unseen, last_unseen, frame_unseen, reset_unseen, inject_unseen, order_unseen}
use Rattle.dg_world.proofs.KnownLemmas.{sees_at, reads_at, when_ok}
use Rattle.dg_world.proofs.dispatch.apply_apart.Goals as goal

pub returns-in-Tick-clause-ends : goal.returns-in-Tick-clause-ends
returns-in-Tick-clause-ends g c = λ w.
    let e = c.in-Tick in
    let x = c.tick in
    subst (ApplyEnsures (as_outcome x.result x.new.outcome) w c.args.context c.args.runs.now x.new.runs _ _) (sym e.is) (tick_applies (as_outcome x.result x.new.outcome) w c.args.context c.args.runs.now x.new.runs _ _ e.mote e.dt e.word (x.ensures.ends w e.mote))

pub returns-in-Hear-clause-ends : goal.returns-in-Hear-clause-ends
returns-in-Hear-clause-ends g c = λ w.
    let e = c.in-Hear in
    let x = c.hear_found in
    let m = c.args.context.mote in
    let found = c.find_nth.ensures.found w e.word in
    subst (ApplyEnsures (as_outcome x.result x.new.outcome) w c.args.context c.args.runs.now x.new.runs _ _) (sym e.is) (hear_applies (as_outcome x.result x.new.outcome) w c.args.context c.args.runs.now x.new.runs _ _ e.mote e.dt e.word e.frame (c.requires.may.here ∙ ap mote_of e.is) (λ shared stands. x.ensures.ends w m (heard_sent w m c.args.context.moment e.word (frame_at w e.frame)) stands (found shared)))

pub returns-in-Last-clause-ends : goal.returns-in-Last-clause-ends
returns-in-Last-clause-ends g c = λ w.
    let e = c.in-Last in
    let x = c.hear_found-in-Last in
    let m = c.args.context.mote in
    let found = c.find_last.ensures.found w e.word in
    subst (ApplyEnsures (as_outcome x.result x.new.outcome) w c.args.context c.args.runs.now x.new.runs _ _) (sym e.is) (last_applies (as_outcome x.result x.new.outcome) w c.args.context c.args.runs.now x.new.runs _ _ e.from e.to e.dt e.word (c.requires.may.here ∙ ap mote_of e.is) (λ shared stands. x.ensures.ends w m (last_heard w e.from m c.args.context.moment e.word) stands (found shared)))

pub returns-in-Frame-clause-ends : goal.returns-in-Frame-clause-ends
returns-in-Frame-clause-ends g c = λ w.
    let e = c.in-Frame in
    let x = c.hear in
    subst (ApplyEnsures (as_outcome x.result x.new.outcome) w c.args.context c.args.runs.now x.new.runs _ _) (sym e.is)
    (frame_applies (as_outcome x.result x.new.outcome) w c.args.context c.args.runs.now x.new.runs _ _ e.mote e.dt e.word e.bytes (λ stands.
    ends_at (λ bytes. hear_by w (store_at w e.mote) (site w e.mote).runs c.args.context.moment e.word bytes) e.bytes c.as_slice-frame.result.now (as_outcome x.result x.new.outcome) w e.mote c.args.runs.now x.new.runs _ _ (sym c.as_slice-frame.ensures) (x.ensures.ends w e.mote stands)))

pub returns-in-Reset-clause-ends : goal.returns-in-Reset-clause-ends
returns-in-Reset-clause-ends g c = λ w.
    let e = c.in-Reset in
    let x = c.reset_here in
    subst (ApplyEnsures (as_outcome x.result x.new.outcome) w c.args.context c.args.runs.now x.new.runs _ _) (sym e.is)
    (reset_applies (as_outcome x.result x.new.outcome) w c.args.context c.args.runs.now x.new.runs _ _ e.mote e.dt e.word (c.requires.may.here ∙ ap mote_of e.is) (x.ensures.ends w))

pub returns-in-Inject-clause-ends : goal.returns-in-Inject-clause-ends
returns-in-Inject-clause-ends g c = λ w.
    let e = c.in-Inject in
    let x = c.inject_known in
    subst (ApplyEnsures (as_outcome x.result x.new.outcome) w c.args.context c.args.runs.now x.new.runs _ _) (sym e.is) (inject_applies (as_outcome x.result x.new.outcome) w c.args.context c.args.runs.now x.new.runs _ _ e.mote e.image e.version e.dt e.word (c.requires.may.here ∙ ap mote_of e.is) (x.ensures.ends w))

pub returns-in-Order-clause-ends : goal.returns-in-Order-clause-ends
returns-in-Order-clause-ends g c = λ w.
    let e = c.in-Order in
    let x = c.order_known in
    subst (ApplyEnsures (as_outcome x.result x.new.outcome) w c.args.context c.args.runs.now x.new.runs _ _) (sym e.is) (order_applies (as_outcome x.result x.new.outcome) w c.args.context c.args.runs.now x.new.runs _ _ e.mote e.number e.image e.version e.dt e.word (c.requires.may.here ∙ ap mote_of e.is) (x.ensures.ends w))

pub returns-in-Tick-clause-unseen : goal.returns-in-Tick-clause-unseen
returns-in-Tick-clause-unseen g c = λ w.
    let e = c.in-Tick in
    let x = c.tick in
    subst (StaysUnused x.result c.args.board.now x.new.board w c.args.context _ c.args.runs.now) (sym e.is)
    (tick_unseen x.result c.args.board.now x.new.board w c.args.context _ c.args.runs.now e.mote e.dt e.word (x.ensures.unseen w e.mote))

pub returns-in-Hear-clause-unseen : goal.returns-in-Hear-clause-unseen
returns-in-Hear-clause-unseen g c = λ w.
    let e = c.in-Hear in
    let x = c.hear_found in
    let m = c.args.context.mote in
    let found = c.find_nth.ensures.found w e.word in
    subst (StaysUnused x.result c.args.board.now x.new.board w c.args.context _ c.args.runs.now) (sym e.is)
    (hear_unseen x.result c.args.board.now x.new.board w c.args.context _ c.args.runs.now e.mote e.dt e.word e.frame (c.requires.may.here ∙ ap mote_of e.is) (λ shared stands. x.ensures.unseen w m (heard_sent w m c.args.context.moment e.word (frame_at w e.frame)) stands (found shared)))

pub returns-in-Last-clause-unseen : goal.returns-in-Last-clause-unseen
returns-in-Last-clause-unseen g c = λ w.
    let e = c.in-Last in
    let x = c.hear_found-in-Last in
    let m = c.args.context.mote in
    let found = c.find_last.ensures.found w e.word in
    subst (StaysUnused x.result c.args.board.now x.new.board w c.args.context _ c.args.runs.now) (sym e.is)
    (last_unseen x.result c.args.board.now x.new.board w c.args.context _ c.args.runs.now e.from e.to e.dt e.word (c.requires.may.here ∙ ap mote_of e.is) (λ shared stands. x.ensures.unseen w m (last_heard w e.from m c.args.context.moment e.word) stands (found shared)))

pub returns-in-Frame-clause-unseen : goal.returns-in-Frame-clause-unseen
returns-in-Frame-clause-unseen g c = λ w.
    let e = c.in-Frame in
    let x = c.hear in
    subst (StaysUnused x.result c.args.board.now x.new.board w c.args.context _ c.args.runs.now) (sym e.is)
    (frame_unseen x.result c.args.board.now x.new.board w c.args.context _ c.args.runs.now e.mote e.dt e.word e.bytes (λ stands unseen. x.ensures.unseen w e.mote stands (unseen_at (λ bytes. hear_by w (store_at w e.mote) (site w e.mote).runs c.args.context.moment e.word bytes) e.bytes c.as_slice-frame.result.now (sym c.as_slice-frame.ensures) unseen)))

pub returns-in-Reset-clause-unseen : goal.returns-in-Reset-clause-unseen
returns-in-Reset-clause-unseen g c = λ w.
    let e = c.in-Reset in
    let x = c.reset_here in
    subst (StaysUnused x.result c.args.board.now x.new.board w c.args.context _ c.args.runs.now) (sym e.is)
    (reset_unseen x.result c.args.board.now x.new.board w c.args.context _ c.args.runs.now e.mote e.dt e.word)

pub returns-in-Inject-clause-unseen : goal.returns-in-Inject-clause-unseen
returns-in-Inject-clause-unseen g c = λ w.
    let e = c.in-Inject in
    let x = c.inject_known in
    subst (StaysUnused x.result c.args.board.now x.new.board w c.args.context _ c.args.runs.now) (sym e.is)
    (inject_unseen x.result c.args.board.now x.new.board w c.args.context _ c.args.runs.now e.mote e.image e.version e.dt e.word (c.requires.may.here ∙ ap mote_of e.is) (x.ensures.unseen w))

pub returns-in-Order-clause-unseen : goal.returns-in-Order-clause-unseen
returns-in-Order-clause-unseen g c = λ w.
    let e = c.in-Order in
    let x = c.order_known in
    subst (StaysUnused x.result c.args.board.now x.new.board w c.args.context _ c.args.runs.now) (sym e.is)
    (order_unseen x.result c.args.board.now x.new.board w c.args.context _ c.args.runs.now e.mote e.number e.image e.version e.dt e.word (c.requires.may.here ∙ ap mote_of e.is) (x.ensures.unseen w))

pub returns-in-Tick-clause-sees : goal.returns-in-Tick-clause-sees
returns-in-Tick-clause-sees g c = sees_at c.tick.result c.tick.new.outcome c.tick.new.runs _ _ _ _ c.in-Tick.is c.tick.ensures.sees

pub returns-in-Tick-clause-reads : goal.returns-in-Tick-clause-reads
returns-in-Tick-clause-reads g c = reads_at c.args.context.known _ _ _ _ _ _ c.in-Tick.is tt

pub returns-in-Hear-clause-sees : goal.returns-in-Hear-clause-sees
returns-in-Hear-clause-sees g c = sees_at c.hear_found.result c.hear_found.new.outcome c.hear_found.new.runs _ _ _ _ c.in-Hear.is c.hear_found.ensures.sees

pub returns-in-Hear-clause-reads : goal.returns-in-Hear-clause-reads
returns-in-Hear-clause-reads g c = reads_at c.args.context.known _ _ _ _ _ _ c.in-Hear.is tt

pub returns-in-Last-clause-sees : goal.returns-in-Last-clause-sees
returns-in-Last-clause-sees g c = sees_at c.hear_found-in-Last.result c.hear_found-in-Last.new.outcome c.hear_found-in-Last.new.runs _ _ _ _ c.in-Last.is c.hear_found-in-Last.ensures.sees

pub returns-in-Last-clause-reads : goal.returns-in-Last-clause-reads
returns-in-Last-clause-reads g c = reads_at c.args.context.known _ _ _ _ _ _ c.in-Last.is tt

pub returns-in-Frame-clause-sees : goal.returns-in-Frame-clause-sees
returns-in-Frame-clause-sees g c = sees_at c.hear.result c.hear.new.outcome c.hear.new.runs _ _ _ _ c.in-Frame.is c.hear.ensures.sees

pub returns-in-Frame-clause-reads : goal.returns-in-Frame-clause-reads
returns-in-Frame-clause-reads g c = reads_at c.args.context.known _ _ _ _ _ _ c.in-Frame.is tt

pub returns-in-Reset-clause-sees : goal.returns-in-Reset-clause-sees
returns-in-Reset-clause-sees g c = sees_at c.reset_here.result c.reset_here.new.outcome c.reset_here.new.runs _ _ _ _ c.in-Reset.is c.reset_here.ensures.sees

pub returns-in-Reset-clause-reads : goal.returns-in-Reset-clause-reads
returns-in-Reset-clause-reads g c = reads_at c.args.context.known _ _ _ _ _ _ c.in-Reset.is tt

pub returns-in-Inject-clause-sees : goal.returns-in-Inject-clause-sees
returns-in-Inject-clause-sees g c = sees_at c.inject_known.result c.inject_known.new.outcome c.inject_known.new.runs _ _ _ _ c.in-Inject.is c.inject_known.ensures.sees

pub returns-in-Inject-clause-reads : goal.returns-in-Inject-clause-reads
returns-in-Inject-clause-reads g c = reads_at c.args.context.known _ _ _ _ _ _ c.in-Inject.is (λ done. when_ok c.inject_known.result c.inject_known.ensures.reads done)

pub returns-in-Order-clause-sees : goal.returns-in-Order-clause-sees
returns-in-Order-clause-sees g c = sees_at c.order_known.result c.order_known.new.outcome c.order_known.new.runs _ _ _ _ c.in-Order.is c.order_known.ensures.sees

pub returns-in-Order-clause-reads : goal.returns-in-Order-clause-reads
returns-in-Order-clause-reads g c = reads_at c.args.context.known _ _ _ _ _ _ c.in-Order.is c.order_known.ensures.reads
