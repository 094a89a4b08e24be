use Rattle.std.proofs.Common.{subst, sym, ap, ◌∙◌, arith}
use Rattle.std.specs.Prelude.{option_copied}
use Rattle.dg_base.specs.declared.events.Event.{Event}
use Rattle.dg_rules.specs.Events.{mote_of}
use Rattle.dg_script.specs.Ranges.{EventInRange}
use Rattle.dg_world.specs.Stepped.{board_state}
use Rattle.dg_shared.specs.EventKinds.{IsEventKind}
use Rattle.dg_shared.specs.Finds.{last_heard}
use Rattle.dg_world.specs.inner.Outcomes.{as_outcome}
use Rattle.dg_world.proofs.DispatchLemmas.{ApplyEnsures, tick_applies, last_applies}
use Rattle.dg_world.proofs.UnseenLemmas.{StaysUnused, tick_unseen, last_unseen}
use Rattle.dg_world.proofs.KnownLemmas.{sees_at, reads_at}
use Rattle.dg_world.proofs.WholeLemmas.{AppliedSo, whole_did, whole_failed}
use Rattle.dg_world.proofs.stepping.step_at.Goals as goal

pub find_last-found-requires : goal.find_last-found-requires
find_last-found-requires g c =
    let is = subst (λ k. IsEventKind k c.args.event.now) c.in-Last.is c.requires.may.kind in
    let x = c.requires.fits in
    let fits = subst (λ (e : Event). EventInRange x.0 e) is x.1.event in
    omega (arith, fits.first, x.2)

pub apply_apart-requires-clause-fits : goal.apply_apart-requires-clause-fits
apply_apart-requires-clause-fits g c = let x = c.requires.fits in (x.0, x.1.event, x.2)

pub step_cut-requires-clause-fits : goal.step_cut-requires-clause-fits
step_cut-requires-clause-fits g c = rw c.in-Some.is at c.requires.fits

pub returns-in-Some : goal.returns-in-Some
returns-in-Some g c = rw c.in-Some.is c.step_cut.ensures

pub returns-in_ok-tick-in-Tick : goal.returns-in_ok-tick-in-Tick
returns-in_ok-tick-in-Tick g c =
    let device = g.N.Nor.device in
    let e = c.in-Tick in
    let x = c.tick in
    let is = subst (λ k. IsEventKind k c.args.event.now) e.is c.requires.may.kind in
    let a = board_state (device c.args.board.now) c.args.runs.now c.args.out.now.items in
    let b = board_state (device x.new.board) x.new.runs c.push_outcome.new.out.items in
    whole_did c.args.context.now c.args.event.now x.new.outcome a b (option_copied c.args.cut) (ap option_copied c.in-None.is)
    (subst (λ r. AppliedSo r c.args.context.now c.args.event.now x.new.outcome a b) c.in_ok-tick-in-Tick.was
    (record {
      ends = λ w. subst (ApplyEnsures (as_outcome x.result x.new.outcome) w c.args.context.now c.args.runs.now x.new.runs _ _) (sym is) (tick_applies (as_outcome x.result x.new.outcome) w c.args.context.now c.args.runs.now x.new.runs _ _ e.mote e.dt e.word (x.ensures.ends w e.mote));
      unseen = λ w on unseen.
          let stays = subst (StaysUnused x.result c.args.board.now x.new.board w c.args.context.now (device c.args.board.now) c.args.runs.now) (sym is) (tick_unseen x.result c.args.board.now x.new.board w c.args.context.now (device c.args.board.now) c.args.runs.now e.mote e.dt e.word (x.ensures.unseen w e.mote)) in
          let y = stays on unseen in
          (ap device y.0, y.1);
      sees = sees_at x.result x.new.outcome x.new.runs _ _ _ _ is x.ensures.sees;
      reads = reads_at c.args.context.now.known _ _ _ _ _ _ is tt;
    }))
    c.requires.may.here c.push_outcome.ensures

pub returns-in_err-tick-in-Tick : goal.returns-in_err-tick-in-Tick
returns-in_err-tick-in-Tick g c =
    let device = g.N.Nor.device in
    let e = c.in-Tick in
    let x = c.tick in
    let is = subst (λ k. IsEventKind k c.args.event.now) e.is c.requires.may.kind in
    let a = board_state (device c.args.board.now) c.args.runs.now c.args.out.now.items in
    let b = board_state (device x.new.board) x.new.runs c.args.out.now.items in
    whole_failed c.args.context.now c.args.event.now x.new.outcome a b (option_copied c.args.cut) (ap option_copied c.in-None.is) c.from_residual.result c.in_err-tick-in-Tick.field-0.0 c.from_residual.ensures.1
    (subst (λ r. AppliedSo r c.args.context.now c.args.event.now x.new.outcome a b) c.in_err-tick-in-Tick.was
    (record {
      ends = λ w. subst (ApplyEnsures (as_outcome x.result x.new.outcome) w c.args.context.now c.args.runs.now x.new.runs _ _) (sym is) (tick_applies (as_outcome x.result x.new.outcome) w c.args.context.now c.args.runs.now x.new.runs _ _ e.mote e.dt e.word (x.ensures.ends w e.mote));
      unseen = λ w on unseen.
          let stays = subst (StaysUnused x.result c.args.board.now x.new.board w c.args.context.now (device c.args.board.now) c.args.runs.now) (sym is) (tick_unseen x.result c.args.board.now x.new.board w c.args.context.now (device c.args.board.now) c.args.runs.now e.mote e.dt e.word (x.ensures.unseen w e.mote)) in
          let y = stays on unseen in
          (ap device y.0, y.1);
      sees = sees_at x.result x.new.outcome x.new.runs _ _ _ _ is x.ensures.sees;
      reads = reads_at c.args.context.now.known _ _ _ _ _ _ is tt;
    }))

pub returns-in_ok-hear_found-in-Last : goal.returns-in_ok-hear_found-in-Last
returns-in_ok-hear_found-in-Last g c =
    let device = g.N.Nor.device in
    let e = c.in-Last in
    let x = c.hear_found in
    let m = c.args.context.now.mote in
    let is = subst (λ k. IsEventKind k c.args.event.now) e.is c.requires.may.kind in
    let a = board_state (device c.args.board.now) c.args.runs.now c.args.out.now.items in
    let b = board_state (device x.new.board) x.new.runs c.push_outcome-in-Last.new.out.items in
    whole_did c.args.context.now c.args.event.now x.new.outcome a b (option_copied c.args.cut) (ap option_copied c.in-None.is)
    (subst (λ r. AppliedSo r c.args.context.now c.args.event.now x.new.outcome a b) c.in_ok-hear_found-in-Last.was
    (record {
      ends = λ w. subst (ApplyEnsures (as_outcome x.result x.new.outcome) w c.args.context.now c.args.runs.now x.new.runs _ _) (sym is) (last_applies (as_outcome x.result x.new.outcome) w c.args.context.now c.args.runs.now x.new.runs _ _ e.from e.to e.dt e.word (c.requires.may.here ∙ ap mote_of is) (λ shared stands. x.ensures.ends w m (last_heard w e.from m c.args.context.now.moment e.word) stands (c.find_last-found.ensures.found w e.word shared)));
      unseen = λ w on unseen.
          let stays = subst (StaysUnused x.result c.args.board.now x.new.board w c.args.context.now (device c.args.board.now) c.args.runs.now) (sym is) (last_unseen x.result c.args.board.now x.new.board w c.args.context.now (device c.args.board.now) c.args.runs.now e.from e.to e.dt e.word (c.requires.may.here ∙ ap mote_of is) (λ shared stands. x.ensures.unseen w m (last_heard w e.from m c.args.context.now.moment e.word) stands (c.find_last-found.ensures.found w e.word shared))) in
          let y = stays on unseen in
          (ap device y.0, y.1);
      sees = sees_at x.result x.new.outcome x.new.runs _ _ _ _ is x.ensures.sees;
      reads = reads_at c.args.context.now.known _ _ _ _ _ _ is tt;
    }))
    c.requires.may.here c.push_outcome-in-Last.ensures

pub returns-in_err-hear_found-in-Last : goal.returns-in_err-hear_found-in-Last
returns-in_err-hear_found-in-Last g c =
    let device = g.N.Nor.device in
    let e = c.in-Last in
    let x = c.hear_found in
    let m = c.args.context.now.mote in
    let is = subst (λ k. IsEventKind k c.args.event.now) e.is c.requires.may.kind in
    let a = board_state (device c.args.board.now) c.args.runs.now c.args.out.now.items in
    let b = board_state (device x.new.board) x.new.runs c.args.out.now.items in
    whole_failed c.args.context.now c.args.event.now x.new.outcome a b (option_copied c.args.cut) (ap option_copied c.in-None.is) c.from_residual-in_err-hear_found-in-Last.result c.in_err-hear_found-in-Last.field-0.0 c.from_residual-in_err-hear_found-in-Last.ensures.1
    (subst (λ r. AppliedSo r c.args.context.now c.args.event.now x.new.outcome a b) c.in_err-hear_found-in-Last.was
    (record {
      ends = λ w. subst (ApplyEnsures (as_outcome x.result x.new.outcome) w c.args.context.now c.args.runs.now x.new.runs _ _) (sym is) (last_applies (as_outcome x.result x.new.outcome) w c.args.context.now c.args.runs.now x.new.runs _ _ e.from e.to e.dt e.word (c.requires.may.here ∙ ap mote_of is) (λ shared stands. x.ensures.ends w m (last_heard w e.from m c.args.context.now.moment e.word) stands (c.find_last-found.ensures.found w e.word shared)));
      unseen = λ w on unseen.
          let stays = subst (StaysUnused x.result c.args.board.now x.new.board w c.args.context.now (device c.args.board.now) c.args.runs.now) (sym is) (last_unseen x.result c.args.board.now x.new.board w c.args.context.now (device c.args.board.now) c.args.runs.now e.from e.to e.dt e.word (c.requires.may.here ∙ ap mote_of is) (λ shared stands. x.ensures.unseen w m (last_heard w e.from m c.args.context.now.moment e.word) stands (c.find_last-found.ensures.found w e.word shared))) in
          let y = stays on unseen in
          (ap device y.0, y.1);
      sees = sees_at x.result x.new.outcome x.new.runs _ _ _ _ is x.ensures.sees;
      reads = reads_at c.args.context.now.known _ _ _ _ _ _ is tt;
    }))

pub returns-in_ok-apply_apart-in-Other : goal.returns-in_ok-apply_apart-in-Other
returns-in_ok-apply_apart-in-Other g c =
    let device = g.N.Nor.device in
    let x = c.apply_apart in
    let a = board_state (device c.args.board.now) c.args.runs.now c.args.out.now.items in
    let b = board_state (device x.new.board) x.new.runs c.push_outcome-in-Other.new.out.items in
    whole_did c.args.context.now c.args.event.now x.new.outcome a b (option_copied c.args.cut) (ap option_copied c.in-None.is)
    (subst (λ r. AppliedSo r c.args.context.now c.args.event.now x.new.outcome a b) c.in_ok-apply_apart-in-Other.was
    (record { ends = x.ensures.ends; unseen = λ w on unseen. let y = x.ensures.unseen w on unseen in (ap device y.0, y.1); sees = x.ensures.sees; reads = x.ensures.reads }))
    c.requires.may.here c.push_outcome-in-Other.ensures

pub returns-in_err-apply_apart-in-Other : goal.returns-in_err-apply_apart-in-Other
returns-in_err-apply_apart-in-Other g c =
    let device = g.N.Nor.device in
    let x = c.apply_apart in
    let a = board_state (device c.args.board.now) c.args.runs.now c.args.out.now.items in
    let b = board_state (device x.new.board) x.new.runs c.args.out.now.items in
    whole_failed c.args.context.now c.args.event.now x.new.outcome a b (option_copied c.args.cut) (ap option_copied c.in-None.is) c.from_residual-in_err-apply_apart-in-Other.result c.in_err-apply_apart-in-Other.field-0.0 c.from_residual-in_err-apply_apart-in-Other.ensures.1
    (subst (λ r. AppliedSo r c.args.context.now c.args.event.now x.new.outcome a b) c.in_err-apply_apart-in-Other.was
    (record { ends = x.ensures.ends; unseen = λ w on unseen. let y = x.ensures.unseen w on unseen in (ap device y.0, y.1); sees = x.ensures.sees; reads = x.ensures.reads }))
