-- A step without a cut, by what its event did.
use Rattle.std.proofs.Common.{◌≡◌, ◌++◌, false, refl, ap, sym, ◌∙◌}
use Rattle.std.specs.Prelude.{Option, None, Result, Ok, Err, OnOk, OnErr, IsErrAnd}
use Rattle.std.specs.List.{filter}
use Rattle.dg_rules.specs.World.{World as RuleWorld}
use Rattle.dg_rules.specs.Changes.{is_reported}
use Rattle.dg_rules.specs.Events.{does, mote_of}
use Rattle.dg_base.specs.declared.events.Cut.{Cut as PowerCut}
use Rattle.dg_base.specs.declared.events.Event.{Event}
use Rattle.dg_world.specs.inner.CutEnds.{ended}
use Rattle.dg_world.specs.inner.Sees.{EventSees, EventReads}
use Rattle.dg_world.specs.inner.Contexts.{AppliesIn}
use Rattle.dg_world.specs.Applying.{step_of}
use Rattle.dg_world.specs.inner.Steps.{StepDid}
use Rattle.dg_world.specs.Stepped.{BoardState, board_state}
use Rattle.dg_world.specs.inner.Outcomes.{outcome_of, halt_of, as_outcome}
use Rattle.dg_world.specs.inner.EventOutcomes.{Whole}
use Rattle.dg_world.specs.inner.OutcomeEndings.{outcome_lines, OutcomeEnds}
use Rattle.dg_node.specs.Hosts.{host}
use Rattle.dg_shared.specs.Unseen.{RefusesUnseen}
use Rattle.dg_shared.specs.declared.context.EventContext.{EventContext}
use Rattle.dg_world.specs.declared.outcome.Fault.{Fault}
use Rattle.dg_world.specs.declared.outcome.Outcome.{Outcome}
use Rattle.dg_world.proofs.CutLemmas.{uncut, halted, played_as}
use Rattle.dg_world.proofs.DoneLemmas.{step_outcome, step_fails, event_mote}
use Rattle.dg_world.proofs.KnownLemmas.{step_sees, outcome_refused, refused_outcome, refused_told, inject_takes, order_takes}
use Rattle.dg_world.proofs.OutcomeLemmas.{frame_told}

-- what the clauses of `apply_apart` say
pub record AppliedSo (r : Result (Unit {0}) Fault) (o : EventContext) (event : Event) (t : Outcome) (a b : BoardState) : Type 0 where
  pub ends : (w : RuleWorld) → AppliesIn o w event a.board a.runs → OutcomeEnds (as_outcome r t) w (mote_of event) (does w event) (host a.board a.runs) (host b.board b.runs)
  pub unseen : (w : RuleWorld) → AppliesIn o w event a.board a.runs → RefusesUnseen (does w event) → (b.board ≡ a.board) × OnErr r ⊥
  pub sees : OnOk r (EventSees event t b.runs a.board.image b.board.image)
  pub reads : EventReads event o.known (OnErr r ⊥) t.refused a.board b.board

abbrev done : Result (Unit {0}) Fault
done = Ok tt

abbrev failed : Fault → Result (Unit {0}) Fault
failed f = Err f

module _ (o : EventContext) (event : Event) (t : Outcome) (a b : BoardState) (cut : Option PowerCut) (none : cut ≡ None) where
  -- its lines were reported
  pub whole_did : AppliedSo done o event t a b → o.mote ≡ mote_of event → b.reported ≡ a.reported ++ filter (is_reported o.reported) (outcome_lines o.mote (outcome_of t)) → StepDid done o (step_of event cut) t a b
  whole_did h here told =
      let x = step_of event cut in
      let m = mote_of event in
      record {
        steps = λ w fits on.
            let p = played_as (Ok (Whole (outcome_of t))) (ended false (as_outcome done t)) cut None w m (does w event) a.runs b.runs a.board b.board refl none
            (uncut (as_outcome done t) w m (does w event) a.runs b.runs a.board b.board (h.ends w on)) in
            step_outcome w x o.reported _ _ _ (outcome_of t) _ _ a.reported b.reported (event_mote _ event fits.event) on.stands p (frame_told t)
            (told ∙ ap (λ k. a.reported ++ filter (is_reported o.reported) (outcome_lines k (outcome_of t))) here);
        sees = λ w on. step_sees w o.known b.runs a.board.image b.board.image event t h.sees (outcome_refused w m (does w event) _ _ a.board b.board (outcome_of t) (h.ends w on));
        order_reads = λ known. order_takes event o.known _ t.refused _ _ known h.reads;
        inject_reads = λ known w on.
            inject_takes w event o.known _ t.refused a.board b.board known tt h.reads
            (λ why refuses. refused_told t why (refused_outcome w m (does w event) _ _ a.board b.board (outcome_of t) (h.ends w on) why refuses));
        unseen = h.unseen;
      }

  -- its fault is passed on, and nothing is reported
  pub whole_failed : (r : Result (Unit {0}) Fault) (f : Fault) → IsErrAnd r (λ e. e ≡ f) → AppliedSo (failed f) o event t a b → StepDid r o (step_of event cut) t a (board_state b.board b.runs a.reported)
  whole_failed (Ok u) f is h = absurd is
  whole_failed (Err e) f is h =
      let x = step_of event cut in
      let m = mote_of event in
      record {
        steps = λ w fits on.
            let p = played_as (Err (halt_of f t.before)) (ended false (as_outcome (failed f) t)) cut None w m (does w event) a.runs b.runs a.board b.board (sym (halted (halt_of f t.before))) none
            (uncut (as_outcome (failed f) t) w m (does w event) a.runs b.runs a.board b.board (h.ends w on)) in
            step_fails (Err e) f t w x o.reported _ _ _ _ a.reported is p;
        sees = tt;
        order_reads = λ known. order_takes event o.known _ t.refused _ _ known h.reads;
        inject_reads = tt;
        unseen = λ w on unseen. absurd (h.unseen w on unseen).1;
      }
