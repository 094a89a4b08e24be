use Rattle.std.proofs.Common.{refl, ap, sym, ◌∙◌, ◌++◌, ◌∷◌, [], Ok, Some, None, Option, List, ℕ, subst, rules}
use Rattle.std.specs.List.{filter}
use Rattle.dg_rules.specs.Changes.{is_reported}
use Rattle.dg_rules.specs.Events.{does, mote_of}
use Rattle.dg_script.specs.declared.report.Report.TheVariants.{Off}
use Rattle.dg_world.specs.Applying.{step_of}
use Rattle.dg_world.specs.inner.OutcomeEndings.{outcome_lines}
use Rattle.dg_world.specs.inner.Outcomes.{outcome_of, ended_as}
use Rattle.dg_world.specs.inner.Steps.{Stepped}
use Rattle.dg_world.specs.Stepped.{board_state}
use Rattle.dg_world.specs.declared.outcome.Power.{Power}
use Rattle.dg_world.proofs.CutLemmas.{played_as}
use Rattle.dg_world.proofs.OutcomeLemmas.{frame_told}
use Rattle.dg_world.proofs.DoneLemmas.{step_outcome, step_cut, step_cut_halts, step_fails, event_mote, told_at}
use Rattle.dg_world.proofs.UnseenLemmas.{not_stays, not_cut}
use Rattle.dg_world.proofs.KnownLemmas.{step_sees, cut_sees, play_refused, refused_play, refused_told, refuses_goes, inject_takes, order_takes, order_again, reads_order}
use Rattle.dg_world.proofs.stepping.step_cut.Goals as goal

pub play_cut-requires-clause-fits : goal.play_cut-requires-clause-fits
play_cut-requires-clause-fits g c = let x = c.requires.fits in (x.0, x.1.event, x.2)

pub look_after_cut-requires-clause-known_chip : goal.look_after_cut-requires-clause-known_chip
look_after_cut-requires-clause-known_chip g c = λ known order.
    (reads_order c.args.event.now c.args.context.known _ c.play_cut.new.outcome.refused _ _ order c.play_cut.ensures.reads).stays (c.requires.may.known known)

pub returns-in_err-play_cut : goal.returns-in_err-play_cut
returns-in_err-play_cut g c =
    let o = c.args.context in
    let event = c.args.event.now in
    let x = step_of event (Some c.args.cut.now) in
    let m = mote_of event in
    let t = c.play_cut.new.outcome in
    record {
      steps = λ w fits on.
          let p = played_as _ (ended_as c.play_cut.result t) x.cut (Some c.args.cut.now) w m (does w event) _ _ _ _ (sym (ap (λ r. ended_as r t) c.in_err-play_cut.was)) refl (c.play_cut.ensures.played w on) in
          step_fails c.from_residual.result c.in_err-play_cut.field-0.0 t w x o.reported _ _ _ _ c.args.out.now.items c.from_residual.ensures.1 p;
      sees = search rules;
      order_reads = λ known. order_takes event o.known _ t.refused _ _ known c.play_cut.ensures.reads;
      inject_reads = search rules;
      unseen = λ w on unseen. not_stays c.play_cut.result _ c.in_err-play_cut.was (c.play_cut.ensures.unseen w on unseen).1;
    }

pub returns-in-Stays : goal.returns-in-Stays
returns-in-Stays g c =
    let o = c.args.context in
    let event = c.args.event.now in
    let x = step_of event (Some c.args.cut.now) in
    let m = mote_of event in
    let t = c.play_cut.new.outcome in
    let a = g.N.Nor.device c.args.board.now in
    let b = g.N.Nor.device c.play_cut.new.board in
    let told = c.args.out.now.items in
    let was = c.in_ok-play_cut.was ∙ ap (λ (y : Power). Ok y) c.in-Stays.is in
    record {
      steps = λ w fits on.
          let p = played_as _ (ended_as c.play_cut.result t) x.cut (Some c.args.cut.now) w m (does w event) _ _ a b (sym (ap (λ r. ended_as r t) was)) refl (c.play_cut.ensures.played w on) in
          step_outcome w x o.reported _ _ _ (outcome_of t) _ _ told c.push_outcome.new.out.items (event_mote _ event fits.event) on.stands p (frame_told t)
          (c.push_outcome.ensures ∙ ap (λ m. told ++ filter (is_reported o.reported) (outcome_lines m (outcome_of t))) c.requires.may.here);
      sees = λ w on.
          let p = played_as _ (ended_as c.play_cut.result t) x.cut (Some c.args.cut.now) w m (does w event) _ _ a b (sym (ap (λ r. ended_as r t) was)) refl (c.play_cut.ensures.played w on) in
          step_sees w o.known c.play_cut.new.runs a.image b.image event t (c.play_cut.ensures.sees was) (play_refused w m (does w event) x.cut _ _ a b (outcome_of t) p.ends);
      order_reads = λ known. order_takes event o.known _ t.refused _ _ known c.play_cut.ensures.reads;
      inject_reads = λ known w on.
          let p = played_as _ (ended_as c.play_cut.result t) x.cut (Some c.args.cut.now) w m (does w event) _ _ a b (sym (ap (λ r. ended_as r t) was)) refl (c.play_cut.ensures.played w on) in
          inject_takes w event o.known _ t.refused a b known was c.play_cut.ensures.reads (λ why refuses. refused_told t why (refused_play w m (does w event) x.cut _ _ a b (outcome_of t) p.ends why refuses));
      unseen = λ w on unseen. (ap g.N.Nor.device (c.play_cut.ensures.unseen w on unseen).0, tt);
    }

pub returns-in_ok-orderly-in-Cut : goal.returns-in_ok-orderly-in-Cut
returns-in_ok-orderly-in-Cut g c =
    let o = c.args.context in
    let event = c.args.event.now in
    let x = step_of event (Some c.args.cut.now) in
    let m = mote_of event in
    let t = c.play_cut.new.outcome in
    let a = g.N.Nor.device c.args.board.now in
    let b = g.N.Nor.device c.play_cut.new.board in
    let told = c.args.out.now.items in
    let same = c.requires.may.here in
    let was = c.in_ok-play_cut.was ∙ ap (λ (y : Power). Ok y) c.in-Cut.is in
    record {
      steps = λ w fits on.
          let p = played_as _ (ended_as c.play_cut.result t) x.cut (Some c.args.cut.now) w m (does w event) _ _ _ _ (sym (ap (λ r. ended_as r t) was)) refl (c.play_cut.ensures.played w on) in
          let P : Option (List ℕ) → Type 0 = λ sent. Stepped (Ok sent) w x o.reported (board_state a c.args.runs.now told) (board_state (g.N.Nor.device c.look_after_cut.new.board) None c.push_reserved.new.self.items) in
          subst P (sym c.new-outcome.ensures)
          (step_cut w x o.reported _ _ t.before c.look_after_cut.result _ _ _ _ told c.look_after_cut.new.out.items c.push_reserved.new.self.items p c.in_ok-orderly-in-Cut.was
          (told_at c.look_after_cut.result o.mote m t.before p.ends.leaves.store _ _ _ _ same (c.look_after_cut.ensures.reported p.ends.leaves.store p.ends.leaves.stands_for))
          (c.push_reserved.ensures.items ∙ ap (λ m. c.look_after_cut.new.out.items ++ Off m ∷ []) same));
      sees = λ w on. cut_sees w o.known None a.image (g.N.Nor.device c.look_after_cut.new.board).image event c.in_ok-orderly-in-Cut.orderly (c.in_ok-orderly-in-Cut.ensures.sees w);
      order_reads = λ known.
          order_again event o.known _ t.refused _ b _ c.a_volume_bounds_a_remount.ensures.some known (c.requires.may.known known) c.play_cut.ensures.reads c.look_after_cut.ensures.took;
      inject_reads = λ known w on.
          let p = played_as _ (ended_as c.play_cut.result t) x.cut (Some c.args.cut.now) w m (does w event) _ _ a b (sym (ap (λ r. ended_as r t) was)) refl (c.play_cut.ensures.played w on) in
          record { took = λ inject n why refuses remount. refuses_goes _ (does w event) why p.ends.effect p.ends.goes refuses };
      unseen = λ w on unseen. not_cut c.play_cut.result was (c.play_cut.ensures.unseen w on unseen).1;
    }

pub returns-in_err-orderly-in-Cut : goal.returns-in_err-orderly-in-Cut
returns-in_err-orderly-in-Cut g c =
    let o = c.args.context in
    let event = c.args.event.now in
    let x = step_of event (Some c.args.cut.now) in
    let m = mote_of event in
    let t = c.play_cut.new.outcome in
    let was = c.in_ok-play_cut.was ∙ ap (λ (y : Power). Ok y) c.in-Cut.is in
    record {
      steps = λ w fits on.
          let p = played_as _ (ended_as c.play_cut.result t) x.cut (Some c.args.cut.now) w m (does w event) _ _ _ _ (sym (ap (λ r. ended_as r t) was)) refl (c.play_cut.ensures.played w on) in
          step_cut_halts c.from_residual-in_err-orderly-in-Cut.result c.look_after_cut.result t c.in_err-orderly-in-Cut.field-0.0 w x o.reported _ _ _ t.before _ _ _ c.args.out.now.items c.look_after_cut.new.out.items
          c.from_residual-in_err-orderly-in-Cut.ensures.1 c.in_err-orderly-in-Cut.was p
          (told_at c.look_after_cut.result o.mote m t.before p.ends.leaves.store _ _ _ _ c.requires.may.here (c.look_after_cut.ensures.reported p.ends.leaves.store p.ends.leaves.stands_for));
      sees = search rules;
      order_reads = λ known.
          order_again event o.known _ t.refused _ (g.N.Nor.device c.play_cut.new.board) _ c.a_volume_bounds_a_remount.ensures.some known (c.requires.may.known known) c.play_cut.ensures.reads c.look_after_cut.ensures.took;
      inject_reads = search rules;
      unseen = λ w on unseen. not_cut c.play_cut.result was (c.play_cut.ensures.unseen w on unseen).1;
    }
