use Rattle.std.proofs.Common.{ℕ, ◌*◌, ◌<◌, ◌≤◌, ap, sym, subst, ◌∙◌, arith}
use Rattle.dg_rehearse.specs.Ended.{EndsNow}
use Rattle.dg_rehearse.specs.Rehearsed.{staging}
use Rattle.dg_rehearse.specs.Turns.{within_time}
use Rattle.dg_rehearse.specs.declared.plan.Ending.{Ending}
use Rattle.dg_rehearse.specs.Courses.{agenda_of}
use Rattle.dg_rehearse.proofs.ComingLemmas.{coming_full, coming_then}
use Rattle.dg_rehearse.proofs.schedule.Schedule.coming.Goals as goal

pub returns-clause-value : goal.returns-clause-value
returns-clause-value c =
    coming_then c.args.plan.now c.args.motes _ (agenda_of c.args.self.now) c.args.stage.now.moment c.next_moment-moment.result c.is_cut_first-is_cut.result c.next-next.result c.within_time.result (omega arith) c.next-next.ensures.value c.is_cut_first-is_cut.ensures c.next_moment-moment.ensures
    (c.within_time.ensures.value ∙ ap (λ (k : ℕ). within_time c.is_cut_first-is_cut.result c.next_moment-moment.result c.args.stage.now.moment (k * 60000) c.next-next.result) c.from.ensures)

pub returns-clause-turn : goal.returns-clause-turn
returns-clause-turn c = λ n is. subst (λ (k : ℕ). k < c.args.motes) (sym (c.within_time.ensures.turn n is)) c.next-next.ensures.known

pub returns-clause-ends : goal.returns-clause-ends
returns-clause-ends c = λ e boards is. let h = c.within_time.ensures.ends e is in subst (λ (x : Ending). EndsNow x c.args.plan.now (staging c.args.stage.now boards)) (sym h.0) (subst (λ (k : ℕ). k * 60000 ≤ c.args.stage.now.moment) c.from.ensures h.1)

pub returns-then-len-gt-MOST_SCRIPT-clause-value : goal.returns-then-len-gt-MOST_SCRIPT-clause-value
returns-then-len-gt-MOST_SCRIPT-clause-value c = coming_full c.args.plan.now c.args.motes _ (agenda_of c.args.self.now) c.args.stage.now.moment (omega arith)
