use Rattle.std.proofs.Common.{map, ap, sym}
use Rattle.std.specs.Prelude.{Ok}
use Rattle.dg_rehearse.specs.Rehearsed.{staging}
use Rattle.dg_rehearse.specs.Turns.{opened_course}
use Rattle.dg_rehearse.proofs.PlayLemmas.{goes_to, still_under_way}
use Rattle.dg_rehearse.proofs.EndLemmas.{end_same, begun_ends, many_begun}
use Rattle.dg_rehearse.proofs.schedule.Schedule.play.Goals as goal

pub play_turns-requires-clause-under_way : goal.play_turns-requires-clause-under_way
play_turns-requires-clause-under_way g c = still_under_way c.args.profile.now c.args.plan.now _ _ c.in_ok-open.ensures.goes_on c.requires.under_way

pub returns-in-Done-clause-goes_on : goal.returns-in-Done-clause-goes_on
returns-in-Done-clause-goes_on g c = goes_to c.play_turns.result _ _ _ _ _ c.in_ok-open.ensures.goes_on c.play_turns.ensures.goes_on

pub returns-in-Done-clause-by_clock : goal.returns-in-Done-clause-by_clock
returns-in-Done-clause-by_clock g c = λ e is enough x k. c.play_turns.ensures.by_clock e is enough (opened_course c.args.profile.now c.args.plan.now x) (c.in_ok-open.ensures.moves (ap Ok c.in-Done.is) x k)

pub returns-in-Done-clause-ends : goal.returns-in-Done-clause-ends
returns-in-Done-clause-ends g c = λ e is. begun_ends e c.args.profile.now c.args.plan.now _ _ _ _ (c.in_ok-open.ensures.begun (ap Ok c.in-Done.is)) (c.play_turns.ensures.ends e is)

pub returns-in-TooMany-clause-by_clock : goal.returns-in-TooMany-clause-by_clock
returns-in-TooMany-clause-by_clock g c = λ e is enough. absurd (enough (sym (end_same _ e is)))

pub returns-in-TooMany-clause-ends : goal.returns-in-TooMany-clause-ends
returns-in-TooMany-clause-ends g c = λ e is. many_begun e c.args.profile.now c.args.plan.now _ _ _ (sym (end_same _ e is)) c.in_ok-open.ensures.goes_on (c.in_ok-open.ensures.full (ap Ok c.in-TooMany.is))
