use Rattle.std.proofs.Common.{map, ap, sym, ◌∙◌, arith}
use Rattle.std.specs.Prelude.{Ok, Some}
use Rattle.dg_rehearse.specs.Courses.{scene}
use Rattle.dg_rehearse.specs.Rehearsed.{staging}
use Rattle.dg_rehearse.proofs.ClockLemmas.{gone_none, gone_more, gone_out}
use Rattle.dg_rehearse.proofs.PlayLemmas.{goes_nowhere, goes_then, still_under_way, then_ends}
use Rattle.dg_rehearse.proofs.EndLemmas.{end_same, many_ends, counted_full}
use Rattle.dg_rehearse.proofs.schedule.Schedule.play_turns.Goals as goal

pub loop-init : goal.loop-init
loop-init g c = record { goes = goes_nowhere _ _ _; course = λ x k. gone_none c.args.profile.now c.args.plan.now x (scene c.args.self.now c.args.stage.now (map g.N.Nor.device c.args.boards.now.items)) k; turns = omega arith }

pub play_next-requires-clause-under_way : goal.play_next-requires-clause-under_way
play_next-requires-clause-under_way g c = still_under_way c.args.profile.now c.args.plan.now _ _ c.loop.invariant.goes c.requires.under_way

pub returns-in-Some-clause-goes_on : goal.returns-in-Some-clause-goes_on
returns-in-Some-clause-goes_on g c = goes_then _ _ _ _ _ c.loop.invariant.goes c.in_ok-ending.ensures.goes_on

pub returns-clause-goes_on : goal.returns-clause-goes_on
returns-clause-goes_on g c = c.loop.invariant.goes

pub returns-in-Some-clause-ends : goal.returns-in-Some-clause-ends
returns-in-Some-clause-ends g c = λ e is.
    then_ends _ c.args.profile.now c.args.plan.now _ (staging c.loop.stage (map g.N.Nor.device c.loop.boards.items)) _ c.loop.invariant.goes (c.in_ok-ending.ensures.ends e (ap Ok (c.in-Some.is ∙ ap (λ x. Some x) (end_same c.in-Some.ending e is))))

pub loop-preserved : goal.loop-preserved
loop-preserved g c =
    let t = c.loop.invariant.turns in
    let m = c.in_ok-ending.ensures.events (ap Ok c.in_default.is) in
    record {
      goes = goes_then _ _ _ _ _ c.loop.invariant.goes c.in_ok-ending.ensures.goes_on;
      course = λ x k. gone_more c.play_next.result c.args.profile.now c.args.plan.now x (scene c.loop.self c.loop.stage (map g.N.Nor.device c.loop.boards.items)) (scene c.play_next.new.self c.play_next.new.stage (map g.N.Nor.device c.play_next.new.boards.items)) (c.in_ok-ending.was ∙ ap Ok c.in_default.is) c.play_next.ensures.by_clock (c.loop.invariant.course x k);
      turns = omega (arith, t, m);
    }

pub returns-clause-ends : goal.returns-clause-ends
returns-clause-ends g c = λ e is.
    many_ends e c.args.profile.now c.args.plan.now _ _ (staging c.loop.stage (map g.N.Nor.device c.loop.boards.items)) (sym (end_same _ e is)) c.loop.invariant.goes
    (counted_full c.args.profile.now c.args.plan.now (staging c.loop.stage (map g.N.Nor.device c.loop.boards.items)) c.loop.counter (still_under_way c.args.profile.now c.args.plan.now _ (staging c.loop.stage (map g.N.Nor.device c.loop.boards.items)) c.loop.invariant.goes c.requires.under_way) c.loop.invariant.turns (omega (arith, c.loop-test.false)))

pub returns-in-Some-clause-by_clock : goal.returns-in-Some-clause-by_clock
returns-in-Some-clause-by_clock g c = λ e is enough x k.
    gone_out c.play_next.result c.args.profile.now c.args.plan.now x (scene c.loop.self c.loop.stage (map g.N.Nor.device c.loop.boards.items)) (scene c.play_next.new.self c.play_next.new.stage (map g.N.Nor.device c.play_next.new.boards.items)) e (c.in_ok-ending.was ∙ ap Ok (c.in-Some.is ∙ ap (λ x. Some x) (end_same c.in-Some.ending e is))) enough c.play_next.ensures.by_clock (c.loop.invariant.course x k)

pub returns-clause-by_clock : goal.returns-clause-by_clock
returns-clause-by_clock g c = λ e is enough. absurd (enough (sym (end_same _ e is)))
