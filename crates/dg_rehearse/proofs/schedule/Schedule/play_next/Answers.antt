use Rattle.std.proofs.Common.{map, ap}
use Rattle.std.specs.Prelude.{Ok}
use Rattle.dg_rehearse.specs.Ended.{Ends}
use Rattle.dg_rehearse.specs.Rehearsed.{staging}
use Rattle.dg_rehearse.proofs.PlayLemmas.{goes_to, still_under_way, then_ends, more_later}
use Rattle.dg_rehearse.proofs.EndLemmas.{complete_ends, some_same}
use Rattle.std.proofs.Common.{map}
use Rattle.dg_rehearse.specs.Courses.{agenda_of, scene}
use Rattle.dg_rehearse.proofs.ClockLemmas.{on_complete, on_turn}
use Rattle.dg_rehearse.proofs.schedule.Schedule.play_next.Goals as goal

pub play_coming-requires-clause-under_way : goal.play_coming-requires-clause-under_way
play_coming-requires-clause-under_way g c = still_under_way c.args.profile.now c.args.plan.now _ _ c.in_ok-is_complete.ensures.goes_on c.requires.under_way

pub returns-clause-goes_on : goal.returns-clause-goes_on
returns-clause-goes_on g c = goes_to c.play_coming.result _ _ _ _ _ c.in_ok-is_complete.ensures.goes_on c.play_coming.ensures.goes_on

pub returns-clause-ends : goal.returns-clause-ends
returns-clause-ends g c = λ e is. then_ends (Ends e c.args.profile.now c.args.plan.now _) c.args.profile.now c.args.plan.now _ _ _ c.in_ok-is_complete.ensures.goes_on (c.play_coming.ensures.ends e is)

pub returns-clause-events : goal.returns-clause-events
returns-clause-events g c = λ is. more_later c.args.profile.now c.args.plan.now (staging c.args.stage.now (map g.N.Nor.device c.args.boards.now.items)) (staging c.is_complete.new.stage (map g.N.Nor.device c.is_complete.new.boards.items)) (staging c.play_coming.new.stage (map g.N.Nor.device c.play_coming.new.boards.items)) c.in_ok-is_complete.ensures.goes_on (c.play_coming.ensures.events is)

pub returns-then-branch-clause-ends : goal.returns-then-branch-clause-ends
returns-then-branch-clause-ends g c = λ e is. complete_ends e c.args.profile.now c.args.plan.now _ _ _ (some_same _ e is) (c.in_ok-is_complete.ensures.complete (ap Ok c.if-branch.true))

pub returns-then-branch-clause-by_clock : goal.returns-then-branch-clause-by_clock
returns-then-branch-clause-by_clock g c = on_complete c.args.profile.now c.args.plan.now (scene c.args.self.now c.args.stage.now (map g.N.Nor.device c.args.boards.now.items)) (scene c.args.self.now c.is_complete.new.stage (map g.N.Nor.device c.is_complete.new.boards.items)) (c.in_ok-is_complete.ensures.value _ (ap Ok c.if-branch.true)) c.in_ok-is_complete.ensures.moves

pub returns-clause-by_clock : goal.returns-clause-by_clock
returns-clause-by_clock g c =
    on_turn c.play_coming.result c.args.profile.now c.args.plan.now (scene c.args.self.now c.args.stage.now (map g.N.Nor.device c.args.boards.now.items)) (scene c.args.self.now c.is_complete.new.stage (map g.N.Nor.device c.is_complete.new.boards.items)) (scene c.play_coming.new.self c.play_coming.new.stage (map g.N.Nor.device c.play_coming.new.boards.items)) (c.in_ok-is_complete.ensures.value _ (ap Ok c.if-branch.false)) c.in_ok-is_complete.ensures.moves c.play_coming.ensures.by_clock
