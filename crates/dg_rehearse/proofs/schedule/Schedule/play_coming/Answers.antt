use Rattle.std.proofs.Common.{ap}
use Rattle.std.specs.Prelude.{Ok}
use Rattle.dg_rehearse.proofs.PlayLemmas.{goes_nowhere}
use Rattle.dg_rehearse.proofs.EndLemmas.{some_same, option_same, many_ends, ends_here}
use Rattle.std.proofs.Common.{map}
use Rattle.std.proofs.Common.{sym, refl, ◌∙◌}
use Rattle.dg_rehearse.specs.Courses.{agenda_of, scene}
use Rattle.dg_rehearse.specs.Rehearsed.{staging}
use Rattle.dg_rehearse.specs.Rehearsed.{base_chip}
use Rattle.dg_rehearse.specs.declared.schedule.Coming.TheVariants as coming
use Rattle.dg_rehearse.proofs.ClockLemmas.{comes, on_end, on_moved}
use Rattle.dg_rehearse.proofs.schedule.Schedule.play_coming.Goals as goal

pub returns-in-End-clause-goes_on : goal.returns-in-End-clause-goes_on
returns-in-End-clause-goes_on g c = goes_nowhere _ _ _

pub returns-in-End-clause-ends : goal.returns-in-End-clause-ends
returns-in-End-clause-ends g c = λ e is. ends_here c.in-End.ending e c.args.profile.now c.args.plan.now _ (some_same c.in-End.ending e is) (c.coming.ensures.ends c.in-End.ending _ c.in-End.is)

pub returns-in_ok-played-in-Cut-clause-ends : goal.returns-in_ok-played-in-Cut-clause-ends
returns-in_ok-played-in-Cut-clause-ends g c = λ e is.
    let m = c.ending_of.ensures.many e (option_same _ _ is) in
    many_ends e c.args.profile.now c.args.plan.now _ _ _ m.0 c.in_ok-played-in-Cut.ensures.goes_on (c.in_ok-played-in-Cut.ensures.full (ap Ok m.1))

pub returns-in_ok-played-in-Turn-clause-ends : goal.returns-in_ok-played-in-Turn-clause-ends
returns-in_ok-played-in-Turn-clause-ends g c = λ e is.
    let m = c.ending_of-in-Turn.ensures.many e (option_same _ _ is) in
    many_ends e c.args.profile.now c.args.plan.now _ _ _ m.0 c.in_ok-played-in-Turn.ensures.goes_on (c.in_ok-played-in-Turn.ensures.full (ap Ok m.1))

pub returns-in-End-clause-by_clock : goal.returns-in-End-clause-by_clock
returns-in-End-clause-by_clock g c = on_end c.args.profile.now c.args.plan.now (scene c.args.self.now c.args.stage.now (map g.N.Nor.device c.args.boards.now.items)) (coming.End c.in-End.ending) c.in-End.ending (comes c.args.profile.now c.args.plan.now (scene c.args.self.now c.args.stage.now (map g.N.Nor.device c.args.boards.now.items)) (coming.End c.in-End.ending) (sym c.in-End.is ∙ c.coming.ensures.value)) refl

pub returns-in_ok-played-in-Cut-clause-by_clock : goal.returns-in_ok-played-in-Cut-clause-by_clock
returns-in_ok-played-in-Cut-clause-by_clock g c =
    on_moved c.args.profile.now c.args.plan.now (scene c.args.self.now c.args.stage.now (map g.N.Nor.device c.args.boards.now.items)) (scene c.cut.new.self c.cut.new.stage (map g.N.Nor.device c.cut.new.boards.items)) (coming.Cut c.in-Cut.moment) c.ending_of.result (comes c.args.profile.now c.args.plan.now (scene c.args.self.now c.args.stage.now (map g.N.Nor.device c.args.boards.now.items)) (coming.Cut c.in-Cut.moment) (sym c.in-Cut.is ∙ c.coming.ensures.value)) refl (λ e is. (c.ending_of.ensures.many e is).0)
    (λ none x k. c.in_ok-played-in-Cut.ensures.moves (ap Ok (c.ending_of.ensures.none none)) x k)

pub returns-in_ok-played-in-Turn-clause-by_clock : goal.returns-in_ok-played-in-Turn-clause-by_clock
returns-in_ok-played-in-Turn-clause-by_clock g c =
    on_moved c.args.profile.now c.args.plan.now (scene c.args.self.now c.args.stage.now (map g.N.Nor.device c.args.boards.now.items)) (scene c.turn.new.self c.turn.new.stage (map g.N.Nor.device c.turn.new.boards.items)) (coming.Turn c.in-Turn.next) c.ending_of-in-Turn.result (comes c.args.profile.now c.args.plan.now (scene c.args.self.now c.args.stage.now (map g.N.Nor.device c.args.boards.now.items)) (coming.Turn c.in-Turn.next) (sym c.in-Turn.is ∙ c.coming.ensures.value)) refl (λ e is. (c.ending_of-in-Turn.ensures.many e is).0)
    (λ none x k. (base_chip, c.in_ok-played-in-Turn.ensures.moves (ap Ok (c.ending_of-in-Turn.ensures.none none)) x k))
