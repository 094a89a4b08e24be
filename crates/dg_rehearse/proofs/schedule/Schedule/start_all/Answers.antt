use Rattle.std.proofs.Common.{◌≡◌, ℕ, map, ap, subst, arith}
use Rattle.std.specs.Prelude.{Ok}
use Rattle.dg_rehearse.specs.Courses.{Moves, scene}
use Rattle.dg_rehearse.specs.Turns.{started_courses}
use Rattle.dg_rehearse.proofs.PlayLemmas.{goes_nowhere, goes_then, still_under_way}
use Rattle.dg_rehearse.proofs.TurnLemmas.{starts_more, starts_none}
use Rattle.dg_rehearse.proofs.schedule.Schedule.start_all.Goals as goal

pub loop-mote-init : goal.loop-mote-init
loop-mote-init g c = record { goes = goes_nowhere _ _ _; moves = starts_none c.args.profile.now c.args.plan.now (scene c.args.self.now c.args.stage.now (map g.N.Nor.device c.args.boards.now.items)) }

pub start-requires-clause-under_way : goal.start-requires-clause-under_way
start-requires-clause-under_way g c = still_under_way c.args.profile.now c.args.plan.now _ _ c.loop-mote.invariant.goes c.requires.under_way

pub loop-mote-preserved : goal.loop-mote-preserved
loop-mote-preserved g c = record {
  goes = goes_then _ _ _ _ _ c.loop-mote.invariant.goes c.in_ok-start.ensures.goes_on;
  moves = starts_more c.args.profile.now c.args.plan.now c.loop-mote.mote (scene c.args.self.now c.args.stage.now (map g.N.Nor.device c.args.boards.now.items)) (scene c.loop-mote.self c.loop-mote.stage (map g.N.Nor.device c.loop-mote.boards.items)) (scene c.start.new.self c.start.new.stage (map g.N.Nor.device c.start.new.boards.items)) c.loop-mote.invariant.moves (c.in_ok-start.ensures.moves (ap Ok c.in-Done.is));
}

pub returns-in-TooMany-clause-goes_on : goal.returns-in-TooMany-clause-goes_on
returns-in-TooMany-clause-goes_on g c = goes_then _ _ _ _ _ c.loop-mote.invariant.goes c.in_ok-start.ensures.goes_on

pub returns-clause-goes_on : goal.returns-clause-goes_on
returns-clause-goes_on g c = c.loop-mote.invariant.goes

pub returns-clause-moves : goal.returns-clause-moves
returns-clause-moves g c = λ _.
    let all : c.loop-mote.mote ≡ c.args.profile.now.motes = omega (arith, c.loop-mote-test.false, c.loop-mote.auto.mote-end) in
    subst (λ (k : ℕ). Moves (started_courses c.args.plan.now k) c.args.profile.now c.args.plan.now (scene c.args.self.now c.args.stage.now (map g.N.Nor.device c.args.boards.now.items)) (scene c.loop-mote.self c.loop-mote.stage (map g.N.Nor.device c.loop-mote.boards.items))) all c.loop-mote.invariant.moves
