use Rattle.std.proofs.Common.{◌≤◌, map}
use Rattle.dg_rehearse.specs.Courses.{Course, IsCourse, scene}
use Rattle.dg_rehearse.proofs.ClockLemmas.{GoneOn}
use Rattle.dg_rehearse.specs.Rehearsed.{IsContinued, staging}
use Rattle.dg_rehearse.proofs.schedule.Schedule.play_turns.Given as goal

-- each turn had at least one event
abbrev pub invariant-loop : goal.invariant-loop
invariant-loop g l = record {
  goes : IsContinued l.profile l.plan (staging l.initial.stage (map g.N.Nor.device l.initial.boards.items)) (staging l.stage (map g.N.Nor.device l.boards.items));
  course : (x : Course) → IsCourse l.profile l.plan (scene l.initial.self l.initial.stage (map g.N.Nor.device l.initial.boards.items)) x → GoneOn l.profile l.plan x (scene l.self l.stage (map g.N.Nor.device l.boards.items));
  turns : l.counter ≤ l.stage.world.events;
}
