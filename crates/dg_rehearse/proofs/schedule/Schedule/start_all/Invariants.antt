use Rattle.std.proofs.Common.{map}
use Rattle.dg_rehearse.specs.Courses.{Moves, scene}
use Rattle.dg_rehearse.specs.Rehearsed.{IsContinued, staging}
use Rattle.dg_rehearse.specs.Turns.{started_courses}
use Rattle.dg_rehearse.proofs.schedule.Schedule.start_all.Given as goal

-- so many motes were started
abbrev pub invariant-loop-mote : goal.invariant-loop-mote
invariant-loop-mote g l = record {
  goes : IsContinued l.profile l.plan (staging l.initial.stage (map g.N.Nor.device l.initial.boards.items)) (staging l.stage (map g.N.Nor.device l.boards.items));
  moves : Moves (started_courses l.plan l.mote) l.profile l.plan (scene l.initial.self l.initial.stage (map g.N.Nor.device l.initial.boards.items)) (scene l.self l.stage (map g.N.Nor.device l.boards.items));
}
