use Rattle.std.proofs.Common.{map}
use Rattle.dg_rehearse.specs.Courses.{Moves, scene}
use Rattle.dg_rehearse.specs.Turns.{heard_courses}
use Rattle.dg_rehearse.specs.Rehearsed.{IsContinued, SentBy, staging}
use Rattle.dg_rehearse.proofs.schedule.Schedule.deliver.Given as goal

-- the frame was sent before, and it goes on
abbrev pub invariant-loop-mote : goal.invariant-loop-mote
invariant-loop-mote g l = record {
  goes : IsContinued l.profile l.plan (staging l.initial.stage (map g.N.Nor.device l.initial.boards.items)) (staging l.stage (map g.N.Nor.device l.boards.items));
  moves : Moves (heard_courses l.profile l.plan l.from l.frame l.mote) l.profile l.plan (scene l.initial.self l.initial.stage (map g.N.Nor.device l.initial.boards.items)) (scene l.self l.stage (map g.N.Nor.device l.boards.items));
  sent : SentBy l.from l.frame (staging l.stage (map g.N.Nor.device l.boards.items));
}
