use Rattle.std.proofs.Common.{◌≡◌, ◌<◌}
use Rattle.dg_rehearse.specs.Courses.{agenda_of}
use Rattle.dg_rehearse.specs.Turns.{first_turn}
use Rattle.dg_rehearse.proofs.schedule.Schedule.next.Given as goal

abbrev pub invariant-loop-mote : goal.invariant-loop-mote
invariant-loop-mote l = record { known : l.next.mote < l.motes; value : l.next ≡ first_turn (agenda_of l.self).turns l.mote }
