use Rattle.std.proofs.Common.{◌≡◌, ap}
use Rattle.std.specs.Prelude.{Err}
use Rattle.deluge_c.proofs.packets.deluge_plan_packet.Goals as goal

pub returns-in-Err-OutOfRange-clause-range : goal.returns-in-Err-OutOfRange-clause-range
returns-in-Err-OutOfRange-clause-range c = λ is. c.in-Err-OutOfRange.ensures.range (ap Err c.in-Err-OutOfRange.field-0-is)

pub returns-in-Err-Put-clause-put_before : goal.returns-in-Err-Put-clause-put_before
returns-in-Err-Put-clause-put_before c = λ is. c.in-Err-Put.ensures.put_before (ap Err c.in-Err-Put.field-0-is)

pub returns-in-Err-NotKept-clause-not_kept : goal.returns-in-Err-NotKept-clause-not_kept
returns-in-Err-NotKept-clause-not_kept c = λ is. c.in-Err-NotKept.ensures.not_kept (ap Err c.in-Err-NotKept.field-0-is)

pub returns-in-Err-NotNext-clause-not_next : goal.returns-in-Err-NotNext-clause-not_next
returns-in-Err-NotNext-clause-not_next c = λ is s h stands held. (_, c.in-Err-NotNext.ensures.not_next _ (ap Err c.in-Err-NotNext.field-0-is) s h stands held)

pub returns-in-Err-Stopped-clause-room : goal.returns-in-Err-Stopped-clause-room
returns-in-Err-Stopped-clause-room c = λ is. c.in-Err-Stopped.ensures.room (ap Err c.in-Err-Stopped.field-0-is)
