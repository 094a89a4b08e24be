-- Why a base mote ends, by the faults of its node.
use Rattle.std.specs.Prelude.{Result, Ok, Err}
use Rattle.dg_end.specs.declared.ends.End.{End}
use Rattle.dg_end.specs.declared.ends.End.TheVariants as ends
use Rattle.dg_node.specs.declared.answers.TickFault.{TickFault}
use Rattle.dg_node.specs.declared.answers.TickFault.TheVariants as tick_fault
use Rattle.dg_node.specs.Ends.{NodeEnd, Quiet, Sent, Starts, Stopped, NotAVolume, NoImage}

abbrev pub end_of_tick : TickFault → End
end_of_tick tick_fault.Stopped = ends.FlashFault
end_of_tick tick_fault.NoImage = ends.NoImage

-- the outcome of an event of the node
abbrev pub result_of : NodeEnd → Result (Unit {0}) End
result_of Quiet = Ok tt
result_of Sent = Ok tt
result_of (Starts image) = Ok tt
result_of Stopped = Err ends.FlashFault
result_of NotAVolume = Err ends.NotAVolume
result_of NoImage = Err ends.NoImage
