use Rattle.std.proofs.Common.{◌≡◌}
use Rattle.dg_object.specs.Records.{outline_of}
use Rattle.dg_slot.specs.Jobs.{outline_of_slot}
use Rattle.part_stream.proofs.main.Given as goal

abbrev pub invariant-loop-page : goal.invariant-loop-page
invariant-loop-page l = outline_of_slot l.slot ≡ outline_of l.profile
