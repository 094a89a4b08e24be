-- The exit status of each answer of a command (docs/COMMANDS.md, "How a command ends").
use Rattle.std.specs.Prelude.{ℕ}
use Rattle.dg_base.specs.declared.answers.Status.{Status}
use Rattle.dg_base.specs.declared.answers.Status.TheVariants.{Done, Memory, Usage, BadInput, ReadFault, WriteFault, FlashFault}
use Rattle.dg_base.specs.declared.answers.Status.TheVariants.{NotAVolume, Refused, LinkFault, TooLong, TooMany, NoBoard, NoImage}

abbrev pub code_of : Status → ℕ
code_of Done = 0
code_of Memory = 1
code_of Usage = 2
code_of BadInput = 3
code_of ReadFault = 4
code_of WriteFault = 5
code_of FlashFault = 6
code_of NotAVolume = 7
code_of Refused = 8
code_of LinkFault = 9
code_of TooLong = 10
code_of TooMany = 11
code_of NoBoard = 12
code_of NoImage = 13
