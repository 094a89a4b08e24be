-- Of which status a cause is (docs/COMMANDS.md, "How a command ends").
use Rattle.dg_base.specs.declared.answers.Status.{Status}
use Rattle.dg_base.specs.declared.answers.Status.TheVariants as statuses
use Rattle.dg_messages.specs.declared.causes.Told.{Told}
use Rattle.dg_messages.specs.declared.causes.Told.TheVariants as told

abbrev pub status_told : Told → Status
status_told told.Memory = statuses.Memory
status_told (told.Misused cause) = statuses.Usage
status_told (told.Hex cause line) = statuses.BadInput
status_told told.RootLine = statuses.BadInput
status_told (told.Script cause line) = statuses.BadInput
status_told (told.Nodes cause line) = statuses.BadInput
status_told (told.Profile cause) = statuses.BadInput
status_told (told.Input cause) = statuses.ReadFault
status_told (told.Output cause) = statuses.WriteFault
status_told (told.File cause) = statuses.FlashFault
status_told told.NamedTwice = statuses.FlashFault
status_told told.Stopped = statuses.FlashFault
status_told told.NotAVolume = statuses.NotAVolume
status_told told.InMemory = statuses.NotAVolume
status_told (told.Refused cause) = statuses.Refused
status_told (told.Link cause) = statuses.LinkFault
status_told told.NoLink = statuses.LinkFault
status_told told.TooLong = statuses.TooLong
status_told told.TooMany = statuses.TooMany
status_told (told.NoBoard need have) = statuses.NoBoard
status_told told.NoImage = statuses.NoImage
status_told (told.Other status) = status
