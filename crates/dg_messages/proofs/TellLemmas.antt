-- Each sentence identifies its cause.
use Rattle.std.proofs.Common.{◌≡◌, ◌≢◌, refl}
use Rattle.dg_drip_script.specs.declared.line.DripFault.TheVariants as nodes
use Rattle.dg_ihex.specs.declared.faults.HexCause.TheVariants as hex
use Rattle.dg_script.specs.declared.fault.LineFault.TheVariants as lines
use Rattle.dg_netcfg.specs.declared.profile.ProfileFault.TheVariants as profile
use Rattle.dg_nor.specs.declared.files.FileFault.TheVariants as file
use Rattle.dg_messages.specs.declared.causes.Refused.TheVariants as refused
use Rattle.dg_net.specs.declared.cause.LinkCause.TheVariants as link
use Rattle.dg_messages.specs.declared.causes.InputFault.TheVariants as input
use Rattle.dg_messages.specs.declared.causes.OutputFault.TheVariants as output
use Rattle.dg_messages.specs.declared.causes.Misuse.TheVariants as misuse
use Rattle.dg_messages.specs.declared.causes.Told.{Told}
use Rattle.dg_messages.specs.declared.causes.Told.TheVariants as told
use Rattle.dg_messages.specs.Sentences.{sentence_of}
use Rattle.dg_messages.specs.Telling.{begins_with, found_opening, cause_number, told_number}

pub tells : (cause : Told) → told_number (sentence_of cause) ≡ cause_number cause
unfolding begins_with found_opening
tells told.Memory = refl
tells (told.Misused misuse.NoWord) = refl
tells (told.Misused (misuse.NoCommand word)) = refl
tells (told.Misused misuse.NotText) = refl
tells (told.Misused (misuse.Words what verb)) = refl
tells (told.Hex hex.Start line) = refl
tells (told.Hex hex.Hex line) = refl
tells (told.Hex hex.Count line) = refl
tells (told.Hex hex.Check line) = refl
tells (told.Hex hex.Kind line) = refl
tells (told.Hex hex.Shape line) = refl
tells (told.Hex hex.Overlap line) = refl
tells (told.Hex hex.Span line) = refl
tells (told.Hex hex.End line) = refl
tells (told.Hex hex.Memory line) = refl
tells (told.Script lines.Memory line) = refl
tells (told.Script lines.Verb line) = refl
tells (told.Script lines.Few line) = refl
tells (told.Script lines.Many line) = refl
tells (told.Script lines.Number line) = refl
tells (told.Script lines.Mote line) = refl
tells (told.Script lines.Image line) = refl
tells (told.Script lines.Version line) = refl
tells (told.Script lines.Name line) = refl
tells (told.Script lines.Content line) = refl
tells (told.Script lines.Mask line) = refl
tells (told.Script lines.Place line) = refl
tells (told.Script lines.Cut line) = refl
tells (told.Script lines.Long line) = refl
tells (told.Profile profile.NotToml) = refl
tells (told.Profile profile.Key) = refl
tells (told.Profile profile.Id) = refl
tells (told.Profile profile.Link) = refl
tells (told.Profile profile.Port) = refl
tells (told.Profile profile.Memory) = refl
tells (told.Input input.NoStream) = refl
tells (told.Input input.Failed) = refl
tells (told.Output output.Full) = refl
tells (told.Output output.NoReader) = refl
tells (told.Output output.Failed) = refl
tells (told.File file.Missing) = refl
tells (told.File file.Denied) = refl
tells (told.File file.NoFile) = refl
tells (told.File file.Unopened) = refl
tells (told.File file.InUse) = refl
tells (told.File (file.Length length)) = refl
tells (told.File file.Unread) = refl
tells (told.File (file.Full at)) = refl
tells (told.File (file.Unwritten at)) = refl
tells told.NamedTwice = refl
tells told.Stopped = refl
tells told.NotAVolume = refl
tells (told.Refused refused.Empty) = refl
tells (told.Refused (refused.TooLarge length)) = refl
tells (told.Refused refused.Reserved) = refl
tells (told.Refused (refused.Stale version)) = refl
tells (told.Refused refused.Taken) = refl
tells (told.Refused (refused.Worn room)) = refl
tells (told.Refused (refused.OldOrder number)) = refl
tells (told.Refused refused.Absent) = refl
tells (told.Refused (refused.NotWhole done pages)) = refl
tells (told.Refused (refused.Broken page)) = refl
tells (told.Refused refused.Shape) = refl
tells (told.Refused (refused.Foreign page)) = refl
tells (told.Link (link.PortInUse port)) = refl
tells (told.Link (link.PortDenied port)) = refl
tells (told.Link (link.PortFailed port)) = refl
tells (told.Link (link.Send port)) = refl
tells (told.Link (link.Receive port)) = refl
tells told.NoLink = refl
tells told.TooLong = refl
tells told.TooMany = refl
tells (told.NoBoard need have) = refl
tells told.NoImage = refl
tells (told.Other status) = refl
tells told.RootLine = refl
tells (told.Nodes nodes.Long line) = refl
tells (told.Nodes nodes.Verb line) = refl
tells (told.Nodes nodes.Place line) = refl
tells (told.Nodes nodes.Number line) = refl
tells told.InMemory = refl

pub some_number : (cause : Told) → 0 ≢ cause_number cause
some_number told.Memory e = cc
some_number (told.Misused misuse.NoWord) e = cc
some_number (told.Misused (misuse.NoCommand word)) e = cc
some_number (told.Misused misuse.NotText) e = cc
some_number (told.Misused (misuse.Words what verb)) e = cc
some_number (told.Hex hex.Start line) e = cc
some_number (told.Hex hex.Hex line) e = cc
some_number (told.Hex hex.Count line) e = cc
some_number (told.Hex hex.Check line) e = cc
some_number (told.Hex hex.Kind line) e = cc
some_number (told.Hex hex.Shape line) e = cc
some_number (told.Hex hex.Overlap line) e = cc
some_number (told.Hex hex.Span line) e = cc
some_number (told.Hex hex.End line) e = cc
some_number (told.Hex hex.Memory line) e = cc
some_number (told.Script lines.Memory line) e = cc
some_number (told.Script lines.Verb line) e = cc
some_number (told.Script lines.Few line) e = cc
some_number (told.Script lines.Many line) e = cc
some_number (told.Script lines.Number line) e = cc
some_number (told.Script lines.Mote line) e = cc
some_number (told.Script lines.Image line) e = cc
some_number (told.Script lines.Version line) e = cc
some_number (told.Script lines.Name line) e = cc
some_number (told.Script lines.Content line) e = cc
some_number (told.Script lines.Mask line) e = cc
some_number (told.Script lines.Place line) e = cc
some_number (told.Script lines.Cut line) e = cc
some_number (told.Script lines.Long line) e = cc
some_number (told.Profile profile.NotToml) e = cc
some_number (told.Profile profile.Key) e = cc
some_number (told.Profile profile.Id) e = cc
some_number (told.Profile profile.Link) e = cc
some_number (told.Profile profile.Port) e = cc
some_number (told.Profile profile.Memory) e = cc
some_number (told.Input input.NoStream) e = cc
some_number (told.Input input.Failed) e = cc
some_number (told.Output output.Full) e = cc
some_number (told.Output output.NoReader) e = cc
some_number (told.Output output.Failed) e = cc
some_number (told.File file.Missing) e = cc
some_number (told.File file.Denied) e = cc
some_number (told.File file.NoFile) e = cc
some_number (told.File file.Unopened) e = cc
some_number (told.File file.InUse) e = cc
some_number (told.File (file.Length length)) e = cc
some_number (told.File file.Unread) e = cc
some_number (told.File (file.Full at)) e = cc
some_number (told.File (file.Unwritten at)) e = cc
some_number told.NamedTwice e = cc
some_number told.Stopped e = cc
some_number told.NotAVolume e = cc
some_number (told.Refused refused.Empty) e = cc
some_number (told.Refused (refused.TooLarge length)) e = cc
some_number (told.Refused refused.Reserved) e = cc
some_number (told.Refused (refused.Stale version)) e = cc
some_number (told.Refused refused.Taken) e = cc
some_number (told.Refused (refused.Worn room)) e = cc
some_number (told.Refused (refused.OldOrder number)) e = cc
some_number (told.Refused refused.Absent) e = cc
some_number (told.Refused (refused.NotWhole done pages)) e = cc
some_number (told.Refused (refused.Broken page)) e = cc
some_number (told.Refused refused.Shape) e = cc
some_number (told.Refused (refused.Foreign page)) e = cc
some_number (told.Link (link.PortInUse port)) e = cc
some_number (told.Link (link.PortDenied port)) e = cc
some_number (told.Link (link.PortFailed port)) e = cc
some_number (told.Link (link.Send port)) e = cc
some_number (told.Link (link.Receive port)) e = cc
some_number told.NoLink e = cc
some_number told.TooLong e = cc
some_number told.TooMany e = cc
some_number (told.NoBoard need have) e = cc
some_number told.NoImage e = cc
some_number (told.Other status) e = cc
some_number told.RootLine e = cc
some_number (told.Nodes nodes.Long line) e = cc
some_number (told.Nodes nodes.Verb line) e = cc
some_number (told.Nodes nodes.Place line) e = cc
some_number (told.Nodes nodes.Number line) e = cc
some_number told.InMemory e = cc
