-- The cause of a sentence: each begins in its own way (docs/COMMANDS.md, "How a command ends").
use Rattle.std.specs.Prelude.{ℕ, ◌+◌, ◌==◌, Bool, true, false, if◌then◌else◌, List, [], ◌∷◌, codes}
use Rattle.dg_drip_script.specs.declared.line.DripFault.{DripFault}
use Rattle.dg_drip_script.specs.declared.line.DripFault.TheVariants as nodes
use Rattle.dg_ihex.specs.declared.faults.HexCause.{HexCause}
use Rattle.dg_ihex.specs.declared.faults.HexCause.TheVariants as hex
use Rattle.dg_script.specs.declared.fault.LineFault.{LineFault}
use Rattle.dg_script.specs.declared.fault.LineFault.TheVariants as lines
use Rattle.dg_netcfg.specs.declared.profile.ProfileFault.{ProfileFault}
use Rattle.dg_netcfg.specs.declared.profile.ProfileFault.TheVariants as profile
use Rattle.dg_nor.specs.declared.files.FileFault.{FileFault}
use Rattle.dg_nor.specs.declared.files.FileFault.TheVariants as file
use Rattle.dg_messages.specs.declared.causes.Refused.{Refused}
use Rattle.dg_messages.specs.declared.causes.Refused.TheVariants as refused
use Rattle.dg_net.specs.declared.cause.LinkCause.{LinkCause}
use Rattle.dg_net.specs.declared.cause.LinkCause.TheVariants as link
use Rattle.dg_messages.specs.declared.causes.InputFault.{InputFault}
use Rattle.dg_messages.specs.declared.causes.InputFault.TheVariants as input
use Rattle.dg_messages.specs.declared.causes.OutputFault.{OutputFault}
use Rattle.dg_messages.specs.declared.causes.OutputFault.TheVariants as output
use Rattle.dg_messages.specs.declared.causes.Misuse.{Misuse}
use Rattle.dg_messages.specs.declared.causes.Misuse.TheVariants as misuse
use Rattle.dg_messages.specs.declared.causes.Told.{Told}
use Rattle.dg_messages.specs.declared.causes.Told.TheVariants as told

-- ---- the number of each cause, whatever the values are that it has

abbrev pub misuse_number : Misuse → ℕ
misuse_number misuse.NoWord = 2
misuse_number (misuse.NoCommand word) = 3
misuse_number misuse.NotText = 4
misuse_number (misuse.Words what verb) = 5

abbrev pub hex_number : HexCause → ℕ
hex_number hex.Start = 6
hex_number hex.Hex = 7
hex_number hex.Count = 8
hex_number hex.Check = 9
hex_number hex.Kind = 10
hex_number hex.Shape = 11
hex_number hex.Overlap = 12
hex_number hex.Span = 13
hex_number hex.End = 14
hex_number hex.Memory = 15

abbrev pub script_number : LineFault → ℕ
script_number lines.Memory = 16
script_number lines.Verb = 17
script_number lines.Few = 18
script_number lines.Many = 19
script_number lines.Number = 20
script_number lines.Mote = 21
script_number lines.Image = 22
script_number lines.Version = 23
script_number lines.Name = 24
script_number lines.Content = 25
script_number lines.Mask = 26
script_number lines.Place = 27
script_number lines.Cut = 28
script_number lines.Long = 29

abbrev pub profile_number : ProfileFault → ℕ
profile_number profile.NotToml = 30
profile_number profile.Key = 31
profile_number profile.Id = 32
profile_number profile.Link = 33
profile_number profile.Port = 34
profile_number profile.Memory = 35

abbrev pub input_number : InputFault → ℕ
input_number input.NoStream = 36
input_number input.Failed = 37

abbrev pub output_number : OutputFault → ℕ
output_number output.Full = 38
output_number output.NoReader = 39
output_number output.Failed = 40

abbrev pub file_number : FileFault → ℕ
file_number file.Missing = 41
file_number file.Denied = 42
file_number file.NoFile = 43
file_number file.Unopened = 44
file_number file.InUse = 45
file_number (file.Length length) = 46
file_number file.Unread = 47
file_number (file.Full at) = 48
file_number (file.Unwritten at) = 49

abbrev pub refusal_number : Refused → ℕ
refusal_number refused.Empty = 53
refusal_number (refused.TooLarge length) = 54
refusal_number refused.Reserved = 55
refusal_number (refused.Stale version) = 56
refusal_number refused.Taken = 57
refusal_number (refused.Worn room) = 58
refusal_number (refused.OldOrder number) = 59
refusal_number refused.Absent = 60
refusal_number (refused.NotWhole done pages) = 61
refusal_number (refused.Broken page) = 62
refusal_number refused.Shape = 63
refusal_number (refused.Foreign page) = 64

abbrev pub link_number : LinkCause → ℕ
link_number (link.PortInUse port) = 65
link_number (link.PortDenied port) = 66
link_number (link.PortFailed port) = 67
link_number (link.Send port) = 68
link_number (link.Receive port) = 69

abbrev pub nodes_number : DripFault → ℕ
nodes_number nodes.Long = 77
nodes_number nodes.Verb = 78
nodes_number nodes.Place = 79
nodes_number nodes.Number = 80

abbrev pub cause_number : Told → ℕ
cause_number told.Memory = 1
cause_number (told.Misused cause) = misuse_number cause
cause_number (told.Hex cause line) = hex_number cause
cause_number (told.Script cause line) = script_number cause
cause_number (told.Profile cause) = profile_number cause
cause_number (told.Input cause) = input_number cause
cause_number (told.Output cause) = output_number cause
cause_number (told.File cause) = file_number cause
cause_number told.NamedTwice = 50
cause_number told.Stopped = 51
cause_number told.NotAVolume = 52
cause_number (told.Refused cause) = refusal_number cause
cause_number (told.Link cause) = link_number cause
cause_number told.NoLink = 70
cause_number told.TooLong = 71
cause_number told.TooMany = 72
cause_number (told.NoBoard need have) = 73
cause_number told.NoImage = 74
cause_number (told.Other status) = 75
cause_number told.RootLine = 76
cause_number (told.Nodes cause line) = nodes_number cause
cause_number told.InMemory = 81

-- ---- and back from the text

unfoldable pub begins_with : (opening text : List ℕ) → Bool
begins_with [] text = true
begins_with (o ∷ os) [] = false
begins_with (o ∷ os) (t ∷ ts) = if o == t then begins_with os ts else false

-- the number of the first of these openings with which a text begins, counted from n; 0 where it begins with none
unfoldable pub found_opening : (n : ℕ) (openings : List (List ℕ)) (text : List ℕ) → ℕ
found_opening n [] text = 0
found_opening n (o ∷ os) text = if begins_with o text then n else found_opening (n + 1) os text

-- how the sentences begin, in the order of their numbers
abbrev pub openings : List (List ℕ)
openings =
    codes "memory ran out;" ∷ codes "no command is" ∷ codes "no command has" ∷ codes "a word" ∷ codes "the words" ∷
    codes "no colon" ∷ codes "a byte" ∷ codes "a record is" ∷ codes "the sum" ∷ codes "a record has a type" ∷
    codes "a record has a count" ∷ codes "an address" ∷ codes "the addresses" ∷ codes "the end" ∷
    codes "memory ran out for the HEX" ∷ codes "memory ran out for the script" ∷ codes "the first word" ∷
    codes "a line has fewer" ∷ codes "a line has more fields" ∷ codes "a field" ∷ codes "a mote" ∷ codes "an image" ∷
    codes "a version" ∷ codes "a name" ∷ codes "a content" ∷ codes "a mask" ∷ codes "a line may" ∷ codes "a cut" ∷
    codes "a line has more than" ∷ codes "the profile is" ∷ codes "the profile has" ∷ codes "the motes of" ∷
    codes "the links" ∷ codes "the port" ∷ codes "the profile found" ∷ codes "standard input" ∷ codes "a read of standard" ∷
    codes "the disk is" ∷ codes "nobody" ∷ codes "standard output" ∷ codes "there" ∷ codes "the system" ∷ codes "it is a" ∷
    codes "it cannot" ∷ codes "another" ∷ codes "it has" ∷ codes "a read of it" ∷ codes "the disk has" ∷ codes "a write" ∷
    codes "it is named" ∷ codes "the chip" ∷ codes "it is no" ∷ codes "the image has no" ∷ codes "the image has as" ∷
    codes "image" ∷ codes "version" ∷ codes "this" ∷ codes "the commits" ∷ codes "an order" ∷ codes "nothing" ∷
    codes "the image is" ∷ codes "the digest" ∷ codes "the pages" ∷ codes "the file" ∷ codes "a port is in" ∷
    codes "a port is not" ∷ codes "a port cannot" ∷ codes "a send" ∷ codes "a receive" ∷ codes "the link " ∷
    codes "the input" ∷ codes "the script" ∷ codes "the motes are" ∷ codes "golden" ∷ codes "the command" ∷
    codes "the first line" ∷ codes "a line of nodes has" ∷ codes "no line" ∷ codes "a line of nodes may" ∷ codes "a number" ∷
    codes "no file" ∷ []

-- the number of the cause of a sentence, 0 where it has none
abbrev pub told_number : List ℕ → ℕ
told_number text = found_opening 1 openings text
