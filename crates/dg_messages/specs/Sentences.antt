-- The sentence of each cause for an operator (docs/COMMANDS.md, "How a command ends"): what happened, with the value
-- that it goes by, and after a semicolon what to do.
use Rattle.std.specs.Prelude.{ℕ, ◌-◌, ◌^◌, ◌==◌, if◌then◌else◌, List, [], ◌∷◌, ◌++◌, codes}
use Rattle.std.specs.Fmt.{decimal}
use Rattle.dg_base.specs.Status.{code_of}
use Rattle.dg_drip_script.specs.declared.line.DripFault.{DripFault}
use Rattle.dg_drip_script.specs.declared.line.DripFault.TheVariants as nodes
use Rattle.dg_ihex.specs.declared.faults.HexCause.{HexCause}
use Rattle.dg_ihex.specs.declared.faults.HexCause.TheVariants as hex
use Rattle.dg_script.specs.declared.fault.LineFault.{LineFault}
use Rattle.dg_script.specs.declared.fault.LineFault.TheVariants as lines
use Rattle.dg_netcfg.specs.declared.profile.ProfileFault.{ProfileFault}
use Rattle.dg_netcfg.specs.declared.profile.ProfileFault.TheVariants as profile
use Rattle.dg_nor.specs.declared.files.FileFault.{FileFault}
use Rattle.dg_nor.specs.declared.files.FileFault.TheVariants as file
use Rattle.dg_messages.specs.Showing.{shown}
use Rattle.dg_messages.specs.declared.causes.Refused.{Refused}
use Rattle.dg_messages.specs.declared.causes.Refused.TheVariants as refused
use Rattle.dg_net.specs.declared.cause.LinkCause.{LinkCause}
use Rattle.dg_net.specs.declared.cause.LinkCause.TheVariants as link
use Rattle.dg_messages.specs.declared.causes.InputFault.{InputFault}
use Rattle.dg_messages.specs.declared.causes.InputFault.TheVariants as input
use Rattle.dg_messages.specs.declared.causes.OutputFault.{OutputFault}
use Rattle.dg_messages.specs.declared.causes.OutputFault.TheVariants as output
use Rattle.dg_messages.specs.declared.causes.Misuse.{Misuse}
use Rattle.dg_messages.specs.declared.causes.Misuse.TheVariants as misuse
use Rattle.dg_messages.specs.declared.causes.Told.{Told}
use Rattle.dg_messages.specs.declared.causes.Told.TheVariants as told

-- ---- of a HEX file

abbrev pub hex_before : HexCause → List ℕ
hex_before hex.Start = codes "no colon begins the record of line "
hex_before hex.Hex = codes "a byte is no hex digit, or their number is odd, in line "
hex_before hex.Count = codes "a record is shorter or longer than its count says, in line "
hex_before hex.Check = codes "the sum of a record is not 0, in line "
hex_before hex.Kind = codes "a record has a type above 05, in line "
hex_before hex.Shape = codes "a record has a count that its type does not allow, or passes address FFFF, in line "
hex_before hex.Overlap = codes "an address is given for the second time in line "
hex_before hex.Span = codes "the addresses span more than 1048576 bytes with line "
hex_before hex.End = codes "the end record is missing, or records stand behind it, at line "
hex_before hex.Memory = codes "memory ran out for the HEX file, at line "

abbrev pub hex_after : HexCause → List ℕ
hex_after hex.Start = codes "; give Intel HEX, and no S-record, ELF or binary file"
hex_after hex.Hex = codes "; take out what is no record, as spaces and comments"
hex_after hex.Count = codes "; it was cut, or joined with the next"
hex_after hex.Check = codes "; one of its bytes was changed"
hex_after hex.Kind = codes "; this is another format than Intel HEX"
hex_after hex.Shape = codes "; make the file anew"
hex_after hex.Overlap = codes "; part the files that were joined"
hex_after hex.Span = codes "; leave out fuses, EEPROM and option bytes (objcopy -R)"
hex_after hex.End = codes "; the file was cut or joined, or is empty"
hex_after hex.Memory = codes "; give the program more of it"

abbrev pub hex_sentence : HexCause → (line : ℕ) → List ℕ
hex_sentence cause line = hex_before cause ++ decimal line ++ hex_after cause

-- ---- of a script

abbrev pub script_before : LineFault → List ℕ
script_before lines.Memory = codes "memory ran out for the script, at line "
script_before lines.Verb = codes "the first word begins no line of a script, in line "
script_before lines.Few = codes "a line has fewer fields than it needs: line "
script_before lines.Many = codes "a line has more fields than it may have: line "
script_before lines.Number = codes "a field is no number, or none of its range, in line "
script_before lines.Mote = codes "a mote is none that there is, or the one before it, in line "
script_before lines.Image = codes "an image is none of the range of images, in line "
script_before lines.Version = codes "a version, or the number of an order, is 0 in line "
script_before lines.Name = codes "a name is not of 1 to 16 letters, digits, _, - and ., in line "
script_before lines.Content = codes "a content is none, or has a length that is not allowed, in line "
script_before lines.Mask = codes "a mask is none, or has a length that is not allowed, in line "
script_before lines.Place = codes "a line may not stand where it does, or one is missing before it: line "
script_before lines.Cut = codes "a cut has no event behind it, at line "
script_before lines.Long = codes "a line has more than 300000 bytes: line "

abbrev pub script_after : LineFault → List ℕ
script_after lines.Memory = codes "; give the program more of it"
script_after lines.Verb = codes "; docs/SCRIPTS.md tells which there are"
script_after lines.Few = codes "; docs/SCRIPTS.md tells which"
script_after lines.Many = codes "; docs/SCRIPTS.md tells which"
script_after lines.Number = codes "; docs/SCRIPTS.md tells the ranges"
script_after lines.Mote = codes "; motes are numbered from 0"
script_after lines.Image = codes "; a chip has images 0 to 6"
script_after lines.Version = codes "; the least one is 1"
script_after lines.Name = codes "; choose another one"
script_after lines.Content = codes "; docs/SCRIPTS.md tells which are"
script_after lines.Mask = codes "; it has 1 to 2048 bytes, as hex digits"
script_after lines.Place = codes "; motes comes first, then golden or boards, then link and narrow, then events"
script_after lines.Cut = codes "; put the event there that it interrupts"
script_after lines.Long = codes "; declare shorter contents"

abbrev pub script_sentence : LineFault → (line : ℕ) → List ℕ
script_sentence cause line = script_before cause ++ decimal line ++ script_after cause

-- ---- of a script of nodes

abbrev pub nodes_before : DripFault → List ℕ
nodes_before nodes.Long = codes "a line of nodes has more than 300000 bytes: line "
nodes_before nodes.Verb = codes "no line of a script of nodes begins so, or it has another number of fields: line "
nodes_before nodes.Place = codes "a line of nodes may not stand where it does, or nodes is missing before it: line "
nodes_before nodes.Number = codes "a number, a node or a key is none of its range, or a node is named twice, in line "

abbrev pub nodes_after : DripFault → List ℕ
nodes_after nodes.Long = codes "; make it shorter"
nodes_after nodes.Verb = codes "; docs/SCRIPTS.md tells which there are"
nodes_after nodes.Place = codes "; nodes comes first, then link, then events"
nodes_after nodes.Number = codes "; docs/SCRIPTS.md tells the ranges"

abbrev pub nodes_sentence : DripFault → (line : ℕ) → List ℕ
nodes_sentence cause line = nodes_before cause ++ decimal line ++ nodes_after cause

-- ---- of the file of a chip

abbrev pub file_before : FileFault → List ℕ
file_before file.Missing = codes "there is no such file or folder; deluge format makes a file in a folder that is there"
file_before file.Denied = codes "the system does not let it be read and written; look at its rights (ls -l)"
file_before file.NoFile = codes "it is a folder, or another thing that is no file; name the file of a chip"
file_before file.Unopened = codes "it cannot be opened or made; look at its name and its folder"
file_before file.InUse = codes "another program has it open as a chip; end that one first (fuser)"
file_before (file.Length length) = codes "it has "
file_before file.Unread = codes "a read of it failed; look at the disk"
file_before (file.Full at) = codes "the disk has no room for what was written from byte "
file_before (file.Unwritten at) = codes "a write failed that began at byte "

abbrev pub file_after : FileFault → List ℕ
file_after file.Missing = []
file_after file.Denied = []
file_after file.NoFile = []
file_after file.Unopened = []
file_after file.InUse = []
file_after (file.Length length) = codes " bytes, and a chip has 1085440, or an older one 679936; name the file of a chip"
file_after file.Unread = []
file_after (file.Full at) = codes " on; make room (df), and give the command again"
file_after (file.Unwritten at) = codes "; look at the disk and its limits, and give the command again"

abbrev pub file_value : FileFault → List ℕ
file_value file.Missing = []
file_value file.Denied = []
file_value file.NoFile = []
file_value file.Unopened = []
file_value file.InUse = []
file_value (file.Length length) = decimal length
file_value file.Unread = []
file_value (file.Full at) = decimal at
file_value (file.Unwritten at) = decimal at

abbrev pub file_sentence : FileFault → List ℕ
file_sentence cause = file_before cause ++ file_value cause ++ file_after cause

-- ---- of a command that is refused

-- the last version, and the last number of an order
abbrev pub greatest_number : ℕ
greatest_number = 2 ^ 32 - 1

abbrev pub refusal_before : Refused → List ℕ
refusal_before refused.Empty = codes "the image has no byte; give a HEX file that has data"
refusal_before (refused.TooLarge length) = codes "the image has as many bytes as "
refusal_before refused.Reserved = codes "image 0 is golden, which format alone writes; give --image from 1 to 6"
refusal_before (refused.Stale version) = codes "version "
refusal_before refused.Taken =
    codes "this version is kept with other bytes or another name; give the same file and name, a larger --ver or another image"
refusal_before (refused.Worn room) = codes "the commits of this chip are spent, all but "
refusal_before (refused.OldOrder number) = codes "an order is kept already, with number "
refusal_before refused.Absent = codes "nothing is kept of this image; deluge ping tells which are kept"
refusal_before (refused.NotWhole done pages) = codes "the image is not whole: "
refusal_before (refused.Broken page) = codes "the digest is not the one that is kept, at page "
refusal_before refused.Shape = codes "the pages are not those of the length that the first one tells; do not trust the image"
refusal_before (refused.Foreign page) = codes "the file is none of this root from page "

abbrev pub refusal_after : Refused → List ℕ
refusal_after refused.Empty = []
refusal_after (refused.TooLarge length) = codes ", and 70656 are the most (68604 for wrap); gaps count"
refusal_after refused.Reserved = []
refusal_after (refused.Stale version) =
    if version == greatest_number then codes " is kept already, and no version is larger; take another image, or format the chip"
    else codes " is kept already; give a larger --ver"
refusal_after refused.Taken = []
refusal_after (refused.Worn room) = codes "; take another chip"
refusal_after (refused.OldOrder number) =
    if number == greatest_number then codes ", and no number is larger; format the chip"
    else codes "; give a larger --number"
refusal_after refused.Absent = []
refusal_after (refused.NotWhole done pages) = codes " pages are complete; let the mote go on, or give inject or receive again"
refusal_after (refused.Broken page) = codes "; do not trust the image: compare the root, or bring a larger version"
refusal_after refused.Shape = []
refusal_after (refused.Foreign page) = codes " on; give it with its own root, or another file with a larger --ver"

abbrev pub refusal_value : Refused → List ℕ
refusal_value refused.Empty = []
refusal_value (refused.TooLarge length) = decimal length
refusal_value refused.Reserved = []
refusal_value (refused.Stale version) = decimal version
refusal_value refused.Taken = []
refusal_value (refused.Worn room) = decimal room
refusal_value (refused.OldOrder number) = decimal number
refusal_value refused.Absent = []
refusal_value (refused.NotWhole done pages) = decimal done ++ codes " of " ++ decimal pages
refusal_value (refused.Broken page) = decimal page
refusal_value refused.Shape = []
refusal_value (refused.Foreign page) = decimal page

abbrev pub refusal_sentence : Refused → List ℕ
refusal_sentence cause = refusal_before cause ++ refusal_value cause ++ refusal_after cause

-- ---- of a link between motes

abbrev pub link_before : LinkCause → List ℕ
link_before (link.PortInUse port) = codes "a port is in use: port "
link_before (link.PortDenied port) = codes "a port is not allowed: port "
link_before (link.PortFailed port) = codes "a port cannot be had: port "
link_before (link.Send port) = codes "a send failed to port "
link_before (link.Receive port) = codes "a receive failed at port "

abbrev pub link_after : LinkCause → List ℕ
link_after (link.PortInUse port) = codes "; end the program that has it (ss -lunp), or choose another port"
link_after (link.PortDenied port) = codes "; choose another one"
link_after (link.PortFailed port) = codes "; look at the network of this machine"
link_after (link.Send port) = codes "; look at the network of this machine"
link_after (link.Receive port) = codes "; look at the network of this machine"

abbrev pub link_value : LinkCause → List ℕ
link_value (link.PortInUse port) = decimal port
link_value (link.PortDenied port) = decimal port
link_value (link.PortFailed port) = decimal port
link_value (link.Send port) = decimal port
link_value (link.Receive port) = decimal port

abbrev pub link_sentence : LinkCause → List ℕ
link_sentence cause = link_before cause ++ link_value cause ++ link_after cause

-- ---- of the profile of a network

abbrev pub profile_sentence : ProfileFault → List ℕ
profile_sentence profile.NotToml = codes "the profile is no TOML; mend it, docs/COMMANDS.md shows one"
profile_sentence profile.Key = codes "the profile has not just the keys motes, port and links, each of its kind; mend it"
profile_sentence profile.Id = codes "the motes of the profile are not from 1 to 16; mend the number"
profile_sentence profile.Link = codes "the links of the profile are not pairs of two motes that there are, each once; mend them"
profile_sentence profile.Port = codes "the port of the profile is not from 1024 to 65500; choose another one"
profile_sentence profile.Memory = codes "the profile found no memory; give the program more of it"

-- ---- of standard input

abbrev pub input_sentence : InputFault → List ℕ
input_sentence input.NoStream = codes "standard input is closed, or a folder; give the command a file or a pipe"
input_sentence input.Failed = codes "a read of standard input failed; see that the line or the pipe is still there"

-- ---- of standard output

abbrev pub output_sentence : OutputFault → List ℕ
output_sentence output.Full = codes "the disk is full, so standard output was not written whole; make room (df)"
output_sentence output.NoReader = codes "nobody reads standard output any more; see that the reader of the pipe goes on"
output_sentence output.Failed = codes "standard output is closed, or a write of it failed; see where it goes"

-- ---- of invalid command lines

abbrev pub misuse_sentence : Misuse → List ℕ
misuse_sentence misuse.NoWord = codes "no command is given; deluge --help tells which there are"
misuse_sentence (misuse.NoCommand word) =
    codes "no command has the name " ++ shown word.now ++ codes "; deluge --help tells which there are"
misuse_sentence misuse.NotText = codes "a word is not UTF-8, so none of a command; rename the file"
misuse_sentence (misuse.Words what verb) =
    codes "the words are no command: " ++ shown what.now ++ codes "; deluge " ++ shown verb.now ++ codes " --help tells which are"

-- ---- of any cause

abbrev pub sentence_of : Told → List ℕ
sentence_of told.Memory = codes "memory ran out; give the program more of it"
sentence_of (told.Misused cause) = misuse_sentence cause
sentence_of (told.Hex cause line) = hex_sentence cause line
sentence_of told.RootLine =
    codes "the first line is no record; where it is the root that wrap wrote, cut it off (tail -n +2), else give Intel HEX"
sentence_of (told.Script cause line) = script_sentence cause line
sentence_of (told.Nodes cause line) = nodes_sentence cause line
sentence_of (told.Profile cause) = profile_sentence cause
sentence_of (told.Input cause) = input_sentence cause
sentence_of (told.Output cause) = output_sentence cause
sentence_of (told.File cause) = file_sentence cause
sentence_of told.NamedTwice = codes "it is named twice; name each chip once"
sentence_of told.Stopped = codes "the chip stopped; look at it by deluge ping"
sentence_of told.NotAVolume = codes "it is no volume; name another file, or format it, which empties it"
sentence_of told.InMemory = codes "no file of a chip is named, and chips in memory are no volumes; name their files"
sentence_of (told.Refused cause) = refusal_sentence cause
sentence_of (told.Link cause) = link_sentence cause
sentence_of told.NoLink = codes "the link failed; look at the network of this machine"
sentence_of told.TooLong = codes "the input has more than 16777216 bytes; part it"
sentence_of told.TooMany = codes "the script has more than 1000000 events; part it"
sentence_of (told.NoBoard need have) =
    codes "the motes are more than the chips: " ++ decimal need ++ codes " motes, " ++ decimal have ++
    codes " chips; name as many chips as motes"
sentence_of told.NoImage = codes "golden is damaged, and nothing else can start; take a copy, or format it"
sentence_of (told.Other status) =
    codes "the command ended with status " ++ decimal (code_of status) ++ codes "; docs/COMMANDS.md tells what it means"

-- a word before it, which is left out where there is none
abbrev pub front : List ℕ → List ℕ
front [] = []
front (c ∷ cs) = shown (c ∷ cs) ++ codes ": "

-- the line of a message: the program, its command, what it is about, and the sentence
abbrev pub message_line : (program verb place : List ℕ) → Told → List ℕ
message_line program verb place cause =
    front program ++ front verb ++ front place ++ sentence_of cause ++ 10 ∷ []
