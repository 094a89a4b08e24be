-- The cause in a last line, by its words (docs/COMMANDS.md, "How a command ends"), and the one that it has to give.
use Rattle.std.specs.Prelude.{⊤, ℕ, ◌==◌, ◌≡◌, ◌<◌, ◌^◌, Bool, true, false, if◌then◌else◌, List, [], ◌∷◌, codes, length}
use Rattle.std.specs.Prelude.{Option, Some, None}
use Rattle.dg_base.specs.Numbers.{number_of}
use Rattle.dg_base.specs.declared.answers.Status.{Status}
use Rattle.dg_base.specs.declared.answers.Status.TheVariants as statuses
use Rattle.dg_drip_script.specs.declared.line.DripFault.{DripFault}
use Rattle.dg_drip_script.specs.declared.line.DripFault.TheVariants as nodes
use Rattle.dg_ihex.specs.declared.faults.HexCause.{HexCause}
use Rattle.dg_ihex.specs.declared.faults.HexCause.TheVariants as hex
use Rattle.dg_netcfg.specs.declared.profile.ProfileFault.{ProfileFault}
use Rattle.dg_netcfg.specs.declared.profile.ProfileFault.TheVariants as profile
use Rattle.dg_script.specs.Words.{same, words_of}
use Rattle.dg_script.specs.declared.fault.LineFault.{LineFault}
use Rattle.dg_script.specs.declared.fault.LineFault.TheVariants as lines
use Rattle.dg_end.specs.declared.ends.End.{End}
use Rattle.dg_end.specs.declared.ends.End.TheVariants as ends
use Rattle.dg_end.specs.declared.refusal.Refusal.{Refusal}
use Rattle.dg_end.specs.declared.refusal.Refusal.TheVariants as refusals
use Rattle.dg_messages.specs.declared.causes.Reads.{Reads}
use Rattle.dg_messages.specs.declared.causes.Reads.TheVariants as reads
use Rattle.dg_messages.specs.declared.causes.Refused.{Refused}
use Rattle.dg_messages.specs.declared.causes.Refused.TheVariants as refused
use Rattle.dg_messages.specs.declared.causes.Told.{Told}
use Rattle.dg_messages.specs.declared.causes.Told.TheVariants as told

-- ---- from words to causes

-- the first word, empty where there is none, and the words after it
abbrev pub first_of : List (List ℕ) → List ℕ
first_of [] = []
first_of (w ∷ ws) = w

abbrev pub words_behind : List (List ℕ) → List (List ℕ)
words_behind [] = []
words_behind (w ∷ ws) = ws

-- the number that the first word is, 0 if it is not one
abbrev pub or_zero : Option ℕ → ℕ
or_zero None = 0
or_zero (Some n) = n

abbrev pub first_number : List (List ℕ) → ℕ
first_number ws = or_zero (number_of (first_of ws))

abbrev pub no_board_told : List (List ℕ) → Told
no_board_told ws = told.NoBoard (first_number (words_behind ws)) (first_number (words_behind (words_behind ws)))

abbrev pub profile_fault_of : List ℕ → Option ProfileFault
profile_fault_of word =
    if same word (codes "nottoml") then Some profile.NotToml
    else if same word (codes "key") then Some profile.Key
    else if same word (codes "id") then Some profile.Id
    else if same word (codes "link") then Some profile.Link
    else if same word (codes "port") then Some profile.Port
    else None

abbrev pub profile_by : Option ProfileFault → Told
profile_by None = told.Other statuses.BadInput
profile_by (Some cause) = told.Profile cause

abbrev pub profile_told : List ℕ → Told
profile_told word = profile_by (profile_fault_of word)

abbrev pub hex_cause_of : List ℕ → Option HexCause
hex_cause_of word =
    if same word (codes "start") then Some hex.Start
    else if same word (codes "hex") then Some hex.Hex
    else if same word (codes "count") then Some hex.Count
    else if same word (codes "check") then Some hex.Check
    else if same word (codes "kind") then Some hex.Kind
    else if same word (codes "shape") then Some hex.Shape
    else if same word (codes "overlap") then Some hex.Overlap
    else if same word (codes "span") then Some hex.Span
    else if same word (codes "end") then Some hex.End
    else None

-- the faults of a field
abbrev pub field_fault_of : List ℕ → Option LineFault
field_fault_of word =
    if same word (codes "number") then Some lines.Number
    else if same word (codes "mote") then Some lines.Mote
    else if same word (codes "image") then Some lines.Image
    else if same word (codes "version") then Some lines.Version
    else if same word (codes "name") then Some lines.Name
    else if same word (codes "content") then Some lines.Content
    else if same word (codes "mask") then Some lines.Mask
    else None

abbrev pub line_fault_of : List ℕ → Option LineFault
line_fault_of word =
    if same word (codes "verb") then Some lines.Verb
    else if same word (codes "few") then Some lines.Few
    else if same word (codes "many") then Some lines.Many
    else if same word (codes "place") then Some lines.Place
    else if same word (codes "cut") then Some lines.Cut
    else if same word (codes "long") then Some lines.Long
    else field_fault_of word

abbrev pub nodes_fault_of : List ℕ → Option DripFault
nodes_fault_of word =
    if same word (codes "long") then Some nodes.Long
    else if same word (codes "verb") then Some nodes.Verb
    else if same word (codes "place") then Some nodes.Place
    else if same word (codes "number") then Some nodes.Number
    else None

-- the first line of what `wrap` wrote is the root, which is not a record
abbrev pub hex_told : Reads → (line : ℕ) → HexCause → Told
hex_told reads.Wrapped line hex.Start = if line == 1 then told.RootLine else told.Hex hex.Start line
hex_told what line cause = told.Hex cause line

abbrev pub script_by : (line : ℕ) → Option LineFault → Told
script_by line None = told.Other statuses.BadInput
script_by line (Some cause) = told.Script cause line

abbrev pub script_told : (line : ℕ) → List ℕ → Told
script_told line word = script_by line (line_fault_of word)

abbrev pub nodes_by : (line : ℕ) → Option DripFault → Told
nodes_by line None = told.Other statuses.BadInput
nodes_by line (Some cause) = told.Nodes cause line

abbrev pub nodes_told : (line : ℕ) → List ℕ → Told
nodes_told line word = nodes_by line (nodes_fault_of word)

abbrev pub hex_or_script : Reads → (line : ℕ) → List ℕ → Option HexCause → Told
hex_or_script what line word None = script_told line word
hex_or_script what line word (Some cause) = hex_told what line cause

abbrev pub line_reported : Reads → (line : ℕ) → List ℕ → Told
line_reported reads.Nodes line word = nodes_told line word
line_reported what line word = hex_or_script what line word (hex_cause_of word)

abbrev pub bad_input_told : Reads → List (List ℕ) → Told
bad_input_told what ws =
    if same (first_of ws) (codes "profile") then profile_told (first_of (words_behind ws))
    else line_reported what (first_number (words_behind ws)) (first_of (words_behind (words_behind ws)))

-- the refusals without a value
abbrev pub plain_refusal_of : List ℕ → Option Refused
plain_refusal_of word =
    if same word (codes "empty") then Some refused.Empty
    else if same word (codes "reserved") then Some refused.Reserved
    else if same word (codes "taken") then Some refused.Taken
    else if same word (codes "none") then Some refused.Absent
    else if same word (codes "shape") then Some refused.Shape
    else None

abbrev pub refusal_of : List ℕ → (first second : ℕ) → Option Refused
refusal_of word first second =
    if same word (codes "notwhole") then Some (refused.NotWhole first second)
    else if same word (codes "toolarge") then Some (refused.TooLarge first)
    else if same word (codes "stale") then Some (refused.Stale first)
    else if same word (codes "worn") then Some (refused.Worn first)
    else if same word (codes "oldorder") then Some (refused.OldOrder first)
    else if same word (codes "broken") then Some (refused.Broken first)
    else if same word (codes "foreign") then Some (refused.Foreign first)
    else plain_refusal_of word

abbrev pub refused_by : Option Refused → Told
refused_by None = told.Other statuses.Refused
refused_by (Some cause) = told.Refused cause

-- the words are `refused`, the cause, and the values after it
abbrev pub refused_told : List (List ℕ) → Told
refused_told ws =
    refused_by (refusal_of (first_of (words_behind ws)) (first_number (words_behind (words_behind ws)))
    (first_number (words_behind (words_behind (words_behind ws)))))

-- ---- the causes of statuses that have a last line

abbrev pub has_last_line : Status → Bool
has_last_line statuses.BadInput = true
has_last_line statuses.NotAVolume = true
has_last_line statuses.Refused = true
has_last_line statuses.TooLong = true
has_last_line statuses.TooMany = true
has_last_line statuses.NoBoard = true
has_last_line statuses.NoImage = true
has_last_line status = false

abbrev pub not_a_volume_told : (in_memory : Bool) → Told
not_a_volume_told true = told.InMemory
not_a_volume_told false = told.NotAVolume

abbrev pub words_told : Status → Reads → (in_memory : Bool) → List (List ℕ) → Told
words_told statuses.BadInput what in_memory ws = bad_input_told what ws
words_told statuses.NotAVolume what in_memory ws = not_a_volume_told in_memory
words_told statuses.Refused what in_memory ws = refused_told ws
words_told statuses.TooLong what in_memory ws = told.TooLong
words_told statuses.TooMany what in_memory ws = told.TooMany
words_told statuses.NoBoard what in_memory ws = no_board_told ws
words_told statuses.NoImage what in_memory ws = told.NoImage
words_told status what in_memory ws = told.Other status

abbrev pub last_line_told : Status → Reads → (in_memory : Bool) → (last : List ℕ) → Told
last_line_told status what in_memory last = words_told status what in_memory (words_of last)

-- ---- which cause the last line of an end has to give

abbrev pub refusal_end : Refusal → Refused
refusal_end refusals.Empty = refused.Empty
refusal_end (refusals.TooLarge length) = refused.TooLarge length
refusal_end refusals.Reserved = refused.Reserved
refusal_end (refusals.Stale version) = refused.Stale version
refusal_end refusals.Taken = refused.Taken
refusal_end (refusals.Worn room) = refused.Worn room
refusal_end (refusals.OldOrder number) = refused.OldOrder number
refusal_end refusals.Absent = refused.Absent
refusal_end (refusals.NotWhole done pages) = refused.NotWhole done pages
refusal_end (refusals.Broken page kept found) = refused.Broken page
refusal_end refusals.Shape = refused.Shape
refusal_end (refusals.Foreign page) = refused.Foreign page

-- out of memory has a status of its own, and no last line
abbrev pub hex_end : Reads → (line : ℕ) → HexCause → Told
hex_end what line hex.Memory = told.Other statuses.BadInput
hex_end what line cause = hex_told what line cause

abbrev pub script_end : (line : ℕ) → LineFault → Told
script_end line lines.Memory = told.Other statuses.BadInput
script_end line cause = told.Script cause line

abbrev pub profile_end : ProfileFault → Told
profile_end profile.Memory = told.Other statuses.BadInput
profile_end cause = told.Profile cause

abbrev pub end_told : Reads → (in_memory : Bool) → End → Told
end_told what in_memory ends.NotAVolume = not_a_volume_told in_memory
end_told what in_memory ends.NoImage = told.NoImage
end_told what in_memory ends.TooLong = told.TooLong
end_told what in_memory ends.TooMany = told.TooMany
end_told what in_memory (ends.NoBoard need have) = told.NoBoard need have
end_told what in_memory (ends.BadHex fault) = hex_end what fault.line fault.cause
end_told what in_memory (ends.BadLine line cause) = script_end line cause
end_told what in_memory (ends.BadProfile cause) = profile_end cause
end_told what in_memory (ends.Refused cause) = told.Refused (refusal_end cause)
end_told what in_memory ends.Memory = told.Other statuses.Memory
end_told what in_memory ends.ReadFault = told.Other statuses.ReadFault
end_told what in_memory ends.WriteFault = told.Other statuses.WriteFault
end_told what in_memory ends.FlashFault = told.Other statuses.FlashFault
end_told what in_memory ends.LinkFault = told.Other statuses.LinkFault

-- ---- the values of an end are those of their types, and a length is that of an input of at most 16,777,216 bytes

abbrev pub RefusalFits : Refusal → Type 0
RefusalFits (refusals.TooLarge length) = length < 2 ^ 32
RefusalFits (refusals.Stale version) = version < 2 ^ 32
RefusalFits (refusals.Worn room) = room < 2 ^ 32
RefusalFits (refusals.OldOrder number) = number < 2 ^ 32
RefusalFits (refusals.NotWhole done pages) = (done < 2 ^ 32) × (pages < 2 ^ 32)
RefusalFits (refusals.Broken page kept found) = (page < 2 ^ 32) × (length kept ≡ 32) × (length found ≡ 32)
RefusalFits (refusals.Foreign page) = page < 2 ^ 32
RefusalFits cause = ⊤

abbrev pub EndFits : End → Type 0
EndFits (ends.NoBoard need have) = (need < 2 ^ 32) × (have < 2 ^ 32)
EndFits (ends.BadHex fault) = fault.line < 2 ^ 32
EndFits (ends.BadLine line cause) = line < 2 ^ 32
EndFits (ends.Refused cause) = RefusalFits cause
EndFits end = ⊤
