-- The text by which a line is written (docs/SCRIPTS.md, "The script").
use Rattle.std.specs.Prelude.{ℕ, ◌≤◌, List, [], ◌∷◌, ◌++◌, length, codes}
use Rattle.std.specs.Fmt.{decimal}
use Rattle.dg_base.specs.Hexadecimal.{hex_text}
use Rattle.dg_base.specs.declared.events.Event.{Event}
use Rattle.dg_base.specs.declared.events.Event.TheVariants.{Tick, Hear, Last, Reset, Inject, Order, Frame}
use Rattle.dg_script.specs.Sizes.{most_written}
use Rattle.dg_script.specs.Words.{spaced}
use Rattle.dg_script.specs.declared.line.Line.{Line}
use Rattle.dg_script.specs.declared.line.Line.TheVariants.{Nothing, Motes, Golden, Boards, Link, Narrow, Image, Cut}
use Rattle.dg_script.specs.declared.line.Line.TheVariants.{Happens as EventLine}
use Rattle.dg_script.specs.declared.line.Line.TheVariants.{Round, Sweeps}

-- a content as hex digits
abbrev pub content_text : List ℕ → List ℕ
content_text bytes = codes "hex:" ++ hex_text bytes

-- the words of an event's line
abbrev pub event_words : Event → List (List ℕ)
event_words (Tick mote dt word) = codes "tick" ∷ decimal mote ∷ decimal dt ∷ decimal word ∷ []
event_words (Hear mote dt word frame) = codes "hear" ∷ decimal mote ∷ decimal dt ∷ decimal word ∷ decimal frame ∷ []
event_words (Last from to dt word) = codes "last" ∷ decimal from ∷ decimal to ∷ decimal dt ∷ decimal word ∷ []
event_words (Reset mote dt word) = codes "reset" ∷ decimal mote ∷ decimal dt ∷ decimal word ∷ []
event_words (Inject mote image version dt word) =
    codes "inject" ∷ decimal mote ∷ decimal image ∷ decimal version ∷ decimal dt ∷ decimal word ∷ []
event_words (Order mote number image version dt word) =
    codes "order" ∷ decimal mote ∷ decimal number ∷ decimal image ∷ decimal version ∷ decimal dt ∷ decimal word ∷ []
event_words (Frame mote dt word bytes) = codes "frame" ∷ decimal mote ∷ decimal dt ∷ decimal word ∷ content_text bytes ∷ []

-- the words of a line
abbrev pub line_words : Line → List (List ℕ)
line_words Nothing = []
line_words (Motes n) = codes "motes" ∷ decimal n ∷ []
line_words (Golden name used content) = codes "golden" ∷ name ∷ decimal used ∷ content_text content ∷ []
line_words Boards = codes "boards" ∷ []
line_words (Link a b) = codes "link" ∷ decimal a ∷ decimal b ∷ []
line_words (Narrow mote) = codes "narrow" ∷ decimal mote ∷ []
line_words (Image image version name content) = codes "image" ∷ decimal image ∷ decimal version ∷ name ∷ content_text content ∷ []
line_words (Cut cut) = codes "cut" ∷ decimal cut.after ∷ hex_text cut.mask ∷ []
line_words (EventLine event) = event_words event
line_words (Round a b) = codes "round" ∷ decimal a ∷ decimal b ∷ []
line_words (Sweeps n) = codes "sweeps" ∷ decimal n ∷ []

-- the text of a line, without its line end
unfoldable pub line_text : Line → List ℕ
line_text line = spaced (line_words line)

-- the content of a line is short enough for the line to be read back: only that of an `image` line may not be
abbrev pub IsShort : Line → Type 0
IsShort Nothing = Unit {0}
IsShort (Motes n) = Unit {0}
IsShort (Golden name used content) = Unit {0}
IsShort Boards = Unit {0}
IsShort (Link a b) = Unit {0}
IsShort (Narrow mote) = Unit {0}
IsShort (Image image version name content) = length content ≤ most_written
IsShort (Cut cut) = Unit {0}
IsShort (EventLine event) = Unit {0}
IsShort (Round a b) = Unit {0}
IsShort (Sweeps n) = Unit {0}
