-- What the call that draws a report does (docs/COMMANDS.md, "A picture of a report").
use Rattle.std.specs.Prelude.{◌≡◌, ℕ, ◌<◌, List, length, Option, Result, Ok, Err, Vec}
use Rattle.dg_base.specs.Outside.{Takes, Puts, PutsPrefix, AtEnd}
use Rattle.dg_script.specs.Sizes.{most_used_bytes}
use Rattle.dg_picture.specs.Picture.{picture_of}
use Rattle.dg_story.specs.Reading.{AreReports, FirstNoReport, HasMoreLines, begins_timed}
use Rattle.dg_base.specs.declared.answers.Status.{Status}
use Rattle.dg_base.specs.declared.answers.Status.TheVariants as status
use Rattle.dg_story.specs.declared.lines.Line.{Line}
use Rattle.dg_picture.specs.declared.call.PictureFault.{PictureFault}
use Rattle.dg_picture.specs.declared.call.PictureFault.TheVariants as fault

-- all bytes of an input
abbrev pub TakesAll : (before after : Option (List ℕ)) → (bytes : List ℕ) → Type 0
TakesAll before after bytes = Takes before after bytes × AtEnd after

-- why an input is refused
abbrev pub RefusesInput : PictureFault → (before after : Option (List ℕ)) → Type 0
RefusesInput (fault.NoReport line) before after = (bytes : List ℕ) × TakesAll before after bytes × FirstNoReport bytes line
RefusesInput fault.TooMany before after = (bytes : List ℕ) × TakesAll before after bytes × HasMoreLines bytes
RefusesInput fault.TooLong before after = (bytes : List ℕ) × Takes before after bytes × (most_used_bytes < length bytes)
RefusesInput _ before after = Unit {0}

-- why bytes are refused
abbrev pub RefusesBytes : PictureFault → (bytes : List ℕ) → Type 0
RefusesBytes fault.Memory bytes = Unit {0}
RefusesBytes (fault.NoReport line) bytes = FirstNoReport bytes line
RefusesBytes fault.TooMany bytes = HasMoreLines bytes
RefusesBytes _ bytes = ⊥

-- A text is the picture of a report, whose lines are these bytes.
abbrev pub IsPicture : (bytes text : List ℕ) → Type 0
IsPicture bytes text =
    (lines : List Line) × (words : List ℕ) × AreReports bytes lines words × (text ≡ picture_of (begins_timed bytes) lines words)

-- a report was read, whose picture is this text
abbrev pub DrawsAll : (before after : Option (List ℕ)) → (text : List ℕ) → Type 0
DrawsAll before after text = (bytes : List ℕ) × TakesAll before after bytes × IsPicture bytes text

abbrev pub ReadOf : {Z : Type 0} → Result (Vec ℕ Z) PictureFault → (before after : Option (List ℕ)) → Type 0
ReadOf (Ok text) before after = DrawsAll before after text.items
ReadOf (Err fault) before after = RefusesInput fault before after

-- What is written is the picture of the lines that were read, or a prefix of it where a write failed; else nothing is written.
abbrev pub Drawn : Result (Unit {0}) PictureFault → (left_before left_after : Option (List ℕ))
    → (written_before written_after : Option (List ℕ)) → Type 0
Drawn (Ok done) a b v w = (text : List ℕ) × DrawsAll a b text × Puts v w text
Drawn (Err fault.WriteFault) a b v w = (text : List ℕ) × DrawsAll a b text × PutsPrefix v w text
Drawn (Err fault) a b v w = RefusesInput fault a b × (w ≡ v)

-- the exit status of a fault
abbrev pub status_of : PictureFault → Status
status_of fault.Memory = status.Memory
status_of fault.ReadFault = status.ReadFault
status_of fault.WriteFault = status.WriteFault
status_of fault.TooLong = status.TooLong
status_of fault.TooMany = status.TooMany
status_of (fault.NoReport line) = status.BadInput
