-- The lines of a report, plain or with stamps, and their places on the axis (docs/COMMANDS.md, "A picture of a report").
use Rattle.std.specs.Prelude.{◌≡◌, ℕ, ◌+◌, max, length, Bool, true, false, List, [], ◌∷◌, ◌++◌, Option, Some, None, is_some}
use Rattle.std.specs.List.{fold, filter, flat_map}
use Rattle.std.specs.Fmt.{decimal}
use Rattle.dg_script.specs.Report.{report_line}
use Rattle.dg_script.specs.declared.report.Report.{Report}
use Rattle.dg_script.specs.declared.report.Report.TheVariants.{Order, Lost, Have, Start, Off, MoteOn, MoteOff, Kept}
use Rattle.dg_story.specs.declared.lines.Stamp.{Stamp}
use Rattle.dg_story.specs.declared.lines.Line.{Line}
use Rattle.dg_story.specs.declared.told.Told.{Told}

-- ---- as they are written

-- a text after the number of an event and its moment in milliseconds, where a line has them
abbrev pub with_stamp : Option Stamp → List ℕ → List ℕ
with_stamp None text = text
with_stamp (Some stamp) text = 64 ∷ (decimal stamp.event ++ 32 ∷ (decimal stamp.ms ++ 32 ∷ text))

unfoldable pub report_line_text : Line → List ℕ
report_line_text line = with_stamp line.stamp (report_line line.report)

abbrev pub lines_text : List Line → List ℕ
lines_text lines = flat_map report_line_text lines

abbrev pub is_stamped : Line → Bool
is_stamped line = is_some line.stamp

-- ---- on the axis

-- the place of a line: its moment, or else its number
abbrev pub place_by : (number : ℕ) → Option Stamp → ℕ
place_by number None = number
place_by number (Some stamp) = stamp.ms

-- lines with their places, where the first has this number
abbrev pub placed_from : (number : ℕ) → List Line → List Told
placed_from number [] = []
placed_from number (line ∷ lines) =
    record { place = place_by number line.stamp; report = line.report } ∷ placed_from (number + 1) lines

-- a line that says something that is drawn: a change at a mote, or how it ended
abbrev pub is_told : Report → Bool
is_told (Order mote number image version) = true
is_told (Lost mote image) = true
is_told (Have mote image version count) = true
is_told (Start mote image version length crc) = true
is_told (Off mote) = true
is_told (MoteOn mote image version) = true
is_told (MoteOff mote) = true
is_told (Kept mote image version count) = true
is_told _ = false

-- what is drawn of lines, in their order
abbrev pub told_of : List Line → List Told
told_of lines = filter (λ t. is_told t.report) (placed_from 1 lines)

-- the last place of all lines
abbrev pub end_of : List Line → ℕ
end_of lines = fold (λ n t. max n t.place) 0 (placed_from 1 lines)

-- what was kept of this many lines, and their last place
pub record Tells (told : List Told) (last count : ℕ) (lines : List Line) : Type 0 where
  pub told_is : told ≡ told_of lines
  pub last_is : last ≡ end_of lines
  pub count_is : count ≡ length lines
