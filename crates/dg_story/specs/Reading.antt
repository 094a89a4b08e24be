-- How a report is read (docs/COMMANDS.md, "A picture of a report").
use Rattle.std.specs.Prelude.{◌≡◌, ◌≢◌, ◌⊎◌, ℕ, ◌+◌, ◌^◌, ◌<◌, ◌≤◌, ◌==◌, ◌&&◌, ◌||◌, nat_eq, nat_le, Bool, true}
use Rattle.std.specs.Prelude.{List, [], ◌∷◌, ◌++◌, length}
use Rattle.std.specs.Prelude.{slice_index, codes, Option, Some, None, is_some, if◌then◌else◌}
use Rattle.std.specs.List.{AllByRecursion, list_all, starts_with}
use Rattle.dg_base.specs.Sizes.{most_motes}
use Rattle.dg_script.specs.Sizes.{most_image}
use Rattle.dg_lines.specs.LineReading.{HasNoEnd}
use Rattle.dg_script.specs.Report.{report_line}
use Rattle.dg_lines.specs.ReportReading.{FitsReport}
use Rattle.dg_script.specs.declared.report.Report.{Report}
use Rattle.dg_story.specs.Lines.{with_stamp, report_line_text, lines_text, is_stamped, Tells}
use Rattle.dg_story.specs.Reports.{report_motes, report_image}
use Rattle.dg_story.specs.declared.lines.Stamp.{Stamp}
use Rattle.dg_story.specs.declared.lines.Line.{Line}
use Rattle.dg_story.specs.declared.told.Told.{Told}

-- the lines of a report that are used
abbrev pub most_lines : ℕ
most_lines = 1000000

-- a line of a replay: of a mote from 0 to 15, and of an image from 0 on for which a chip has a slot
abbrev pub IsOfReplay : Report → Type 0
IsOfReplay report = (report_motes report ≤ most_motes) × (report_image report ≤ most_image)

-- a report is timed where it begins with a stamp
abbrev pub begins_timed : List ℕ → Bool
begins_timed bytes = slice_index bytes 0 == 64

-- a line of a timed report, or of a plain one
abbrev pub IsLineOf : (timed : Bool) → Line → Type 0
IsLineOf timed line = (is_stamped line ≡ timed) × IsOfReplay line.report

-- the numbers of a line are in the ranges of its fields
abbrev pub FitsStamp : Option Stamp → Type 0
FitsStamp None = Unit {0}
FitsStamp (Some stamp) = (stamp.event < 2 ^ 64) × (stamp.ms < 2 ^ 64)

abbrev pub FitsStampedLine : Line → Type 0
FitsStampedLine line = FitsStamp line.stamp × FitsReport line.report

-- bytes up to their first LF, with it; or to their end, where they have none
abbrev pub IsFirstLine : (line rest : List ℕ) → Type 0
IsFirstLine line rest =
    ((text : List ℕ) × (line ≡ text ++ 10 ∷ []) × HasNoEnd text)
    ⊎ ((rest ≡ []) × HasNoEnd line)

-- this line is not one of a report
abbrev pub IsNoReport : (line : List ℕ) → Type 0
IsNoReport line = (report : Report) → FitsReport report → IsOfReplay report → report_line report ≢ line

-- the same of a timed report, or of a plain one
abbrev pub IsNoLine : (timed : Bool) → (line : List ℕ) → Type 0
IsNoLine timed line = (l : Line) → FitsStampedLine l → IsLineOf timed l → report_line_text l ≢ line

-- the words of a last line: lower case letters, digits and spaces, and they begin as one that a replay may end with
abbrev pub is_plain : ℕ → Bool
is_plain c = c == 32 || (nat_le 48 c && nat_le c 57) || (nat_le 97 c && nat_le c 122)

abbrev pub begins_as_last : List ℕ → Bool
begins_as_last words =
    if starts_with nat_eq words (codes "line ") then true
    else if starts_with nat_eq words (codes "noboard ") then true
    else if starts_with nat_eq words (codes "notavolume") then true
    else if starts_with nat_eq words (codes "noimage") then true
    else if starts_with nat_eq words (codes "toolong") then true
    else starts_with nat_eq words (codes "toomany")

abbrev pub is_last : List ℕ → Bool
is_last words = begins_as_last words && list_all is_plain words

-- the last line of a replay that did not end well
abbrev pub IsEndLine : (timed : Bool) → (line words : List ℕ) → Type 0
IsEndLine timed line words =
    (stamp : Option Stamp) × (is_some stamp ≡ timed) × (line ≡ with_stamp stamp (words ++ 10 ∷ [])) × (is_last words ≡ true)

-- nothing, or the last line of a replay that did not end well
abbrev pub IsEnding : (timed : Bool) → (text words : List ℕ) → Type 0
IsEnding timed text words = ((text ≡ []) × (words ≡ [])) ⊎ IsEndLine timed text words

-- bytes are the lines of a report, which ends in these words
pub record AreReports (bytes : List ℕ) (lines : List Line) (words : List ℕ) : Type 0 where
  pub ending : List ℕ
  pub parts : bytes ≡ lines_text lines ++ ending
  pub replay : AllByRecursion (IsLineOf (begins_timed bytes)) lines
  pub few : length lines ≤ most_lines
  pub ended : IsEnding (begins_timed bytes) ending words

-- the first line that is not one of a report has this number
pub record FirstNoReport (bytes : List ℕ) (number : ℕ) : Type 0 where
  pub lines : List Line
  pub line : List ℕ
  pub rest : List ℕ
  pub parts : bytes ≡ lines_text lines ++ (line ++ rest)
  pub replay : AllByRecursion (IsLineOf (begins_timed bytes)) lines
  pub counted : number ≡ length lines + 1
  pub some : line ≢ []
  pub first : IsFirstLine line rest
  pub none : IsNoLine (begins_timed bytes) line

-- more lines than are used
pub record HasMoreLines (bytes : List ℕ) : Type 0 where
  pub lines : List Line
  pub rest : List ℕ
  pub parts : bytes ≡ lines_text lines ++ rest
  pub replay : AllByRecursion (IsLineOf (begins_timed bytes)) lines
  pub full : length lines ≡ most_lines
  pub more : rest ≢ []

-- what was kept of the lines of a report, which ends in these words
pub record IsRead (bytes : List ℕ) (told : List Told) (last count : ℕ) (words : List ℕ) : Type 0 where
  pub lines : List Line
  pub reports : AreReports bytes lines words
  pub tells : Tells told last count lines
