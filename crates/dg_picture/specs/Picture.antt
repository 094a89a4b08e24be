-- The picture of a report: an SVG (docs/COMMANDS.md, "A picture of a report").
use Rattle.std.specs.Prelude.{ℕ, ◌+◌, ◌-◌, ◌*◌, ◌/◌, ◌==◌, ◌||◌, Bool, List, [], ◌∷◌, ◌++◌, codes, Option, Some, None}
use Rattle.std.specs.Prelude.{if◌then◌else◌}
use Rattle.std.specs.List.{list_any}
use Rattle.std.specs.Fmt.{decimal}
use Rattle.dg_story.specs.Lines.{told_of, end_of}
use Rattle.dg_story.specs.Reports.{largest, total, is_marked, ended_of}
use Rattle.dg_layout.specs.Layout.{each, grid_of, left_of, right_of, column, shown, is_on, rows_of, lane_bottom}
use Rattle.dg_layout.specs.Layout.{middle, foot, height_of}
use Rattle.dg_layout.specs.Layout.{changes_of}
use Rattle.dg_picture.specs.Texts.{form_of, class_of, head_text, moment_text}
use Rattle.dg_story.specs.declared.lines.Line.{Line}
use Rattle.dg_story.specs.declared.told.Told.{Told}
use Rattle.dg_story.specs.declared.reports.Pages.{Pages}
use Rattle.dg_story.specs.declared.reports.Ended.{Ended}
use Rattle.dg_story.specs.declared.reports.Ended.TheVariants as ended
use Rattle.dg_story.specs.declared.reports.Mark.{Mark}
use Rattle.dg_story.specs.declared.reports.Mark.TheVariants.{Started, Ordered, Lost}
use Rattle.dg_layout.specs.declared.layout.Grid.{Grid}
use Rattle.dg_layout.specs.declared.layout.Frame.{Frame}
use Rattle.dg_words.specs.Lists.{concatenated}

-- ---- steps: a line as high at each column as was reported last, from the left end of the columns to their right end

abbrev pub open_text : (base : ℕ) → List ℕ
open_text base = concatenated (codes "M100 " ∷ decimal base ∷ [])

abbrev pub close_text : (right base : ℕ) → List ℕ
close_text right base = concatenated (codes "H" ∷ decimal right ∷ codes "V" ∷ decimal base ∷ codes "z" ∷ [])

abbrev pub step_to : (left top : ℕ) → List ℕ
step_to left top = concatenated (codes "H" ∷ decimal left ∷ codes "V" ∷ decimal top ∷ [])

-- a step where the height before it and its own differ
abbrev pub turn_text : (left base old new : ℕ) → List ℕ
turn_text left base old new = if new == old then [] else step_to left (base - new)

-- the steps of heights before each column
abbrev pub step_text : Grid → (base : ℕ) → (heights : ℕ → ℕ) → (k : ℕ) → List ℕ
step_text grid base heights k = turn_text (left_of grid k) base (heights k) (heights (k + 1))

unfoldable pub steps_text : Grid → (base : ℕ) → (heights : ℕ → ℕ) → List ℕ
steps_text grid base heights =
    open_text base ++ (each (step_text grid base heights) grid.columns ++ close_text (right_of grid) base)

-- ---- bars: the pages of an image at a mote, where `most` are the largest counts of versions

abbrev pub bar_height : (most : ℕ → ℕ) → (lane : ℕ) → Pages → ℕ
bar_height most lane pages = height_of lane pages.count (most pages.version)

abbrev pub bar_text : (most : ℕ → ℕ) → Frame → Grid → List Told → (image mote : ℕ) → List ℕ
bar_text most frame grid changes image mote =
    steps_text grid (lane_bottom frame mote image) (λ k. bar_height most frame.lane (shown mote image grid.per k changes))

-- a line and a number where another version begins
abbrev pub version_line : (left base lane version : ℕ) → List ℕ
version_line left base lane version =
    concatenated (codes "<path class=\"v\" d=\"M" ∷ decimal left ∷ codes " " ∷ decimal base ∷ codes "v-" ∷ decimal lane
    ∷ codes "\"/><text class=\"n\" x=\"" ∷ decimal (left + 6) ∷ codes "\" y=\"" ∷ decimal base ∷ codes "\">" ∷ decimal version
    ∷ codes "</text>\n" ∷ [])

abbrev pub version_text : (left base lane old new : ℕ) → List ℕ
version_text left base lane old new = if new == old || new == 0 then [] else version_line left base lane new

abbrev pub column_version : Frame → Grid → List Told → (image mote k : ℕ) → List ℕ
column_version frame grid changes image mote k =
    version_text (left_of grid k) (lane_bottom frame mote image) frame.lane (shown mote image grid.per k changes).version
    (shown mote image grid.per (k + 1) changes).version

abbrev pub versions_text : Frame → Grid → List Told → (image mote : ℕ) → List ℕ
versions_text frame grid changes image mote = each (column_version frame grid changes image mote) grid.columns

-- what is kept at the end
abbrev pub kept_line : (base image version count : ℕ) → List ℕ
kept_line base image version count =
    concatenated (codes "<text x=\"1312\" y=\"" ∷ decimal base ∷ codes "\">image " ∷ decimal image
    ∷ codes " version " ∷ decimal version ∷ codes ": " ∷ decimal count ∷ codes " pages</text>\n" ∷ [])

abbrev pub kept_text : (base image : ℕ) → Option Pages → List ℕ
kept_text base image None = []
kept_text base image (Some pages) = kept_line base image pages.version pages.count

abbrev pub kept_of : Frame → (image : ℕ) → List Told → (mote : ℕ) → List ℕ
kept_of frame image told mote = kept_text (lane_bottom frame mote image) image (total mote image told)

abbrev pub group_text : (image : ℕ) → List ℕ
group_text image = concatenated (codes "<g class=\"i" ∷ decimal image ∷ codes "\"><path d=\"" ∷ [])

unfoldable pub image_text : Frame → Grid → (told changes : List Told) → (image : ℕ) → List ℕ
image_text frame grid told changes image =
    group_text image
    ++ (each (bar_text (λ version. largest image version told) frame grid changes image) frame.rows
    ++ (codes "\"/>\n"
    ++ (each (versions_text frame grid changes image) frame.rows
    ++ (each (kept_of frame image told) frame.rows
    ++ codes "</g>\n"))))

-- ---- marks: starts, orders and losses of power, each in the column of its line

abbrev pub point_text : (mark : Mark) → (left base : ℕ) → List ℕ
point_text mark left base = concatenated (codes "M" ∷ decimal left ∷ codes " " ∷ decimal base ∷ form_of mark ∷ [])

abbrev pub mark_text : (mark : Mark) → List Told → (left base mote : ℕ) → List ℕ
mark_text mark lines left base mote =
    if list_any (λ t. is_marked mark mote t.report) lines then point_text mark left base else []

-- the image in whose lane a mark is
abbrev pub lane_image : Mark → ℕ
lane_image (Started image) = image
lane_image (Ordered image) = image
lane_image Lost = 0

abbrev pub column_marks : Mark → Frame → Grid → List Told → (mote k : ℕ) → List ℕ
column_marks mark frame grid changes mote k =
    mark_text mark (column grid.per k changes) (left_of grid k) (lane_bottom frame mote (lane_image mark)) mote

abbrev pub row_marks : Mark → Frame → Grid → List Told → (mote : ℕ) → List ℕ
row_marks mark frame grid changes mote = each (column_marks mark frame grid changes mote) grid.columns

unfoldable pub marks_text : Frame → Grid → List Told → Mark → List ℕ
marks_text frame grid changes mark =
    codes "<path class=\"" ++ (class_of mark ++ (codes "\" d=\""
    ++ (each (row_marks mark frame grid changes) frame.rows
    ++ codes "\"/>\n")))

-- ---- rows, and how they end

-- grey while the mote is off
abbrev pub off_height : (row : ℕ) → (on : Bool) → ℕ
off_height row on = if on then 0 else row - 2

abbrev pub off_text : Frame → Grid → List Told → (mote : ℕ) → List ℕ
off_text frame grid changes mote =
    steps_text grid (lane_bottom frame mote frame.images) (λ k. off_height frame.row (is_on mote grid.per k changes))

unfoldable pub offs_text : Frame → Grid → List Told → List ℕ
offs_text frame grid changes = codes "<path class=\"f\" d=\"" ++ (each (off_text frame grid changes) frame.rows ++ codes "\"/>\n")

abbrev pub row_text : Frame → Grid → (mote : ℕ) → List ℕ
row_text frame grid mote =
    concatenated (codes "<text x=\"92\" y=\"" ∷ decimal (middle frame mote) ∷ codes "\" class=\"m\">mote "
    ∷ decimal mote ∷ codes "</text><path class=\"r\" d=\"M100 " ∷ decimal (lane_bottom frame mote frame.images) ∷ codes "H"
    ∷ decimal (right_of grid) ∷ codes "\"/>\n" ∷ [])

-- what runs at the end
abbrev pub run_text : (base : ℕ) → Ended → List ℕ
run_text base ended.Untold = []
run_text base ended.Off = concatenated (codes "<text class=\"k\" x=\"1312\" y=\"" ∷ decimal base ∷ codes "\">off</text>\n" ∷ [])
run_text base (ended.On image version) =
    concatenated (codes "<text class=\"k\" x=\"1312\" y=\"" ∷ decimal base ∷ codes "\">runs image " ∷ decimal image
    ∷ codes " version " ∷ decimal version ∷ codes "</text>\n" ∷ [])

abbrev pub run_of : Frame → List Told → (mote : ℕ) → List ℕ
run_of frame told mote = run_text (lane_bottom frame mote 0) (ended_of mote told)

-- ---- the axis

abbrev pub place_text : (timed : Bool) → (place : ℕ) → List ℕ
place_text timed place = if timed then moment_text place else decimal place

-- a line and a number at each tenth column
abbrev pub tick_line : (left foot : ℕ) → List ℕ
tick_line left foot =
    concatenated (codes "<path class=\"r\" d=\"M" ∷ decimal left ∷ codes " 44V" ∷ decimal (foot + 4)
    ∷ codes "\"/><text class=\"a\" x=\"" ∷ decimal left ∷ codes "\" y=\"" ∷ decimal (foot + 16) ∷ codes "\">" ∷ [])

unfoldable pub tick_text : (timed : Bool) → Frame → Grid → (j : ℕ) → List ℕ
tick_text timed frame grid j =
    tick_line (left_of grid (10 * j)) (foot frame) ++ (place_text timed (10 * j * grid.per) ++ codes "</text>\n")

abbrev pub axis_name : (timed : Bool) → List ℕ
axis_name timed = if timed then codes "time" else codes "line"

abbrev pub name_text : (timed : Bool) → (foot : ℕ) → List ℕ
name_text timed foot =
    concatenated (codes "<text x=\"80\" y=\"" ∷ decimal (foot + 16) ∷ codes "\" class=\"m\">"
    ∷ axis_name timed ∷ codes "</text>\n" ∷ [])

unfoldable pub axis_text : (timed : Bool) → Frame → Grid → List ℕ
axis_text timed frame grid = name_text timed (foot frame) ++ each (tick_text timed frame grid) ((grid.columns + 9) / 10)

-- the last line of a replay that did not end well, and a line down where it ended
abbrev pub ending_text : (right foot : ℕ) → (words : List ℕ) → List ℕ
ending_text right foot [] = []
ending_text right foot (c ∷ cs) =
    concatenated (codes "<path class=\"x\" d=\"M" ∷ decimal right ∷ codes " 44V" ∷ decimal foot
    ∷ codes "\"/><text x=\"1312\" y=\"" ∷ decimal (foot + 16) ∷ codes "\">ended: " ∷ (c ∷ cs) ∷ codes "</text>\n" ∷ [])

-- ---- the picture

abbrev pub images_text : Frame → Grid → (told changes : List Told) → (i : ℕ) → List ℕ
images_text frame grid told changes i = image_text frame grid told changes (i + 1)

abbrev pub starts_text : Frame → Grid → (changes : List Told) → (i : ℕ) → List ℕ
starts_text frame grid changes i = marks_text frame grid changes (Started (i + 1))

abbrev pub orders_text : Frame → Grid → (changes : List Told) → (i : ℕ) → List ℕ
orders_text frame grid changes i = marks_text frame grid changes (Ordered (i + 1))

-- what comes after the images
unfoldable pub ground_text : (timed : Bool) → Frame → Grid → (changes : List Told) → List ℕ
ground_text timed frame grid changes =
    head_text (foot frame)
    ++ (offs_text frame grid changes
    ++ (axis_text timed frame grid
    ++ each (row_text frame grid) frame.rows))

-- starts, orders and losses of power
unfoldable pub events_text : Frame → Grid → (changes : List Told) → List ℕ
events_text frame grid changes =
    marks_text frame grid changes (Started 0)
    ++ (each (starts_text frame grid changes) frame.images
    ++ (marks_text frame grid changes (Ordered 0)
    ++ (each (orders_text frame grid changes) frame.images
    ++ marks_text frame grid changes Lost)))

unfoldable pub picture_with : (timed : Bool) → Frame → Grid → (told changes : List Told) → (words : List ℕ) → List ℕ
picture_with timed frame grid told changes words =
    ground_text timed frame grid changes
    ++ (each (images_text frame grid told changes) frame.images
    ++ (events_text frame grid changes
    ++ (each (run_of frame told) frame.rows
    ++ (ending_text (right_of grid) (foot frame) words
    ++ codes "</svg>\n"))))

-- the picture of what is reported up to a place, where the report ends in these words
unfoldable pub drawing_of : (timed : Bool) → (last : ℕ) → List Told → (words : List ℕ) → List ℕ
drawing_of timed last told words =
    picture_with timed (rows_of told) (grid_of timed last) told (changes_of (rows_of told) told) words

unfoldable pub picture_of : (timed : Bool) → List Line → (words : List ℕ) → List ℕ
picture_of timed lines words = drawing_of timed (end_of lines) (told_of lines) words
