-- The layout: a row for each mote, columns from left to right (docs/COMMANDS.md, "A picture of a report").
use Rattle.std.specs.Prelude.{ℕ, ◌+◌, ◌-◌, ◌*◌, ◌/◌, ◌==◌, max, min, nat_lt, zero, suc, Bool, List, [], ◌++◌, take, drop}
use Rattle.std.specs.Prelude.{if◌then◌else◌, find, unwrap_or, take_while, false}
use Rattle.std.specs.List.{fold, filter, prefix_len}
use Rattle.dg_story.specs.Reports.{nothing, reported, powered, last_image, motes, is_change, first_of}
use Rattle.dg_story.specs.declared.told.Told.{Told}
use Rattle.dg_story.specs.declared.reports.Pages.{Pages}
use Rattle.dg_layout.specs.declared.layout.Grid.{Grid}
use Rattle.dg_layout.specs.declared.layout.Frame.{Frame}
use Rattle.dg_layout.specs.declared.layout.TheConstants.{LINE_STEPS, MOMENT_STEPS}

-- the items for all numbers below n, in ascending order
unfoldable pub each : {A : Type 0} → (ℕ → List A) → ℕ → List A
each f zero = []
each f (suc n) = each f n ++ f n

-- ---- columns

-- the first of some steps by which 240 columns reach the last place, or else the least number that does
abbrev pub step_among : List ℕ → (last : ℕ) → ℕ
step_among steps n = unwrap_or (find (λ step. nat_lt (n / 240) step) steps) (n / 240 + 1)

-- how much of the axis a column has
abbrev pub step_of : (timed : Bool) → (last : ℕ) → ℕ
step_of timed n = step_among (if timed then MOMENT_STEPS else LINE_STEPS) n

-- at most 240 columns, each at most 40 units wide
unfoldable pub grid_of : (timed : Bool) → (last : ℕ) → Grid
grid_of timed n =
    let per = step_of timed n in
    let columns = n / per + 1 in
    record { per = per; columns = columns; width = min 40 (1200 / columns) }

-- where a column begins
abbrev pub left_of : Grid → (column : ℕ) → ℕ
left_of grid k = 100 + k * grid.width

-- where the last column ends
abbrev pub right_of : Grid → ℕ
right_of grid = left_of grid grid.columns

abbrev pub is_before : (place : ℕ) → Told → Bool
is_before place told = nat_lt told.place place

-- how many of the changes come before a column
abbrev pub count_before : (per k : ℕ) → List Told → ℕ
count_before per k changes = prefix_len (is_before (k * per)) changes

-- the changes of a column: those from its beginning on, up to its end
abbrev pub column : (per k : ℕ) → List Told → List Told
column per k changes = take_while (is_before ((k + 1) * per)) (drop (count_before per k changes) changes)

-- what a mote keeps of an image before a column: the last state that is reported before it
abbrev pub shown : (mote image per k : ℕ) → List Told → Pages
shown mote image per k changes =
    fold (λ kept t. reported mote image kept t.report) nothing (take (count_before per k changes) changes)

-- whether a mote is on before a column
abbrev pub is_on : (mote per k : ℕ) → List Told → Bool
is_on mote per k changes = fold (λ on t. powered mote on t.report) false (take (count_before per k changes) changes)

-- ---- rows

-- a row has a lane for golden, of 8 units, and one for each image up to the largest that is reported
abbrev pub lane_of : (images : ℕ) → ℕ
lane_of images = min 16 (48 / max 1 images)

unfoldable pub rows_of : List Told → Frame
rows_of told =
    let n = last_image told in
    record { rows = motes told; images = n; lane = lane_of n; row = 10 + lane_of n * n }

-- the bottom of a lane
abbrev pub lane_bottom : Frame → (mote image : ℕ) → ℕ
lane_bottom frame mote image = 56 + frame.row * mote + frame.lane * image

-- the bottom of the name of a row
abbrev pub middle : Frame → (mote : ℕ) → ℕ
middle frame mote = 51 + frame.row * mote + frame.row / 2

-- the bottom of all rows
abbrev pub foot : Frame → ℕ
foot frame = 48 + frame.row * frame.rows

-- the height of a picture whose rows end here
abbrev pub height_to : (foot : ℕ) → ℕ
height_to foot = foot + 24

-- the height of pages, where this many fill a lane but for a gap above: at least 1 where there is one
abbrev pub height_of : (lane count most : ℕ) → ℕ
height_of lane count most = if count == 0 then 0 else max 1 (count * (lane - 1) / max 1 most)

-- ---- changes

-- what each chip kept from the start on, and the lines that report a change at a mote
unfoldable pub changes_of : Frame → List Told → List Told
changes_of frame told =
    each (λ mote. each (λ i. first_of told mote (i + 1)) frame.images) frame.rows
    ++ filter (λ t. is_change t.report) told
