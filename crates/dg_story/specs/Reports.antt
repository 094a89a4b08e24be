-- What a report says of motes (docs/COMMANDS.md, "A picture of a report").
use Rattle.std.specs.Prelude.{ℕ, ◌+◌, ◌==◌, ◌&&◌, max, Bool, true, false, List, [], ◌∷◌, Option, Some, None, if◌then◌else◌}
use Rattle.std.specs.List.{fold, list_any}
use Rattle.dg_script.specs.declared.report.Report.{Report}
use Rattle.dg_script.specs.declared.report.Report.TheVariants.{Order, Lost, Have, Start, Off, SentAdvert, SentRequest, SentData}
use Rattle.dg_script.specs.declared.report.Report.TheVariants.{Refused, Taken, End, MoteOn, MoteOff, Kept}
use Rattle.dg_story.specs.declared.told.Told.{Told}
use Rattle.dg_story.specs.declared.reports.Pages.{Pages}
use Rattle.dg_story.specs.declared.reports.Mark.{Mark}
use Rattle.dg_story.specs.declared.reports.Mark.TheVariants as mark
use Rattle.dg_story.specs.declared.reports.Ended.{Ended}
use Rattle.dg_story.specs.declared.reports.Ended.TheVariants as ended

-- ---- what a mote keeps of an image

-- nothing is kept of an image
abbrev pub nothing : Pages
nothing = record { version = 0; count = 0 }

-- what a mote keeps of an image, where this was kept before a line
abbrev pub reported : (mote image : ℕ) → Pages → Report → Pages
reported mote image kept (Have m i version count) =
    if m == mote && i == image then record { version = version; count = count } else kept
reported mote image kept (Lost m i) = if m == mote && i == image then nothing else kept
reported mote image kept _ = kept

-- the last state that is reported of an image at a mote
abbrev pub last_reported : (mote image : ℕ) → List Told → Pages
last_reported mote image told = fold (λ kept t. reported mote image kept t.report) nothing told

-- what a mote kept of an image at the end, where a line says it
abbrev pub kept_at_end : (mote image : ℕ) → Option Pages → Report → Option Pages
kept_at_end mote image kept (Kept m i version count) =
    if m == mote && i == image then Some (record { version = version; count = count }) else kept
kept_at_end mote image kept _ = kept

abbrev pub total : (mote image : ℕ) → List Told → Option Pages
total mote image told = fold (λ kept t. kept_at_end mote image kept t.report) None told

-- ---- changes, and what was there before them

-- a line that reports a change at a mote
abbrev pub is_change : Report → Bool
is_change (Order mote number image version) = true
is_change (Lost mote image) = true
is_change (Have mote image version count) = true
is_change (Start mote image version length crc) = true
is_change (Off mote) = true
is_change _ = false

-- a line that reports a change of an image at a mote
abbrev pub is_change_of : (mote image : ℕ) → Report → Bool
is_change_of mote image (Have m i version count) = m == mote && i == image
is_change_of mote image (Lost m i) = m == mote && i == image
is_change_of mote image _ = false

abbrev pub kept_first : (mote image : ℕ) → Option Pages → List Told
kept_first mote image None = []
kept_first mote image (Some pages) = record { place = 0; report = Have mote image pages.version pages.count } ∷ []

-- What a chip kept of an image from the start on: what it kept at the end, where no line reports a change of it.
abbrev pub first_of : List Told → (mote image : ℕ) → List Told
first_of told mote image =
    if list_any (λ t. is_change_of mote image t.report) told then [] else kept_first mote image (total mote image told)

-- ---- how a mote runs

-- whether a mote is on, where it was so before a line; until its first start it is off
abbrev pub powered : (mote : ℕ) → Bool → Report → Bool
powered mote on (Start m image version length crc) = if m == mote then true else on
powered mote on (Off m) = if m == mote then false else on
powered mote on _ = on

-- how a mote ended, as far as the report says
abbrev pub ended_by : (mote : ℕ) → Ended → Report → Ended
ended_by mote how (MoteOn m image version) = if m == mote then ended.On image version else how
ended_by mote how (MoteOff m) = if m == mote then ended.Off else how
ended_by mote how _ = how

abbrev pub ended_of : (mote : ℕ) → List Told → Ended
ended_of mote told = fold (λ how t. ended_by mote how t.report) ended.Untold told

-- what is marked at a mote: the start of an image, an order to start it, and a loss of power
abbrev pub is_marked : Mark → (mote : ℕ) → Report → Bool
is_marked (mark.Started image) mote (Start m i version length crc) = m == mote && i == image
is_marked (mark.Ordered image) mote (Order m number i version) = m == mote && i == image
is_marked mark.Lost mote (Off m) = m == mote
is_marked _ mote _ = false

-- ---- sizes

-- the pages that a line reports of a version of an image
abbrev pub counted : (image version : ℕ) → Report → ℕ
counted image version (Have m i v count) = if i == image && v == version then count else 0
counted image version (Kept m i v count) = if i == image && v == version then count else 0
counted image version _ = 0

-- the largest count that is reported of a version of an image
abbrev pub largest : (image version : ℕ) → List Told → ℕ
largest image version told = fold (λ n t. max n (counted image version t.report)) 0 told

-- the image of a line, or 0
abbrev pub report_image : Report → ℕ
report_image (Order mote number image version) = image
report_image (Lost mote image) = image
report_image (Have mote image version count) = image
report_image (Start mote image version length crc) = image
report_image (SentRequest mote to image version page count) = image
report_image (SentData mote image version page packet) = image
report_image (Taken image version) = image
report_image (MoteOn mote image version) = image
report_image (Kept mote image version count) = image
report_image _ = 0

-- the largest image that is reported
abbrev pub last_image : List Told → ℕ
last_image told = fold (λ n t. max n (report_image t.report)) 0 told

-- one more than the number of the mote of a line
abbrev pub report_motes : Report → ℕ
report_motes (Order mote number image version) = mote + 1
report_motes (Lost mote image) = mote + 1
report_motes (Have mote image version count) = mote + 1
report_motes (Start mote image version length crc) = mote + 1
report_motes (Off mote) = mote + 1
report_motes (SentAdvert mote) = mote + 1
report_motes (SentRequest mote to image version page count) = mote + 1
report_motes (SentData mote image version page packet) = mote + 1
report_motes (Refused mote why) = mote + 1
report_motes (Taken image version) = 0
report_motes (End events) = 0
report_motes (MoteOn mote image version) = mote + 1
report_motes (MoteOff mote) = mote + 1
report_motes (Kept mote image version count) = mote + 1

-- how many motes there are, as far as the report says
abbrev pub motes : List Told → ℕ
motes told = fold (λ n t. max n (report_motes t.report)) 0 told
