-- What a line of a report says (docs/SCRIPTS.md, "The report"). A text is such a line exactly if what it says is written as
-- this line.
use Rattle.std.specs.Prelude.{ℕ, ◌+◌, ◌-◌, ◌*◌, ◌%◌, ◌^◌, ◌<◌, ◌==◌, nat_le, List, [], length, codes, slice_index, slice_index_or}
use Rattle.std.specs.Prelude.{unwrap_or, if◌then◌else◌}
use Rattle.dg_base.specs.Numbers.{number_of}
use Rattle.dg_script.specs.Words.{same}
use Rattle.dg_script.specs.declared.report.Cause.{Cause}
use Rattle.dg_script.specs.declared.report.Cause.TheVariants as cause
use Rattle.dg_script.specs.declared.report.Report.{Report}
use Rattle.dg_script.specs.declared.report.Report.TheVariants.{Order, Lost, Have, Start, Off, SentAdvert, SentRequest, SentData}
use Rattle.dg_script.specs.declared.report.Report.TheVariants.{Refused, Taken, End, MoteOn, MoteOff, Kept}

-- ---- the numbers of a line are in the ranges of its fields

abbrev pub IsSmall : ℕ → Type 0
IsSmall n = n < 256

abbrev pub IsNumber : ℕ → Type 0
IsNumber n = n < 2 ^ 32

abbrev pub FitsCause : Cause → Type 0
FitsCause (cause.TooLarge length) = IsNumber length
FitsCause (cause.Stale version) = IsNumber version
FitsCause (cause.Worn room) = IsNumber room
FitsCause (cause.OldOrder number) = IsNumber number
FitsCause _ = Unit {0}

abbrev pub FitsReport : Report → Type 0
FitsReport (Order mote number image version) = IsSmall mote × IsNumber number × IsSmall image × IsNumber version
FitsReport (Lost mote image) = IsSmall mote × IsSmall image
FitsReport (Have mote image version pages) = IsSmall mote × IsSmall image × IsNumber version × IsSmall pages
FitsReport (Start mote image version length crc) = IsSmall mote × IsSmall image × IsNumber version × IsNumber length
    × (crc < 2 ^ 16)
FitsReport (Off mote) = IsSmall mote
FitsReport (SentAdvert mote) = IsSmall mote
FitsReport (SentRequest mote to image version page count) = IsSmall mote × (to < 2 ^ 16) × IsSmall image × IsNumber version
    × IsSmall page × IsSmall count
FitsReport (SentData mote image version page packet) = IsSmall mote × IsSmall image × IsNumber version × IsSmall page
    × IsSmall packet
FitsReport (Refused mote why) = IsSmall mote × FitsCause why
FitsReport (Taken image version) = IsSmall image × IsNumber version
FitsReport (End events) = IsNumber events
FitsReport (MoteOn mote image version) = IsSmall mote × IsSmall image × IsNumber version
FitsReport (MoteOff mote) = IsSmall mote
FitsReport (Kept mote image version pages) = IsSmall mote × IsSmall image × IsNumber version × IsSmall pages

-- ---- what the words of a line say, if they are a report's

abbrev pub word_at : List (List ℕ) → ℕ → List ℕ
word_at ws k = slice_index_or ws k []

unfoldable pub number_at : List (List ℕ) → ℕ → ℕ
number_at ws k = unwrap_or (number_of (word_at ws k)) 0

abbrev pub small_at : List (List ℕ) → ℕ → ℕ
small_at ws k = number_at ws k % 256

abbrev pub address_at : List (List ℕ) → ℕ → ℕ
address_at ws k = number_at ws k % 65536

abbrev pub digit_value : ℕ → ℕ
digit_value c = (if nat_le c 57 then c - 48 else c - 87) % 16

unfoldable pub crc_of_digits : List ℕ → ℕ
crc_of_digits digits =
    if length digits == 4 then ((digit_value (slice_index digits 0) * 16 + digit_value (slice_index digits 1)) * 16
    + digit_value (slice_index digits 2)) * 16 + digit_value (slice_index digits 3)
    else 0

abbrev pub kept_said : List (List ℕ) → Report
kept_said ws = Kept (small_at ws 1) (small_at ws 2) (number_at ws 3) (small_at ws 4)

abbrev pub have_said : List (List ℕ) → Report
have_said ws = Have (small_at ws 1) (small_at ws 2) (number_at ws 3) (small_at ws 4)

abbrev pub order_said : List (List ℕ) → Report
order_said ws = Order (small_at ws 1) (number_at ws 2) (small_at ws 3) (number_at ws 4)

abbrev pub start_said : List (List ℕ) → Report
start_said ws = Start (small_at ws 1) (small_at ws 2) (number_at ws 3) (number_at ws 4) (crc_of_digits (word_at ws 5))

abbrev pub sent_said : List (List ℕ) → Report
sent_said ws =
    if same (word_at ws 2) (codes "data") then SentData (small_at ws 1) (small_at ws 3) (number_at ws 4) (small_at ws 5)
    (small_at ws 6)
    else if same (word_at ws 2) (codes "request")
    then SentRequest (small_at ws 1) (address_at ws 3) (small_at ws 4) (number_at ws 5) (small_at ws 6) (small_at ws 7)
    else SentAdvert (small_at ws 1)

abbrev pub cause_said : List (List ℕ) → Cause
cause_said ws =
    if same (word_at ws 2) (codes "off") then cause.Off
    else if same (word_at ws 2) (codes "frame") then cause.Frame
    else if same (word_at ws 2) (codes "link") then cause.Link
    else if same (word_at ws 2) (codes "image") then cause.Image
    else if same (word_at ws 2) (codes "empty") then cause.Empty
    else if same (word_at ws 2) (codes "toolarge") then cause.TooLarge (number_at ws 3)
    else if same (word_at ws 2) (codes "reserved") then cause.Reserved
    else if same (word_at ws 2) (codes "stale") then cause.Stale (number_at ws 3)
    else if same (word_at ws 2) (codes "taken") then cause.Taken
    else if same (word_at ws 2) (codes "worn") then cause.Worn (number_at ws 3)
    else cause.OldOrder (number_at ws 3)

abbrev pub refused_said : List (List ℕ) → Report
refused_said ws =
    if same (word_at ws 1) (codes "image") then Taken (small_at ws 2) (number_at ws 3)
    else Refused (small_at ws 1) (cause_said ws)

abbrev pub mote_said : List (List ℕ) → Report
mote_said ws =
    if same (word_at ws 2) (codes "on") then MoteOn (small_at ws 1) (small_at ws 3) (number_at ws 4)
    else MoteOff (small_at ws 1)

unfoldable pub report_said : List (List ℕ) → Report
report_said ws =
    if same (word_at ws 0) (codes "sent") then sent_said ws
    else if same (word_at ws 0) (codes "have") then have_said ws
    else if same (word_at ws 0) (codes "no") then refused_said ws
    else if same (word_at ws 0) (codes "start") then start_said ws
    else if same (word_at ws 0) (codes "order") then order_said ws
    else if same (word_at ws 0) (codes "none") then Lost (small_at ws 1) (small_at ws 2)
    else if same (word_at ws 0) (codes "off") then Off (small_at ws 1)
    else if same (word_at ws 0) (codes "mote") then mote_said ws
    else if same (word_at ws 0) (codes "kept") then kept_said ws
    else End (number_at ws 1)
