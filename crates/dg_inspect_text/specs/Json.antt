-- Reports on chips as JSON (docs/COMMANDS.md, "Looking into chips"). Members are in the order of their names.
use Rattle.std.specs.Prelude.{ℕ, ◌+◌, ◌==◌, Bool, true, false, if◌then◌else◌, List, [], ◌∷◌, ◌++◌, map, drop}
use Rattle.std.specs.Prelude.{Option, Some, None, codes, string_bytes}
use Rattle.std.specs.List.{filter, range_with_len}
use Rattle.std.specs.FinSet as set
use Rattle.std.specs.Int.{to_be_bytes, w16}
use Rattle.std.specs.Str.{is_utf8}
use Rattle.hex.specs.Hex.{encode_lower}
use Rattle.serde_json.specs.Data.{Data, unsigned, null, boolean, number, string, array, object, member, no_members}
use Rattle.serde_json.specs.View.{items_of}
use Rattle.serde_json.specs.Written.{compact_text}
use Rattle.dg_bits.specs.Sets.{Numbers}
use Rattle.dg_control.specs.Sizes.{most_room}
use Rattle.dg_control.specs.declared.snapshot.Order.{Order}
use Rattle.dg_object.specs.Sizes.{most_pages}
use Rattle.dg_breaks.specs.declared.condition.Break.{Break}
use Rattle.dg_inspect.specs.declared.seen.BytesSeen.{BytesSeen}
use Rattle.dg_inspect.specs.declared.seen.ChainSeen.{ChainSeen}
use Rattle.dg_inspect.specs.declared.seen.ChipSeen.{ChipSeen}
use Rattle.dg_inspect.specs.declared.seen.ChipSeen.TheVariants as chip
use Rattle.dg_breaks.specs.declared.condition.Condition.{Condition}
use Rattle.dg_breaks.specs.declared.condition.Condition.TheVariants as condition
use Rattle.dg_inspect.specs.declared.seen.FileSeen.{FileSeen}
use Rattle.dg_inspect.specs.declared.seen.FileSeen.TheVariants as file
use Rattle.dg_inspect.specs.declared.seen.ImageSeen.{ImageSeen}
use Rattle.dg_inspect.specs.declared.seen.ImageVersion.{ImageVersion}
use Rattle.dg_inspect.specs.declared.seen.NextNumbers.{NextNumbers}
use Rattle.dg_inspect.specs.declared.seen.NextStart.{NextStart}
use Rattle.dg_inspect.specs.declared.seen.OrderState.{OrderState}
use Rattle.dg_inspect.specs.declared.seen.OrderState.TheVariants as order
use Rattle.dg_inspect.specs.declared.seen.PagesSeen.{PagesSeen}
use Rattle.dg_inspect.specs.declared.seen.ProgramSeen.{ProgramSeen}
use Rattle.dg_inspect.specs.declared.seen.StartReason.{StartReason}
use Rattle.dg_inspect.specs.declared.seen.StartReason.TheVariants as reason
use Rattle.dg_inspect.specs.declared.seen.VolumeSeen.{VolumeSeen}
use Rattle.dg_compare.specs.declared.results.Ahead.{Ahead}
use Rattle.dg_compare.specs.declared.results.Comparison.{Comparison}
use Rattle.dg_compare.specs.declared.results.Flaw.{Flaw}
use Rattle.dg_compare.specs.declared.results.Flaw.TheVariants as flaw
use Rattle.dg_compare.specs.declared.results.ImageCompared.{ImageCompared}
use Rattle.dg_compare.specs.declared.results.OrderCompared.{OrderCompared}
use Rattle.dg_compare.specs.declared.results.ProgramCompared.{ProgramCompared}
use Rattle.dg_compare.specs.declared.results.SharedPages.{SharedPages}
use Rattle.dg_compare.specs.declared.results.SharedPages.TheVariants as shared
use Rattle.dg_compare.specs.declared.results.Side.{Side}
use Rattle.dg_compare.specs.declared.results.Side.TheVariants.{First, Second}
use Rattle.dg_compare.specs.declared.results.Verdict.{Verdict}
use Rattle.dg_compare.specs.declared.results.Verdict.TheVariants as verdict
use Rattle.dg_inspect_text.specs.declared.report.Moment.{Moment}
use Rattle.dg_inspect_text.specs.declared.report.Report.{Report}

-- ---- words

abbrev pub condition_word : Condition → List ℕ
condition_word condition.Ledger = codes "ledger"
condition_word condition.Snapshot = codes "snapshot"
condition_word condition.Golden = codes "golden"
condition_word (condition.Header i) = codes "header"
condition_word (condition.Descriptor i) = codes "descriptor"
condition_word condition.Program = codes "program"

abbrev pub order_word : OrderState → List ℕ
order_word order.Absent = codes "none"
order_word order.Waived = codes "waived"
order_word order.Started = codes "started"
order_word order.Waits = codes "waits"
order_word order.Incomplete = codes "incomplete"
order_word order.Never = codes "never"

abbrev pub reason_word : StartReason → List ℕ
reason_word reason.ShortStarts = codes "short starts"
reason_word reason.Order = codes "order"
reason_word reason.Program = codes "program memory"
reason_word reason.Blank = codes "blank program memory"

abbrev pub side_word : Side → List ℕ
side_word First = codes "first"
side_word Second = codes "second"

abbrev pub kind_word : FileSeen → List ℕ
kind_word file.Other = codes "other"
kind_word file.Blank = codes "blank"
kind_word (file.Chip older chip) = if older then codes "older chip" else codes "chip"

abbrev pub verdict_word : Verdict → List ℕ
verdict_word verdict.Sound = codes "sound"
verdict_word (verdict.Flawed f) = codes "not sound"
verdict_word verdict.NoVolume = codes "no volume"

-- ---- numbers, bytes and lists

abbrev pub count_json : ℕ → Data
count_json n = number (unsigned n)

abbrev pub hex_json : List ℕ → Data
hex_json bytes = string (encode_lower bytes)

abbrev pub or_null : {A : Type 0} → (A → Data) → Option A → Data
or_null f None = null
or_null f (Some x) = f x

abbrev pub array_of : List Data → Data
array_of values = array (items_of values)

-- the values that each gives with its number, the first of which is n
unfoldable pub numbered : {A : Type 0} → (ℕ → A → List Data) → ℕ → List A → List Data
numbered f n [] = []
numbered f n (x ∷ xs) = f n x ++ numbered f (n + 1) xs

-- ---- pages

-- the pages in a set
abbrev pub pages_json : Numbers → Data
pages_json pages = array_of (map count_json (filter (set.contains pages) (range_with_len 0 most_pages)))

abbrev pub bytes_json : BytesSeen → Data
bytes_json x = object
    (member (codes "crc") (hex_json (to_be_bytes w16 x.crc))
    (member (codes "sha256") (hex_json x.sha256) no_members))

-- a name is ASCII, and so the text that it is
abbrev pub name_json : List ℕ → Data
name_json name = string (if is_utf8 name then name else [])

abbrev pub complete_json : PagesSeen → Data
complete_json x = object
    (member (codes "bytes") (or_null bytes_json x.bytes)
    (member (codes "length") (count_json x.descriptor.length)
    (member (codes "name") (name_json x.descriptor.name)
    (member (codes "unsound") (pages_json x.unsound) no_members))))

abbrev pub chain_json : ChainSeen → Data
chain_json x = object
    (member (codes "length") (count_json x.length)
    (member (codes "root") (hex_json x.root) no_members))

-- ---- volumes

abbrev pub image_json : ℕ → ImageSeen → Data
image_json n x = object
    (member (codes "chain") (or_null chain_json x.chain)
    (member (codes "complete") (or_null complete_json x.complete)
    (member (codes "crc") (hex_json (to_be_bytes w16 x.crc))
    (member (codes "done") (count_json x.done)
    (member (codes "image") (count_json n)
    (member (codes "pages") (count_json x.pages)
    (member (codes "version") (count_json x.version) no_members)))))))

abbrev pub kept_json : ℕ → Option ImageSeen → List Data
kept_json n None = []
kept_json n (Some x) = image_json n x ∷ []

abbrev pub images_json : List (Option ImageSeen) → Data
images_json images = array_of (numbered kept_json 0 images)

abbrev pub program_json : ProgramSeen → Data
program_json x = object
    (member (codes "complete") (complete_json x.pages)
    (member (codes "image") (count_json x.set.image)
    (member (codes "pages") (count_json x.pages.descriptor.pages)
    (member (codes "version") (count_json x.set.version) no_members))))

abbrev pub version_json : ImageVersion → Data
version_json x = object
    (member (codes "image") (count_json x.image)
    (member (codes "version") (count_json x.version) no_members))

abbrev pub start_json : NextStart → Data
start_json x = object
    (member (codes "reason") (string (reason_word x.reason))
    (member (codes "runs") (or_null version_json x.runs)
    (member (codes "waives") (boolean x.waives) no_members)))

-- number 0 means that there is no order
abbrev pub order_json : Order → OrderState → Data
order_json o state = if o.number == 0 then null else object
    (member (codes "image") (count_json o.image)
    (member (codes "number") (count_json o.number)
    (member (codes "state") (string (order_word state))
    (member (codes "version") (count_json o.version) no_members))))

abbrev pub volume_json : VolumeSeen → Data
volume_json x = object
    (member (codes "form") (count_json x.form)
    (member (codes "images") (images_json x.images.items)
    (member (codes "life") (count_json most_room)
    (member (codes "next") (start_json x.next)
    (member (codes "order") (order_json x.order x.order_state)
    (member (codes "program") (or_null program_json x.program)
    (member (codes "room") (count_json x.room)
    (member (codes "short_starts") (count_json x.gesture) no_members))))))))

abbrev pub break_json : Break → Data
break_json b = object
    (member (codes "byte") (count_json b.byte)
    (member (codes "condition") (string (condition_word b.condition))
    (member (codes "sector") (count_json b.sector) no_members)))

-- ---- files

abbrev pub moment_json : Moment → Data
moment_json m = object
    (member (codes "length") (count_json m.length)
    (member (codes "modified") (or_null count_json m.modified)
    (member (codes "reads") (count_json m.reads)
    (member (codes "settled") (boolean m.settled) no_members))))

abbrev pub chip_volume : ChipSeen → Data
chip_volume (chip.Volume x) = volume_json x
chip_volume (chip.Broken b) = null

abbrev pub chip_break : ChipSeen → Data
chip_break (chip.Volume x) = null
chip_break (chip.Broken b) = break_json b

abbrev pub file_volume : FileSeen → Data
file_volume file.Other = null
file_volume file.Blank = null
file_volume (file.Chip older chip) = chip_volume chip

abbrev pub file_break : FileSeen → Data
file_break file.Other = null
file_break file.Blank = null
file_break (file.Chip older chip) = chip_break chip

abbrev pub report_json : Report → Data
report_json r = object
    (member (codes "break") (file_break r.seen)
    (member (codes "file") (string (string_bytes r.name))
    (member (codes "kind") (string (kind_word r.seen))
    (member (codes "moment") (moment_json r.moment)
    (member (codes "volume") (file_volume r.seen) no_members)))))

abbrev pub reports_json : List Report → Data
reports_json reports = array_of (map report_json reports)

abbrev pub versions_json : List (Option ℕ) → Data
versions_json versions = array_of (map (or_null count_json) versions)

-- of the images from 1 on
abbrev pub next_json : NextNumbers → Data
next_json x = object
    (member (codes "number") (or_null count_json x.number)
    (member (codes "versions") (versions_json (drop 1 x.versions)) no_members))

-- ---- verdicts

abbrev pub parts_json : (image page : Data) → (what : List ℕ) → Data
parts_json image page what = object
    (member (codes "image") image
    (member (codes "page") page
    (member (codes "what") (string what) no_members)))

abbrev pub flaw_json : Flaw → Data
flaw_json (flaw.Image i p) = parts_json (count_json i) (count_json p) (codes "image")
flaw_json (flaw.Program p) = parts_json null (count_json p) (codes "program")
flaw_json (flaw.Root i) = parts_json (count_json i) null (codes "root")

abbrev pub verdict_flaw : Verdict → Data
verdict_flaw verdict.Sound = null
verdict_flaw (verdict.Flawed f) = flaw_json f
verdict_flaw verdict.NoVolume = null

abbrev pub verdict_json : (name : List ℕ) → Moment → Verdict → Data
verdict_json name moment v = object
    (member (codes "file") (string name)
    (member (codes "flaw") (verdict_flaw v)
    (member (codes "moment") (moment_json moment)
    (member (codes "verdict") (string (verdict_word v)) no_members))))

-- ---- comparisons

abbrev pub side_json : Side → Data
side_json side = string (side_word side)

abbrev pub equal_json : Data → Bool → Data
equal_json differs equal = object
    (member (codes "differs") differs
    (member (codes "equal") (boolean equal) no_members))

abbrev pub shared_json : SharedPages → Data
shared_json shared.Nothing = null
shared_json shared.Equal = equal_json null true
shared_json (shared.Differ p) = equal_json (count_json p) false

abbrev pub ahead_json : Ahead → Data
ahead_json x = object
    (member (codes "chip") (side_json x.side)
    (member (codes "has_room") (boolean x.has_room)
    (member (codes "other_profile") (boolean x.other_profile) no_members)))

abbrev pub image_compared_json : ℕ → ImageCompared → Data
image_compared_json n x = object
    (member (codes "ahead") (or_null ahead_json x.ahead)
    (member (codes "alike") (boolean x.alike)
    (member (codes "image") (count_json n)
    (member (codes "shared") (shared_json x.shared) no_members))))

abbrev pub compared_json : ℕ → ImageCompared → List Data
compared_json n x = image_compared_json n x ∷ []

abbrev pub images_compared_json : List ImageCompared → Data
images_compared_json images = array_of (numbered compared_json 0 images)

abbrev pub program_compared_json : ProgramCompared → Data
program_compared_json x = object
    (member (codes "alike") (boolean x.alike)
    (member (codes "shared") (shared_json x.shared) no_members))

abbrev pub order_compared_json : OrderCompared → Data
order_compared_json x = object
    (member (codes "ahead") (or_null side_json x.ahead)
    (member (codes "alike") (boolean x.alike) no_members))

-- a file, and the moment at which it was read
abbrev pub source_json : (name : List ℕ) → Moment → Data
source_json name moment = object
    (member (codes "file") (string name)
    (member (codes "moment") (moment_json moment) no_members))

abbrev pub sources_json : (name : List ℕ) → (moment : Moment) → (other : List ℕ) → (seen : Moment) → Data
sources_json name moment other seen = array_of (source_json name moment ∷ source_json other seen ∷ [])

-- of what two files show
abbrev pub comparison_json : (files : Data) → Comparison → Data
comparison_json files x = object
    (member (codes "alike") (boolean x.alike)
    (member (codes "files") files
    (member (codes "images") (images_compared_json x.images.items)
    (member (codes "order") (order_compared_json x.order)
    (member (codes "program") (program_compared_json x.program) no_members)))))

-- ---- the line that is written: the value with no space, and LF

abbrev pub line_of : Data → List ℕ
line_of value = compact_text value ++ 10 ∷ []
