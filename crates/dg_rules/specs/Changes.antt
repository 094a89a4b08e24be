-- What is reported of a chip that changed (docs/SCRIPTS.md, "The report").
use Rattle.std.specs.Prelude.{ℕ, ◌-◌, ◌==◌, ◌&&◌, Bool, true, false, if◌then◌else◌, List, [], ◌∷◌, ◌++◌, length, not, Option}
use Rattle.std.specs.Prelude.{Some, None, option_map}
use Rattle.std.specs.List.{filter_map, flat_map, range_with_len}
use Rattle.std.specs.FinSet as set
use Rattle.dg_control.specs.declared.snapshot.Order.{Order}
use Rattle.dg_slot.specs.Kept.{Held}
use Rattle.dg_object.specs.Object.{Row}
use Rattle.dg_volume.specs.Sizes.{images}
use Rattle.dg_volume.specs.Store.{Store, held}
use Rattle.dg_volume.specs.Changes.{same_bytes}
use Rattle.dg_volume.specs.Start.{Runs, runs_length, runs_crc}
use Rattle.dg_frame.specs.declared.Message.{Message}
use Rattle.dg_frame.specs.declared.Message.TheVariants.{Advert, Request, Packet, Wide}
use Rattle.dg_script.specs.declared.report.Report.{Report}
use Rattle.dg_script.specs.declared.report.Report.TheVariants.{Order as OrderLine, Lost, Have, Start, SentAdvert, SentRequest}
use Rattle.dg_script.specs.declared.report.Report.TheVariants.{SentData, Taken, End, MoteOn, MoteOff, Kept}
use Rattle.dg_rules.specs.World.{World, Running, Site, site}
use Rattle.dg_mote.specs.Summary.{same_order}

abbrev pub order_change : ℕ → Order → Order → List Report
order_change m old new = if same_order old new then [] else OrderLine m new.number new.image new.version ∷ []

abbrev pub same_held : Option Held → Held → Bool
same_held None new = false
same_held (Some old) new = (old.version == new.version) && (length old.complete == length new.complete)

abbrev pub have_change : ℕ → ℕ → Option Held → Option Held → Option Report
have_change m i old None = option_map (λ h. Lost m i) old
have_change m i old (Some new) = if same_held old new then None else Some (Have m i new.version (length new.complete))

-- the stores before and after an event are compared
abbrev pub changes : ℕ → Store → Store → List Report
changes m old new =
    order_change m old.order new.order ++ filter_map (λ i. have_change m i (held old i) (held new i)) (range_with_len 0 images)

abbrev pub start_line : ℕ → Option Runs → List Report
start_line m None = []
start_line m (Some r) = Start m r.image r.version (runs_length r) (runs_crc r) ∷ []

abbrev pub sent_line : ℕ → Option Message → List Report
sent_line m None = []
sent_line m (Some (Advert source entries order)) = SentAdvert m ∷ []
sent_line m (Some (Request source to image version page want)) = SentRequest m to image version page (set.len want) ∷ []
sent_line m (Some (Packet source image version page packet bytes)) = SentData m image version page packet ∷ []
sent_line m (Some (Wide source entries order)) = SentAdvert m ∷ []

-- `sent` lines are reported if they are asked for
abbrev pub is_reported : Bool → Report → Bool
is_reported reported (SentAdvert mote) = reported
is_reported reported (SentRequest mote to image version page count) = reported
is_reported reported (SentData mote image version page packet) = reported
is_reported reported report = true

-- ---- declarations

abbrev pub same_row : Row → Row → Bool
same_row a b = same_bytes a.name b.name && same_bytes a.bytes b.bytes

-- the image version is declared with another name or content
abbrev pub is_taken : Option Row → Row → Bool
is_taken None row = false
is_taken (Some kept) row = not (same_row kept row)

abbrev pub declared_lines : Option Row → Row → List Report
declared_lines kept row = if is_taken kept row then Taken row.image row.version ∷ [] else []

-- ---- the last lines

abbrev pub mote_line : ℕ → Option Running → Report
mote_line m None = MoteOff m
mote_line m (Some r) = MoteOn m r.image_version.image r.image_version.version

abbrev pub kept_line : ℕ → ℕ → Option Held → Option Report
kept_line m i None = None
kept_line m i (Some h) = Some (Kept m i h.version (length h.complete))

-- of a mote: what runs, and what is kept of each image except golden
abbrev pub site_lines : ℕ → Site → List Report
site_lines m x = mote_line m x.runs ∷ filter_map (λ i. kept_line m i (held x.store i)) (range_with_len 1 (images - 1))

abbrev pub final_lines : World → List Report
final_lines w = End w.events ∷ flat_map (λ m. site_lines m (site w m)) (range_with_len 0 (length w.sites))
