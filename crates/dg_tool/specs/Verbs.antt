-- What the verbs over the first board do, by the bytes of the input and by what the board stands for (docs/COMMANDS.md, "Over
-- one chip").
use Rattle.std.specs.Prelude.{ℕ, ◌==◌, ◌&&◌, ◌-◌, nat_lt, Bool, if◌then◌else◌, List, [], ◌∷◌, ◌++◌, length, codes}
use Rattle.std.specs.Prelude.{◌/◌, ◌%◌, Option, Some, None, Ok, Err}
use Rattle.std.specs.List.{flat_map, range_with_len}
use Rattle.dg_base.specs.Hexadecimal.{hex_text}
use Rattle.dg_object.specs.Object.{Row, pages_for, content}
use Rattle.dg_control.specs.declared.snapshot.Order.{Order}
use Rattle.dg_slot.specs.Kept.{Held}
use Rattle.dg_slot.specs.Layout.{most_bytes}
use Rattle.dg_volume.specs.Sizes.{images, most_room, old_form, new_form}
use Rattle.dg_volume.specs.Store.{Store, App, held}
use Rattle.dg_volume.specs.Start.{Boot, Runs, boot, length_in, runs_length, runs_crc}
use Rattle.dg_volume.specs.declared.volume.StartCause.TheVariants as cause
use Rattle.dg_volume.specs.declared.volume.InjectFault.{InjectFault}
use Rattle.dg_volume.specs.declared.volume.OrderFault.{OrderFault}
use Rattle.dg_ihex.specs.Written.{written_file}
use Rattle.dg_end.specs.declared.refusal.Refusal.TheVariants as refusals
use Rattle.dg_end.specs.Texts.{numbers, line}
use Rattle.dg_tool.specs.Pages.{name_in, first_page}
use Rattle.dg_end.specs.declared.ends.End.TheVariants as ends
use Rattle.dg_end.specs.Conversions.{end_of_order, end_of_injection}
use Rattle.dg_tool.specs.Endings.{VerbEnding, Before, Reading, Acting}

-- ---- format

abbrev pub format_sized : (used : ℕ) → (golden : List ℕ) → VerbEnding
format_sized used golden =
    if length golden == 0 then Before (ends.Refused refusals.Empty)
    else if nat_lt most_bytes (length golden) then Before (ends.Refused (refusals.TooLarge (length golden)))
    else Acting (Ok (line (codes "room" ++ numbers ((most_room - used) ∷ []))))

-- ---- inject

-- all pages of the image, the descriptor too
abbrev pub have_text : Row → List ℕ
have_text row = line (codes "have" ++ numbers (0 ∷ row.image ∷ row.version ∷ pages_for (length row.bytes) ∷ []))

abbrev pub inject_ending_by : Row → Option InjectFault → VerbEnding
inject_ending_by row None = Acting (Ok (have_text row))
inject_ending_by row (Some fault) = Reading (end_of_injection (length row.bytes) fault)

-- ---- order

abbrev pub order_by : Order → Option OrderFault → VerbEnding
order_by o None = Acting (Ok (line (codes "order" ++ numbers (0 ∷ o.number ∷ o.image ∷ o.version ∷ []))))
order_by o (Some fault) = Reading (end_of_order fault)

-- ---- boot

-- a start by power
abbrev pub power_boot : Store → Boot
power_boot s = boot cause.Power s

abbrev pub start_text : Runs → List ℕ
start_text r =
    line (codes "start" ++ numbers (0 ∷ r.image ∷ r.version ∷ runs_length r ∷ [])
    ++ 32 ∷ hex_text (runs_crc r / 256 ∷ runs_crc r % 256 ∷ []))

abbrev pub start_by : Option Runs → VerbEnding
start_by None = Acting (Err ends.NoImage)
start_by (Some r) = Acting (Ok (start_text r))

-- ---- migrate

-- a chip of the older form takes one commit
abbrev pub migrate_by : (form : ℕ) → Store → VerbEnding
migrate_by form s =
    if (form == old_form) && (s.room == 0) then Reading (ends.Refused (refusals.Worn s.room))
    else Acting (Ok (line (codes "form" ++ numbers (new_form ∷ []))))

-- ---- ping

abbrev pub golden_text : Option Held → List ℕ
golden_text None = []
golden_text (Some h) = line (codes "golden " ++ name_in (first_page h) ++ numbers (length_in (first_page h) ∷ []))

abbrev pub program_line : Option App → List ℕ
program_line None = line (codes "program blank")
program_line (Some app) = line (codes "program" ++ numbers (app.image ∷ app.version ∷ []))

abbrev pub order_line : Order → Bool → List ℕ
order_line o waived =
    if o.number == 0 then line (codes "order none")
    else line (codes "order" ++ numbers (o.number ∷ o.image ∷ o.version ∷ []) ++ (if waived then codes " waived" else []))

-- `-` where no page has the name yet
abbrev pub name_by : List (List ℕ) → List ℕ
name_by [] = 45 ∷ []
name_by (first ∷ rest) = name_in first

abbrev pub ping_line : ℕ → Option Held → List ℕ
ping_line i None = []
ping_line i (Some h) =
    line (codes "kept" ++ numbers (i ∷ h.version ∷ length h.complete ∷ h.pages ∷ []) ++ 32 ∷ name_by h.complete)

abbrev pub commits_text : Store → List ℕ
commits_text s =
    program_line s.app ++ order_line s.order s.waived ++ line (codes "gesture" ++ numbers (s.gesture ∷ []))
    ++ line (codes "room" ++ numbers (s.room ∷ []))

abbrev pub ping_text : Store → List ℕ
ping_text s = golden_text (held s 0) ++ commits_text s ++ flat_map (λ i. ping_line i (held s i)) (range_with_len 1 (images - 1))

-- ---- dump

abbrev pub dump_by : Option Held → VerbEnding
dump_by None = Reading (ends.Refused refusals.Absent)
dump_by (Some h) = if length h.complete == h.pages then Acting (Ok (written_file (content (length_in (first_page h)) h.complete)))
    else Reading (ends.Refused (refusals.NotWhole (length h.complete) h.pages))
