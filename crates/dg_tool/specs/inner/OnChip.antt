-- What was done on a chip, by what it stands for: definitions for the proofs.
use Rattle.std.specs.Prelude.{ℕ, ◌-◌, List, [], ◌∷◌, ◌++◌, codes, Option}
use Rattle.std.specs.List.{flat_map, range_with_len}
use Rattle.dg_volume.specs.Sizes.{images, new_form}
use Rattle.dg_nor.specs.Device.{Device}
use Rattle.dg_nor.specs.Trail.{Trail}
use Rattle.dg_volume.specs.Start.{Boot}
use Rattle.dg_volume.specs.Store.{Store, held}
use Rattle.dg_tool.specs.Done.{Completed, OnVolume, Migrated, Booted}
use Rattle.dg_object.specs.Object.{Row}
use Rattle.dg_volume.specs.Changes.{inject_refusal}
use Rattle.dg_tool.specs.Endings.{VerbEnding, by_store}
use Rattle.dg_tool.specs.Verbs.{inject_ending_by, ping_line}
use Rattle.dg_control.specs.declared.snapshot.Order.{Order}
use Rattle.dg_end.specs.Texts.{numbers, line}
use Rattle.std.specs.Prelude.{unwrap_or, Result}
use Rattle.std.specs.Result.{result_ok}
use Rattle.dg_ihex.specs.declared.faults.HexFileFault.{HexFileFault}
use Rattle.std.specs.Prelude.{nat_lt, if◌then◌else◌}
use Rattle.dg_end.specs.declared.ends.End.TheVariants as ends
use Rattle.dg_tool.specs.Endings.{Before}

abbrev pub CompletedOn : (Store → Trail Store) → Option Store → Device → Device → Type 0
CompletedOn trail = OnVolume (λ s. Completed (trail s))

abbrev pub MigratedOn : ℕ → Option Store → Device → Device → Type 0
MigratedOn form = OnVolume (Migrated form)

abbrev pub BootedOn : (Store → Boot) → Option Store → Device → Device → Type 0
BootedOn boot = OnVolume (λ s. Booted (boot s))

abbrev pub inject_into : Row → Option Store → VerbEnding
inject_into row chip = by_store chip (λ s. inject_ending_by row (inject_refusal s row))

-- the images after golden
abbrev pub kept_lines : Store → List ℕ
kept_lines s = flat_map (λ i. ping_line i (held s i)) (range_with_len 1 (images - 1))

abbrev pub room_text : ℕ → List ℕ
room_text room = line (codes "room" ++ numbers (room ∷ []))

abbrev pub order_text : Order → List ℕ
order_text o = line (codes "order" ++ numbers (0 ∷ o.number ∷ o.image ∷ o.version ∷ []))

abbrev pub form_text : List ℕ
form_text = line (codes "form" ++ numbers (new_form ∷ []))

abbrev pub content_by : Result (List ℕ) HexFileFault → List ℕ
content_by found = unwrap_or (result_ok found) []

abbrev pub verb_by_boards : ℕ → VerbEnding → VerbEnding
verb_by_boards boards next = if nat_lt 0 boards then next else Before (ends.NoBoard 1 0)
