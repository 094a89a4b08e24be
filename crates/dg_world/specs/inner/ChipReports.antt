-- What is reported of a chip, from what its volume exposes (docs/ARCHITECTURE.md, "The way of a script line").
use Rattle.std.specs.Prelude.{ℕ, ◌==◌, ◌&&◌, if◌then◌else◌, List, ◌++◌, slice_index_or, Option, Some, None}
use Rattle.std.specs.List.{filter_map, range_with_len}
use Rattle.dg_volume.specs.Sizes.{images}
use Rattle.dg_volume.specs.declared.volume.Kept.{Kept}
use Rattle.dg_rules.specs.Changes.{order_change}
use Rattle.dg_script.specs.declared.report.Report.{Report}
use Rattle.dg_script.specs.declared.report.Report.TheVariants.{Lost, Have}
use Rattle.dg_node.specs.declared.report.ChipReport.{ChipReport}

abbrev pub have_line : ℕ → ℕ → Option Kept → Option Kept → Option Report
have_line m i None None = None
have_line m i (Some old) None = Some (Lost m i)
have_line m i None (Some new) = Some (Have m i new.version new.done)
have_line m i (Some old) (Some new) =
    if (old.version == new.version) && (old.done == new.done) then None else Some (Have m i new.version new.done)

-- of the first n images
abbrev pub have_lines : ℕ → ChipReport → ChipReport → ℕ → List Report
have_lines m old new n =
    filter_map (λ i. have_line m i (slice_index_or old.kept i None) (slice_index_or new.kept i None)) (range_with_len 0 n)

abbrev pub change_lines : ℕ → ChipReport → ChipReport → List Report
change_lines m old new = order_change m old.order new.order ++ have_lines m old new images
