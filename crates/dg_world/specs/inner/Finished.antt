-- The last lines of a mote, from what its volume exposes (docs/SCRIPTS.md, "The report").
use Rattle.std.specs.Prelude.{ℕ, List, slice_index_or, Option, Some, None}
use Rattle.std.specs.List.{filter_map, range_with_len}
use Rattle.dg_volume.specs.declared.volume.Kept.{Kept}
use Rattle.dg_script.specs.declared.report.Report.{Report}
use Rattle.dg_script.specs.declared.report.Report.TheVariants.{MoteOn, MoteOff, Kept as KeptLine}
use Rattle.dg_node.specs.declared.report.ChipReport.{ChipReport}
use Rattle.dg_node.specs.declared.node.Node.{Node}

abbrev pub mote_report : ℕ → Option Node → Report
mote_report m None = MoteOff m
mote_report m (Some v) = MoteOn m v.image_version.image v.image_version.version

abbrev pub kept_report : ℕ → ℕ → Option Kept → Option Report
kept_report m i None = None
kept_report m i (Some k) = Some (KeptLine m i k.version k.done)

-- of n images after golden
abbrev pub kept_reports : ℕ → ChipReport → ℕ → List Report
kept_reports m x n = filter_map (λ i. kept_report m i (slice_index_or x.kept i None)) (range_with_len 1 n)
