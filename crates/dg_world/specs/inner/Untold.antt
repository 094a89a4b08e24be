-- Events of which nothing but a frame is reported (docs/ARCHITECTURE.md, "The way of a script line").
use Rattle.std.specs.Prelude.{Bool, ◌&&◌, is_none, Option}
use Rattle.dg_script.specs.declared.report.Cause.{Cause}
use Rattle.dg_node.specs.declared.report.ChipReport.{ChipReport}
use Rattle.dg_node.specs.declared.answers.StartedImage.{StartedImage}

-- neither a cause, nor what is reported of the chip, nor a start, nor whether the chip is orderly
abbrev pub is_untold : Option Cause → (before after : Option ChipReport) → Option StartedImage → Option Bool → Bool
is_untold refused before after started orderly =
    is_none refused && is_none before && is_none after && is_none started && is_none orderly
