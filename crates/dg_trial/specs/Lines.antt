-- Which last lines of a world report an image that is kept whole (docs/COMMANDS.md, "Trial").
use Rattle.std.specs.Prelude.{ℕ, nat_le, ◌==◌, ◌&&◌, Bool, false}
use Rattle.dg_script.specs.declared.report.Report.{Report}
use Rattle.dg_script.specs.declared.report.Report.TheVariants.{Kept}

-- a mote keeps this many pages of image 1, version 1, or more
abbrev pub tells_whole : ℕ → Report → Bool
tells_whole pages (Kept mote image version kept) = (image == 1) && ((version == 1) && nat_le pages kept)
tells_whole pages _ = false
