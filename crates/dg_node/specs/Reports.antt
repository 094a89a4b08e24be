-- The report of a chip, from what its volume exposes.
use Rattle.std.specs.Prelude.{◌≡◌, ℕ, ◌<◌, slice_index_or, None}
use Rattle.dg_volume.specs.Sizes.{images}
use Rattle.dg_volume.specs.Store.{Store, held}
use Rattle.dg_volume.specs.Told.{told}
use Rattle.dg_node.specs.declared.report.ChipReport.{ChipReport}

-- the order, and what is reported of each image, are the store's
pub record IsReportOf (x : ChipReport) (s : Store) : Type 0 where
  pub order : x.order ≡ s.order
  pub kept : (i : ℕ) → i < images → slice_index_or x.kept i None ≡ told (held s i)
