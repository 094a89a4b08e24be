-- The shape of whatever a chip stands for, whether it agrees with a table or not (docs/IMAGES.md, "Stores").
use Rattle.std.specs.Prelude.{◌≡◌, IsTrue, length}
use Rattle.dg_control.specs.Ranges.{order_fits}
use Rattle.dg_volume.specs.Sizes.{images}
use Rattle.dg_volume.specs.Store.{Store}

-- a store has a slot for each image, and its order, if there is one, names one of them
pub record IsShaped (s : Store) : Type 0 where
  pub count : length s.kept ≡ images
  pub order : IsTrue (order_fits s.order)
