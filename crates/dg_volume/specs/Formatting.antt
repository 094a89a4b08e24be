-- A chip that is being formatted (docs/IMAGES.md, "The flash map").
use Rattle.std.specs.Prelude.{ℕ, ◌+◌, ◌*◌, ◌/◌, ◌%◌, ◌⊎◌, List}
use Rattle.dg_nor.specs.Chip.{Touches}
use Rattle.dg_object.specs.Object.{Row, pages_for}
use Rattle.dg_slot.specs.Layout.{page_operations, header_sector, slot_end}
use Rattle.dg_slot.specs.Kept.{KeepsImage}
use Rattle.dg_volume.specs.Sizes.{places}
use Rattle.dg_volume.specs.Store.{held_whole}

-- the header of golden, its pages, and the control sectors with this many places spent
abbrev pub format_operations : (length used : ℕ) → ℕ
format_operations length used = 2 + page_operations * pages_for length + (5 + used / places + used % places)

-- Golden is whole in its slot, or only that slot was touched, and so no control sector.
pub record GoldenFirst (golden : Row) (old new : List ℕ) : Type 0 where
  pub either : KeepsImage new 0 (held_whole golden) ⊎ Touches (header_sector 0) (slot_end 0) old new
