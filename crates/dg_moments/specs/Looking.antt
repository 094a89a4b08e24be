-- What was read of boards before a run (the type `Given`).
use Rattle.std.specs.Prelude.{◌≡◌, ℕ, ◌<◌, false, List, slice_get, slice_index_or, Option, Some, None}
use Rattle.std.specs.Option.{option_flatten}
use Rattle.dg_nor.specs.Device.{Device}
use Rattle.dg_volume.specs.Sizes.{images}
use Rattle.dg_volume.specs.Stands.{Stands}
use Rattle.dg_volume.specs.Store.{Store, held}
use Rattle.dg_volume.specs.Told.{told}
use Rattle.dg_volume.specs.declared.volume.Kept.{Kept}
use Rattle.dg_moments.specs.declared.given.Given.{Given}

-- what was read of an image
abbrev pub read_of : Option Given → (image : ℕ) → Option Kept
read_of None image = None
read_of (Some given) image = slice_index_or given.kept image None

-- Of each image what a store keeps was read of a board that is not stopped, whichever store the board stands for.
abbrev pub ReadsBoard : Option Given → Device → Type 0
ReadsBoard given d =
    d.stopped ≡ false → (s : Store) → Stands d.image s → (i : ℕ) → i < images → read_of given i ≡ told (held s i)

-- so it was read of all boards
abbrev pub ReadsBoards : List (Option Given) → List Device → Type 0
ReadsBoards given boards = (m : ℕ) (d : Device) → slice_get boards m ≡ Some d
    → ReadsBoard (option_flatten (slice_get given m)) d
