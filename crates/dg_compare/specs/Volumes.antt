-- The volume in the bytes of a file (docs/COMMANDS.md, "Looking into chips").
use Rattle.std.specs.Prelude.{◌≡◌, ℕ, List, length}
use Rattle.dg_volume.specs.Store.{Store}
use Rattle.dg_volume.specs.Stands.{Stands, IsVolume}
use Rattle.dg_inspect.specs.Chip.{still_device}
use Rattle.dg_inspect.specs.Files.{IsChipLength, chip_of}
use Rattle.dg_inspect.specs.Seen.{ShowsStore}
use Rattle.dg_compare.specs.declared.opening.Opened.{Opened}

-- the bytes are a chip, maybe an older one, and it is a volume
pub record IsVolumeFile (bytes : List ℕ) : Type 0 where
  pub count : IsChipLength (length bytes)
  pub volume : IsVolume (chip_of bytes)

pub record ShowsVolume (bytes : List ℕ) (x : Opened) : Type 0 where
  pub file : IsVolumeFile bytes
  pub image : (still_device x.chip).image ≡ chip_of bytes
  pub shows : (s : Store) → Stands (chip_of bytes) s → ShowsStore s x.volume
