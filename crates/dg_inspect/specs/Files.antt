-- What the bytes of a file are (docs/COMMANDS.md, "Looking into chips").
use Rattle.std.specs.Prelude.{◌≡◌, ℕ, ◌-◌, ◌≤◌, nat_lt, List, ◌++◌, length, replicate}
use Rattle.dg_nor.specs.Sizes.{chip_size, old_chip_size}
use Rattle.dg_nor.specs.Chip.{blank}
use Rattle.dg_inspect.specs.Seen.{ShowsChip}
use Rattle.dg_inspect.specs.declared.seen.FileSeen.{FileSeen}
use Rattle.dg_inspect.specs.declared.seen.FileSeen.TheVariants.{Other, Blank, Chip}

-- as many bytes as a chip may have
pub record IsChipLength (n : ℕ) : Type 0 where
  pub least : old_chip_size ≤ n
  pub most : n ≤ chip_size

-- the chip: the bytes that an older one lacks are 255
abbrev pub chip_of : List ℕ → List ℕ
chip_of bytes = bytes ++ blank (chip_size - length bytes)

abbrev pub AreBlank : List ℕ → Type 0
AreBlank bytes = bytes ≡ replicate (length bytes) 255

abbrev pub ShowsFile : List ℕ → FileSeen → Type 0
ShowsFile bytes Other = IsChipLength (length bytes) → ⊥
ShowsFile bytes Blank = IsChipLength (length bytes) × AreBlank bytes
ShowsFile bytes (Chip older chip) = IsChipLength (length bytes) × (AreBlank bytes → ⊥)
    × (older ≡ nat_lt (length bytes) chip_size) × ShowsChip (chip_of bytes) chip
