-- Commands to a chip, and what they do to its bytes (docs/C.md, "Plans").
use Rattle.std.specs.Prelude.{◌≡◌, ℕ, ◌+◌, ◌==◌, ◌<◌, ◌≤◌, Bool, true, false, List, [], ◌∷◌, length, take, slice_index}
use Rattle.std.specs.Prelude.{slice_index_or, bit_and}
use Rattle.dg_words.specs.Cells.{part, overwritten}
use Rattle.dg_nor.specs.Sizes.{sector_size, chip_size}
use Rattle.dg_nor.specs.Chip.{blank, programmed}
use Rattle.dg_plan.specs.declared.command.Command.{Command}

-- a sector is erased
abbrev pub erase_kind : ℕ
erase_kind = 1

-- bytes of the data are programmed
abbrev pub program_kind : ℕ
program_kind = 2

-- bytes of the chip are programmed somewhere else
abbrev pub copy_kind : ℕ
copy_kind = 3

-- an erase, a program of the data or a copy, with the data beside the chip
abbrev pub done_by : (erases programs : Bool) → (bytes : List ℕ) → Command → List ℕ → List ℕ
done_by true programs bytes c image = overwritten image c.at (blank sector_size)
done_by false true bytes c image = programmed image c.at (part bytes c.from c.count)
done_by false false bytes c image = programmed image c.at (part image c.from c.count)

-- what a command does to the bytes of a chip
abbrev pub command_done : (bytes : List ℕ) → Command → List ℕ → List ℕ
command_done bytes c image = done_by (c.kind == erase_kind) (c.kind == program_kind) bytes c image

-- the chip that commands leave, carried out in their order
unfoldable pub carried_out : (bytes : List ℕ) → List Command → List ℕ → List ℕ
carried_out bytes [] image = image
carried_out bytes (c ∷ cs) image = carried_out bytes cs (command_done bytes c image)

-- A command stays within the chip. An erase takes a sector, a program takes bytes that are used, and a copy takes what is
-- unchanged from the chip that was handed in.
pub record CommandFits (chip : List ℕ) (used : ℕ) (c : Command) (image : List ℕ) : Type 0 where
  pub place : c.at + c.count ≤ chip_size
  pub erases : (c.kind == erase_kind) ≡ true → c.count ≡ sector_size
  pub programs : (c.kind == erase_kind) ≡ false → (c.kind == program_kind) ≡ true → c.from + c.count ≤ used
  pub copies : (c.kind == erase_kind) ≡ false → (c.kind == program_kind) ≡ false → (c.from + c.count ≤ chip_size)
      × (part image c.from c.count ≡ part chip c.from c.count)

-- after the last command
abbrev pub no_command : Command
no_command = record { kind = 0; at = 0; from = 0; count = 0 }

-- each of the commands fits, once those before it are carried out
abbrev pub CommandsFit : (chip bytes : List ℕ) (used : ℕ) → List Command → List ℕ → Type 0
CommandsFit chip bytes used cs image =
    (k : ℕ) → k < length cs → CommandFits chip used (slice_index_or cs k no_command) (carried_out bytes (take k cs) image)

-- the byte that a command leaves of one, k bytes into its range
abbrev pub laid_by : (erases programs : Bool) → (chip bytes : List ℕ) → Command → (k old : ℕ) → ℕ
laid_by true programs chip bytes c k old = 255
laid_by false true chip bytes c k old = bit_and old (slice_index bytes (c.from + k))
laid_by false false chip bytes c k old = bit_and old (slice_index chip (c.from + k))
