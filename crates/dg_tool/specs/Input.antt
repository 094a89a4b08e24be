-- The outcome of reading the image of an input (docs/COMMANDS.md, "Over one chip").
use Rattle.std.specs.Prelude.{◌≡◌, ◌≢◌, ◌⊎◌, ℕ, ◌+◌, ◌<◌, ◌≤◌, List, length, Result, Ok, Err}
use Rattle.dg_words.specs.Counts.{Rose}
use Rattle.dg_base.specs.Sizes.{most_input}
use Rattle.dg_base.specs.Outside.{Takes, AtEnd}
use Rattle.dg_ihex.specs.Files.{hex_file}
use Rattle.dg_ihex.specs.declared.faults.HexFileFault.{HexFileFault}
use Rattle.dg_ihex.specs.declared.faults.HexCause.{HexCause}
use Rattle.dg_ihex.specs.declared.faults.HexCause.TheVariants as causes
use Rattle.dg_input.specs.declared.ReadStop.{ReadStop}
use Rattle.dg_input.specs.declared.ReadStop.TheVariants as read_stop
use Rattle.dg_outside.specs.Outside.{InputState}
use Rattle.dg_end.specs.declared.ends.End.{End}
use Rattle.dg_end.specs.declared.ends.End.TheVariants as ends
use Rattle.dg_tool.specs.declared.input.ImageFault.{ImageFault}
use Rattle.dg_tool.specs.declared.input.ImageFault.TheVariants as image_fault

-- ---- faults

abbrev pub fault_of_read : ReadStop → ImageFault
fault_of_read read_stop.Memory = image_fault.Memory
fault_of_read read_stop.ReadFault = image_fault.ReadFault

abbrev pub fault_by : HexCause → HexFileFault → ImageFault
fault_by causes.Memory fault = image_fault.Memory
fault_by cause fault = image_fault.BadHex fault

abbrev pub fault_of_hex : HexFileFault → ImageFault
fault_of_hex fault = fault_by fault.cause fault

abbrev pub end_of_image : ImageFault → End
end_of_image image_fault.Memory = ends.Memory
end_of_image image_fault.ReadFault = ends.ReadFault
end_of_image image_fault.TooLong = ends.TooLong
end_of_image (image_fault.BadHex fault) = ends.BadHex fault

-- ---- the outcome of an input

-- this much of it was taken
abbrev pub TakenToEnd : List ℕ → (at_end : Type 0) → Type 0
TakenToEnd bytes at_end = at_end ⊎ (most_input < length bytes)

-- of which these bytes were taken
abbrev pub ReadsImage : {T : Type 0} → (T → List ℕ) → Result T ImageFault → List ℕ → (at_end failed : Type 0) → Type 0
ReadsImage view (Ok image) bytes at_end failed =
    (length bytes ≤ most_input) × (hex_file bytes ≡ Ok (view image)) × TakenToEnd bytes at_end
ReadsImage view (Err image_fault.Memory) bytes at_end failed = Unit {0}
ReadsImage view (Err image_fault.ReadFault) bytes at_end failed = failed
ReadsImage view (Err image_fault.TooLong) bytes at_end failed = (most_input < length bytes) × TakenToEnd bytes at_end
ReadsImage view (Err (image_fault.BadHex fault)) bytes at_end failed =
    (length bytes ≤ most_input) × (hex_file bytes ≡ Err fault) × TakenToEnd bytes at_end

-- the image of an input was read
pub record ImageRead {T : Type 0} (view : T → List ℕ) (told : Result T ImageFault) (a b : InputState) : Type 0 where
  pub bytes : List ℕ
  pub taken : Takes a.left b.left bytes
  pub few_bytes : length bytes ≤ most_input + 1
  pub reads : ReadsImage view told bytes (AtEnd b.left) (Rose a.reads b.reads)
  pub read_faults : told ≢ Err image_fault.ReadFault → b.reads ≡ a.reads
