-- HEX files: their records, their first fault, and their image (Intel Hexadecimal Object File Format Specification, revision
-- A).
use Rattle.std.specs.Prelude.{ℕ, ◌+◌, ◌*◌, nat_lt, Bool, true, false, if◌then◌else◌, List, [], ◌∷◌, ◌++◌, length, fold, Option}
use Rattle.std.specs.Prelude.{Some, None, option_to_list, Result, Ok, Err}
use Rattle.std.specs.Result.{result_ok}
use Rattle.std.specs.List.{list_any, flat_map}
use Rattle.std.specs.Str.Lines.{lines}
use Rattle.dg_ihex.specs.declared.faults.HexCause.{HexCause}
use Rattle.dg_ihex.specs.declared.faults.HexCause.TheVariants.{Overlap, Span, End}
use Rattle.dg_ihex.specs.declared.faults.HexFileFault.{HexFileFault}
use Rattle.dg_base.specs.Sizes.{most_content}
use Rattle.dg_ihex.specs.Sizes.{paragraph, segment}
use Rattle.dg_ihex.specs.declared.record.Record.{Record}
use Rattle.dg_ihex.specs.declared.record.Record.TheVariants as records
use Rattle.dg_ihex.specs.Records.{record_of}
use Rattle.dg_ihex.specs.Blocks.{Block, overlaps, span_of, image_of_blocks}

-- ---- what records say together

-- the base after a record, by the base before it
abbrev pub base_behind : ℕ → Record → ℕ
base_behind base (records.Segment units) = units * paragraph
base_behind base (records.Linear units) = units * segment
base_behind base found = base

-- the base after records, which is 0 at first
abbrev pub base_of : List Record → ℕ
base_of before = fold base_behind 0 before

-- the block of a record over a base. Data of no bytes has no address.
abbrev pub block_of : ℕ → Record → List Block
block_of base (records.Data offset (byte ∷ bytes)) = record { address = base + offset; bytes = byte ∷ bytes } ∷ []
block_of base found = []

abbrev pub blocks_over : ℕ → List Record → List Block
blocks_over base [] = []
blocks_over base (first ∷ others) = block_of base first ++ blocks_over (base_behind base first) others

-- the blocks of records, each over the base after the records before it
unfoldable pub blocks_of : List Record → List Block
blocks_of all = blocks_over 0 all

abbrev pub is_end : Record → Bool
is_end records.End = true
is_end found = false

abbrev pub has_end : List Record → Bool
has_end all = list_any is_end all

-- ---- faults

-- the first cause whose test holds
abbrev pub first_cause : Bool → Bool → Bool → Option HexCause
first_cause overlap span end = if overlap then Some Overlap else if span then Some Span else if end then Some End else None

-- What is wrong with blocks after those that are given. An address was given before; or the highest address minus the
-- lowest, plus 1, is more than the longest image has bytes; or the end came before.
abbrev pub cause_of_blocks : List Block → List Block → Bool → Option HexCause
cause_of_blocks given own end = first_cause (list_any (overlaps given) own) (nat_lt most_content (span_of (given ++ own))) end

-- what is wrong with a record after others
unfoldable pub cause_behind : List Record → Record → Option HexCause
cause_behind before next = cause_of_blocks (blocks_of before) (block_of (base_of before) next) (has_end before)

-- the record of a line. A blank line has none.
abbrev pub record_in : List ℕ → List Record
record_in [] = []
record_in (c ∷ text) = option_to_list (result_ok (record_of (c ∷ text)))

-- the records of lines
abbrev pub records_of : List (List ℕ) → List Record
records_of texts = flat_map record_in texts

abbrev pub judged : List Record → Result Record HexCause → Option HexCause
judged before (Ok found) = cause_behind before found
judged before (Err cause) = Some cause

-- what is wrong with a line after others
abbrev pub cause_of : List (List ℕ) → List ℕ → Option HexCause
cause_of before [] = None
cause_of before (c ∷ text) = judged (records_of before) (record_of (c ∷ text))

-- ---- files

abbrev pub fault_behind : List (List ℕ) → HexCause → Result (List ℕ) HexFileFault
fault_behind before cause = Err (record { line = length before + 1; cause = cause })

abbrev pub ended : List (List ℕ) → Result (List ℕ) HexFileFault
ended texts = if has_end (records_of texts) then Ok (image_of_blocks (blocks_of (records_of texts))) else fault_behind texts End

abbrev pub unless : Option HexCause → List (List ℕ) → Result (List ℕ) HexFileFault → Result (List ℕ) HexFileFault
unless (Some cause) before rest = fault_behind before cause
unless None before rest = rest

-- what a file gives with the lines `before`, in which nothing is wrong, and then these
unfoldable pub file_from : List (List ℕ) → List (List ℕ) → Result (List ℕ) HexFileFault
file_from before [] = ended before
file_from before (text ∷ texts) = unless (cause_of before text) before (file_from (before ++ text ∷ []) texts)

-- the image of a HEX file, or the first line with a fault, counted from 1, and its cause
unfoldable pub hex_file : List ℕ → Result (List ℕ) HexFileFault
hex_file bytes = file_from [] (lines bytes)
