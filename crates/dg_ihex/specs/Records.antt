-- Records, and the lines that encode them (Intel Hexadecimal Object File Format Specification, revision A).
use Rattle.std.specs.Prelude.{ℕ, ◌+◌, ◌-◌, ◌*◌, ◌%◌, ◌==◌, nat_lt, if◌then◌else◌, List, [], ◌∷◌, length, sum, slice_index}
use Rattle.std.specs.Prelude.{slice_range, Option, Some, None, Result, Ok, Err}
use Rattle.dg_base.specs.Hexadecimal.{hex_bytes}
use Rattle.dg_ihex.specs.declared.faults.HexCause.{HexCause}
use Rattle.dg_ihex.specs.declared.faults.HexCause.TheVariants.{Start, Hex, Count, Check, Kind, Shape}
use Rattle.dg_ihex.specs.Sizes.{record_fields, segment}
use Rattle.dg_ihex.specs.declared.record.Record.{Record}
use Rattle.dg_ihex.specs.declared.record.Record.TheVariants as records

-- ---- reading

-- Type 00: its bytes stand from its offset on, and do not pass the last offset.
unfoldable pub data_record : ℕ → List ℕ → Result Record HexCause
data_record offset bytes = if nat_lt segment (offset + length bytes) then Err Shape else Ok (records.Data offset bytes)

-- a type whose data is only counted
unfoldable pub marker : ℕ → Record → List ℕ → Result Record HexCause
marker count kind bytes = if length bytes == count then Ok kind else Err Shape

-- the number of two bytes, the high one first
abbrev pub word_of_two_bytes : List ℕ → ℕ
word_of_two_bytes bytes = slice_index bytes 0 * 256 + slice_index bytes 1

-- types 02 and 04, whose two bytes give a base
unfoldable pub segment_record : List ℕ → Result Record HexCause
segment_record bytes = if length bytes == 2 then Ok (records.Segment (word_of_two_bytes bytes)) else Err Shape

unfoldable pub linear_record : List ℕ → Result Record HexCause
linear_record bytes = if length bytes == 2 then Ok (records.Linear (word_of_two_bytes bytes)) else Err Shape

-- The types: 00 bytes, 01 end, 02 extended segment address, 03 start segment address, 04 extended linear address,
-- 05 start linear address.
unfoldable pub typed_record : ℕ → ℕ → List ℕ → Result Record HexCause
typed_record kind offset bytes =
    if kind == 0 then data_record offset bytes
    else if kind == 1 then marker 0 records.End bytes
    else if kind == 2 then segment_record bytes
    else if kind == 3 then marker 4 records.Start bytes
    else if kind == 4 then linear_record bytes
    else if kind == 5 then marker 4 records.Start bytes
    else Err Kind

-- A record's bytes: the count of its data, its offset, the high byte first, its type, its data,
-- and a checksum that makes the sum of all 0 modulo 256.
unfoldable pub record_of_bytes : List ℕ → Result Record HexCause
record_of_bytes bytes =
    if nat_lt (length bytes) record_fields then Err Count
    else if length bytes == slice_index bytes 0 + record_fields then
    if sum bytes % 256 == 0 then typed_record (slice_index bytes 3) (slice_index bytes 1 * 256 + slice_index bytes 2)
    (slice_range bytes 4 (length bytes - 1))
    else Err Check
    else Err Count

abbrev pub record_of_digits : Option (List ℕ) → Result Record HexCause
record_of_digits None = Err Hex
record_of_digits (Some bytes) = record_of_bytes bytes

-- the record that a line encodes, which is not blank: `:` and hex digits of either case
unfoldable pub record_of : List ℕ → Result Record HexCause
record_of [] = Err Start
record_of (c ∷ digits) = if c == 58 then record_of_digits (hex_bytes digits) else Err Start
