-- The numbers of HEX files. Those of records are of the Intel Hexadecimal Object File Format Specification, revision A; the
-- limits are of this profile.
use Rattle.std.specs.Prelude.{ℕ}
use Rattle.dg_base.specs.Sizes.{most_content, most_input}

-- the bytes of an image, at most, from its lowest address to its highest
abbrev pub longest_image : ℕ
longest_image = most_content

-- the bytes of a text that is read, at most
abbrev pub most_text : ℕ
most_text = most_input

-- the bytes in a unit of a base of type 02, and in a unit of a base of type 04
abbrev pub paragraph : ℕ
paragraph = 16

abbrev pub segment : ℕ
segment = 65536

-- the bytes of a record besides its data: the count, the offset, the type and the checksum
abbrev pub record_fields : ℕ
record_fields = 5

-- the bytes of the line of a record, at most: `:`, and two digits for each of 255 data bytes and the others
abbrev pub longest_record : ℕ
longest_record = 521

-- the data bytes of a record that is written, at most
abbrev pub piece_bytes : ℕ
piece_bytes = 16

-- the byte at addresses that no record gives: what an erased chip has
abbrev pub gap_byte : ℕ
gap_byte = 255

-- the addresses of 32 bits, and the highest base that a record gives
abbrev pub addresses : ℕ
addresses = 4294967296

abbrev pub highest_base : ℕ
highest_base = 4294901760
