-- Words of private contracts and proofs.
use Rattle.std.specs.Prelude.{ℕ, List, [], ◌∷◌, ◌++◌}
use Rattle.dg_ihex.specs.Written.{line_of_record}
use Rattle.std.specs.Prelude.{Bool, is_some, option_to_list, Result}
use Rattle.std.specs.Result.{result_ok}
use Rattle.dg_ihex.specs.Blocks.{Block, byte_at}
use Rattle.dg_ihex.specs.declared.faults.HexCause.{HexCause}
use Rattle.dg_ihex.specs.declared.record.Record.{Record}
use Rattle.std.specs.Prelude.{◌+◌, ◌-◌, ◌*◌, ◌/◌}
use Rattle.std.specs.Prelude.{map, take, drop}
use Rattle.std.specs.Char.{to_ascii_uppercase}
use Rattle.dg_base.specs.Hexadecimal.{hex_text}
use Rattle.dg_ihex.specs.Sizes.{piece_bytes}

abbrev pub data_line : ℕ → List ℕ → List ℕ
data_line offset bytes = line_of_record 0 offset bytes

-- a line, ended by LF
abbrev pub ended_by_feed : List ℕ → List ℕ
ended_by_feed text = text ++ 10 ∷ []

abbrev pub is_given : List Block → ℕ → Bool
is_given blocks address = is_some (byte_at blocks address)

abbrev pub to_list : Result Record HexCause → List Record
to_list found = option_to_list (result_ok found)

-- bytes as hex digits in upper case
abbrev pub upper_hex : List ℕ → List ℕ
upper_hex bytes = map to_ascii_uppercase (hex_text bytes)

abbrev pub end_line : List ℕ
end_line = line_of_record 1 0 []

-- how many pieces of 16 bytes there are, of which the last may be shorter, and such a piece
abbrev pub records_of_data : ℕ → ℕ
records_of_data n = (n + (piece_bytes - 1)) / piece_bytes

abbrev pub piece_at : List ℕ → ℕ → List ℕ
piece_at bytes k = take piece_bytes (drop (k * piece_bytes) bytes)
