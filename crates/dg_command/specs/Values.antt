-- The values of a command that `clap` read, by the names of its options (the words of docs/COMMANDS.md).
use Rattle.std.specs.Prelude.{ℕ, ◌^◌, ◌==◌, ◌&&◌, nat_lt, if◌then◌else◌, List, [], Option, Some, None, option_and_then, unwrap_or}
use Rattle.std.specs.Str.Parse.{digits_value, without_leading_plus}
use Rattle.clap.specs.ValueTests.{is_numeral}
use Rattle.dg_command.specs.Sizes.{old_form, new_form}
use Rattle.clap.specs.Words.{Row, Text, all_of, first_of, one_of}

-- the number that a text writes, below 2 ^ bits: decimal digits, before which a plus may stand
abbrev pub number_of_text : ℕ → Text → Option ℕ
number_of_text bits text =
    if is_numeral (without_leading_plus text) && nat_lt (digits_value 10 (without_leading_plus text)) (2 ^ bits)
    then Some (digits_value 10 (without_leading_plus text)) else None

-- the number under a name, or 0 where there is none
unfoldable pub number_under : ℕ → Text → List Row → ℕ
number_under bits name rows = unwrap_or (option_and_then (number_of_text bits) (one_of name rows)) 0

-- the form of a chip: the older one where it is asked for, and today's otherwise
abbrev pub form_asked : ℕ → ℕ
form_asked n = if n == old_form then old_form else new_form

-- the text under a name, or the empty one
unfoldable pub text_at : Text → List Row → Text
text_at name rows = unwrap_or (first_of name rows) []

-- all the texts under a name
unfoldable pub texts_at : Text → List Row → List Text
texts_at name rows = unwrap_or (all_of name rows) []
