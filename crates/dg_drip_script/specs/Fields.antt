-- The fields of a line: all are numbers (docs/SCRIPTS.md, "Scripts of nodes").
use Rattle.std.specs.Prelude.{ℕ, nat_le, nat_lt, ◌&&◌, List, [], ◌∷◌, Option, Some, None, option_map}
use Rattle.dg_script.specs.Results.{◌>>?◌, kept_if}

-- a field: its number, or None if it is not one
abbrev pub Field : Type 0
Field = Option ℕ

-- exactly one field, exactly two, and so on
abbrev pub one_number : List Field → Option Field
one_number [] = None
one_number (a ∷ []) = Some a
one_number (a ∷ b ∷ more) = None

abbrev pub two_numbers : List Field → Option (Field × Field)
two_numbers [] = None
two_numbers (a ∷ more) = option_map (λ b. (a, b)) (one_number more)

abbrev pub three_numbers : List Field → Option (Field × Field × Field)
three_numbers [] = None
three_numbers (a ∷ more) = option_map (λ t. (a, t.0, t.1)) (two_numbers more)

abbrev pub four_numbers : List Field → Option (Field × Field × Field × Field)
four_numbers [] = None
four_numbers (a ∷ more) = option_map (λ t. (a, t.0, t.1, t.2)) (three_numbers more)

abbrev pub five_numbers : List Field → Option (Field × Field × Field × Field × Field)
five_numbers [] = None
five_numbers (a ∷ more) = option_map (λ t. (a, t.0, t.1, t.2, t.3)) (four_numbers more)

-- ---- numbers in their ranges

abbrev pub field_below : (bound : ℕ) → Field → Option ℕ
field_below bound field = field >>? λ n. kept_if (nat_lt n bound) n

abbrev pub from_one_to : (most : ℕ) → Field → Option ℕ
from_one_to most field = field >>? λ n. kept_if (nat_le 1 n && nat_le n most) n
