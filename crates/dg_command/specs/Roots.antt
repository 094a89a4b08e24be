-- The root of a chain, as a text (the words of docs/COMMANDS.md).
use Rattle.std.specs.Prelude.{ℕ, ◌==◌, ◌&&◌, Bool, List, length}
use Rattle.std.specs.List.{list_all}
use Rattle.dg_base.specs.Hexadecimal.{is_hex_digit}
use Rattle.dg_command.specs.Sizes.{root_digits}

-- 64 hex digits, of either case
abbrev pub spells_root : List ℕ → Bool
spells_root text = length text == root_digits && list_all is_hex_digit text
