-- Lines of words and numbers, which the verbs write (docs/COMMANDS.md, "Over one chip").
use Rattle.std.specs.Prelude.{ℕ, List, [], ◌∷◌, ◌++◌}
use Rattle.std.specs.List.{flat_map}
use Rattle.std.specs.Fmt.{decimal}

-- numbers, each after a space
abbrev pub numbers : List ℕ → List ℕ
numbers ns = flat_map (λ n. 32 ∷ decimal n) ns

-- a line, ended by LF
abbrev pub line : List ℕ → List ℕ
line words = words ++ 10 ∷ []
