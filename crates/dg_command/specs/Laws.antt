-- Words as an operator writes them (the words of docs/COMMANDS.md).
use Rattle.std.specs.Prelude.{ℕ, ◌==◌, if◌then◌else◌, List, [], ◌∷◌}
use Rattle.clap.specs.Words.{Text}

abbrev onto_first : ℕ → List Text → List Text
onto_first c [] = (c ∷ []) ∷ []
onto_first c (word ∷ words) = (c ∷ word) ∷ words

-- the pieces of a line between its spaces
unfoldable pub split_words : Text → List Text
split_words [] = [] ∷ []
split_words (c ∷ cs) = if c == 32 then [] ∷ split_words cs else onto_first c (split_words cs)
