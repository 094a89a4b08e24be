-- Rows as keys and values (docs/COMMANDS.md, "What a script costs").
use Rattle.std.specs.Prelude.{ℕ, List, [], ◌∷◌, ◌++◌, map, codes}
use Rattle.std.specs.List.{flat_map}
use Rattle.std.specs.Fmt.{decimal}
use Rattle.dg_meter.specs.declared.share.Share.{Share}
use Rattle.dg_cost_text.specs.declared.rows.Part.{Part}
use Rattle.dg_cost_text.specs.declared.rows.Part.TheVariants as part
use Rattle.dg_cost_text.specs.declared.rows.Row.{Row}
use Rattle.dg_cost_text.specs.declared.rows.Rows.{Rows}

abbrev pub part_text : Part → List ℕ
part_text (part.Text text) = text.now
part_text (part.Number n) = decimal n

-- the key of these parts and an end
abbrev pub key_of : (parts : List Part) → (ending : List ℕ) → List ℕ
key_of parts ending = flat_map part_text parts ++ ending

-- the key of a row, and its value
abbrev pub entry_of : Row → List ℕ × ℕ
entry_of row = (row.key.items, row.value)

-- the keys and values of rows, in order
abbrev pub table_of_rows : Rows → List (List ℕ × ℕ)
table_of_rows rows = map entry_of rows.rows.items

-- the rows of these names, with this beginning and end of their keys, with these values
abbrev pub named_rows : (before after : List ℕ) → (names : List (List ℕ)) → (values : List ℕ) → List (List ℕ × ℕ)
named_rows before after [] values = []
named_rows before after (name ∷ names) [] = []
named_rows before after (name ∷ names) (value ∷ values) =
    (before ++ (name ++ after), value) ∷ named_rows before after names values

-- the two rows of a share
abbrev pub share_rows : (before name : List ℕ) → (count bytes : ℕ) → List (List ℕ × ℕ)
share_rows before name count bytes =
    (before ++ (name ++ codes ".count"), count) ∷ (before ++ (name ++ codes ".bytes"), bytes) ∷ []

-- the two rows of each of these names, with these shares
abbrev pub shared_rows : (before : List ℕ) → (names : List (List ℕ)) → List Share → List (List ℕ × ℕ)
shared_rows before [] shares = []
shared_rows before (name ∷ names) [] = []
shared_rows before (name ∷ names) (share ∷ shares) =
    share_rows before name share.count share.bytes ++ shared_rows before names shares
