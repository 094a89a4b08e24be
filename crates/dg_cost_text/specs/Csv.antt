-- Rows as comma-separated values (docs/COMMANDS.md, "What a script costs").
use Rattle.std.specs.Prelude.{ℕ, ◌+◌, ◌==◌, if◌then◌else◌, List, [], ◌∷◌, ◌++◌, codes}
use Rattle.std.specs.List.{flat_map}
use Rattle.std.specs.Fmt.{decimal}
use Rattle.dg_cost_text.specs.declared.rows.Row.{Row}
use Rattle.dg_cost_text.specs.declared.rows.Rows.{Rows}
use Rattle.dg_cost_text.specs.declared.rows.Counted.{Counted}

-- a row whose value is not 0 is a line: the mote, or `all`, then the key and the value
abbrev pub row_text : (name : List ℕ) → Row → List ℕ
row_text name row =
    if row.value == 0 then [] else name ++ 44 ∷ row.key.items ++ 44 ∷ decimal row.value ++ 10 ∷ []

abbrev pub rows_text : (name : List ℕ) → List Row → List ℕ
rows_text name rows = flat_map (row_text name) rows

-- the rows of motes, numbered from n on
unfoldable pub motes_text : (n : ℕ) → List Rows → List ℕ
motes_text n [] = []
motes_text n (mote ∷ motes) = rows_text (decimal n) mote.rows.items ++ motes_text (n + 1) motes

abbrev pub csv : Counted → List ℕ
csv c = codes "mote,key,value" ++ 10 ∷ [] ++ motes_text 0 c.motes.items ++ rows_text (codes "all") c.all.rows.items
