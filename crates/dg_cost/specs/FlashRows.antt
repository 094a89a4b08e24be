-- The rows of programs and erases in the counts of a run (docs/COMMANDS.md, "What a script costs").
use Rattle.std.specs.Prelude.{◌≡◌, ℕ, ◌+◌, ◌-◌, ◌^◌, ◌<◌, ◌≤◌, List, [], ◌∷◌, ◌++◌, codes, length, slice_index, slice_index_or}
use Rattle.std.specs.Prelude.{Option, Some}
use Rattle.std.specs.List.{sum}
use Rattle.dg_meter.specs.Shares.{both, those_since}
use Rattle.dg_meter.specs.declared.share.Share.{Share}
use Rattle.dg_meter.specs.declared.shares.Shares.{Shares}
use Rattle.dg_meter.specs.declared.tally.Tally.{Tally}
use Rattle.dg_cost_text.specs.Table.{share_rows}
use Rattle.dg_cost.specs.EventRows.{HasRows}

-- the two rows of a part of the chip: what is counted of it, without what was counted earlier
abbrev pub part_rows : (before name : List ℕ) → (earlier late : Share) → List (List ℕ × ℕ)
part_rows before name earlier late =
    share_rows before name (those_since earlier late).count (those_since earlier late).bytes

-- those of all parts: `slots` are headers and pages together, and `heads` the headers alone
abbrev pub rows_of_kind : (before : List ℕ) → (earlier late : Shares) → List (List ℕ × ℕ)
rows_of_kind before a b =
    part_rows before (codes "ledger") a.ledger b.ledger ++ (part_rows before (codes "control") a.control b.control
    ++ (part_rows before (codes "program") a.program b.program
    ++ (part_rows before (codes "slots") (both a.page a.head) (both b.page b.head)
    ++ part_rows before (codes "heads") a.head b.head)))

-- the programs and erases of a run, by what was counted up to its end and before it
abbrev pub flash_run_rows : (earlier late : Tally) → List (List ℕ × ℕ)
flash_run_rows a b =
    rows_of_kind (codes "flash.run.program.") a.programs b.programs
    ++ rows_of_kind (codes "flash.run.erase.") a.erases b.erases

-- ---- rows of a run

-- how many programs and how many erases there were in each part of a chip: each is in exactly one of these rows
abbrev pub count_keys : List (List ℕ)
count_keys =
    codes "flash.run.program.ledger.count" ∷ codes "flash.run.program.control.count"
    ∷ codes "flash.run.program.program.count" ∷ codes "flash.run.program.slots.count"
    ∷ codes "flash.run.erase.ledger.count" ∷ codes "flash.run.erase.control.count"
    ∷ codes "flash.run.erase.program.count" ∷ codes "flash.run.erase.slots.count" ∷ []

-- The table of a mote has these rows, and they are n in all, as long as a u64 holds that and what the chip's meter shows.
pub record HasFlashRows (n : ℕ) (made : Option (List ℕ)) (table : List (List ℕ × ℕ)) : Type 0 where
  pub meter : List ℕ
  pub shown : made ≡ Some meter
  pub counts : List ℕ
  pub all : length counts ≡ 8
  pub rows : (k : ℕ) → k < 8 → HasRows ((slice_index_or count_keys k [], slice_index counts k) ∷ []) table
  pub total : sum meter + n ≤ 2 ^ 64 - 1 → sum counts ≡ n
