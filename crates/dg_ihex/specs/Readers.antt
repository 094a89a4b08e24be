-- The state of a reader (Intel Hexadecimal Object File Format Specification, revision A).
use Rattle.std.specs.Prelude.{◌≡◌, ◌≢◌, ◌+◌, ℕ, List, length, None, Result, Ok, Err}
use Rattle.dg_ihex.specs.declared.faults.HexFileFault.{HexFileFault}
use Rattle.dg_ihex.specs.declared.faults.HexCause.TheVariants.{Memory}
use Rattle.dg_ihex.specs.declared.reader.Numbered.{Numbered}
use Rattle.dg_ihex.specs.declared.reader.Reader.{Reader}
use Rattle.dg_ihex.specs.declared.record.Record.{Record}
use Rattle.dg_ihex.specs.Files.{base_of, blocks_of, cause_of, has_end, records_of, unless}
use Rattle.dg_ihex.specs.Windows.{Holds}

-- the state of a reader after records
pub record ReaderStands (reader : Reader) (before : List Record) : Type 0 where
  pub base : reader.base ≡ base_of before
  pub has_ended : reader.has_ended ≡ has_end before
  pub window : Holds reader.window (blocks_of before)

-- the state of a reader after lines
pub record Behind (numbered : Numbered) (before : List (List ℕ)) : Type 0 where
  pub number : numbered.line ≡ length before + 1
  pub stands : ReaderStands numbered.reader (records_of before)

-- the result for a line after others: nothing is wrong, and a fact holds after it; or this is what
-- a file gives that continues with it
abbrev pub Judges : {A : Type 0} → Result A HexFileFault → List (List ℕ) → List ℕ → (After : Type 0) → Type 0
Judges (Ok x) before text After = (cause_of before text ≡ None) × After
Judges (Err fault) before text After =
    (fault.cause ≢ Memory → (later : Result (List ℕ) HexFileFault) → unless (cause_of before text) before later ≡ Err fault)
    × (fault.cause ≡ Memory → fault.line ≡ 0)
