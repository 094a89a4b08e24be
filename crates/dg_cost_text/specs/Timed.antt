-- A report with the event and the moment of each line (docs/COMMANDS.md, "What a script costs").
use Rattle.std.specs.Prelude.{◌≡◌, ◌⊎◌, ℕ, List, [], ◌∷◌, ◌++◌, map}
use Rattle.std.specs.List.{AllByRecursion, flat_map}
use Rattle.std.specs.Fmt.{decimal}

-- the number of an event, and its moment in milliseconds, as written before a line
abbrev pub stamp_text : (event ms : ℕ) → List ℕ
stamp_text event ms = 64 ∷ decimal event ++ 32 ∷ decimal ms ++ 32 ∷ []

-- A byte of a report, and what is written before it: nothing, or a stamp.
pub record Stamped : Type 0 where
  pub stamp : List ℕ
  pub byte : ℕ

abbrev pub stamped : List ℕ → ℕ → Stamped
stamped stamp byte = record { stamp = stamp; byte = byte }

abbrev pub IsStamp : Stamped → Type 0
IsStamp s = (s.stamp ≡ []) ⊎ ((event : ℕ) × (ms : ℕ) × (s.stamp ≡ stamp_text event ms))

abbrev pub stamped_text : Stamped → List ℕ
stamped_text s = s.stamp ++ s.byte ∷ []

abbrev pub reported_byte : Stamped → ℕ
reported_byte s = s.byte

-- The text is the report with stamps before some of its bytes: without them it is the report, byte for byte.
pub record IsStampedReport (report text : List ℕ) : Type 0 where
  pub bytes : List Stamped
  pub stamps : AllByRecursion IsStamp bytes
  pub report_is : map reported_byte bytes ≡ report
  pub text_is : text ≡ flat_map stamped_text bytes
