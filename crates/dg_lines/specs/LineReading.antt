-- Lines that are read from an input one after another (docs/SCRIPTS.md, "The script").
use Rattle.std.specs.Prelude.{◌≡◌, ◌≢◌, ◌⊎◌, ℕ, ◌+◌, ◌-◌, ◌<◌, ◌≤◌, Bool, true, List, [], ◌∷◌, ◌++◌, length, take, Option, Some}
use Rattle.std.specs.Prelude.{None, Result, Ok, Err, All}
use Rattle.std.specs.Str.Lines.{strip_carriage_return}
use Rattle.dg_script.specs.Sizes.{most_line}
pub use Rattle.dg_script.specs.Sizes.{most_kept, most_used_bytes}
use Rattle.dg_lines.specs.declared.line_reader.ReadStop.{ReadStop}
use Rattle.dg_lines.specs.declared.line_reader.ReadStop.TheVariants.{ReadFault, Long, TooLong}

-- the state of a reader of lines
pub record Reading : Type 0 where
  -- the bytes that were taken, but belong to no line that was given yet
  pub ahead : List ℕ
  -- how many bytes were taken before them
  pub passed : ℕ
  -- how many lines were given, and the text of the last one
  pub number : ℕ
  pub text : List ℕ
  -- the last one ends with the input, and not with LF
  pub last : Bool

-- no LF is among the bytes
abbrev pub HasNoEnd : List ℕ → Type 0
HasNoEnd bytes = All (λ c. c ≢ 10) bytes

-- a line that ends in LF, and its text: what comes before, without one CR at its end
pub record IsLine (text line : List ℕ) : Type 0 where
  pub before : List ℕ
  pub whole : HasNoEnd before
  pub ended : line ≡ before ++ 10 ∷ []
  pub told : text ≡ strip_carriage_return before

-- the last line of an input that does not end in LF
pub record IsLastLine (text line : List ℕ) : Type 0 where
  pub whole : HasNoEnd line
  pub some : line ≢ []
  pub told : text ≡ line

-- the first line of these bytes, and what comes after it
pub record FirstLine (bytes : List ℕ) (at_end : Type 0) (text rest : List ℕ) : Type 0 where
  pub line : List ℕ
  pub parts : bytes ≡ line ++ rest
  pub is : IsLine text line ⊎ (IsLastLine text line × (rest ≡ []) × at_end)

-- The next line was given, from the bytes that were there and those that came.
pub record Gives (bytes : List ℕ) (old new : Reading) (at_end : Type 0) : Type 0 where
  pub first : FirstLine bytes (at_end × (new.last ≡ true)) new.text new.ahead
  pub last : new.last ≡ true → at_end × (new.ahead ≡ [])
  pub short : length new.text ≤ most_line
  pub number : new.number ≡ old.number + 1
  pub passed : new.passed + length new.ahead ≡ old.passed + length bytes
  pub used : old.passed + length bytes ≤ most_used_bytes
  pub near : length new.ahead ≤ most_kept

-- The next line is longer than a line may be. Some bytes after it may have been taken too.
pub record IsLong (bytes : List ℕ) (old : Reading) (at_end : Type 0) : Type 0 where
  pub text : List ℕ
  pub rest : List ℕ
  pub first : FirstLine bytes at_end text rest
  pub long : most_line < length text
  pub used : old.passed + length bytes ≤ most_used_bytes
  pub near : length rest ≤ most_kept

-- No further line ends among the bytes that are used, and there is one more byte.
pub record IsTooLong (bytes : List ℕ) (old : Reading) : Type 0 where
  pub all : old.passed + length bytes ≡ most_used_bytes + 1
  pub none : HasNoEnd (take (most_used_bytes - old.passed) bytes)

-- Nothing was left, and nothing came.
pub record IsAtEnd (bytes : List ℕ) (old new : Reading) (at_end : Type 0) : Type 0 where
  pub none : bytes ≡ []
  pub ended : at_end
  pub same_number : new.number ≡ old.number
  pub same_passed : new.passed ≡ old.passed
  pub no_more : new.ahead ≡ []

-- the result of reading the next line, if these are the bytes that were there and those that came
abbrev pub NextAnswer : Result (Option ℕ) ReadStop → (bytes : List ℕ) → (old new : Reading) → (at_end read_failed : Type 0)
    → Type 0
NextAnswer (Ok (Some n)) bytes old new at_end failed = (n ≡ new.number) × Gives bytes old new at_end
NextAnswer (Ok None) bytes old new at_end failed = IsAtEnd bytes old new at_end
NextAnswer (Err ReadFault) bytes old new at_end failed = failed × HasNoEnd bytes × (old.passed + length bytes ≤ most_used_bytes)
NextAnswer (Err (Long line)) bytes old new at_end failed = (line ≡ old.number + 1) × IsLong bytes old at_end
NextAnswer (Err TooLong) bytes old new at_end failed = IsTooLong bytes old

-- ---- parts of that

-- where the next LF is
abbrev pub EndsAt : Option ℕ → List ℕ → Type 0
EndsAt None bytes = HasNoEnd bytes
EndsAt (Some at) bytes = (before rest : List ℕ) × (bytes ≡ before ++ 10 ∷ rest) × (length before ≡ at) × HasNoEnd before

-- the result of taking more bytes, if these came
abbrev pub FillAnswer : Result ℕ ReadStop → (more : List ℕ) → (old new : Reading) → (at_end read_failed : Type 0) → Type 0
FillAnswer (Ok n) more old new at_end failed = (n ≡ length more) × (new.ahead ≡ old.ahead ++ more)
    × (new.passed ≡ old.passed) × (new.number ≡ old.number) × (n ≡ 0 → at_end)
    × (new.passed + length new.ahead ≤ most_used_bytes) × (length new.ahead ≤ most_kept)
FillAnswer (Err ReadFault) more old new at_end failed = failed × (more ≡ [])
FillAnswer (Err TooLong) more old new at_end failed = (length more ≡ 1) × (old.passed + length old.ahead ≡ most_used_bytes)
FillAnswer (Err (Long line)) more old new at_end failed = ⊥

-- the result of taking more bytes of a line that is too long: None if it goes on after them
abbrev pub PassAnswer : Option ReadStop → (more : List ℕ) → (old new : Reading) → (at_end read_failed : Type 0) → Type 0
PassAnswer None more old new at_end failed = HasNoEnd more × (0 < length more) × (new.number ≡ old.number)
    × (new.passed + length new.ahead ≡ old.passed + length old.ahead + length more)
    × (new.passed + length new.ahead ≤ most_used_bytes)
PassAnswer (Some ReadFault) more old new at_end failed = failed × (more ≡ [])
PassAnswer (Some TooLong) more old new at_end failed = (length more ≡ 1) × (old.passed + length old.ahead ≡ most_used_bytes)
PassAnswer (Some (Long line)) more old new at_end failed = (line ≡ old.number + 1)
    × (old.passed + length old.ahead + length more ≤ most_used_bytes) × (length more ≤ most_kept)
    × (((at : ℕ) × EndsAt (Some at) more) ⊎ ((more ≡ []) × at_end))
