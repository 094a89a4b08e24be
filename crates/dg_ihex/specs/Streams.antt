-- Files that come in pieces (Intel Hexadecimal Object File Format Specification, revision A).
use Rattle.std.specs.Prelude.{◌≡◌, ◌≢◌, ℕ, ◌≤◌, ◌<◌, ◌==◌, false, List, ◌++◌, length, All, Option, Some, None, Result, Ok, Err}
use Rattle.std.specs.Str.Lines.{lines, strip_carriage_return}
use Rattle.dg_ihex.specs.declared.faults.HexFileFault.{HexFileFault}
use Rattle.dg_ihex.specs.declared.faults.HexCause.TheVariants.{Memory}
use Rattle.dg_ihex.specs.declared.stream.HexReader.{HexReader}
use Rattle.dg_ihex.specs.declared.stream.Stream.{Stream}
use Rattle.dg_ihex.specs.Files.{cause_of, file_from, hex_file, record_in}
use Rattle.dg_ihex.specs.Records.{record_of}
use Rattle.dg_ihex.specs.Readers.{Behind}

-- ---- the open line

-- lines that give the same record, whatever comes after these prefixes of them
pub record ReadsAlike (short front : List ℕ) : Type 0 where
  pub some : 0 < length short
  pub alike : (more : List ℕ) → record_of (short ++ more) ≡ record_of (front ++ more)

-- lines that say the same
pub record SaysAlike (x y : List ℕ) : Type 0 where
  pub causes : (before : List (List ℕ)) → cause_of before x ≡ cause_of before y
  pub records : record_in x ≡ record_in y

-- What is kept of an open line says the same, whatever comes after, also without a CR at its end.
pub record Stays (kept line : List ℕ) : Type 0 where
  pub some : 0 < length line → 0 < length kept
  pub only : 0 < length kept → 0 < length line
  pub last : (more : List ℕ) → SaysAlike (kept ++ more) (line ++ more)
  pub ended : (more : List ℕ) → SaysAlike (strip_carriage_return (kept ++ more)) (strip_carriage_return (line ++ more))

-- ---- what came

-- A stream of an input in which nothing is wrong so far: with whatever comes after,
-- the file has these lines and then those of what comes after the open line.
pub record Going (stream : Stream) (input : List ℕ) : Type 0 where
  pub before : List (List ℕ)
  pub line : List ℕ
  pub file : (rest : List ℕ) → file_from before (lines (line ++ rest)) ≡ hex_file (input ++ rest)
  pub counted : length before ≤ length input
  pub bare : All (λ b. (b == 10) ≡ false) line
  pub behind : Behind stream.numbered before
  pub stays : Stays stream.kept.items line

-- the fault of each file that begins with this input
abbrev pub HasFault : HexFileFault → List ℕ → Type 0
HasFault fault input = (rest : List ℕ) → hex_file (input ++ rest) ≡ Err fault

-- nothing is claimed if memory ran out, which is reported at line 0
abbrev pub TellsFault : HexFileFault → List ℕ → Type 0
TellsFault fault input = (fault.cause ≢ Memory → HasFault fault input) × (fault.cause ≡ Memory → fault.line ≡ 0)

-- the result for an input: a fact, or its fault
abbrev pub Advances : {A : Type 0} → Result A HexFileFault → List ℕ → (After : Type 0) → Type 0
Advances (Ok x) input After = After
Advances (Err fault) input After = TellsFault fault input

-- the same for a piece after an input, up to an offset in it
abbrev pub AdvancesTo : Result ℕ HexFileFault → (input piece : List ℕ) → (ℕ → Type 0) → Type 0
AdvancesTo (Ok next) input piece After = After next
AdvancesTo (Err fault) input piece After = TellsFault fault (input ++ piece)

abbrev pub FedBy : Option HexFileFault → Stream → List ℕ → Type 0
FedBy None stream input = Going stream input
FedBy (Some fault) stream input = (fault.cause ≢ Memory) × HasFault fault input

-- a reader that was given these bytes
pub record Fed (reader : HexReader) (input : List ℕ) : Type 0 where
  pub counts : reader.count ≡ length input
  pub stands : FedBy reader.fault reader.stream input
