-- What a reader reports (Intel Hexadecimal Object File Format Specification, revision A).
use Rattle.std.specs.Prelude.{◌≡◌, ◌≢◌, ℕ, List, Option, Some, None, Result, Ok, Err}
use Rattle.dg_ihex.specs.declared.faults.HexCause.{HexCause}
use Rattle.dg_ihex.specs.declared.faults.HexFileFault.{HexFileFault}
use Rattle.dg_ihex.specs.declared.faults.HexCause.TheVariants.{Hex, Memory}

-- a refusal is the one that is defined; nothing is claimed if memory ran out
abbrev pub Refuses : {A : Type 0} → HexCause → Result A HexCause → Type 0
Refuses Memory defined = Unit {0}
Refuses cause defined = defined ≡ Err cause

-- what a reader returned is what is defined
abbrev pub ReadsHex : {A : Type 0} → Result A HexCause → Result A HexCause → Type 0
ReadsHex (Ok found) defined = defined ≡ Ok found
ReadsHex (Err cause) defined = Refuses cause defined

-- a refusal of digits
abbrev pub RefusesDigits : HexCause → Option (List ℕ) → Type 0
RefusesDigits Memory defined = Unit {0}
RefusesDigits Hex defined = defined ≡ None
RefusesDigits cause defined = ⊥

-- a refusal of a line
abbrev pub RefusesLine : HexCause → Option HexCause → Type 0
RefusesLine Memory defined = Unit {0}
RefusesLine cause defined = defined ≡ Some cause

-- what a step returned: nothing is wrong, and a fact holds after it; or what is wrong
abbrev pub ReaderSteps : {A : Type 0} → Result A HexCause → Option HexCause → Type 0 → Type 0
ReaderSteps (Ok done) defined After = (defined ≡ None) × After
ReaderSteps (Err cause) defined After = RefusesLine cause defined

-- what the reader of a file returned is what the file gives; nothing is claimed if memory ran out
abbrev pub ReadsFile : {A : Type 0} → (A → List ℕ) → Result A HexFileFault → Result (List ℕ) HexFileFault → Type 0
ReadsFile view (Ok image) defined = defined ≡ Ok (view image)
ReadsFile view (Err fault) defined = fault.cause ≢ Memory → defined ≡ Err fault
