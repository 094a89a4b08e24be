-- Optional values, and what a text spells or its first fault (docs/SCRIPTS.md, "The script").
use Rattle.std.specs.Prelude.{Bool, Option, Some, None, Result, Ok, Err, if◌then◌else◌}
use Rattle.dg_script.specs.declared.fault.LineFault.{LineFault}

-- what follows from a value, if there is one
infixl 10 ◌>>?◌
abbrev pub ◌>>?◌ : {A B : Type 0} → Option A → (A → Option B) → Option B
None >>? f = None
(Some x) >>? f = f x

abbrev pub kept_if : {A : Type 0} → Bool → A → Option A
kept_if test x = if test then Some x else None

-- What comes after a part that is spelled. The fault of an earlier part comes first.
infixl 10 ◌>>=◌
abbrev pub ◌>>=◌ : {A B : Type 0} → Result A LineFault → (A → Result B LineFault) → Result B LineFault
(Ok x) >>= f = f x
(Err fault) >>= f = Err fault

-- the value if the test holds, otherwise the fault
abbrev pub guarded : {A : Type 0} → Bool → LineFault → A → Result A LineFault
guarded test fault x = if test then Ok x else Err fault

-- the value if there is one, otherwise the fault
abbrev pub or_fault : {A : Type 0} → LineFault → Option A → Result A LineFault
or_fault fault None = Err fault
or_fault fault (Some x) = Ok x

-- the same with another value
abbrev pub each_as : {A B : Type 0} → (A → B) → Result A LineFault → Result B LineFault
each_as f (Ok x) = Ok (f x)
each_as f (Err fault) = Err fault

-- only whether the test holds
abbrev pub allowed_if : Bool → LineFault → Result (Unit {0}) LineFault
allowed_if test fault = guarded test fault (tt {0})
