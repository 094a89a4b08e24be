-- What the code returns, beside the answer by the rules (docs/COMMANDS.md, "Hash-chained images").
use Rattle.std.specs.Prelude.{◌≡◌, ◌≢◌, ⊤, ℕ, if◌then◌else◌, List, length, Some, None, Result, Ok, Err}
use Rattle.sha2.specs.Sha256.{sha256}
use Rattle.dg_nor.specs.Device.{Device}
use Rattle.dg_nor.specs.Reads.{Looked, ReadStopped}
use Rattle.dg_nor.specs.Trail.{Trail, resting}
use Rattle.dg_slot.specs.Kept.{Held, KeepsImage}
use Rattle.dg_slot.specs.Jobs.{IsOpen, Seals, seal_trail}
use Rattle.dg_slot.specs.declared.states.OpenSlot.{OpenSlot}
use Rattle.dg_slot.specs.declared.states.Sealing.TheVariants as sealing
use Rattle.dg_chain.specs.Checking.{Answer, Fine, Broken, Misshapen, field_of, is_same, first_break, last_field}
use Rattle.dg_chain.specs.declared.checking.ChainFault.{ChainFault}
use Rattle.dg_chain.specs.declared.checking.ChainFault.TheVariants as fault
use Rattle.dg_chain.specs.declared.sealing.ChainSealing.{ChainSealing}
use Rattle.dg_chain.specs.declared.sealing.ChainSealing.TheVariants.{Sealed, Foreign, Bad}

-- the slot of an image keeps a version whole
abbrev pub IsKeptWhole : List ℕ → ℕ → Type 0
IsKeptWhole c image = (h : Held) × KeepsImage c image h × (length h.complete ≡ h.pages)

-- the code's result is this answer, unless the chip stopped
abbrev pub ChainAnswers : Result ℕ ChainFault → Answer → Type 0
ChainAnswers (Ok n) answer = answer ≡ Fine n
ChainAnswers (Err fault.Stopped) answer = ⊤
ChainAnswers (Err (fault.Broken page kept found)) answer = answer ≡ Broken (record { page = page; kept = kept; found = found })
ChainAnswers (Err fault.Shape) answer = answer ≡ Misshapen

-- From page number n on, no page of these is broken and the last one carries this digest; or this is the first broken page.
abbrev pub Walks : (kept : List ℕ) → ℕ → List (List ℕ) → Result (List ℕ) ChainFault → Type 0
Walks kept n pages (Ok field) = (first_break kept n pages ≡ None) × (field ≡ last_field pages)
Walks kept n pages (Err fault.Stopped) = ⊤
Walks kept n pages (Err (fault.Broken page named found)) =
    first_break kept n pages ≡ Some (record { page = page; kept = named; found = found })
Walks kept n pages (Err fault.Shape) = ⊥

-- Only reads were made, whatever was found, also if the chip stopped.
abbrev pub ChainEnds : {T : Type 0} → Result T ChainFault → Device → Device → Type 0
ChainEnds (Ok x) old new = Looked old new
ChainEnds (Err fault.Stopped) old new = ReadStopped old new
ChainEnds (Err (fault.Broken page kept found)) old new = Looked old new
ChainEnds (Err fault.Shape) old new = Looked old new

-- If the page is the expected one and fits, one operation makes it complete. Otherwise no operation is made.
abbrev pub chained_trail : (expected : List ℕ) → ℕ → Held → List ℕ → Trail Held
chained_trail expected image h page = if is_same (sha256 page) expected then seal_trail image h page else resting h 0

-- the slot that a seal returns
abbrev pub chained_slot : ChainSealing → OpenSlot
chained_slot (Sealed o next) = o
chained_slot (Foreign found o) = o
chained_slot (Bad kept found o) = o

-- what a seal returns, on a chip that holds the packets of a data page
abbrev pub SealsChained : (expected : List ℕ) → ℕ → Held → List ℕ → Device → Device → ChainSealing → Type 0
SealsChained expected image h page old new (Sealed o next) =
    (sha256 page ≡ expected) × (next ≡ field_of page) × Seals image h page old new (sealing.Sealed o)
SealsChained expected image h page old new (Foreign found o) =
    (found ≡ sha256 page) × (found ≢ expected) × IsOpen new.image o h × Looked old new
SealsChained expected image h page old new (Bad kept found o) =
    (sha256 page ≡ expected) × Seals image h page old new (sealing.Bad kept found o)
