-- What reads and writes do to the bytes of an input and an output, if those are exposed (the traits `Source` and `Sink` of this
-- crate).
use Rattle.std.specs.Prelude.{◌≡◌, ℕ, ◌≤◌, List, [], ◌++◌, length, take, Option, None, Some}

-- bytes, and then the bytes that are exposed
abbrev pub ahead_of : List ℕ → Option (List ℕ) → Option (List ℕ)
ahead_of bytes None = None
ahead_of bytes (Some rest) = Some (bytes ++ rest)

-- the bytes that are exposed, and then bytes
abbrev pub followed_by : Option (List ℕ) → List ℕ → Option (List ℕ)
followed_by None bytes = None
followed_by (Some written) bytes = Some (written ++ bytes)

-- The bytes before are these bytes and then the bytes after; or neither are exposed.
abbrev pub Takes : Option (List ℕ) → Option (List ℕ) → List ℕ → Type 0
Takes before after bytes = before ≡ ahead_of bytes after

-- The bytes after are the bytes before and then these bytes; or neither are exposed.
abbrev pub Puts : Option (List ℕ) → Option (List ℕ) → List ℕ → Type 0
Puts before after bytes = after ≡ followed_by before bytes

-- A prefix of the bytes was put.
abbrev pub PutsPrefix : Option (List ℕ) → Option (List ℕ) → List ℕ → Type 0
PutsPrefix before after bytes = (n : ℕ) × (n ≤ length bytes) × Puts before after (take n bytes)

-- No byte is left; nothing is claimed if the bytes are not exposed.
abbrev pub AtEnd : Option (List ℕ) → Type 0
AtEnd None = Unit {0}
AtEnd (Some left) = left ≡ []
