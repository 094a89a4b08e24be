-- HEX files, address by address (Intel Hexadecimal Object File Format Specification, revision A).
use Rattle.std.specs.Prelude.{◌≡◌, ℕ, ◌+◌, ◌<◌, ◌≤◌, nat_lt, if◌then◌else◌, List, [], length, take, slice_index_or, Option, Some}
use Rattle.std.specs.Prelude.{None}
use Rattle.dg_ihex.specs.declared.faults.HexCause.{HexCause}
use Rattle.dg_ihex.specs.declared.faults.HexCause.TheVariants.{End}
use Rattle.dg_ihex.specs.declared.faults.HexFileFault.{HexFileFault}
use Rattle.dg_ihex.specs.Files.{cause_of, has_end, records_of}

-- what is wrong after n lines: with the line there, or, after the last line, with a file that has no end
unfoldable pub fault_behind_lines : List (List ℕ) → ℕ → Option HexCause
fault_behind_lines texts n =
    if nat_lt n (length texts) then cause_of (take n texts) (slice_index_or texts n [])
    else if has_end (records_of texts) then None
    else Some End

-- a fault is there, in a line or after the last one, and no fault is before it
pub record IsFirstFault (texts : List (List ℕ)) (fault : HexFileFault) : Type 0 where
  pub behind : ℕ
  pub line : fault.line ≡ behind + 1
  pub within : behind ≤ length texts
  pub there : fault_behind_lines texts behind ≡ Some fault.cause
  pub first : (n : ℕ) → n < behind → fault_behind_lines texts n ≡ None
