-- What holds of bytes that are read as a message, or refused (docs/PARTS.md, "The codec"; the messages are those of Deluge: Hui
-- and Culler, SenSys 2004). A cause is reported only if no cause before it applies.
use Rattle.std.specs.Prelude.{◌≡◌, ◌≢◌, ℕ, ◌-◌, ◌<◌, ◌≤◌, Bool, List, length, take, slice_index, Some, None, Result, Ok, Err}
use Rattle.dg_base.specs.Crc.{crc_of}
use Rattle.dg_frame.specs.Sizes.{shortest}
use Rattle.dg_frame.specs.Grammar.{half_at, kind_of}
use Rattle.dg_frame.specs.Ranges.{IsInRange}
use Rattle.dg_frame.specs.declared.Message.{Message}
use Rattle.dg_frame.specs.declared.FrameFault.{FrameFault}
use Rattle.dg_frame.specs.declared.FrameFault.TheVariants.{Short, Kind, Length, Check, Range}

-- they are not too short, and the first names a kind for such a reader: its frames have this size, and these fields
pub record IsOfKind (b : List ℕ) (wide : Bool) (size : ℕ) (fields : List ℕ → Message) : Type 0 where
  pub least : shortest ≤ length b
  pub kind : kind_of wide (slice_index b 0) ≡ Some (size, fields)

-- the last two are the CRC of those before them
abbrev pub IsChecked : List ℕ → Type 0
IsChecked b = half_at b (length b - 2) ≡ crc_of (take (length b - 2) b)

abbrev pub IsReading : List ℕ → (wide : Bool) → Result Message FrameFault → Type 0
IsReading b wide (Err Short) = length b < shortest
IsReading b wide (Err Kind) = (shortest ≤ length b) × (kind_of wide (slice_index b 0) ≡ None)
IsReading b wide (Err Length) = (size : ℕ) × (fields : List ℕ → Message) × IsOfKind b wide size fields × (length b ≢ size)
IsReading b wide (Err Check) = (size : ℕ) × (fields : List ℕ → Message) × IsOfKind b wide size fields × (length b ≡ size)
    × ¬ IsChecked b
IsReading b wide (Err Range) = (size : ℕ) × (fields : List ℕ → Message) × IsOfKind b wide size fields × (length b ≡ size)
    × IsChecked b × ¬ IsInRange wide (fields b)
IsReading b wide (Ok m) = (size : ℕ) × (fields : List ℕ → Message) × IsOfKind b wide size fields × (length b ≡ size)
    × IsChecked b × IsInRange wide m × (m ≡ fields b)
