-- The most that is read of a chip that is mounted again (docs/IMAGES.md, "Mounting again").
use Rattle.std.specs.Prelude.{◌≡◌, ℕ, ◌+◌, ◌*◌, List}
use Rattle.std.specs.List.{sum_by}
use Rattle.dg_control.specs.Store.{Controls, HasTorn, remount_most}
use Rattle.dg_control.specs.declared.snapshot.SlotState.{SlotState}
use Rattle.dg_control.specs.declared.snapshot.SlotState.TheVariants.{Dirty, Live}
use Rattle.dg_control.specs.declared.snapshot.Snapshot.{Snapshot}
use Rattle.dg_slot.specs.Layout.{gates_at, gates_size}

-- the bytes of a header up to the end of its gates
abbrev pub header_most : ℕ
header_most = gates_at + gates_size

abbrev pub live : SlotState → ℕ
live Dirty = 0
live (Live version) = 1

-- how many slots are Live
abbrev pub slots_live : Snapshot → ℕ
slots_live s = sum_by live s.slots

-- the most bytes that mounting this chip again reads: those of its control, and the header of each slot that is Live
pub record RemountBytes (c : List ℕ) (n : ℕ) : Type 0 where
  pub torn : ℕ
  pub has_torn : HasTorn c torn
  pub snapshot : Snapshot
  pub room : ℕ
  pub controls : Controls c snapshot room
  pub all : n ≡ remount_most torn + header_most * slots_live snapshot
