-- Boards that are known: they may be mounted again by binary search (docs/IMAGES.md, "Mounting again").
use Rattle.std.specs.Prelude.{◌≡◌, ◌↔◌, ◌+◌, ◌≤◌, ℕ, Bool, true, List, Result, Ok, Err}
use Rattle.dg_nor.specs.Device.{Device, Took}
use Rattle.dg_nor.specs.Reads.{Looked, ReadStopped}
use Rattle.dg_control.specs.Sizes.{place_size}
use Rattle.dg_control.specs.Store.{IsOrderlyChip}
use Rattle.dg_slot.specs.Layout.{page_size}
use Rattle.dg_volume.specs.Remount.{RemountBytes}
use Rattle.dg_volume.specs.Store.{Store}
use Rattle.dg_volume.specs.Stands.{Stands, IsVolume, IsNoVolume, Mounted, IsMounted, NothingLent}
use Rattle.dg_volume.specs.declared.volume.Volume.{Volume}
use Rattle.dg_volume.specs.declared.volume.InjectFault.{InjectFault}
use Rattle.dg_volume.specs.declared.volume.InjectFault.TheVariants as inject
use Rattle.dg_volume.specs.declared.volume.MountFault.{MountFault}
use Rattle.dg_volume.specs.declared.volume.MountFault.TheVariants as mount_fault

-- a chip that may be mounted again by binary search
pub record IsKnownChip (c : List ℕ) : Type 0 where
  pub volume : IsVolume c
  pub orderly : IsOrderlyChip c

-- this is true exactly if the chip is orderly
abbrev pub SeesOrder : Bool → List ℕ → Type 0
SeesOrder orderly c = (orderly ≡ true) ↔ IsOrderlyChip c

-- the board was mounted
pub record BoardMounted (v : Volume) (old new : Device) : Type 0 where
  pub mounted : (s : Store) → Stands old.image s → Mounted new.image v s
  pub volume : IsMounted new.image v
  pub free : NothingLent v
  pub looked : Looked old new

abbrev pub MountDone : Result Volume MountFault → Device → Device → Type 0
MountDone (Ok v) old new = BoardMounted v old new
MountDone (Err mount_fault.Stopped) old new = ReadStopped old new
MountDone (Err mount_fault.NotAVolume) old new = IsNoVolume old.image × Looked old new

-- ---- what is read of a known board

-- An order mounts a known board again and reads nothing else. The board stays known, and mounting
-- it once more reads at most one more place.
pub record OrderReads (known : Bool) (a b : Device) : Type 0 where
  pub took : known ≡ true → (n : ℕ) → RemountBytes a.image n → Took n a b
  pub stays : IsKnownChip a.image → IsKnownChip b.image
  pub bytes : (m n : ℕ) → RemountBytes a.image m → RemountBytes b.image n → n ≤ m + place_size

-- what an injection that is refused for this reason reads beyond mounting the board again
abbrev pub bytes_looked_at : InjectFault → ℕ
bytes_looked_at inject.Taken = page_size
bytes_looked_at inject.Stopped = 0
bytes_looked_at inject.Empty = 0
bytes_looked_at inject.TooLarge = 0
bytes_looked_at inject.Reserved = 0
bytes_looked_at (inject.Stale version) = 0
bytes_looked_at (inject.Worn room) = 0
