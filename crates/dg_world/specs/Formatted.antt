-- What formatting does to the boards of motes (docs/IMAGES.md, "The flash map").
use Rattle.std.specs.Prelude.{◌≡◌, ◌⊎◌, ℕ, ◌<◌, ◌≤◌, true, false, List, length, slice_get, Some}
use Rattle.dg_words.specs.Counts.{Rose}
use Rattle.dg_nor.specs.Device.{Device, Endures}
use Rattle.dg_nor.specs.Fuse.{beneath_of}
use Rattle.dg_volume.specs.Store.{Store}
use Rattle.dg_volume.specs.Stands.{Stands}

-- Only the boards of the first motes were used, and no count fell.
pub record FirstBoards (motes : ℕ) (old new : List Device) : Type 0 where
  pub count : length new ≡ length old
  pub others : (m : ℕ) → motes ≤ m → slice_get new m ≡ slice_get old m
  pub counts : (m : ℕ) (a b : Device) → slice_get old m ≡ Some a → slice_get new m ≡ Some b → a.faults ≤ b.faults
  pub endures : (m : ℕ) (a b : Device) → slice_get old m ≡ Some a → slice_get new m ≡ Some b
      → Endures (beneath_of a) (beneath_of b)

-- Formatting stopped at the board of one of the first motes, and why. The boards before it stand for the store, and were not
-- stopped on entry. No board after it was used.
pub record FormatStops (board motes : ℕ) (chip : Store) (old new : List Device) : Type 0 where
  pub known : board < motes
  pub before : Device
  pub after : Device
  pub was : slice_get old board ≡ Some before
  pub is : slice_get new board ≡ Some after
  pub stopped : after.stopped ≡ true
  pub cause : (before.stopped ≡ true) ⊎ Rose before.faults after.faults
  pub formatted : (m : ℕ) (d : Device) → m < board → slice_get new m ≡ Some d → Stands d.image chip
  pub awake : (m : ℕ) (d : Device) → m < board → slice_get old m ≡ Some d → d.stopped ≡ false
  pub behind : (m : ℕ) → board < m → slice_get new m ≡ slice_get old m
