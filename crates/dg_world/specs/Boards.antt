-- The boards after many steps: what they stand for, and one that stopped (docs/ARCHITECTURE.md, "The way of a script line").
use Rattle.std.specs.Prelude.{◌≡◌, ◌⊎◌, ℕ, ◌<◌, ◌≤◌, true, false, List, length, slice_get, Some}
use Rattle.dg_words.specs.Counts.{Rose}
use Rattle.dg_nor.specs.Device.{Device, Endures}
use Rattle.dg_nor.specs.Fuse.{beneath_of}
use Rattle.dg_volume.specs.Stands.{Stands}
use Rattle.dg_rules.specs.World.{World, store_at}
use Rattle.dg_world.specs.Counts.{AreSteady}

-- No count of a board fell, and a board is stopped only if it was before, or if its count rose.
pub record BoardsEndure (old new : List Device) : Type 0 where
  pub count : length new ≡ length old
  pub endures : (m : ℕ) (a b : Device) → slice_get old m ≡ Some a → slice_get new m ≡ Some b
      → Endures (beneath_of a) (beneath_of b)

-- The boards of a world's motes stand for its stores, and were not stopped on entry. All others are unchanged. No board stopped,
-- and no board's count rose: where one fails, that is reported.
pub record WorldStands (w : World) (old new : List Device) : Type 0 where
  pub all : BoardsEndure old new
  pub calm : AreSteady old new
  pub stands : (m : ℕ) (d : Device) → m < length w.sites → slice_get new m ≡ Some d → Stands d.image (store_at w m)
  pub came : (m : ℕ) (d : Device) → m < length w.sites → slice_get old m ≡ Some d → d.stopped ≡ false
  pub others : (m : ℕ) → length w.sites ≤ m → slice_get new m ≡ slice_get old m

-- The board of one of this many motes is stopped: its count rose, or it was stopped on entry.
pub record BoardStopped (motes : ℕ) (old new : List Device) : Type 0 where
  pub board : ℕ
  pub known : board < motes
  pub before : Device
  pub after : Device
  pub was : slice_get old board ≡ Some before
  pub is : slice_get new board ≡ Some after
  pub stopped : after.stopped ≡ true
  pub cause : (before.stopped ≡ true) ⊎ Rose before.faults after.faults
