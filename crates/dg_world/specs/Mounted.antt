-- Boards of motes that are mounted one after the other, as they are (docs/IMAGES.md, "Mounting again").
use Rattle.std.specs.Prelude.{◌≡◌, ◌⊎◌, ℕ, ◌<◌, true, false, List, length, slice_get, Some}
use Rattle.dg_words.specs.Counts.{Rose}
use Rattle.dg_nor.specs.Device.{Device}
use Rattle.dg_volume.specs.Store.{Store}
use Rattle.dg_volume.specs.Stands.{Stands, IsVolume, IsNoVolume}
use Rattle.dg_rules.specs.Begins.{store_of}
use Rattle.dg_world.specs.Counts.{AreAwake}

-- The boards of the first motes stand for these stores, one for each, and are not stopped.
pub record StandFor (motes : ℕ) (stores : List Store) (boards : List Device) : Type 0 where
  pub count : length stores ≡ motes
  pub each : (m : ℕ) (d : Device) → m < motes → slice_get boards m ≡ Some d → Stands d.image (store_of stores m)
  pub awake : AreAwake motes boards

-- The boards before this one are volumes, and were not stopped on entry. No board after it was used.
pub record MountedTo (board : ℕ) (old new : List Device) : Type 0 where
  pub volumes : (m : ℕ) (d : Device) → m < board → slice_get new m ≡ Some d → IsVolume d.image
  pub awake : (m : ℕ) (d : Device) → m < board → slice_get old m ≡ Some d → d.stopped ≡ false
  pub behind : (m : ℕ) → board < m → slice_get new m ≡ slice_get old m

-- The board of one of the first motes stopped while it was mounted, and why.
pub record MountStops (board motes : ℕ) (old new : List Device) : Type 0 where
  pub known : board < motes
  pub before : Device
  pub after : Device
  pub was : slice_get old board ≡ Some before
  pub is : slice_get new board ≡ Some after
  pub stopped : after.stopped ≡ true
  pub cause : (before.stopped ≡ true) ⊎ Rose before.faults after.faults
  pub mounted : MountedTo board old new

-- The board of one of the first motes is not a volume.
pub record NoVolumeAt (board motes : ℕ) (old new : List Device) : Type 0 where
  pub known : board < motes
  pub before : Device
  pub was : slice_get old board ≡ Some before
  pub no_volume : IsNoVolume before.image
  pub mounted : MountedTo board old new
