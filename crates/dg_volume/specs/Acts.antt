-- How acts on a volume end (docs/IMAGES.md, "Takes, injections and orders").
use Rattle.std.specs.Prelude.{◌≡◌, ℕ, ◌<◌, ◌≤◌, List}
use Rattle.dg_nor.specs.Sizes.{sectors}
use Rattle.dg_nor.specs.Chip.{sector}
use Rattle.dg_nor.specs.Device.{Device, Ran}
use Rattle.dg_nor.specs.Trail.{Trail, operations, last}
use Rattle.dg_nor.specs.Reads.{StopsIn}
use Rattle.dg_volume.specs.Sizes.{control_sectors}
use Rattle.dg_volume.specs.Store.{Store, IsNear}
use Rattle.dg_volume.specs.Stands.{Stands, Mounted}
use Rattle.dg_volume.specs.declared.volume.Volume.{Volume}

-- the trail was completed, and the volume exposes the store at its end
pub record Acted (t : Trail Store) (old new : Device) (v : Volume) : Type 0 where
  pub ran : Ran (operations t) old new
  pub mounted : Mounted new.image v (last t)

-- the act was stopped on the trail
abbrev pub Stops : Trail Store → Device → Device → Type 0
Stops t old new = StopsIn Stands IsNear t old new

-- Only the control sectors and sectors a to b - 1 were touched.
pub record TouchesBut (a b : ℕ) (old new : List ℕ) : Type 0 where
  pub before : (k : ℕ) → control_sectors ≤ k → k < a → k < sectors → sector new k ≡ sector old k
  pub behind : (k : ℕ) → control_sectors ≤ k → b ≤ k → k < sectors → sector new k ≡ sector old k
