-- How an injection ends (docs/IMAGES.md, "Takes, injections and orders").
use Rattle.std.specs.Prelude.{◌≡◌, ◌≢◌, Result, Some, Err, OnOk, IsErrOf}
use Rattle.dg_nor.specs.Device.{Device}
use Rattle.dg_object.specs.Object.{Row}
use Rattle.dg_volume.specs.Store.{Store, held}
use Rattle.dg_volume.specs.Changes.{inject_refusal, UnlessInjectRefused, SameProfile}
use Rattle.dg_volume.specs.Trails.{inject_trail}
use Rattle.dg_volume.specs.Acts.{Acted, Stops}
use Rattle.dg_volume.specs.declared.volume.InjectFault.{InjectFault}
use Rattle.dg_volume.specs.declared.volume.InjectFault.TheVariants.{Stopped}
use Rattle.dg_volume.specs.declared.volume.Injected.{Injected}
use Rattle.dg_volume.specs.declared.volume.Volume.{Volume}

-- The injection of a row into a chip that stood for this store. It is refused exactly if the rules refuse it, with their fault,
-- unless the chip stops first. If another profile is kept of this version, it does not stop.
pub record InjectEnds (result : Result Injected InjectFault) (s : Store) (row : Row) (old new : Device) (v : Volume) : Type
    0 where
  pub acted : OnOk result (Acted (inject_trail s row) old new v)
  pub allowed : UnlessInjectRefused result (inject_refusal s row)
  pub refused : (e : InjectFault) → result ≡ Err e → e ≢ Stopped → inject_refusal s row ≡ Some e
  pub stopped : IsErrOf result Stopped → Stops (inject_trail s row) old new
  pub unread : IsErrOf result Stopped → SameProfile (held s row.image) row
