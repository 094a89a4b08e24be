-- How the parts of a start end (docs/IMAGES.md, "The start").
use Rattle.std.specs.Prelude.{◌≡◌, ℕ, ◌==◌, ◌&&◌, ◌||◌, nat_lt, not, is_some, if◌then◌else◌, Bool, Some, Result, Ok, Err}
use Rattle.dg_nor.specs.Device.{Device}
use Rattle.dg_nor.specs.Trail.{Trail, operations, last, joined}
use Rattle.dg_nor.specs.declared.device.Stopped.{Stopped}
use Rattle.dg_slot.specs.Kept.{Held}
use Rattle.dg_slot.specs.Pages.{program}
use Rattle.dg_volume.specs.Sizes.{golden_version, short_starts}
use Rattle.dg_volume.specs.Store.{Store, held}
use Rattle.dg_volume.specs.Stands.{HoldsApp}
use Rattle.dg_volume.specs.Trails.{committing}
use Rattle.dg_volume.specs.Start.{Boot, behind, is_set_to, sound, complete_pages, kept_runs, blank_trail, copy_trail}
use Rattle.dg_volume.specs.Start.{finish_trail, order_boot, kept_boot, waived_once}
use Rattle.dg_volume.specs.Acts.{Acted, Stops}
use Rattle.dg_volume.specs.declared.volume.Volume.{Volume}
use Rattle.dg_boot.specs.Loads.{IsWhole, app_from, Measures}
use Rattle.dg_boot.specs.Started.{Starts, NoImageFound}
use Rattle.dg_boot.specs.declared.loaded.Loaded.{Loaded}
use Rattle.dg_boot.specs.declared.Started.{Started}
use Rattle.dg_boot.specs.declared.BootFault.{BootFault}
use Rattle.dg_boot.specs.declared.BootFault.TheVariants as faults

-- The trail was completed. If it has no operation, no byte changed.
pub record TrailWent (t : Trail Store) (old new : Device) (v : Volume) : Type 0 where
  pub acted : Acted t old new v
  pub idle : operations t ≡ 0 → new.image ≡ old.image

-- an act on a volume completed this trail, or was stopped on it
abbrev pub Goes : {T : Type 0} → Result T Stopped → Trail Store → Device → Device → Volume → Type 0
Goes (Ok x) t old new v = TrailWent t old new v
Goes (Err e) t old new v = Stops t old new

-- a start of a volume completed this trail, or was stopped on it
abbrev pub BootOutcome : Result Started BootFault → Boot → Device → Device → Type 0
BootOutcome (Ok told) b old new = Starts b old new told × (operations b.trail ≡ 0 → new.image ≡ old.image)
BootOutcome (Err faults.NoImage) b old new = NoImageFound b old new
BootOutcome (Err faults.Stopped) b old new = Stops b.trail old new
BootOutcome (Err faults.NotAVolume) b old new = ⊥

-- there is room for the start of golden, or it needs no room
abbrev pub golden_fits : Store → Bool
golden_fits s = nat_lt 0 s.room || (not (is_some s.app) || is_set_to s.app 0 golden_version)

-- a golden start makes its last commit
abbrev pub finishes : Store → Bool → Bool
finishes s three = nat_lt 0 s.room && (not (is_set_to s.app 0 golden_version) || three)

-- ---- parts of the trails

-- an image is kept whole
pub record HoldsWhole (s : Store) (image : ℕ) : Type 0 where
  pub found : Held
  pub here : held s image ≡ Some found
  pub whole : IsWhole found

-- program memory is blank, and then the pages of an image are copied there
abbrev pub copied_trail : Store → ℕ → Trail Store
copied_trail s image = joined (blank_trail s) (copy_trail (last (blank_trail s)) (complete_pages (held s image)))

-- that trail was completed, and this is reported of the pages
pub record CopiedIn (s : Store) (image : ℕ) (old new : Device) (v : Volume) (told : Loaded) : Type 0 where
  pub went : TrailWent (copied_trail s image) old new v
  pub found : Held
  pub here : held s image ≡ Some found
  pub holds : HoldsApp new.image (app_from image found)
  pub measures : Measures found.complete told
  pub memory : program new.image told.pages ≡ found.complete

-- golden is copied, and the last commit made
abbrev pub golden_loaded : Store → Bool → Boot
golden_loaded s three =
    let r = kept_runs s 0 golden_version in
    let b = last (blank_trail s) in
    record { runs = Some r; trail = joined (blank_trail s) (joined (copy_trail b r.pages) (finish_trail b r three)) }

-- an order that waits is started, or waived if its image is not sound
abbrev pub ordered_boot : Store → Boot
ordered_boot s =
    if sound s s.order.image then order_boot s
    else behind (committing s (waived_once s)) (kept_boot (waived_once s) (s.gesture == short_starts))
