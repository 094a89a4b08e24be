-- What a volume shows, and a chip (docs/COMMANDS.md, "Looking into chips").
use Rattle.std.specs.Prelude.{◌≡◌, ℕ, ◌<◌, List, length, slice_index_or, Option, Some, None, Result, Ok, Err}
use Rattle.dg_nor.specs.Device.{Device}
use Rattle.dg_nor.specs.Reads.{Looked, ReadStopped}
use Rattle.dg_control.specs.Store.{HasForm}
use Rattle.dg_volume.specs.Sizes.{images}
use Rattle.dg_volume.specs.Store.{App, Store, held}
use Rattle.dg_volume.specs.Stands.{Stands, IsNoVolume}
use Rattle.dg_inspect.specs.Pages.{ShowsPages, ShowsKept}
use Rattle.dg_breaks.specs.Breaks.{BreaksAt}
use Rattle.dg_inspect.specs.Starts.{ShowsNext, order_state}
use Rattle.dg_inspect.specs.declared.seen.ChipSeen.{ChipSeen}
use Rattle.dg_inspect.specs.declared.seen.ChipSeen.TheVariants.{Volume, Broken}
use Rattle.dg_inspect.specs.declared.seen.LookFault.{LookFault}
use Rattle.dg_inspect.specs.declared.seen.LookFault.TheVariants as faults
use Rattle.dg_inspect.specs.declared.seen.ProgramSeen.{ProgramSeen}
use Rattle.dg_inspect.specs.declared.seen.VolumeSeen.{VolumeSeen}

pub record ShowsApp (app : App) (x : ProgramSeen) : Type 0 where
  pub image : x.set.image ≡ app.image
  pub version : x.set.version ≡ app.version
  pub pages : ShowsPages app.pages x.pages

abbrev pub ShowsProgram : Option App → Option ProgramSeen → Type 0
ShowsProgram None x = x ≡ None
ShowsProgram (Some app) None = ⊥
ShowsProgram (Some app) (Some x) = ShowsApp app x

-- all that the volume shows is what its store says
pub record ShowsStore (s : Store) (x : VolumeSeen) : Type 0 where
  pub room : x.room ≡ s.room
  pub order : x.order ≡ s.order
  pub order_state : x.order_state ≡ order_state s
  pub gesture : x.gesture ≡ s.gesture
  pub next : ShowsNext s x.next
  pub program : ShowsProgram s.app x.program
  pub count : length x.images.items ≡ images
  pub images : (i : ℕ) → i < images → ShowsKept (held s i) (slice_index_or x.images.items i None)

-- what the bytes of a chip show
abbrev pub ShowsChip : List ℕ → ChipSeen → Type 0
ShowsChip c (Volume x) = ((s : Store) × Stands c s) × ((s : Store) → Stands c s → ShowsStore s x) × HasForm c x.form
ShowsChip c (Broken b) = IsNoVolume c × BreaksAt c b

-- a device was only read
abbrev pub LookEnds : {T : Type 0} → Result T LookFault → Device → Device → Type 0
LookEnds (Ok x) old new = Looked old new
LookEnds (Err faults.Memory) old new = Looked old new
LookEnds (Err faults.Stopped) old new = ReadStopped old new
