-- What a list of commands is to an act of a chip (docs/C.md, "Plans").
use Rattle.std.specs.Prelude.{◌≡◌, ℕ, ◌==◌, ◌<◌, ◌≤◌, if◌then◌else◌, List, take, length, Option, Some, None}
use Rattle.dg_nor.specs.Trail.{Trail, operations, last, MayLeave}
use Rattle.dg_object.specs.Object.{Outline}
use Rattle.dg_object.specs.Sizes.{fewest_pages, most_pages}
use Rattle.dg_slot.specs.Pages.{program}
use Rattle.dg_volume.specs.Sizes.{images}
use Rattle.dg_volume.specs.Store.{Store, IsNear}
use Rattle.dg_volume.specs.Stands.{Stands}
use Rattle.dg_volume.specs.Start.{Runs, runs_length, runs_crc}
use Rattle.dg_volume.specs.declared.volume.StartCause.{StartCause}
use Rattle.dg_volume.specs.declared.volume.StartCause.TheVariants.{Power, Order}
use Rattle.dg_boot.specs.declared.Started.{Started}
use Rattle.dg_plan.specs.declared.command.Command.{Command}
use Rattle.dg_plan.specs.Commands.{carried_out}
use Rattle.dg_slot.specs.Kept.{Held}
use Rattle.dg_plan.specs.declared.pages.PageName.{PageName}
use Rattle.deluge_c.specs.declared.looks.KeptFields.{KeptFields}
use Rattle.deluge_c.specs.declared.packets.PacketFields.{PacketFields}
use Rattle.deluge_c.specs.declared.takes.ProfileFields.{ProfileFields}
use Rattle.deluge_c.specs.declared.starts.StartedFields.{StartedFields}

-- the chip that the first commands of the list make, with the bytes that they program
abbrev pub made : (chip : List ℕ) → List Command → (bytes : List ℕ) → (n : ℕ) → List ℕ
made chip commands bytes n = carried_out bytes (take n commands) chip

-- The commands are the operations of the act, one each. Carried out in their order, they make a chip that stands for the store at
-- its end.
pub record AreActOf (t : Trail Store) (chip : List ℕ) (commands : List Command) (bytes : List ℕ) (n : ℕ) : Type 0 where
  pub count : n ≡ operations t
  pub stands : Stands (made chip commands bytes n) (last t)

-- There are as many commands as the list, or the room for their bytes, holds. They make a chip that a stop of the act after as
-- many operations may leave.
pub record BeginActOf (t : Trail Store) (chip : List ℕ) (commands : List Command) (bytes : List ℕ) (n : ℕ) : Type 0 where
  pub few : n ≤ operations t
  pub leaves : MayLeave Stands IsNear t n (made chip commands bytes n)

-- why a chip starts, by its number
abbrev pub cause_numbered : ℕ → Option StartCause
cause_numbered n = if n == 0 then Some Power else if n == 1 then Some Order else None

-- the fields say what runs
pub record TellsRuns (f : StartedFields) (r : Runs) : Type 0 where
  pub image : f.image ≡ r.image
  pub version : f.version ≡ r.version
  pub pages : f.pages ≡ length r.pages
  pub length : f.length ≡ runs_length r
  pub crc : f.crc ≡ runs_crc r

pub record TellsStarted (f : Started) (r : Runs) : Type 0 where
  pub image : f.image ≡ r.image
  pub version : f.version ≡ r.version
  pub pages : f.pages ≡ length r.pages
  pub length : f.length ≡ runs_length r
  pub crc : f.crc ≡ runs_crc r

abbrev pub outline_of_fields : ProfileFields → Outline
outline_of_fields f = record { image = f.image; version = f.version; pages = f.pages; crc = f.crc }

-- the fields are those of a profile
pub record IsProfile (f : ProfileFields) : Type 0 where
  pub image : f.image < images
  pub version : 1 ≤ f.version
  pub fewest : fewest_pages ≤ f.pages
  pub most : f.pages ≤ most_pages

-- a page of a version of an image
abbrev pub page_name : (image version page : ℕ) → PageName
page_name image version page = record { image = image; version = version; page = page }

abbrev pub page_of_packet : PacketFields → PageName
page_of_packet f = page_name f.image f.version f.page

-- the fields say what is kept
pub record TellsHeld (f : KeptFields) (h : Held) : Type 0 where
  pub version : f.version ≡ h.version
  pub crc : f.crc ≡ h.crc
  pub pages : f.pages ≡ h.pages
  pub done : f.done ≡ length h.complete
