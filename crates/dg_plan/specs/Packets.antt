-- Pages that are filled and sealed by plans (docs/C.md, "Plans").
use Rattle.std.specs.Prelude.{◌≡◌, ℕ, ◌+◌, ◌<◌, true, List, length, Option, Some, None}
use Rattle.std.specs.FinSet as set
use Rattle.dg_bits.specs.Sets.{Numbers, least}
use Rattle.dg_nor.specs.Trail.{Trail, resting}
use Rattle.dg_slot.specs.Layout.{page_sector}
use Rattle.dg_slot.specs.Pages.{page_in}
use Rattle.dg_slot.specs.Kept.{Held}
use Rattle.dg_slot.specs.Fits.{may_seal}
use Rattle.dg_slot.specs.Jobs.{Packets, no_packets, ArePut}
use Rattle.dg_volume.specs.Store.{Store, held}
use Rattle.dg_plan.specs.declared.pages.PageName.{PageName}

-- the sector of the page
abbrev pub sector_named : PageName → ℕ
sector_named name = page_sector name.image name.page

-- the page in its sector
abbrev pub its_page : List ℕ → PageName → List ℕ
its_page c name = page_in c (sector_named name)

-- This version of an image is kept up to this page, which is its next one.
pub record IsNext (name : PageName) (h : Held) : Type 0 where
  pub version : h.version ≡ name.version
  pub page : length h.complete ≡ name.page
  pub more : length h.complete < h.pages

-- This version of the image is kept, and another page is its next one, or it is whole.
pub record IsElsewhere (name : PageName) (next : ℕ) (h : Held) : Type 0 where
  pub version : h.version ≡ name.version
  pub done : length h.complete ≡ next
  pub whole : next ≡ name.page → next ≡ h.pages

-- the sector of a page is erased if not one of its packets was put
abbrev pub erases : Option ℕ → ℕ
erases None = 1
erases (Some first) = 0

-- A packet is one program, after the erase. The store is unchanged.
abbrev pub packet_trail : Store → Numbers → Trail Store
packet_trail s got = resting s (erases (least got) + 1)

-- The packets that were put into a sector. If no packet was, the sector may hold anything, and will be erased.
pub record HadPut (c : List ℕ) (k : ℕ) (got : Numbers) (ps : Packets) : Type 0 where
  pub none : got ≡ set.empty → ps ≡ no_packets
  pub some : (got ≡ set.empty → ⊥) → ArePut c k got ps

-- The page is the next one of what is kept of the image, and it fits.
pub record IsSealed (name : PageName) (h : Held) (page : List ℕ) (s : Store) : Type 0 where
  pub here : held s name.image ≡ Some h
  pub next : IsNext name h
  pub fits : may_seal name.image h page ≡ true
