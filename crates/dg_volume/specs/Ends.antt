-- The stores in which acts and starts end, and what they leave unchanged (docs/IMAGES.md, "Takes, injections and orders").
use Rattle.std.specs.Prelude.{◌≡◌, ◌≢◌, ◌⊎◌, ℕ, ◌+◌, ◌-◌, ◌<◌, ◌≤◌, ◌&&◌, ◌||◌, not, nat_lt, if◌then◌else◌, Bool, true, List, []}
use Rattle.std.specs.Prelude.{◌++◌, length, slice_index_or, Option, Some, None, IfSome}
use Rattle.dg_nor.specs.Trail.{last}
use Rattle.dg_nor.specs.Through.{Through}
use Rattle.dg_object.specs.Object.{Row, Outline, page_of_row, object, profile}
use Rattle.dg_slot.specs.Kept.{Held, held_begun}
use Rattle.dg_volume.specs.Sizes.{golden_version}
use Rattle.dg_volume.specs.Store.{Store, App, held, held_to, held_whole}
use Rattle.dg_volume.specs.Changes.{keeping, is_version}
use Rattle.dg_volume.specs.Start.{Runs, Boot, complete_pages, is_whole, is_set_to, app_of, kept_runs, golden_done}

-- ---- a take

-- one commit gives up what is kept, and one keeps the new version
abbrev pub take_commits : Option Held → ℕ
take_commits None = 1
take_commits (Some h) = 2

-- the slot of an image is taken for a profile
abbrev pub taken : Store → Outline → Store
taken s p = keeping p.image (Some (held_begun p)) (record s { room = s.room - take_commits (held s p.image) })

-- these further pages are complete
abbrev pub with_pages : Held → List (List ℕ) → Held
with_pages h pages = record h { complete = h.complete ++ pages }

-- ---- an injection

-- if this version is kept, no commit is made
abbrev pub inject_commits : Option Held → ℕ → ℕ
inject_commits o version = if is_version o version then 0 else take_commits o

-- the image is kept whole
abbrev pub injected : Store → Row → Store
injected s row = keeping row.image (Some (held_whole row))
    (record s { room = s.room - inject_commits (held s row.image) row.version })

-- if this version is kept, the pages that are complete are the row's
abbrev pub KeepsPagesOf : Row → Held → Type 0
KeepsPagesOf row h = h.version ≡ row.version → (n : ℕ) × (n ≤ length (object row)) × (h ≡ held_to row n)

-- the row's profile is kept, and if there is a complete page, page 0 is the row's
pub record PartOf (row : Row) (h : Held) : Type 0 where
  pub version : h.version ≡ row.version
  pub pages : h.pages ≡ (profile row).pages
  pub crc : h.crc ≡ (profile row).crc
  pub first : 0 < length h.complete → slice_index_or h.complete 0 [] ≡ page_of_row row 0

-- ---- a start

-- program memory is blank: a commit made it so, unless it was blank before
abbrev pub blank_commits : Option App → ℕ
blank_commits None = 0
blank_commits (Some app) = 1

abbrev pub blanked : Store → Store
blanked s = record s { app = None; room = s.room - blank_commits s.app }

-- the ordered image runs, and program memory is Set to it
abbrev pub ordered_runs : Store → Runs
ordered_runs s = kept_runs s s.order.image s.order.version

abbrev pub order_started : Store → Store
order_started s = record s { app = Some (app_of (ordered_runs s)); room = s.room - (blank_commits s.app + 1) }

-- golden runs: the last commit is made if there is room, unless it would change nothing
abbrev pub golden_started : Store → Runs → Bool → Store
golden_started s r three = if nat_lt 0 s.room && (not (is_set_to s.app 0 golden_version) || three) then golden_done s r three
    else s

-- what is in program memory runs on
abbrev pub app_runs : App → Runs
app_runs app = record { image = app.image; version = app.version; pages = app.pages }

-- golden that is in program memory
abbrev pub golden_runs : App → Runs
golden_runs app = record { image = 0; version = golden_version; pages = app.pages }

-- the start runs this, and ends in this store
pub record BootEnds (b : Boot) (runs : Runs) (s : Store) : Type 0 where
  pub started : b.runs ≡ Some runs
  pub ends : last b.trail ≡ s

pub record IsGolden (r : Runs) : Type 0 where
  pub image : r.image ≡ 0
  pub version : r.version ≡ golden_version

-- the ordered image is kept whole, and these are its pages
pub record IsOrdered (s : Store) (r : Runs) : Type 0 where
  pub some : s.order.number ≢ 0
  pub image : r.image ≡ s.order.image
  pub version : r.version ≡ s.order.version
  pub whole : is_whole (held s s.order.image) s.order.version ≡ true
  pub pages : r.pages ≡ complete_pages (held s s.order.image)

-- golden runs, or what program memory was Set to, or the ordered image
abbrev pub MayBoot : Store → Runs → Type 0
MayBoot s r = IsGolden r ⊎ ((s.app ≡ Some (app_of r)) ⊎ IsOrdered s r)

-- Kept images and the order are unchanged. Program memory is unchanged, or blank, or Set to what runs.
pub record OnTheWay (s : Store) (runs : Option Runs) (t : Store) : Type 0 where
  pub kept : t.kept ≡ s.kept
  pub order : t.order ≡ s.order
  pub app : (t.app ≡ s.app) ⊎ ((t.app ≡ None) ⊎ ((r : Runs) × (runs ≡ Some r) × (t.app ≡ Some (app_of r))))

-- A start of this store.
pub record Boots (s : Store) (b : Boot) : Type 0 where
  pub way : Through (OnTheWay s b.runs) b.trail
  pub chosen : IfSome b.runs (MayBoot s)
  -- program memory is Set to what runs, or blank if golden runs
  pub memory : IfSome b.runs (λ r. ((last b.trail).app ≡ Some (app_of r)) ⊎ (((last b.trail).app ≡ None) × IsGolden r))
