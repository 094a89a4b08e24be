-- Who keeps a row whole, how far all motes are from there, and when a number of sweeps is enough (docs/SCRIPTS.md, "Sweeps that
-- are enough").
use Rattle.std.specs.Prelude.{◌≡◌, ℕ, ◌<◌, ◌≤◌, true, length, Some}
use Rattle.dg_object.specs.Object.{Row}
use Rattle.dg_volume.specs.Sizes.{images}
use Rattle.dg_rounds.specs.LinkPaths.{LinkPath}
use Rattle.dg_rules.specs.World.{World, store_at}
use Rattle.dg_completion.specs.Completion.{newest, page_count, pages_kept, within, IsEnough}

-- a mote keeps all pages of a row
pub record KeepsWhole (w : World) (row : Row) (m : ℕ) : Type 0 where
  pub there : m < length w.sites
  pub pages : page_count row ≤ pages_kept (store_at w m) row

-- a path of no more than h links leads to a mote from one that keeps the row whole
pub record HolderWithin (w : World) (row : Row) (h m : ℕ) : Type 0 where
  pub holder : ℕ
  pub keeps : KeepsWhole w row holder
  pub links : ℕ
  pub few : links ≤ h
  pub way : LinkPath w.links holder links m

-- `within` is true exactly if there is such a path
abbrev pub WithinLaw : Type 0
WithinLaw = (w : World) (row : Row) (h m : ℕ)
    → (within w row h m ≡ true → HolderWithin w row h m) × (HolderWithin w row h m → within w row h m ≡ true)

-- some mote keeps the row whole, and a path leads from it to every mote
pub record ReachesAll (w : World) (row : Row) : Type 0 where
  pub holder : ℕ
  pub keeps : KeepsWhole w row holder
  pub ways : (m : ℕ) → m < length w.sites → (links : ℕ) × LinkPath w.links holder links m

-- this holds for the newest row of each image that has one
abbrev pub AllReached : World → Type 0
AllReached w = (i : ℕ) (row : Row) → 1 ≤ i → i < images → newest w.table i ≡ Some row → ReachesAll w row

-- in that case some number of sweeps is enough
abbrev pub EnoughLaw : Type 0
EnoughLaw = (w : World) → AllReached w → (n : ℕ) × IsEnough w n

-- only one number of sweeps is called enough
abbrev pub OneEnoughLaw : Type 0
OneEnoughLaw = (w : World) (m n : ℕ) → IsEnough w m → IsEnough w n → m ≡ n
