-- How two chips compare (docs/COMMANDS.md, "Looking into chips").
use Rattle.std.specs.Prelude.{◌≡◌, ◌≢◌, ◌↔◌, ℕ, ◌<◌, ◌==◌, ◌&&◌, ◌||◌, nat_le, nat_lt, not, Bool, false, if◌then◌else◌, IsTrue}
use Rattle.std.specs.Prelude.{List, [], length, slice_index_or, Option, Some, None, IsSomeAnd}
use Rattle.dg_slot.specs.Kept.{Held}
use Rattle.dg_volume.specs.Sizes.{images, most_take_commits}
use Rattle.dg_volume.specs.Start.{complete_pages}
use Rattle.dg_volume.specs.Store.{App, Store, held}
use Rattle.dg_volume.specs.Stands.{Stands}
use Rattle.dg_inspect.specs.Files.{chip_of}
use Rattle.dg_compare.specs.Volumes.{IsVolumeFile}
use Rattle.dg_compare.specs.declared.results.Ahead.{Ahead}
use Rattle.dg_compare.specs.declared.results.Compared.{Compared}
use Rattle.dg_compare.specs.declared.results.Compared.TheVariants.{Volumes, NoVolume}
use Rattle.dg_compare.specs.declared.results.Comparison.{Comparison}
use Rattle.dg_compare.specs.declared.results.ImageCompared.{ImageCompared}
use Rattle.dg_compare.specs.declared.results.OrderCompared.{OrderCompared}
use Rattle.dg_compare.specs.declared.results.ProgramCompared.{ProgramCompared}
use Rattle.dg_compare.specs.declared.results.SharedPages.{SharedPages}
use Rattle.dg_compare.specs.declared.results.SharedPages.TheVariants.{Nothing, Equal, Differ}
use Rattle.dg_compare.specs.declared.results.Side.{Side}
use Rattle.dg_compare.specs.declared.results.Side.TheVariants.{First, Second}

-- ---- which is ahead

-- what is kept first is more, as for completion: it has a page, and the other has nothing, or an older version, or fewer pages
abbrev pub keeps_more : Option Held → Option Held → Bool
keeps_more None b = false
keeps_more (Some h) None = nat_le 1 (length h.complete)
keeps_more (Some h) (Some g) =
    nat_le 1 (length h.complete) && (nat_lt g.version h.version
    || ((g.version == h.version) && nat_lt (length g.complete) (length h.complete)))

-- both keep one version, in two profiles
abbrev pub two_profiles : Option Held → Option Held → Bool
two_profiles None b = false
two_profiles (Some h) None = false
two_profiles (Some h) (Some g) = (h.version == g.version) && not ((h.pages == g.pages) && (h.crc == g.crc))

-- the one that is ahead, of two that have this many commits left
abbrev pub leads : Option Held → Option Held → (room other : ℕ) → Option Ahead
leads a b room other =
    if keeps_more a b
    then Some (record { side = First; has_room = nat_le most_take_commits other; other_profile = two_profiles a b })
    else if keeps_more b a
    then Some (record { side = Second; has_room = nat_le most_take_commits room; other_profile = two_profiles a b })
    else None

-- ---- what both have

-- the pages that are in both lists are equal, or the first that differs is this one
abbrev pub PagesShared : List (List ℕ) → List (List ℕ) → SharedPages → Type 0
PagesShared xs ys Nothing = ⊥
PagesShared xs ys Equal =
    (p : ℕ) → p < length xs → p < length ys → slice_index_or xs p [] ≡ slice_index_or ys p []
PagesShared xs ys (Differ p) =
    (p < length xs) × (p < length ys) × (slice_index_or xs p [] ≢ slice_index_or ys p [])
    × ((q : ℕ) → q < p → slice_index_or xs q [] ≡ slice_index_or ys q [])

-- where both have one version
pub record Shares (One : Type 0) (xs ys : List (List ℕ)) (x : SharedPages) : Type 0 where
  pub pages : One → PagesShared xs ys x
  pub nothing : (One → ⊥) → x ≡ Nothing

abbrev pub KeepOneVersion : Option Held → Option Held → Type 0
KeepOneVersion a b = IsSomeAnd a (λ h. IsSomeAnd b (λ g. h.version ≡ g.version))

abbrev pub SetToOne : Option App → Option App → Type 0
SetToOne a b = IsSomeAnd a (λ x. IsSomeAnd b (λ y. (x.image ≡ y.image) × (x.version ≡ y.version)))

abbrev pub app_pages : Option App → List (List ℕ)
app_pages None = []
app_pages (Some app) = app.pages

-- ---- images, program memory, orders

pub record ComparesImage (s t : Store) (i : ℕ) (x : ImageCompared) : Type 0 where
  pub ahead : x.ahead ≡ leads (held s i) (held t i) s.room t.room
  pub shared : Shares (KeepOneVersion (held s i) (held t i)) (complete_pages (held s i)) (complete_pages (held t i)) x.shared
  pub alike : IsTrue x.alike ↔ (held s i ≡ held t i)

pub record ComparesProgram (s t : Store) (x : ProgramCompared) : Type 0 where
  pub shared : Shares (SetToOne s.app t.app) (app_pages s.app) (app_pages t.app) x.shared
  pub alike : IsTrue x.alike ↔ (s.app ≡ t.app)

-- the larger number
abbrev pub larger : (m n : ℕ) → Option Side
larger m n = if nat_lt n m then Some First else if nat_lt m n then Some Second else None

-- there is an order, and it is waived
abbrev pub waives_order : Store → Bool
waives_order s = not (s.order.number == 0) && s.waived

pub record AreOrdersAlike (s t : Store) : Type 0 where
  pub order : s.order ≡ t.order
  pub waived : waives_order s ≡ waives_order t

pub record ComparesOrder (s t : Store) (x : OrderCompared) : Type 0 where
  pub ahead : x.ahead ≡ larger s.order.number t.order.number
  pub alike : IsTrue x.alike ↔ AreOrdersAlike s t

-- ---- chips

-- they keep the same images, page by page, run the same, and have the same order. Room and short starts may differ
pub record AreAlike (s t : Store) : Type 0 where
  pub images : (i : ℕ) → i < images → held s i ≡ held t i
  pub program : s.app ≡ t.app
  pub orders : AreOrdersAlike s t

pub record Compares (s t : Store) (x : Comparison) : Type 0 where
  pub count : length x.images.items ≡ images
  pub images : (i : ℕ) (d : ImageCompared) → i < images → ComparesImage s t i (slice_index_or x.images.items i d)
  pub program : ComparesProgram s t x.program
  pub order : ComparesOrder s t x.order
  pub alike : IsTrue x.alike ↔ AreAlike s t

-- ---- files

abbrev pub ComparesFiles : (first second : List ℕ) → Compared → Type 0
ComparesFiles a b (Volumes x) = IsVolumeFile a × IsVolumeFile b
    × ((s t : Store) → Stands (chip_of a) s → Stands (chip_of b) t → Compares s t x)
ComparesFiles a b (NoVolume First) = IsVolumeFile a → ⊥
ComparesFiles a b (NoVolume Second) = IsVolumeFile a × (IsVolumeFile b → ⊥)
