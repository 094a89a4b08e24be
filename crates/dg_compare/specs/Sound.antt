-- What is sound of a chip, and the first of it that is not (docs/COMMANDS.md, "Looking into chips").
use Rattle.std.specs.Prelude.{◌≡◌, ◌≢◌, ℕ, ◌<◌, ◌≤◌, List, [], length, drop, slice_index_or, Option, IfSome, IsSomeAnd}
use Rattle.dg_base.specs.Crc.{crc_of}
use Rattle.dg_object.specs.Descriptor.{Describes, crc_in}
use Rattle.dg_volume.specs.Sizes.{images}
use Rattle.dg_volume.specs.Store.{App, Store, held}
use Rattle.dg_volume.specs.Stands.{Stands}
use Rattle.dg_volume.specs.Consistent.{FitFirst, IsSoundSoFar}
use Rattle.dg_chain.specs.Checking.{Answer, Fine, answer_of}
use Rattle.dg_inspect.specs.Files.{chip_of}
use Rattle.dg_compare.specs.Volumes.{IsVolumeFile}
use Rattle.dg_compare.specs.declared.results.Flaw.{Flaw}
use Rattle.dg_compare.specs.declared.results.Flaw.TheVariants as flaw
use Rattle.dg_compare.specs.declared.results.Rooted.{Rooted}
use Rattle.dg_compare.specs.declared.results.Verdict.{Verdict}
use Rattle.dg_compare.specs.declared.results.Verdict.TheVariants as verdict

-- program memory holds the pages that its descriptor counts, and each has the CRC that page 0 keeps of it
pub record IsSoundProgram (app : App) : Type 0 where
  pub described : Describes (slice_index_or app.pages 0 []) app.image app.version (length app.pages)
  pub rest : FitFirst app.pages

-- the slots before this one are sound as far as their pages are complete
abbrev pub SoundTo : Store → ℕ → Type 0
SoundTo s n = (i : ℕ) → i < n → IfSome (held s i) (IsSoundSoFar i)

-- all that is kept, and what runs, is sound
pub record IsSound (s : Store) : Type 0 where
  pub kept : SoundTo s images
  pub program : IfSome s.app IsSoundProgram

-- the image is kept whole, and its data pages are those that the root names
abbrev pub HasRoot : Store → Rooted → Type 0
HasRoot s r = IsSomeAnd (held s r.image)
    (λ h. (length h.complete ≡ h.pages) × ((n : ℕ) × (answer_of r.root (drop 1 h.complete) ≡ Fine n)))

-- a root, if there is one, names its image
abbrev pub HasRoots : Store → Option Rooted → Type 0
HasRoots s r = IfSome r (HasRoot s)

-- ---- the first that is not sound

-- page p is there, and is the first that does not have the CRC that page 0 keeps of it
pub record IsFirstUnfit (pages : List (List ℕ)) (p : ℕ) : Type 0 where
  pub some : 1 ≤ p
  pub within : p < length pages
  pub differs : crc_of (slice_index_or pages p []) ≢ crc_in (slice_index_or pages 0 []) p
  pub before : (q : ℕ) → 1 ≤ q → q < p → crc_of (slice_index_or pages q []) ≡ crc_in (slice_index_or pages 0 []) q

abbrev pub IsFirstFlaw : Store → Option Rooted → Flaw → Type 0
IsFirstFlaw s r (flaw.Image i p) =
    (i < images) × SoundTo s i × IsSomeAnd (held s i) (λ h. IsFirstUnfit h.complete p)
IsFirstFlaw s r (flaw.Program p) = SoundTo s images × IsSomeAnd s.app (λ app. IsFirstUnfit app.pages p)
IsFirstFlaw s r (flaw.Root i) = IsSound s × IsSomeAnd r (λ x. (x.image ≡ i) × (HasRoot s x → ⊥))

-- ---- files

abbrev pub Judges : List ℕ → Option Rooted → Verdict → Type 0
Judges bytes r verdict.Sound =
    IsVolumeFile bytes × ((s : Store) → Stands (chip_of bytes) s → IsSound s × HasRoots s r)
Judges bytes r (verdict.Flawed f) =
    IsVolumeFile bytes × ((s : Store) → Stands (chip_of bytes) s → IsFirstFlaw s r f)
Judges bytes r verdict.NoVolume = IsVolumeFile bytes → ⊥
