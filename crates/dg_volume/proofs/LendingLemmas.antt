-- What is reported of an image that is kept.
use Rattle.std.proofs.Common.{◌≡◌, ℕ, ◌^◌, ◌<◌, ◌≤◌, List, Option, Some, None, IfSome, IsTrue, refl, sym, subst, ◌∙◌, arith}
use Rattle.std.proofs.lemmas.Bool.Decides.{nat_tests}
use Rattle.dg_control.specs.Ranges.{slot_fits}
use Rattle.dg_control.specs.declared.snapshot.SlotState.{SlotState}
use Rattle.dg_control.proofs.PlaceLemmas.{in_range}
use Rattle.dg_slot.specs.Layout.{most_pages}
use Rattle.dg_slot.specs.Kept.{Held, KeepsImage}
use Rattle.dg_volume.specs.Sizes.{images}
use Rattle.dg_volume.specs.Store.{Store, held}
use Rattle.dg_volume.specs.Told.{told, told_held, slot_told}
use Rattle.dg_volume.specs.Stands.{Stands, Mounted, IsMounted, kept_at, snapshot_of}
use Rattle.dg_volume.specs.declared.volume.Kept.{Kept}
use Rattle.dg_volume.specs.declared.volume.Volume.{Volume}

-- what is kept in the slot of an image, and reported by the volume
pub record Keeps (c : List ℕ) (s : Store) (i : ℕ) (k : Kept) : Type 0 where
  pub kept : Held
  pub here : held s i ≡ Some kept
  pub told : told_held kept ≡ k
  pub stands : KeepsImage c i kept
  pub some_version : 1 ≤ kept.version

keeps_by : (c : List ℕ) (s : Store) (i : ℕ) (k : Kept) (o : Option Held) → held s i ≡ o → told o ≡ Some k → IfSome o (KeepsImage c i) → IsTrue (slot_fits (slot_told o)) → Keeps c s i k
keeps_by c s i k None is e stands fits = cc
keeps_by c s i k (Some h) is e stands fits = record { kept = h; here = is; told = cc; stands = stands; some_version = grind (arith, nat_tests) }

pub keeps_told : (c : List ℕ) (v : Volume) (s : Store) (i : ℕ) (k : Kept) → i < images → Mounted c v s → kept_at v i ≡ Some k → Keeps c s i k
keeps_told c v s i k known m is =
    let fits : IsTrue (slot_fits (slot_told (held s i))) = subst (λ (x : SlotState). IsTrue (slot_fits x)) (m.tells.says.slots i known) ((in_range (snapshot_of v)).slots i) in
    keeps_by c s i k (held s i) refl (sym (m.tells.kept i known (λ h. h)) ∙ is) (m.stands.contains.kept i known) fits

-- the reported numbers are those of a header
pub record KeptFits (k : Kept) : Type 0 where
  pub some_version : 1 ≤ k.version
  pub some_pages : 2 ≤ k.pages
  pub most_pages : k.pages ≤ most_pages
  pub within : k.done ≤ k.pages

kept_fits_by : (c : List ℕ) (s : Store) (i : ℕ) (k : Kept) → Keeps c s i k → KeptFits k
kept_fits_by c s i k keeps =
    let head = keeps.stands.header in
    subst KeptFits keeps.told (record { some_version = keeps.some_version; some_pages = head.some; most_pages = head.most; within = head.within })

pub kept_fits : (c : List ℕ) (v : Volume) (i : ℕ) (k : Kept) → i < images → IsMounted c v → kept_at v i ≡ Some k → KeptFits k
kept_fits c v i k known m is = kept_fits_by c m.0 i k (keeps_told c v m.0 i k known m.1 is)

-- ---- the version of what is kept

abbrev pub IsVersion : ℕ → Type 0
IsVersion v = (1 ≤ v) × (v < 2 ^ 32)

version_by : (h : Held) → IsTrue (slot_fits (slot_told (Some h))) → IsVersion h.version
version_by h fits = (grind (arith, nat_tests), grind (arith, nat_tests))

pub version_kept : (c : List ℕ) (s : Store) (i : ℕ) (h : Held) → Stands c s → held s i ≡ Some h → i < images → IsVersion h.version
version_kept c s i h stands here known =
    let fits : IsTrue (slot_fits (slot_told (held s i))) = subst (λ (x : SlotState). IsTrue (slot_fits x)) (stands.says.slots i known) ((in_range stands.snapshot).slots i) in
    version_by h (subst (λ (o : Option Held). IsTrue (slot_fits (slot_told o))) here fits)
