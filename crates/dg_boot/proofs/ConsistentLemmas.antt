-- Starts over consistent stores.
use Rattle.std.proofs.Common.{◌≡◌, ℕ, List, Option, Some, Result, Ok, Err, IfOk, sym, ap, ◌∙◌, subst}
use Rattle.std.specs.Prelude.{IfSome}
use Rattle.dg_nor.specs.Device.{Device}
use Rattle.dg_nor.specs.Trail.{Trail, Leaves, last}
use Rattle.dg_nor.specs.Through.{Through}
use Rattle.dg_nor.proofs.ThroughLemmas.{Through-last, Leaves-through}
use Rattle.dg_object.specs.Object.{Row}
use Rattle.dg_slot.specs.Pages.{program}
use Rattle.dg_volume.specs.Store.{Store, App, IsNear}
use Rattle.dg_volume.specs.Stands.{Stands}
use Rattle.dg_volume.specs.Start.{Boot, Runs, app_of}
use Rattle.dg_volume.specs.Consistent.{Consistent, IsSoundApp}
use Rattle.dg_boot.specs.Started.{Starts}
use Rattle.dg_boot.specs.Ends.{BootOutcome}
use Rattle.dg_boot.specs.declared.Started.{Started}
use Rattle.dg_boot.specs.declared.BootFault.{BootFault}
use Rattle.dg_boot.specs.declared.BootFault.TheVariants as faults

-- ---- the store when a start has ended

-- a chip of these bytes stands for a consistent store
abbrev pub Stays : Row → List ℕ → Type 0
Stays golden c = (t : Store) × Stands c t × Consistent golden t

-- the room does not matter
with_room : (golden : Row) (s : Store) (room : ℕ) → Consistent golden s → Consistent golden (record s { room = room })
with_room golden s room c = record { version = c.version; golden = c.golden; kept = c.kept; app = c.app }

near : (golden : Row) (a s : Store) → Consistent golden a → IsNear a s → Consistent golden s
near golden a s c is = subst (λ (x : Store). Consistent golden x) (sym is.same) (with_room golden a s.room c)

left : (golden : Row) (t : Trail Store) (k : ℕ) (s : Store) → Through (Consistent golden) t → Leaves IsNear t k s → Consistent golden s
left golden t k s way h = Leaves-through IsNear (Consistent golden) (near golden) t k s way h

ends : (golden : Row) (t : Trail Store) (c : List ℕ) → Through (Consistent golden) t → Stands c (last t) → Stays golden c
ends golden t c way stands = (last t, stands, Through-last (Consistent golden) t way)

pub boots_consistent : (golden : Row) (r : Result Started BootFault) (b : Boot) (x y : Device) → Through (Consistent golden) b.trail → BootOutcome r b x y → Stays golden y.image
boots_consistent golden (Ok told) b x y way h = ends golden b.trail y.image way h.0.acted.mounted.stands
boots_consistent golden (Err faults.NoImage) b x y way h = ends golden b.trail y.image way h.stands
boots_consistent golden (Err faults.Stopped) b x y way h = (h.leaves.store, h.leaves.stands_for, left golden b.trail h.done h.leaves.store way h.leaves.allowed)
boots_consistent golden (Err faults.NotAVolume) b x y way h = absurd h

-- a chip that was only read stands for the same store
pub read_consistent : (golden : Row) (s : Store) (before after : List ℕ) → after ≡ before → Stands before s → Consistent golden s → Stays golden after
read_consistent golden s before after same stands c = (s, subst (λ (image : List ℕ). Stands image s) (sym same) stands, c)

-- ---- what runs

-- what is reported of a start, and the pages in program memory
abbrev pub app_told : List ℕ → Started → App
app_told c told = record { image = told.image; version = told.version; pages = program c told.pages }

same_app : (c : List ℕ) (told : Started) (r : Runs) → told.image ≡ r.image → told.version ≡ r.version → program c told.pages ≡ r.pages → app_of r ≡ app_told c told
same_app c told r image version pages =
    ap (λ i. record { image = i; version = r.version; pages = r.pages }) (sym image)
    ∙ ap (λ v. record { image = told.image; version = v; pages = r.pages }) (sym version)
    ∙ ap (λ p. record { image = told.image; version = told.version; pages = p }) (sym pages)

chosen_sound : (golden : Row) (o : Option Runs) (r : Runs) → o ≡ Some r → IfSome o (λ x. IsSoundApp golden (app_of x)) → IsSoundApp golden (app_of r)
chosen_sound golden o r is h = subst (λ (p : Option Runs). IfSome p (λ x. IsSoundApp golden (app_of x))) is h

pub starts_sound : (golden : Row) (b : Boot) (x y : Device) (told : Started) → IfSome b.runs (λ r. IsSoundApp golden (app_of r)) → Starts b x y told → IsSoundApp golden (app_told y.image told)
starts_sound golden b x y told sound h =
    subst (IsSoundApp golden) (same_app y.image told h.runs h.image h.version h.memory) (chosen_sound golden b.runs h.runs h.chosen sound)

-- whatever store the chip stands for
pub all_sound : (r : Result Started BootFault) (b : Store → Boot) (x y : Device) → ((golden : Row) (s : Store) → Consistent golden s → IfSome (b s).runs (λ r. IsSoundApp golden (app_of r)))
    → ((s : Store) → Stands x.image s → BootOutcome r (b s) x y)
    → IfOk r (λ told. (golden : Row) (s : Store) → Stands x.image s → Consistent golden s → IsSoundApp golden (app_told y.image told))
all_sound (Ok told) b x y sound h = λ golden s stands c. starts_sound golden (b s) x y told (sound golden s c) (h s stands).0
all_sound (Err e) b x y sound h = tt
