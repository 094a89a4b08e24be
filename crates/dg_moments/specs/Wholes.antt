-- What was noted of images that became whole (the type `Wholes`).
use Rattle.std.specs.Prelude.{◌≡◌, ◌≢◌, ℕ, ◌+◌, ◌-◌, ◌^◌, ◌<◌, ◌≤◌, ◌==◌, ◌&&◌, Bool, true, false, not, nat_lt, if◌then◌else◌}
use Rattle.std.specs.Prelude.{List, ◌++◌, length, slice_get, slice_index_or, Option, Some, None, is_some}
use Rattle.std.specs.Option.{option_or, option_flatten}
use Rattle.std.specs.Ordering.{nat_cmp, ordering_then}
use Rattle.std.specs.declared.cmp.Ordering.{Ordering}
use Rattle.std.specs.BTreeMap.{BTreeMap, get, Updates, is_at}
use Rattle.dg_base.specs.declared.events.ImageVersion.{ImageVersion}
use Rattle.dg_volume.specs.Store.{Store, held}
use Rattle.dg_volume.specs.declared.volume.Kept.{Kept}
use Rattle.dg_rules.specs.Begins.{store_of}
use Rattle.dg_rules.specs.Runs.{Played}
use Rattle.dg_cost_text.specs.declared.moment.Moment.{Moment}
use Rattle.dg_moments.specs.Moments.{one_if, last_in, is_loaded, keeps_version, all_motes, whole_version, kept_whole}
use Rattle.dg_moments.specs.Moments.{whole_moments, all_moments, beginning}
use Rattle.dg_moments.specs.declared.given.Given.{Given}
use Rattle.dg_moments.specs.declared.wholes.ImageAt.{ImageAt}
use Rattle.dg_moments.specs.declared.wholes.Whole.{Whole}
use Rattle.dg_moments.specs.declared.wholes.Wholes.{Wholes}

-- ---- keys

abbrev pub image_at_cmp : ImageAt → ImageAt → Ordering
image_at_cmp a b = ordering_then (nat_cmp a.mote b.mote) (nat_cmp a.image b.image)

abbrev pub image_version_cmp : ImageVersion → ImageVersion → Ordering
image_version_cmp a b = ordering_then (nat_cmp a.image b.image) (nat_cmp a.version b.version)

abbrev pub whole_cmp : Whole → Whole → Ordering
whole_cmp a b =
    ordering_then (nat_cmp a.mote b.mote) (ordering_then (nat_cmp a.image b.image)
    (ordering_then (nat_cmp a.version b.version) (nat_cmp a.times b.times)))

abbrev pub kept_in : BTreeMap ImageAt ℕ → (mote image : ℕ) → Option ℕ
kept_in kept mote image = get image_at_cmp kept (record { mote = mote; image = image })

abbrev pub moment_in : BTreeMap Whole Moment → (mote image version times : ℕ) → Option Moment
moment_in moments mote image version times =
    get whole_cmp moments (record { mote = mote; image = image; version = version; times = times })

abbrev pub all_in : BTreeMap ImageVersion Moment → (image version : ℕ) → Option Moment
all_in moments image version = get image_version_cmp moments (record { image = image; version = version })

-- ---- what was noted of an image

abbrev pub is_counted : (motes mote image times : ℕ) → Bool
is_counted motes mote image times = nat_lt mote motes && (is_loaded image && nat_lt 0 times)

-- Which version each mote keeps whole, when versions became whole at motes, each time, and when at all of them, first and last.
pub record Knows (w : Wholes) (motes image : ℕ) (kept : ℕ → Option ℕ) (moments : ℕ → ℕ → List Moment)
    (all : ℕ → List Moment) : Type 0 where
  pub keeps : is_loaded image ≡ true → (m : ℕ) → kept_in w.kept m image ≡ (if nat_lt m motes then kept m else None)
  pub each : (m v t : ℕ) → moment_in w.moments m image v t
      ≡ (if is_counted motes m image t then slice_get (moments m v) (t - 1) else None)
  pub first : (v : ℕ) → all_in w.all image v ≡ (if is_loaded image then slice_get (all v) 0 else None)
  pub last : (v : ℕ) → all_in w.last image v ≡ (if is_loaded image then last_in (all v) else None)

-- those of these events, at motes whose chips began with these stores
abbrev pub KnowsImage : Wholes → List Store → List Played → (image : ℕ) → Type 0
KnowsImage w stores events image =
    Knows w (length stores) image (kept_whole stores events image) (λ m v. whole_moments stores events m image v)
    (λ v. all_moments stores events image v)

-- ---- the beginning

abbrev pub whole_kept : Option Kept → Option ℕ
whole_kept None = None
whole_kept (Some k) = if k.done == k.pages then Some k.version else None

abbrev pub given_kept : Option Given → (image : ℕ) → Option ℕ
given_kept None image = None
given_kept (Some g) image = whole_kept (slice_index_or g.kept image None)

-- what is told of each board is what its store keeps whole
abbrev pub GivenTells : List (Option Given) → List Store → Type 0
GivenTells given stores = (m image : ℕ) → m < length stores → is_loaded image ≡ true
    → given_kept (option_flatten (slice_get given m)) image ≡ whole_version (held (store_of stores m) image)

-- every moment was noted, and no other, unless memory ran out
abbrev pub HasWholes : Wholes → List Store → List Played → Type 0
HasWholes w stores events = w.lost ≡ false → (image : ℕ) → KnowsImage w stores events image

-- what is noted of an image before the first event, where motes keep these versions of it
abbrev pub Begins : Wholes → (motes image : ℕ) → (kept : ℕ → Option ℕ) → Type 0
Begins w motes image kept = Knows w motes image kept (λ m v. one_if (keeps_version (kept m) v) beginning)
    (λ v. one_if (all_motes motes (λ m. keeps_version (kept m) v)) beginning)

-- ---- a change of what a mote keeps

abbrev pub with_kept : (ℕ → Option ℕ) → (mote : ℕ) → Option ℕ → ℕ → Option ℕ
with_kept kept mote version m = if mote == m then version else kept m

-- the version is kept, and was not before
abbrev pub is_new : (before after : Option ℕ) → (version : ℕ) → Bool
is_new before after version = keeps_version after version && not (keeps_version before version)

abbrev pub all_new : (motes : ℕ) → (before after : ℕ → Option ℕ) → (version : ℕ) → Bool
all_new motes before after version =
    all_motes motes (λ m. keeps_version (after m) version) && not (all_motes motes (λ m. keeps_version (before m) version))

-- from this moment on a mote keeps this version of an image whole, or none
abbrev pub ChangesKept : (before after : Wholes) → (motes mote image : ℕ) → Option ℕ → Moment → Type 0
ChangesKept before after motes mote image version at =
    (kept : ℕ → Option ℕ) (moments : ℕ → ℕ → List Moment) (all : ℕ → List Moment)
    → mote < motes → is_loaded image ≡ true → ((v : ℕ) → length (moments mote v) + 1 < 2 ^ 32 - 1)
    → Knows before motes image kept moments all
    → Knows after motes image (with_kept kept mote version)
    (λ m v. moments m v ++ one_if (is_new (kept m) (with_kept kept mote version m) v) at)
    (λ v. all v ++ one_if (all_new motes kept (with_kept kept mote version) v) at)

-- nothing changes of other images
abbrev pub KeepsOthers : (before after : Wholes) → (image : ℕ) → Type 0
KeepsOthers before after image =
    (motes i : ℕ) (kept : ℕ → Option ℕ) (moments : ℕ → ℕ → List Moment) (all : ℕ → List Moment)
    → i ≢ image → Knows before motes i kept moments all → Knows after motes i kept moments all

-- ---- the steps of such a change

abbrev pub has_all : BTreeMap ImageAt ℕ → (motes image version : ℕ) → Bool
has_all kept motes image version = all_motes motes (λ m. keeps_version (kept_in kept m image) version)

-- one more than the times of which moments were noted
abbrev pub IsNext : BTreeMap Whole Moment → (mote image version times : ℕ) → Type 0
IsNext moments mote image version times = (n : ℕ) → n + 1 < 2 ^ 32 - 1
    → ((k : ℕ) → 1 ≤ k → k ≤ n → is_some (moment_in moments mote image version k) ≡ true)
    → moment_in moments mote image version (n + 1) ≡ None → times ≡ n + 1

pub record AddsMoment (before after : BTreeMap Whole Moment) (mote image version : ℕ) (at : Moment) : Type 0 where
  pub times : ℕ
  pub next : IsNext before mote image version times
  pub updates : Updates whole_cmp before after
      (record { mote = mote; image = image; version = version; times = times }) (Some at)

abbrev pub AddsFirst : (before after : BTreeMap ImageVersion Moment) → ImageVersion → Moment → Type 0
AddsFirst before after key at = (q : ImageVersion) → get image_version_cmp after q
    ≡ (if is_at (image_version_cmp key) q then option_or (get image_version_cmp before q) (Some at)
    else get image_version_cmp before q)

-- If each mote keeps the version whole, this is the last moment of that, and the first one where there was none.
pub record NotesAll (before after : Wholes) (motes image version : ℕ) (at : Moment) : Type 0 where
  pub first : (i v : ℕ) → all_in after.all i v
      ≡ (if has_all before.kept motes image version && ((image == i) && (version == v))
      then option_or (all_in before.all i v) (Some at) else all_in before.all i v)
  pub last : (i v : ℕ) → all_in after.last i v
      ≡ (if has_all before.kept motes image version && ((image == i) && (version == v)) then Some at
      else all_in before.last i v)
