-- What was read of boards before a run is what the stores keep for which they stand.
use Rattle.std.proofs.Common.{◌≡◌, ℕ, ◌<◌, ◌≤◌, false, nat_lt, List, [], ◌∷◌, length, inl, inr, refl, ap, subst, ◌∙◌, zero, suc, arith}
use Rattle.std.specs.Prelude.{slice_get, Option, Some, None}
use Rattle.std.specs.Option.{option_flatten}
use Rattle.std.proofs.lemmas.Bool.{cases_Bool, both_ways, ltb-true, and_parts}
use Rattle.dg_nor.specs.Device.{Device}
use Rattle.dg_slot.specs.Kept.{Held}
use Rattle.dg_volume.specs.Sizes.{images}
use Rattle.dg_volume.specs.Stands.{Stands}
use Rattle.dg_volume.specs.Store.{Store, held}
use Rattle.dg_volume.specs.Told.{told}
use Rattle.dg_rules.specs.Begins.{store_of}
use Rattle.dg_world.specs.Applied.{SameBoards}
use Rattle.dg_world.specs.Mounted.{StandFor}
use Rattle.dg_moments.specs.Looking.{read_of, ReadsBoards}
use Rattle.dg_moments.specs.Moments.{whole_version}
use Rattle.dg_moments.specs.Wholes.{whole_kept, given_kept, GivenTells}
use Rattle.dg_moments.specs.declared.given.Given.{Given}

given_is : (given : Option Given) (image : ℕ) → given_kept given image ≡ whole_kept (read_of given image)
given_is None image = refl
given_is (Some g) image = refl

told_whole : (kept : Option Held) → whole_kept (told kept) ≡ whole_version kept
told_whole None = refl
told_whole (Some h) = refl

pub get_there : {A : Type 0} (xs : List A) (i : ℕ) → i < length xs → (x : A) × (slice_get xs i ≡ Some x)
get_there [] i lt = absurd (omega (arith, lt))
get_there (x ∷ xs) zero lt = (x, refl)
get_there (x ∷ xs) (suc i) lt = get_there xs i (omega (arith, lt))

-- the motes' boards are those of which it was read, and were only read since then
pub given_tells : (motes : ℕ) (given : List (Option Given)) (initial boards : List Device) (stores : List Store) → StandFor motes stores boards → motes ≤ length boards
    → SameBoards initial boards → ReadsBoards given initial → GivenTells given stores
given_tells motes given initial boards stores stand enough same reads m image lt loaded =
    given_is (option_flatten (slice_get given m)) image ∙ ap whole_kept read ∙ told_whole (held (store_of stores m) image)
  where
    there : m < motes
    there = omega (arith, lt, stand.count)

    now : (d : Device) × (slice_get boards m ≡ Some d)
    now = get_there boards m (omega (arith, there, enough))

    was : (d : Device) × (slice_get initial m ≡ Some d)
    was = get_there initial m (omega (arith, there, enough, same.count))

    awake : was.0.stopped ≡ false
    awake = elim (cases_Bool was.0.stopped) [
      | inl stopped ↦ absurd (both_ways now.0.stopped (stand.awake m now.0 there now.1) ((same.endures m was.0 now.0 was.1 now.1).stays stopped))
      | inr is ↦ is
    ]

    stands : Stands was.0.image (store_of stores m)
    stands = subst (λ (c : List ℕ). Stands c (store_of stores m)) (same.images m was.0 now.0 was.1 now.1) (stand.each m now.0 there now.1)

    read : read_of (option_flatten (slice_get given m)) image ≡ told (held (store_of stores m) image)
    read = reads m was.0 was.1 awake (store_of stores m) stands image (ltb-true image images (and_parts (nat_lt 0 image) (nat_lt image images) loaded).1)
