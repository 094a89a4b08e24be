-- Trails that go through stores in which a fact stays true. The fact depends only on what is kept and on program memory.
use Rattle.std.proofs.Common.{◌≡◌, ℕ, ◌<◌, ◌≤◌, true, List, [], ◌∷◌, drop, length, Option, Some, None, IfSome, refl, sym, ap, subst, ◌∙◌, arith}
use Rattle.dg_volume.specs.Ends.{taken}
use Rattle.dg_volume.proofs.ActEndLemmas.{take_last}
use Rattle.dg_volume.proofs.HeldLemmas.{held_here}
use Rattle.std.proofs.Math.ListN.{length-set}
use Rattle.std.proofs.lemmas.Bool.{cond_both}
use Rattle.std.proofs.lemmas.Bool.Decides.{nat_tests}
use Rattle.std.specs.Prelude.{◌==◌, nat_lt}
use Rattle.dg_nor.specs.Trail.{Trail, last, joined, resting, stepping}
use Rattle.dg_nor.specs.Through.{Through}
use Rattle.dg_nor.proofs.ThroughLemmas.{Through-joined, Through-resting, Through-stepping, Through-last}
use Rattle.dg_control.specs.Store.{commit_operations}
use Rattle.dg_control.specs.declared.snapshot.Order.{Order}
use Rattle.dg_object.specs.Object.{Row, Outline, object, profile}
use Rattle.dg_slot.specs.Layout.{page_operations, most_bytes}
use Rattle.dg_slot.specs.Kept.{Held, held_begun}
use Rattle.dg_volume.specs.Sizes.{old_form}
use Rattle.dg_volume.specs.Store.{Store, App, held}
use Rattle.dg_volume.specs.Changes.{spent, keeping, paged, ordered, gesture_cleared, is_version, inject_refusal, refusal_by}
use Rattle.dg_volume.specs.Trails.{committing, order_trail, clear_trail, migrate_trail, drop_by, drop_trail, open_trail, take_trail, fill_trail, inject_by, inject_trail, done_of}
use Rattle.dg_volume.specs.declared.volume.InjectFault.{InjectFault}
use Rattle.dg_volume.specs.declared.volume.InjectFault.TheVariants.{Empty, TooLarge, Reserved}

-- ---- what a take leaves

-- the number of kept images is unchanged
drop_count : (s : Store) (i : ℕ) (o : Option Held) → length (last (drop_by o s i)).kept ≡ length s.kept
unfolding Rattle.dg_nor.specs.Trail.last_of
drop_count s i None = refl
drop_count s i (Some h) = length-set s.kept i None

not_golden : (s : Store) (row : Row) → inject_refusal s row ≡ None → 1 ≤ row.image
not_golden s row e =
    let P : Option InjectFault → Type 0 = λ o. o ≡ None → 1 ≤ row.image in
    cond_both (length row.bytes == 0) (Some Empty) _ P (λ _ f. cc)
    (λ _. cond_both (nat_lt most_bytes (length row.bytes)) (Some TooLarge) _ P (λ _ f. cc)
    (λ _. cond_both (row.image == 0) (Some Reserved) (refusal_by (held s row.image) s row) P (λ _ f. cc) (λ test f. grind (arith, nat_tests))))
    e

-- ---- a fact of stores

-- A is true of what is in program memory, and the fact depends on that and on what is kept
pub record Stays (P : Store → Type 0) (A : App → Type 0) : Type 0 where
  pub memory : (s : Store) → P s → IfSome s.app A
  pub loaded : (s t : Store) → t.kept ≡ s.kept → IfSome t.app A → P s → P t

module _ (P : Store → Type 0) (A : App → Type 0) (stays : Stays P A) where
  stays_same : (s t : Store) → t.kept ≡ s.kept → t.app ≡ s.app → P s → P t
  stays_same s t kept app a = stays.loaded s t kept (subst (λ (o : Option App). IfSome o A) (sym app) (stays.memory s a)) a

  pub order_through : (s : Store) (o : Order) → P s → Through P (order_trail s o)
  order_through s o a = Through-stepping P s (commit_operations s.room) (ordered s o) a (stays_same s (ordered s o) refl refl a)

  pub clear_through : (s : Store) → P s → Through P (clear_trail s)
  clear_through s a = Through-stepping P s (commit_operations s.room) (gesture_cleared s) a (stays_same s (gesture_cleared s) refl refl a)

  pub migrate_through : (form : ℕ) (s : Store) → P s → Through P (migrate_trail form s)
  migrate_through form s a =
      cond_both (form == old_form) _ _ (Through P)
      (λ _. Through-stepping P s (commit_operations s.room) (spent s) a (stays_same s (spent s) refl refl a))
      (λ _. Through-resting P s 0 a)

  -- K is true of each image that is kept
  module _ (K : ℕ → Held → Type 0) (keeps : (s : Store) (i : ℕ) (o : Option Held) → 1 ≤ i → i < length s.kept → IfSome o (K i) → P s → P (keeping i o s)) where
    -- one commit that keeps this of an image
    keep_through : (s : Store) (i : ℕ) (o : Option Held) → 1 ≤ i → i < length s.kept → IfSome o (K i) → P s → Through P (committing s (keeping i o (spent s)))
    keep_through s i o low within kept a =
        Through-stepping P s (commit_operations s.room) (keeping i o (spent s)) a (keeps (spent s) i o low within kept (stays_same s (spent s) refl refl a))

    drop_through : (s : Store) (i : ℕ) (o : Option Held) → 1 ≤ i → i < length s.kept → P s → Through P (drop_by o s i)
    drop_through s i None low within a = Through-resting P s 0 a
    drop_through s i (Some h) low within a = keep_through s i None low within tt a

    pub take_through : (s : Store) (p : Outline) → 1 ≤ p.image → p.image < length s.kept → K p.image (held_begun p) → P s → Through P (take_trail s p)
    unfolding take_trail drop_trail
    take_through s p low within begun a =
        let t = drop_by (held s p.image) s p.image in
        let x = last t in
        let first = drop_through s p.image (held s p.image) low within a in
        let here = Through-last P t first in
        Through-joined P t (open_trail x p) first
        (Through-joined P (resting x 2) (committing x (keeping p.image (Some (held_begun p)) (spent x))) (Through-resting P x 2 here)
        (keep_through x p.image (Some (held_begun p)) low (omega (arith, within, drop_count s p.image (held s p.image))) begun here))

    -- F is true of pages that may be filled
    pub fill_through : (i : ℕ) (F : List (List ℕ) → Store → Type 0) → ((s : Store) (page : List ℕ) (pages : List (List ℕ)) → F (page ∷ pages) s → P s → P (paged i page s) × F pages (paged i page s))
        → (pages : List (List ℕ)) (s : Store) → F pages s → P s → Through P (fill_trail s i pages)
    unfolding fill_trail
    fill_through i F next [] s fit a = Through-resting P s 0 a
    fill_through i F next (page ∷ pages) s fit a =
        let t = paged i page s in
        let one = next s page pages fit a in
        Through-joined P (stepping s page_operations t) (fill_trail t i pages) (Through-stepping P s page_operations t a one.0) (fill_through i F next pages t one.1 one.0)

    anew_through : (s : Store) (row : Row) → 1 ≤ row.image → row.image < length s.kept → K row.image (held_begun (profile row))
        → ((t : Store) → row.image < length t.kept → held t row.image ≡ Some (held_begun (profile row)) → P t → Through P (fill_trail t row.image (object row)))
        → P s → Through P (joined (take_trail s (profile row)) (fill_trail (last (take_trail s (profile row))) row.image (object row)))
    anew_through s row low within begun fill a =
        let t = take_trail s (profile row) in
        let next = Some (held_begun (profile row)) in
        let first = take_through s (profile row) low within begun a in
        let is : last t ≡ taken s (profile row) = take_last s (profile row) in
        let here : held (last t) row.image ≡ next = ap (λ (x : Store). held x row.image) is ∙ held_here s row.image next within in
        let many : length (last t).kept ≡ length s.kept = ap (λ (x : Store). length x.kept) is ∙ length-set s.kept row.image next in
        Through-joined P t (fill_trail (last t) row.image (object row)) first (fill (last t) (omega (arith, within, many)) here (Through-last P t first))

    inject_by_through : (s : Store) (row : Row) (o : Option InjectFault) → inject_refusal s row ≡ o → row.image < length s.kept → K row.image (held_begun (profile row))
        → (1 ≤ row.image → inject_refusal s row ≡ None → is_version (held s row.image) row.version ≡ true → Through P (fill_trail s row.image (drop (done_of (held s row.image)) (object row))))
        → (1 ≤ row.image → (t : Store) → row.image < length t.kept → held t row.image ≡ Some (held_begun (profile row)) → P t → Through P (fill_trail t row.image (object row)))
        → P s → Through P (inject_by o s row)
    inject_by_through s row (Some fault) is within begun rest whole a = Through-resting P s 0 a
    inject_by_through s row None is within begun rest whole a =
        let low = not_golden s row is in
        let t = take_trail s (profile row) in
        cond_both (is_version (held s row.image) row.version)
        (fill_trail s row.image (drop (done_of (held s row.image)) (object row)))
        (joined t (fill_trail (last t) row.image (object row)))
        (Through P) (λ version. rest low is version) (λ _. anew_through s row low within begun (whole low) a)

    -- the missing pages of a kept version are filled, or all pages of one that is taken
    pub inject_through : (s : Store) (row : Row) → row.image < length s.kept → K row.image (held_begun (profile row))
        → (1 ≤ row.image → inject_refusal s row ≡ None → is_version (held s row.image) row.version ≡ true → Through P (fill_trail s row.image (drop (done_of (held s row.image)) (object row))))
        → (1 ≤ row.image → (t : Store) → row.image < length t.kept → held t row.image ≡ Some (held_begun (profile row)) → P t → Through P (fill_trail t row.image (object row)))
        → P s → Through P (inject_trail s row)
    unfolding inject_trail
    inject_through s row within begun rest whole a = inject_by_through s row (inject_refusal s row) refl within begun rest whole a
