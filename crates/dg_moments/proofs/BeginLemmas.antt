-- What is noted before the first event.
use Rattle.std.proofs.Common.{◌≡◌, ℕ, ◌+◌, ◌-◌, ◌<◌, ◌≤◌, ◌==◌, ◌&&◌, Bool, true, false, not, nat_lt, cond, List, [], ◌∷◌, ◌++◌, length, refl, sym, ap, subst, ◌∙◌, zero, suc, arith, inl, inr, ◌⊎◌}
use Rattle.std.specs.Prelude.{Option, None, slice_get}
use Rattle.std.specs.Option.{option_flatten}
use Rattle.std.proofs.lemmas.Bool.{lt-ltb, le-ltb, ltb-true, ltb-false, eq-eqb, eqb-true, cases_Bool, cases_eq, both_ways, and_parts}
use Rattle.dg_volume.specs.Store.{Store, held}
use Rattle.dg_rules.specs.Begins.{store_of}
use Rattle.dg_cost_text.specs.declared.moment.Moment.{Moment}
use Rattle.dg_moments.specs.declared.given.Given.{Given}
use Rattle.dg_moments.specs.declared.wholes.Wholes.{Wholes}
use Rattle.dg_moments.specs.Moments.{beginning, one_if, last_in, is_loaded, has_whole, whole_moments, all_motes, whole_version, kept_whole, keeps_version}
use Rattle.dg_moments.specs.Looking.{ReadsBoards}
use Rattle.dg_moments.specs.Wholes.{kept_in, moment_in, all_in, is_counted, KnowsImage, given_kept, Begins, with_kept, is_new, ChangesKept}
use Rattle.dg_moments.specs.Telling.{StaysTold, NotesKept, GivesMote, GivesAll, PlacesWholes}
use Rattle.dg_moments.proofs.MotesLemmas.{all_same, all_false}
use Rattle.dg_moments.proofs.MomentLemmas.{is_kept, knows_as, knows_unloaded}

one_more : (b c : Bool) (at : Moment) → b ≡ false → one_if b at ++ one_if (c && not b) at ≡ one_if c at
one_more b c at e = ap (λ (x : Bool). one_if x at ++ one_if (c && not x) at) e ∙ ap (λ (x : Bool). one_if x at) (right_true c)
  where
    right_true : (x : Bool) → (x && true) ≡ x
    right_true true = refl
    right_true false = refl

one_stays : (b : Bool) (at : Moment) → one_if b at ++ one_if (b && not b) at ≡ one_if b at
one_stays true at = refl
one_stays false at = refl

few_one : (b : Bool) (at : Moment) → length (one_if b at) ≤ 1
few_one true at = omega arith
few_one false at = omega arith

begins_as : (w : Wholes) (motes image : ℕ) (kept now : ℕ → Option ℕ) → ((m : ℕ) → m < motes → kept m ≡ now m) → Begins w motes image kept → Begins w motes image now
begins_as w motes image kept now same h =
    knows_as w motes image kept now _ _ _ _ same
    (λ m v lt. ap (λ (o : Option ℕ). one_if (keeps_version o v) beginning) (same m lt))
    (λ v. ap (λ (b : Bool). one_if b beginning) (all_same motes (λ (m : ℕ). keeps_version (kept m) v) (λ (m : ℕ). keeps_version (now m) v) (λ m lt. ap (λ (o : Option ℕ). keeps_version o v) (same m lt)))) h

-- a mote keeps this too
begins_more : (before after : Wholes) (motes mote image : ℕ) (kept : ℕ → Option ℕ) (o : Option ℕ) → mote < motes → is_loaded image ≡ true → kept mote ≡ None
    → ChangesKept before after motes mote image o beginning → Begins before motes image kept → Begins after motes image (with_kept kept mote o)
begins_more before after motes mote image kept o lt loaded none changes h =
    knows_as after motes image (with_kept kept mote o) (with_kept kept mote o) _ _ _ _ (λ m within. refl)
    (λ m v within. by m v (mote == m) refl)
    (λ v. one_more (all_motes motes (λ m. keeps_version (kept m) v)) (all_motes motes (λ m. keeps_version (with_kept kept mote o m) v)) beginning
    (all_false motes (λ (m : ℕ). keeps_version (kept m) v) mote lt (ap (λ (p : Option ℕ). keeps_version p v) none)))
    (changes kept (λ m v. one_if (keeps_version (kept m) v) beginning) (λ v. one_if (all_motes motes (λ m. keeps_version (kept m) v)) beginning) lt loaded
    (λ v. omega (arith, few_one (keeps_version (kept mote) v) beginning)) h)
  where
    by : (m v : ℕ) (b : Bool) → (mote == m) ≡ b
        → one_if (keeps_version (kept m) v) beginning ++ one_if (is_new (kept m) (cond b o (kept m)) v) beginning ≡ one_if (keeps_version (cond b o (kept m)) v) beginning
    by m v true e = one_more (keeps_version (kept m) v) (keeps_version o v) beginning (ap (λ (k : ℕ). keeps_version (kept k) v) (sym (eqb-true mote m e)) ∙ ap (λ (p : Option ℕ). keeps_version p v) none)
    by m v false e = one_stays (keeps_version (kept m) v) beginning

-- ---- the images of a mote

-- of the images up to this one
abbrev pub up_to : (next : ℕ) → Option Given → (image : ℕ) → Option ℕ
up_to next given image = cond (nat_lt image next) (given_kept given image) None

not_zero : (image : ℕ) → is_loaded image ≡ true → 0 < image
not_zero image loaded = ltb-true 0 image (and_parts (nat_lt 0 image) (nat_lt image 7) loaded).0

below_seven : (image : ℕ) → is_loaded image ≡ true → image < 7
below_seven image loaded = ltb-true image 7 (and_parts (nat_lt 0 image) (nat_lt image 7) loaded).1

loads : (image : ℕ) → 0 < image → image < 7 → is_loaded image ≡ true
loads image some lt = both (nat_lt 0 image) (nat_lt image 7) (lt-ltb 0 image some) (lt-ltb image 7 lt)
  where
    both : (a b : Bool) → a ≡ true → b ≡ true → (a && b) ≡ true
    both a b p q = cc

pub first_image : (w : Wholes) (motes mote image : ℕ) (kept : ℕ → Option ℕ) (given : Option Given) → kept mote ≡ None
    → Begins w motes image kept → Begins w motes image (with_kept kept mote (up_to 1 given image))
first_image w motes mote image kept given none h = elim (cases_Bool (is_loaded image)) [
  | inl loaded ↦
      begins_as w motes image kept (with_kept kept mote (up_to 1 given image)) (λ m lt. by m (le-ltb image 1 (omega (arith, not_zero image loaded))) (mote == m) refl) h
  | inr unloaded ↦ knows_unloaded w motes motes image kept (with_kept kept mote (up_to 1 given image)) _ _ _ _ unloaded h
]
  where
    by : (m : ℕ) → nat_lt image 1 ≡ false → (b : Bool) → (mote == m) ≡ b → kept m ≡ cond b (up_to 1 given image) (kept m)
    by m late true e = ap kept (sym (eqb-true mote m e)) ∙ none ∙ sym (ap (λ (c : Bool). cond {A = Option ℕ} c (given_kept given image) None) late)
    by m late false e = refl

pub next_image : (before after : Wholes) (motes mote next image : ℕ) (kept : ℕ → Option ℕ) (given : Option Given) (o : Option ℕ) → o ≡ given_kept given next
    → NotesKept before after motes mote next o beginning → 1 ≤ next → next < 7 → after.lost ≡ false → mote < motes → kept mote ≡ None
    → Begins before motes image (with_kept kept mote (up_to next given image)) → Begins after motes image (with_kept kept mote (up_to (next + 1) given image))
next_image before after motes mote next image kept given o is notes ge lt kept_on within none h = elim (cases_eq next image) [
  | inl same ↦
      let early : nat_lt image next ≡ false = le-ltb image next (omega (arith, same)) in
      let now : nat_lt image (next + 1) ≡ true = lt-ltb image (next + 1) (omega (arith, same)) in
      let old : ℕ → Option ℕ = with_kept kept mote (up_to next given image) in
      let empty : old mote ≡ None =
      ap (λ (b : Bool). cond b (up_to next given image) (kept mote)) (eq-eqb mote mote refl) ∙ ap (λ (b : Bool). cond {A = Option ℕ} b (given_kept given image) None) early in
      let changes : ChangesKept before after motes mote image o beginning =
      subst (λ (i : ℕ). ChangesKept before after motes mote i o beginning) same (notes.changes kept_on) in
      begins_as after motes image (with_kept old mote o) (with_kept kept mote (up_to (next + 1) given image))
      (λ m there. by m same now (mote == m))
      (begins_more before after motes mote image old o within (loads image (omega (arith, ge, same)) (omega (arith, lt, same))) empty changes h)
  | inr apart ↦
      let same : nat_lt image next ≡ nat_lt image (next + 1) = still (cases_Bool (nat_lt image next)) apart in
      subst (λ (p : Option ℕ). Begins after motes image (with_kept kept mote p)) (ap (λ (b : Bool). cond {A = Option ℕ} b (given_kept given image) None) same)
      (notes.others kept_on motes image _ _ _ (λ e. apart (sym e)) h)
]
  where
    by : (m : ℕ) → next ≡ image → nat_lt image (next + 1) ≡ true → (b : Bool)
        → cond b o (cond b (up_to next given image) (kept m)) ≡ cond b (up_to (next + 1) given image) (kept m)
    by m same now true =
        is ∙ ap (given_kept given) same ∙ sym (ap (λ (c : Bool). cond {A = Option ℕ} c (given_kept given image) None) now)
    by m same now false = refl

    still : (nat_lt image next ≡ true) ⊎ (nat_lt image next ≡ false) → (next ≡ image → ⊥) → nat_lt image next ≡ nat_lt image (next + 1)
    still (inl early) apart = early ∙ sym (lt-ltb image (next + 1) (omega (arith, ltb-true image next early)))
    still (inr late) apart = late ∙ sym (le-ltb image (next + 1) (omega (arith, ltb-false image next late, apart)))

pub last_image : (w : Wholes) (motes mote image : ℕ) (kept : ℕ → Option ℕ) (given : Option Given) (next : ℕ) → 7 ≤ next
    → Begins w motes image (with_kept kept mote (up_to next given image)) → Begins w motes image (with_kept kept mote (given_kept given image))
last_image w motes mote image kept given next all h = elim (cases_Bool (is_loaded image)) [
  | inl loaded ↦
      subst (λ (p : Option ℕ). Begins w motes image (with_kept kept mote p))
      (ap (λ (b : Bool). cond {A = Option ℕ} b (given_kept given image) None) (lt-ltb image next (omega (arith, below_seven image loaded, all)))) h
  | inr unloaded ↦ knows_unloaded w motes motes image _ (with_kept kept mote (given_kept given image)) _ _ _ _ unloaded h
]

-- ---- the motes

-- of the motes before this one
abbrev pub motes_up_to : (next : ℕ) → List (Option Given) → (image m : ℕ) → Option ℕ
motes_up_to next given image m = cond (nat_lt m next) (given_kept (option_flatten (slice_get given m)) image) None

pub first_mote : (w : Wholes) (motes image : ℕ) (given : List (Option Given)) → Begins w motes image (λ m. None) → Begins w motes image (motes_up_to 0 given image)
first_mote w motes image given h =
    begins_as w motes image (λ m. None) (motes_up_to 0 given image)
    (λ m lt. sym (ap (λ (b : Bool). cond {A = Option ℕ} b (given_kept (option_flatten (slice_get given m)) image) None) (le-ltb m 0 (omega arith)))) h

pub next_mote : (before after : Wholes) (motes mote image : ℕ) (given : List (Option Given)) (o : Option Given) → o ≡ option_flatten (slice_get given mote)
    → GivesMote before after motes mote o → after.lost ≡ false → mote < motes
    → Begins before motes image (motes_up_to mote given image) → Begins after motes image (motes_up_to (mote + 1) given image)
next_mote before after motes mote image given o is gives kept_on lt h =
    begins_as after motes image (with_kept (motes_up_to mote given image) mote (given_kept o image)) (motes_up_to (mote + 1) given image)
    (λ m there. by m (mote == m) refl)
    (gives image (motes_up_to mote given image) kept_on lt
    (ap (λ (b : Bool). cond {A = Option ℕ} b (given_kept (option_flatten (slice_get given mote)) image) None) (le-ltb mote mote (omega arith))) h)
  where
    by : (m : ℕ) (b : Bool) → (mote == m) ≡ b → cond b (given_kept o image) (motes_up_to mote given image m) ≡ motes_up_to (mote + 1) given image m
    by m true e =
        ap (λ (g : Option Given). given_kept g image) is ∙ ap (λ (k : ℕ). given_kept (option_flatten (slice_get given k)) image) (eqb-true mote m e)
        ∙ sym (ap (λ (b : Bool). cond {A = Option ℕ} b (given_kept (option_flatten (slice_get given m)) image) None) (lt-ltb m (mote + 1) (omega (arith, eqb-true mote m e))))
    by m false e = ap (λ (b : Bool). cond {A = Option ℕ} b (given_kept (option_flatten (slice_get given m)) image) None) (still (cases_Bool (nat_lt m mote)))
      where
        still : (nat_lt m mote ≡ true) ⊎ (nat_lt m mote ≡ false) → nat_lt m mote ≡ nat_lt m (mote + 1)
        still (inl early) = early ∙ sym (lt-ltb m (mote + 1) (omega (arith, ltb-true m mote early)))
        still (inr late) = late ∙ sym (le-ltb m (mote + 1) (omega (arith, ltb-false m mote late, λ (same : mote ≡ m). both_ways (mote == m) e (eq-eqb mote m same))))

pub last_mote : (w : Wholes) (motes next image : ℕ) (given : List (Option Given)) → motes ≤ next → Begins w motes image (motes_up_to next given image) → Begins w motes image (motes_up_to motes given image)
last_mote w motes next image given all h =
    begins_as w motes image (motes_up_to next given image) (motes_up_to motes given image)
    (λ m lt. ap (λ (b : Bool). cond {A = Option ℕ} b (given_kept (option_flatten (slice_get given m)) image) None) (lt-ltb m next (omega (arith, lt, all)) ∙ sym (lt-ltb m motes lt))) h

-- ---- boards that are used

no_motes : (n : ℕ) → all_motes n (λ m. false) ≡ false
no_motes zero = refl
no_motes (suc n) = all_false (suc n) (λ (m : ℕ). false) 0 (omega arith) refl

none_either : {A : Type 0} (b : Bool) → cond {A = Option A} b None None ≡ None
none_either true = refl
none_either false = refl

-- nothing was noted
pub begins_empty : (before after : Wholes) (motes image : ℕ) → after.kept ≡ before.kept → after.moments ≡ before.moments → after.all ≡ before.all → after.last ≡ before.last
    → KnowsImage before [] [] image → Begins after motes image (λ m. None)
begins_empty before after motes image same_kept same_moments same_all same_last h = record {
  keeps = λ loaded m. ap (λ ks. kept_in ks m image) same_kept ∙ h.keeps loaded m ∙ none_below m ∙ sym (none_either (nat_lt m motes));
  each = λ m v t. ap (λ ms. moment_in ms m image v t) same_moments ∙ h.each m v t
      ∙ ap (λ (b : Bool). cond {A = Option Moment} (b && (is_loaded image && nat_lt 0 t)) (slice_get (whole_moments [] [] m image v) (t - 1)) None) (le-ltb m 0 (omega arith))
      ∙ sym (none_either (is_counted motes m image t));
  first = λ v. ap (λ ms. all_in ms image v) same_all ∙ h.first v
      ∙ sym (ap (λ (b : Bool). cond {A = Option Moment} (is_loaded image) (slice_get (one_if b beginning) 0) None) (no_motes motes));
  last = λ v. ap (λ ms. all_in ms image v) same_last ∙ h.last v
      ∙ sym (ap (λ (b : Bool). cond {A = Option Moment} (is_loaded image) (last_in (one_if b beginning)) None) (no_motes motes));
}
  where
    none_below : (m : ℕ) → cond (nat_lt m 0) (kept_whole [] [] image m) None ≡ None
    none_below m = ap (λ (b : Bool). cond b (kept_whole [] [] image m) None) (le-ltb m 0 (omega arith))

nil : (xs : List Moment) → xs ++ [] ≡ xs
nil [] = refl
nil (x ∷ xs) = ap (λ (ys : List Moment). x ∷ ys) (nil xs)

-- what the stores keep was noted
begins_known : (w : Wholes) (stores : List Store) (image : ℕ) (kept : ℕ → Option ℕ) → ((m : ℕ) → m < length stores → kept m ≡ whole_version (held (store_of stores m) image))
    → Begins w (length stores) image kept → KnowsImage w stores [] image
begins_known w stores image kept same h =
    knows_as w (length stores) image kept (kept_whole stores [] image) _ _ _ _ same
    (λ m v lt. ap (λ (b : Bool). one_if b beginning) (here m v lt) ∙ sym (nil (one_if (has_whole (store_of stores m) image v) beginning)))
    (λ v. ap (λ (b : Bool). one_if b beginning) (all_same (length stores) (λ (m : ℕ). keeps_version (kept m) v) (λ (m : ℕ). has_whole (store_of stores m) image v) (λ m lt. here m v lt))
    ∙ sym (nil (one_if (all_motes (length stores) (λ m. has_whole (store_of stores m) image v)) beginning))) h
  where
    here : (m v : ℕ) → m < length stores → keeps_version (kept m) v ≡ has_whole (store_of stores m) image v
    here m v lt = ap (λ (o : Option ℕ). keeps_version o v) (same m lt) ∙ sym (is_kept (held (store_of stores m) image) v)

-- of images that are loaded, and of no other
known_either : (w : Wholes) (stores : List Store) (image : ℕ) (kept : ℕ → Option ℕ)
    → (is_loaded image ≡ true → (m : ℕ) → m < length stores → kept m ≡ whole_version (held (store_of stores m) image))
    → Begins w (length stores) image kept → KnowsImage w stores [] image
known_either w stores image kept same h = elim (cases_Bool (is_loaded image)) [
  | inl loaded ↦ begins_known w stores image kept (same loaded) h
  | inr unloaded ↦ knows_unloaded w (length stores) (length stores) image kept (kept_whole stores [] image) _ _ _ _ unloaded h
]

-- the boards are formatted
pub placed_formatted : (before after : Wholes) (motes : ℕ) → after.kept ≡ before.kept → after.moments ≡ before.moments → after.all ≡ before.all → after.last ≡ before.last
    → after.lost ≡ before.lost → after.given ≡ before.given → after.mounted ≡ false → PlacesWholes before after motes
placed_formatted before after motes same_kept same_moments same_all same_last same_lost same_given formatted initial stores is none tells has = (
  subst (λ g. ReadsBoards g.items initial) (sym same_given) has.0,
  λ lost image.
      let known : KnowsImage before [] [] image = has.1 (sym same_lost ∙ lost) image in
      known_either after stores image (λ m. None) (λ loaded m lt. sym (ap whole_version (none formatted m image lt loaded)))
      (begins_empty before after (length stores) image same_kept same_moments same_all same_last known),
)

-- the boards are used as they are
pub placed_mounted : (before mid after : Wholes) (motes : ℕ) → mid.kept ≡ before.kept → mid.moments ≡ before.moments → mid.all ≡ before.all → mid.last ≡ before.last
    → mid.lost ≡ before.lost → mid.given ≡ before.given → mid.mounted ≡ true → StaysTold mid after → GivesAll mid after motes → PlacesWholes before after motes
placed_mounted before mid after motes same_kept same_moments same_all same_last same_lost same_given mounted goes gives initial stores is none tells has = (
  reads,
  λ lost image.
      let known : KnowsImage before [] [] image = has.1 (sym same_lost ∙ goes.lost lost) image in
      let begins : Begins after (length stores) image (motes_up_to motes mid.given.items image) =
      subst (λ (n : ℕ). Begins after n image (motes_up_to motes mid.given.items image)) is
      (gives image lost (begins_empty before mid motes image same_kept same_moments same_all same_last known)) in
      known_either after stores image (motes_up_to motes mid.given.items image)
      (λ loaded m lt. ap (λ (b : Bool). cond {A = Option ℕ} b (given_kept (option_flatten (slice_get mid.given.items m)) image) None) (lt-ltb m motes (omega (arith, lt, is)))
      ∙ ap (λ g. given_kept (option_flatten (slice_get g.items m)) image) (sym goes.given) ∙ tells (goes.mounted ∙ mounted) reads m image lt loaded)
      begins,
)
  where
    reads : ReadsBoards after.given.items initial
    reads = subst (λ g. ReadsBoards g.items initial) (sym (goes.given ∙ same_given)) has.0
