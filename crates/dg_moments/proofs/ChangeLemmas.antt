-- What is noted of an image after a mote's version of it changed.
use Rattle.std.proofs.Common.{◌≡◌, ◌≢◌, ℕ, ◌+◌, ◌-◌, ◌^◌, ◌<◌, ◌≤◌, ◌==◌, ◌&&◌, Bool, true, false, not, nat_lt, cond, List, [], ◌∷◌, ◌++◌, length, refl, sym, ap, subst, ◌∙◌, zero, suc, arith, is_some, inl, inr}
use Rattle.std.specs.Prelude.{Option, Some, None, slice_get, Result, Ok, Err, OnOk}
use Rattle.std.specs.Result.{is_err}
use Rattle.std.specs.Option.{option_or}
use Rattle.std.specs.BTreeMap.{BTreeMap, Updates}
use Rattle.std.proofs.lemmas.Bool.Decides.{nat_tests}
use Rattle.std.proofs.lemmas.Bool.{cases_Bool, and_parts, lt-ltb, ltb-true, eq-eqb, ne_eqb, eqb-true, false≢true}
use Rattle.dg_cost_text.specs.declared.moment.Moment.{Moment}
use Rattle.dg_moments.specs.declared.wholes.Whole.{Whole}
use Rattle.dg_moments.specs.declared.wholes.ImageAt.{ImageAt}
use Rattle.dg_moments.specs.declared.wholes.Wholes.{Wholes}
use Rattle.dg_moments.specs.Moments.{is_loaded, keeps_version, all_motes, one_if, last_in}
use Rattle.dg_moments.specs.Wholes.{image_at_cmp, kept_in, moment_in, all_in, is_counted, Knows}
use Rattle.dg_moments.specs.Wholes.{with_kept, is_new, all_new, ChangesKept, KeepsOthers, has_all, IsNext, AddsMoment, AddsFirst, NotesAll, image_version_cmp}
use Rattle.dg_moments.proofs.MotesLemmas.{all_same, all_false, not_new_same, both_and}
use Rattle.dg_moments.proofs.MapLemmas.{kept_after, moment_after, first_after, all_after, get_push, first_push, last_push, no_more}

-- ---- what the motes keep

same_image : (b : Bool) (i : ℕ) → (b && (i == i)) ≡ b
same_image b i = ap (λ (c : Bool). b && c) (eq-eqb i i refl) ∙ right_true b
  where
    right_true : (c : Bool) → (c && true) ≡ c
    right_true true = refl
    right_true false = refl

other_image : (b : Bool) (i j : ℕ) → i ≢ j → (b && (i == j)) ≡ false
other_image true i j apart = ne_eqb i j apart
other_image false i j apart = refl

-- a mote that there is
pub at_lt : {A : Type 0} (m motes : ℕ) (x y : A) → m < motes → cond (nat_lt m motes) x y ≡ x
at_lt {A} m motes x y lt = ap (λ (b : Bool). cond {A = A} b x y) (lt-ltb m motes lt)

keeps_after : (before after : BTreeMap ImageAt ℕ) (motes : ℕ) (kept : ℕ → Option ℕ) (mote image : ℕ) (o : Option ℕ) → mote < motes
    → Updates image_at_cmp before after (record { mote = mote; image = image }) o
    → (m : ℕ) → kept_in before m image ≡ cond (nat_lt m motes) (kept m) None
    → kept_in after m image ≡ cond (nat_lt m motes) (with_kept kept mote o m) None
keeps_after before after motes kept mote image o lt h m was =
    kept_after before after mote image o h m image
    ∙ ap (λ (b : Bool). cond b o (kept_in before m image)) (same_image (mote == m) image) ∙ by (mote == m) refl
  where
    by : (b : Bool) → (mote == m) ≡ b → cond b o (kept_in before m image) ≡ cond (nat_lt m motes) (cond b o (kept m)) None
    by true e = sym (ap (λ (b : Bool). cond {A = Option ℕ} b o None) (ap (λ (k : ℕ). nat_lt k motes) (sym (eqb-true mote m e)) ∙ lt-ltb mote motes lt))
    by false e = was

keeps_other : (before after : BTreeMap ImageAt ℕ) (mote image : ℕ) (o : Option ℕ) → Updates image_at_cmp before after (record { mote = mote; image = image }) o
    → (m i : ℕ) → i ≢ image → kept_in after m i ≡ kept_in before m i
keeps_other before after mote image o h m i apart =
    kept_after before after mote image o h m i
    ∙ ap (λ (b : Bool). cond b o (kept_in before m i)) (other_image (mote == m) image i (λ e. apart (sym e)))

at_mote : (kept : ℕ → Option ℕ) (mote : ℕ) (o : Option ℕ) → with_kept kept mote o mote ≡ o
at_mote kept mote o = ap (λ (b : Bool). cond b o (kept mote)) (eq-eqb mote mote refl)

-- ---- where no version is new

not_new : (kept : ℕ → Option ℕ) (mote : ℕ) (o : Option ℕ) → ((v : ℕ) → is_new (kept mote) o v ≡ false)
    → (m v : ℕ) → is_new (kept m) (with_kept kept mote o m) v ≡ false
not_new kept mote o none m v = by (mote == m) refl
  where
    by : (b : Bool) → (mote == m) ≡ b → is_new (kept m) (cond b o (kept m)) v ≡ false
    by true e = ap (λ (k : ℕ). is_new (kept k) o v) (sym (eqb-true mote m e)) ∙ none v
    by false e = not_new_same (kept m) v

left_false : (b c : Bool) → b ≡ false → (b && c) ≡ false
left_false b c e = ap (λ (d : Bool). d && c) e

-- a mote that does not keep a version whole now, or keeps the same as before, makes it new at all motes for none
all_not_new : (motes : ℕ) (kept : ℕ → Option ℕ) (mote : ℕ) (o : Option ℕ) (v : ℕ) → mote < motes → keeps_version o v ≡ false
    → all_new motes kept (with_kept kept mote o) v ≡ false
all_not_new motes kept mote o v lt none =
    left_false _ _ (all_false motes (λ (m : ℕ). keeps_version (with_kept kept mote o m) v) mote lt
    (ap (λ (p : Option ℕ). keeps_version p v) (at_mote kept mote o) ∙ none))

all_not_new_same : (motes : ℕ) (before after : ℕ → Option ℕ) (v : ℕ) → ((m : ℕ) → m < motes → before m ≡ after m) → all_new motes before after v ≡ false
all_not_new_same motes before after v same =
    both_and (all_motes motes (λ (m : ℕ). keeps_version (before m) v)) (all_motes motes (λ (m : ℕ). keeps_version (after m) v))
    (all_same motes (λ (m : ℕ). keeps_version (before m) v) (λ (m : ℕ). keeps_version (after m) v) (λ m lt. ap (λ (o : Option ℕ). keeps_version o v) (same m lt)))

-- ---- no moment is added

moments_stay : (b : Bool) (xs ys : List Moment) (k : ℕ) → ys ≡ xs → cond b (slice_get xs k) None ≡ cond {A = Option Moment} b (slice_get ys k) None
moments_stay b xs ys k e = ap (λ (zs : List Moment). cond {A = Option Moment} b (slice_get zs k) None) (sym e)

last_stays : (b : Bool) (xs ys : List Moment) → ys ≡ xs → cond {A = Option Moment} b (last_in xs) None ≡ cond {A = Option Moment} b (last_in ys) None
last_stays b xs ys e = ap (λ (zs : List Moment). cond {A = Option Moment} b (last_in zs) None) (sym e)

-- what is noted, with what is kept now, where no version is new
pub knows_still : (before after : Wholes) (motes image : ℕ) (kept now : ℕ → Option ℕ) (moments : ℕ → ℕ → List Moment) (all : ℕ → List Moment) (at : Moment)
    → after.moments ≡ before.moments → after.all ≡ before.all → after.last ≡ before.last
    → (is_loaded image ≡ true → (m : ℕ) → kept_in after.kept m image ≡ cond (nat_lt m motes) (now m) None)
    → ((m v : ℕ) → m < motes → is_new (kept m) (now m) v ≡ false) → ((v : ℕ) → all_new motes kept now v ≡ false)
    → Knows before motes image kept moments all
    → Knows after motes image now (λ m v. moments m v ++ one_if (is_new (kept m) (now m) v) at) (λ v. all v ++ one_if (all_new motes kept now v) at)
knows_still before after motes image kept now moments all at same_moments same_all same_last keeps none no_all h = record {
  keeps = keeps;
  each = λ m v t. ap (λ ms. moment_in ms m image v t) same_moments ∙ h.each m v t ∙ here m v t (nat_lt m motes) refl;
  first = λ v. ap (λ ms. all_in ms image v) same_all ∙ h.first v ∙ moments_stay (is_loaded image) (all v) _ 0 (no_more (all v) _ at (no_all v));
  last = λ v. ap (λ ms. all_in ms image v) same_last ∙ h.last v ∙ last_stays (is_loaded image) (all v) _ (no_more (all v) _ at (no_all v));
}
  where
    here : (m v t : ℕ) (b : Bool) → nat_lt m motes ≡ b
        → cond {A = Option Moment} (b && (is_loaded image && nat_lt 0 t)) (slice_get (moments m v) (t - 1)) None
        ≡ cond {A = Option Moment} (b && (is_loaded image && nat_lt 0 t)) (slice_get (moments m v ++ one_if (is_new (kept m) (now m) v) at) (t - 1)) None
    here m v t true e = moments_stay (is_loaded image && nat_lt 0 t) (moments m v) _ (t - 1) (no_more (moments m v) _ at (none m v (ltb-true m motes e)))
    here m v t false e = refl

-- ---- a version is new

counted_true : (motes m image t : ℕ) → m < motes → is_loaded image ≡ true → is_counted motes m image t ≡ nat_lt 0 t
counted_true motes m image t lt loaded =
    ap (λ (b : Bool). b && (is_loaded image && nat_lt 0 t)) (lt-ltb m motes lt) ∙ ap (λ (b : Bool). b && nat_lt 0 t) loaded

there : (xs : List Moment) (k : ℕ) → k < length xs → is_some (slice_get xs k) ≡ true
there [] k lt = absurd (omega (arith, lt))
there (x ∷ xs) zero lt = refl
there (x ∷ xs) (suc k) lt = there xs k (omega (arith, lt))

past : (xs : List Moment) → slice_get xs (length xs) ≡ None
past [] = refl
past (x ∷ xs) = past xs

-- the next time is one more than there were moments
next_is : (moments : BTreeMap Whole Moment) (motes mote image v times : ℕ) (xs : List Moment) → IsNext moments mote image v times → mote < motes → is_loaded image ≡ true
    → length xs + 1 < 2 ^ 32 - 1 → ((t : ℕ) → moment_in moments mote image v t ≡ cond (is_counted motes mote image t) (slice_get xs (t - 1)) None)
    → times ≡ length xs + 1
next_is moments motes mote image v times xs next lt loaded room each =
    next (length xs) room
    (λ k ge le. ap is_some (at k ge) ∙ there xs (k - 1) (omega (arith, ge, le)))
    (at (length xs + 1) (omega arith) ∙ ap (slice_get xs) (omega arith) ∙ past xs)
  where
    at : (t : ℕ) → 1 ≤ t → moment_in moments mote image v t ≡ slice_get xs (t - 1)
    at t ge = each t ∙ ap (λ (b : Bool). cond {A = Option Moment} b (slice_get xs (t - 1)) None) (counted_true motes mote image t lt loaded ∙ lt-ltb 0 t ge)

drop_and : (b c d : Bool) → b ≡ false → (b && c) ≡ false
drop_and b c d e = ap (λ (x : Bool). x && c) e

-- one more moment of the version
push_each : (motes m image t : ℕ) (xs : List Moment) (at : Moment) (was : Option Moment) → m < motes → is_loaded image ≡ true
    → was ≡ cond (is_counted motes m image t) (slice_get xs (t - 1)) None
    → cond (length xs + 1 == t) (Some at) was ≡ cond {A = Option Moment} (is_counted motes m image t) (slice_get (xs ++ at ∷ []) (t - 1)) None
push_each motes m image zero xs at was lt loaded is =
    let none : (length xs + 1 == 0) ≡ false = ne_eqb (length xs + 1) 0 (λ e. omega (arith, e)) in
    let not_one : is_counted motes m image 0 ≡ false = counted_true motes m image 0 lt loaded in
    ap (λ (b : Bool). cond b (Some at) was) none ∙ is
    ∙ ap (λ (b : Bool). cond {A = Option Moment} b (slice_get xs (0 - 1)) None) not_one
    ∙ sym (ap (λ (b : Bool). cond {A = Option Moment} b (slice_get (xs ++ at ∷ []) (0 - 1)) None) not_one)
push_each motes m image (suc t) xs at was lt loaded is =
    let counts : is_counted motes m image (suc t) ≡ true = counted_true motes m image (suc t) lt loaded ∙ lt-ltb 0 (suc t) (omega arith) in
    let less : suc t - 1 ≡ t = omega arith in
    let before : was ≡ slice_get xs t =
    is ∙ ap (λ (b : Bool). cond {A = Option Moment} b (slice_get xs (suc t - 1)) None) counts ∙ ap (slice_get xs) less in
    let same : (length xs + 1 == suc t) ≡ (length xs == t) = grind (arith, nat_tests) in
    ap (λ (b : Bool). cond b (Some at) was) same ∙ ap (λ (o : Option Moment). cond (length xs == t) (Some at) o) before
    ∙ sym (get_push xs at t) ∙ ap (slice_get (xs ++ at ∷ [])) (sym less)
    ∙ sym (ap (λ (b : Bool). cond {A = Option Moment} b (slice_get (xs ++ at ∷ []) (suc t - 1)) None) counts)

-- the version is new at its mote
new_here : (kept : ℕ → Option ℕ) (mote version : ℕ) → keeps_version (kept mote) version ≡ false → is_new (kept mote) (with_kept kept mote (Some version) mote) version ≡ true
new_here kept mote version was =
    ap (λ (o : Option ℕ). is_new (kept mote) o version) (at_mote kept mote (Some version))
    ∙ ap (λ (b : Bool). b && not (keeps_version (kept mote) version)) (eq-eqb version version refl) ∙ ap not was

-- and no other
new_other : (kept : ℕ → Option ℕ) (mote version m v : ℕ) → ((mote == m) && (version == v)) ≡ false → is_new (kept m) (with_kept kept mote (Some version) m) v ≡ false
new_other kept mote version m v apart = by (mote == m) apart
  where
    by : (a : Bool) → (a && (version == v)) ≡ false → is_new (kept m) (cond a (Some version) (kept m)) v ≡ false
    by true e = left_false (version == v) (not (keeps_version (kept m) v)) e
    by false e = not_new_same (kept m) v

key_here : (m i v s t : ℕ) → ((m == m) && ((i == i) && ((v == v) && (s == t)))) ≡ (s == t)
key_here m i v s t =
    ap (λ (b : Bool). b && ((i == i) && ((v == v) && (s == t)))) (eq-eqb m m refl)
    ∙ ap (λ (b : Bool). b && ((v == v) && (s == t))) (eq-eqb i i refl) ∙ ap (λ (b : Bool). b && (s == t)) (eq-eqb v v refl)

key_other : (a b c d : Bool) → (a && c) ≡ false → (a && (b && (c && d))) ≡ false
key_other true true true d e = absurd (false≢true (sym e))
key_other true true false d e = refl
key_other true false c d e = refl
key_other false b c d e = refl

-- the moments of an image where one more was added
each_after : (before after : BTreeMap Whole Moment) (motes mote image version : ℕ) (at : Moment) (kept : ℕ → Option ℕ) (moments : ℕ → ℕ → List Moment)
    → AddsMoment before after mote image version at → mote < motes → is_loaded image ≡ true → length (moments mote version) + 1 < 2 ^ 32 - 1
    → keeps_version (kept mote) version ≡ false
    → ((m v t : ℕ) → moment_in before m image v t ≡ cond (is_counted motes m image t) (slice_get (moments m v) (t - 1)) None)
    → (m v t : ℕ) → moment_in after m image v t
    ≡ cond (is_counted motes m image t) (slice_get (moments m v ++ one_if (is_new (kept m) (with_kept kept mote (Some version) m) v) at) (t - 1)) None
each_after before after motes mote image version at kept moments adds lt loaded room was each m v t =
    elim (cases_Bool ((mote == m) && (version == v))) [
      | inl same ↦
          let parts = and_parts (mote == m) (version == v) same in
          subst (λ (k : ℕ). Is k v) (eqb-true mote m parts.0) (subst (λ (k : ℕ). Is mote k) (eqb-true version v parts.1) here)
      | inr apart ↦ other apart
    ]
  where
    Is : ℕ → ℕ → Type 0
    Is n u = moment_in after n image u t
        ≡ cond (is_counted motes n image t) (slice_get (moments n u ++ one_if (is_new (kept n) (with_kept kept mote (Some version) n) u) at) (t - 1)) None

    times_is : adds.times ≡ length (moments mote version) + 1
    times_is = next_is before motes mote image version adds.times (moments mote version) adds.next lt loaded room (each mote version)

    here : Is mote version
    here =
        moment_after before after mote image version adds.times (Some at) adds.updates mote image version t
        ∙ ap (λ (b : Bool). cond b (Some at) (moment_in before mote image version t))
        (key_here mote image version adds.times t ∙ ap (λ (k : ℕ). k == t) times_is)
        ∙ push_each motes mote image t (moments mote version) at (moment_in before mote image version t) lt loaded (each mote version t)
        ∙ ap (λ (b : Bool). cond {A = Option Moment} (is_counted motes mote image t) (slice_get (moments mote version ++ one_if b at) (t - 1)) None)
        (sym (new_here kept mote version was))

    other : ((mote == m) && (version == v)) ≡ false → Is m v
    other apart =
        moment_after before after mote image version adds.times (Some at) adds.updates m image v t
        ∙ ap (λ (b : Bool). cond b (Some at) (moment_in before m image v t))
        (key_other (mote == m) (image == image) (version == v) (adds.times == t) apart)
        ∙ each m v t
        ∙ moments_stay (is_counted motes m image t) (moments m v) _ (t - 1) (no_more (moments m v) _ at (new_other kept mote version m v apart))

and_true : (b c d : Bool) → c ≡ true → d ≡ true → (b && (c && d)) ≡ b
and_true true c d p q = p_and c d p q
  where
    p_and : (x y : Bool) → x ≡ true → y ≡ true → (x && y) ≡ true
    p_and x y e f = cc
and_true false c d p q = refl

and_false : (b c d : Bool) → d ≡ false → (b && (c && d)) ≡ false
and_false true true d e = e
and_false true false d e = refl
and_false false c d e = refl

and_middle : (b c d : Bool) → c ≡ false → (b && (c && d)) ≡ false
and_middle true c d e = ap (λ (x : Bool). x && d) e
and_middle false c d e = refl

and_not : (b c : Bool) → c ≡ false → (b && not c) ≡ b
and_not true c e = ap not e
and_not false c e = refl

-- all motes keep a version whole that they did not before: the version that is new at one of them, if all keep that now
all_new_is : (kept : BTreeMap ImageAt ℕ) (motes mote image version : ℕ) (was : ℕ → Option ℕ) → mote < motes → keeps_version (was mote) version ≡ false
    → ((m : ℕ) → m < motes → kept_in kept m image ≡ with_kept was mote (Some version) m)
    → (v : ℕ) → (has_all kept motes image version && ((image == image) && (version == v))) ≡ all_new motes was (with_kept was mote (Some version)) v
all_new_is kept motes mote image version was lt none keeps v = elim (cases_Bool (version == v)) [
  | inl same ↦ subst (λ (u : ℕ). Is u) (eqb-true version v same) here
  | inr apart ↦
      and_false (has_all kept motes image version) (image == image) (version == v) apart
      ∙ sym (all_not_new motes was mote (Some version) v lt apart)
]
  where
    now : ℕ → Option ℕ
    now m = with_kept was mote (Some version) m

    Is : ℕ → Type 0
    Is u = (has_all kept motes image version && ((image == image) && (version == u))) ≡ all_new motes was (with_kept was mote (Some version)) u

    here : Is version
    here =
        and_true (has_all kept motes image version) (image == image) (version == version) (eq-eqb image image refl) (eq-eqb version version refl)
        ∙ all_same motes (λ (m : ℕ). keeps_version (kept_in kept m image) version) (λ (m : ℕ). keeps_version (with_kept was mote (Some version) m) version)
        (λ m within. ap (λ (o : Option ℕ). keeps_version o version) (keeps m within))
        ∙ sym (and_not _ _ (all_false motes (λ (m : ℕ). keeps_version (was m) version) mote lt none))

-- ---- a change

-- the same as before
pub unchanged : (w : Wholes) (motes mote image : ℕ) (o : Option ℕ) (at : Moment) → kept_in w.kept mote image ≡ o → ChangesKept w w motes mote image o at
unchanged w motes mote image o at is kept moments all lt loaded room h =
    knows_still w w motes image kept (with_kept kept mote o) moments all at refl refl refl
    (λ loads m. h.keeps loads m ∙ ap (λ (p : Option ℕ). cond {A = Option ℕ} (nat_lt m motes) p None) (same m (mote == m) refl))
    (λ m v within. not_new kept mote o (λ u. ap (λ (p : Option ℕ). is_new (kept mote) p u) (sym was) ∙ not_new_same (kept mote) u) m v)
    (λ v. all_not_new_same motes kept (with_kept kept mote o) v (λ m within. same m (mote == m) refl)) h
  where
    was : kept mote ≡ o
    was = sym (h.keeps loaded mote ∙ at_lt mote motes (kept mote) None lt) ∙ is

    same : (m : ℕ) (b : Bool) → (mote == m) ≡ b → kept m ≡ cond b o (kept m)
    same m true e = ap kept (sym (eqb-true mote m e)) ∙ was
    same m false e = refl

-- none
pub changed_to_none : (before after : Wholes) (motes mote image : ℕ) (o : Option ℕ) (at : Moment) → o ≡ None
    → Updates image_at_cmp before.kept after.kept (record { mote = mote; image = image }) o
    → after.moments ≡ before.moments → after.all ≡ before.all → after.last ≡ before.last → ChangesKept before after motes mote image o at
changed_to_none before after motes mote image o at none h same_moments same_all same_last kept moments all lt loaded room knows =
    knows_still before after motes image kept (with_kept kept mote o) moments all at same_moments same_all same_last
    (λ loads m. keeps_after before.kept after.kept motes kept mote image o lt h m (knows.keeps loads m))
    (λ m v within. not_new kept mote o (λ u. ap (λ (p : Option ℕ). is_new (kept mote) p u) none) m v)
    (λ v. all_not_new motes kept mote o v lt (ap (λ (p : Option ℕ). keeps_version p v) none)) knows

-- another version
pub changed_to_some : (before mid after : Wholes) (motes mote image version : ℕ) (at : Moment) → keeps_version (kept_in before.kept mote image) version ≡ false
    → Updates image_at_cmp before.kept mid.kept (record { mote = mote; image = image }) (Some version)
    → AddsMoment before.moments mid.moments mote image version at → mid.all ≡ before.all → mid.last ≡ before.last
    → NotesAll mid after motes image version at → after.kept ≡ mid.kept → after.moments ≡ mid.moments
    → ChangesKept before after motes mote image (Some version) at
changed_to_some before mid after motes mote image version at fails h adds same_all same_last notes same_kept same_moments kept moments all lt loaded room knows = record {
  keeps = λ loads m. ap (λ ks. kept_in ks m image) same_kept ∙ keeps m;
  each = λ m v t. ap (λ ms. moment_in ms m image v t) same_moments
      ∙ each_after before.moments mid.moments motes mote image version at kept moments adds lt loaded (room version) was knows.each m v t;
  first = λ v. notes.first image v ∙ ap (λ (b : Bool). cond b (option_or (all_in mid.all image v) (Some at)) (all_in mid.all image v)) (new v)
      ∙ ap (λ (o : Option Moment). cond (all_new motes kept (with_kept kept mote (Some version)) v) (option_or o (Some at)) o)
      (ap (λ ms. all_in ms image v) same_all ∙ knows.first v ∙ load (slice_get (all v) 0))
      ∙ sym (first_push (all v) (all_new motes kept (with_kept kept mote (Some version)) v) at) ∙ sym (load _);
  last = λ v. notes.last image v ∙ ap (λ (b : Bool). cond b (Some at) (all_in mid.last image v)) (new v)
      ∙ ap (λ (o : Option Moment). cond (all_new motes kept (with_kept kept mote (Some version)) v) (Some at) o)
      (ap (λ ms. all_in ms image v) same_last ∙ knows.last v ∙ load (last_in (all v)))
      ∙ sym (last_push (all v) (all_new motes kept (with_kept kept mote (Some version)) v) at) ∙ sym (load _);
}
  where
    load : (o : Option Moment) → cond (is_loaded image) o None ≡ o
    load o = ap (λ (b : Bool). cond b o None) loaded

    was : keeps_version (kept mote) version ≡ false
    was = ap (λ (o : Option ℕ). keeps_version o version) (sym (knows.keeps loaded mote ∙ at_lt mote motes (kept mote) None lt)) ∙ fails

    keeps : (m : ℕ) → kept_in mid.kept m image ≡ cond (nat_lt m motes) (with_kept kept mote (Some version) m) None
    keeps m = keeps_after before.kept mid.kept motes kept mote image (Some version) lt h m (knows.keeps loaded m)

    new : (v : ℕ) → (has_all mid.kept motes image version && ((image == image) && (version == v))) ≡ all_new motes kept (with_kept kept mote (Some version)) v
    new v = all_new_is mid.kept motes mote image version kept lt was (λ m within. keeps m ∙ at_lt m motes (with_kept kept mote (Some version) m) None within) v

-- ---- other images

pub others_kept : (before after : Wholes) (mote image : ℕ) (o : Option ℕ) → Updates image_at_cmp before.kept after.kept (record { mote = mote; image = image }) o
    → after.moments ≡ before.moments → after.all ≡ before.all → after.last ≡ before.last → KeepsOthers before after image
others_kept before after mote image o h same_moments same_all same_last motes i kept moments all apart knows = record {
  keeps = λ loads m. keeps_other before.kept after.kept mote image o h m i apart ∙ knows.keeps loads m;
  each = λ m v t. ap (λ ms. moment_in ms m i v t) same_moments ∙ knows.each m v t;
  first = λ v. ap (λ ms. all_in ms i v) same_all ∙ knows.first v;
  last = λ v. ap (λ ms. all_in ms i v) same_last ∙ knows.last v;
}

pub others_noted : (before mid after : Wholes) (motes mote image version : ℕ) (at : Moment)
    → Updates image_at_cmp before.kept mid.kept (record { mote = mote; image = image }) (Some version)
    → AddsMoment before.moments mid.moments mote image version at → mid.all ≡ before.all → mid.last ≡ before.last
    → NotesAll mid after motes image version at → after.kept ≡ mid.kept → after.moments ≡ mid.moments → KeepsOthers before after image
others_noted before mid after motes mote image version at h adds same_all same_last notes same_kept same_moments n i kept moments all apart knows = record {
  keeps = λ loads m. ap (λ ks. kept_in ks m i) same_kept ∙ keeps_other before.kept mid.kept mote image (Some version) h m i apart
      ∙ knows.keeps loads m;
  each = λ m v t. ap (λ ms. moment_in ms m i v t) same_moments
      ∙ moment_after before.moments mid.moments mote image version adds.times (Some at) adds.updates m i v t
      ∙ ap (λ (b : Bool). cond b (Some at) (moment_in before.moments m i v t)) (and_middle (mote == m) (image == i) _ other) ∙ knows.each m v t;
  first = λ v. notes.first i v ∙ ap (λ (b : Bool). cond b (option_or (all_in mid.all i v) (Some at)) (all_in mid.all i v))
      (and_middle (has_all mid.kept motes image version) (image == i) (version == v) other)
      ∙ ap (λ ms. all_in ms i v) same_all ∙ knows.first v;
  last = λ v. notes.last i v ∙ ap (λ (b : Bool). cond b (Some at) (all_in mid.last i v))
      (and_middle (has_all mid.kept motes image version) (image == i) (version == v) other)
      ∙ ap (λ ms. all_in ms i v) same_last ∙ knows.last v;
}
  where
    other : (image == i) ≡ false
    other = ne_eqb image i (λ e. apart (sym e))

-- ---- where each mote keeps a version whole

pub all_noted : (before after : Wholes) (motes image version : ℕ) (at : Moment) → has_all before.kept motes image version ≡ true
    → AddsFirst before.all after.all (record { image = image; version = version }) at
    → Updates image_version_cmp before.last after.last (record { image = image; version = version }) (Some at)
    → NotesAll before after motes image version at
all_noted before after motes image version at all firsts lasts = record {
  first = λ i v. first_after before.all after.all image version at firsts i v
      ∙ ap (λ (b : Bool). cond (b && ((image == i) && (version == v))) (option_or (all_in before.all i v) (Some at)) (all_in before.all i v)) (sym all);
  last = λ i v. all_after before.last after.last image version (Some at) lasts i v
      ∙ ap (λ (b : Bool). cond (b && ((image == i) && (version == v))) (Some at) (all_in before.last i v)) (sym all);
}

pub on_ok : {A B : Type 0} (r : Result A B) (P : Type 0) → is_err r ≡ false → OnOk r P → P
on_ok (Ok x) P e h = h
on_ok (Err y) P e h = absurd (false≢true (sym e))
