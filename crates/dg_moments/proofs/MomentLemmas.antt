-- What is noted of an image, and one more event.
use Rattle.std.proofs.Common.{◌≡◌, ◌≢◌, ℕ, ◌+◌, ◌-◌, ◌^◌, ◌<◌, ◌≤◌, ◌==◌, ◌&&◌, Bool, true, false, not, nat_lt, cond, List, [], ◌∷◌, ◌++◌, length, refl, sym, ap, ◌∙◌, arith, append_assoc}
use Rattle.std.specs.Prelude.{Option, Some, None, slice_get}
use Rattle.std.proofs.lemmas.Bool.{ltb-true, eq-eqb, eqb-true, both_ways}
use Rattle.dg_slot.specs.Kept.{Held}
use Rattle.dg_volume.specs.Start.{is_whole}
use Rattle.dg_volume.specs.Store.{Store, held}
use Rattle.dg_rules.specs.Begins.{store_of}
use Rattle.dg_rules.specs.Runs.{Played}
use Rattle.dg_rules.specs.World.{store_at}
use Rattle.dg_cost_text.specs.declared.moment.Moment.{Moment}
use Rattle.dg_events.specs.Keeps.{keeps_whole}
use Rattle.dg_moments.specs.declared.wholes.Wholes.{Wholes}
use Rattle.dg_moments.specs.Moments.{event_moment, beginning, one_if, last_in, event_moments_after, event_moments, is_loaded, becomes_whole, has_whole, whole_moments, all_motes, all_become, all_moments, store_after, whole_version, kept_whole, keeps_version}
use Rattle.dg_moments.specs.Wholes.{kept_in, moment_in, all_in, Knows, KnowsImage, with_kept, is_new, all_new, ChangesKept}
use Rattle.dg_moments.proofs.MotesLemmas.{all_same, same_versions, not_new_same, both_and}
use Rattle.dg_moments.proofs.ChangeLemmas.{knows_still}

-- ---- one more event

moments_more_after : (first : List Played) (test : Played → Bool) (ps : List Played) (p : Played)
    → event_moments_after first test (ps ++ p ∷ []) ≡ event_moments_after first test ps ++ one_if (test p) (event_moment ((first ++ ps) ++ p ∷ []))
moments_more_after first test [] p = nil (one_if (test p) (event_moment (first ++ p ∷ []))) ∙ ap (λ (es : List Played). one_if (test p) (event_moment (es ++ p ∷ []))) (sym (append_nil first))
  where
    nil : (xs : List Moment) → xs ++ [] ≡ xs
    nil [] = refl
    nil (x ∷ xs) = ap (λ (ys : List Moment). x ∷ ys) (nil xs)

    append_nil : (es : List Played) → es ++ [] ≡ es
    append_nil [] = refl
    append_nil (e ∷ es) = ap (λ (ys : List Played). e ∷ ys) (append_nil es)
moments_more_after first test (q ∷ ps) p =
    ap (λ (ms : List Moment). one_if (test q) (event_moment (first ++ q ∷ [])) ++ ms) (moments_more_after (first ++ q ∷ []) test ps p)
    ∙ sym (append_assoc (one_if (test q) (event_moment (first ++ q ∷ []))) (event_moments_after (first ++ q ∷ []) test ps) (one_if (test p) (event_moment (((first ++ q ∷ []) ++ ps) ++ p ∷ []))))
    ∙ ap (λ (es : List Played). (one_if (test q) (event_moment (first ++ q ∷ [])) ++ event_moments_after (first ++ q ∷ []) test ps) ++ one_if (test p) (event_moment (es ++ p ∷ [])))
    (append_assoc first (q ∷ []) ps)

-- the moment of one more event is added where it passes the test
pub moments_more : (test : Played → Bool) (ps : List Played) (p : Played) → event_moments test (ps ++ p ∷ []) ≡ event_moments test ps ++ one_if (test p) (event_moment (ps ++ p ∷ []))
moments_more test ps p = moments_more_after [] test ps p

length_one : (b : Bool) (at : Moment) (xs : List Moment) → length (one_if b at ++ xs) ≤ length xs + 1
length_one true at xs = omega arith
length_one false at xs = omega arith

few_after : (first : List Played) (test : Played → Bool) (ps : List Played) → length (event_moments_after first test ps) ≤ length ps
few_after first test [] = omega arith
few_after first test (p ∷ ps) =
    omega (arith, length_one (test p) (event_moment (first ++ p ∷ [])) (event_moments_after (first ++ p ∷ []) test ps), few_after (first ++ p ∷ []) test ps)

-- no more moments than events, and the beginning
pub few_moments : (stores : List Store) (events : List Played) (m i v : ℕ) → length (whole_moments stores events m i v) ≤ length events + 1
few_moments stores events m i v =
    omega (arith, length_one (has_whole (store_of stores m) i v) beginning (event_moments (becomes_whole m i v) events), few_after [] (becomes_whole m i v) events)

pub store_after_more : (s : Store) (m : ℕ) (ps : List Played) (p : Played) → store_after s m (ps ++ p ∷ []) ≡ store_at p.after m
store_after_more s m [] p = refl
store_after_more s m (q ∷ ps) p = store_after_more (store_at q.after m) m ps p

-- ---- the version that is kept whole

pub is_kept : (o : Option Held) (v : ℕ) → is_whole o v ≡ keeps_version (whole_version o) v
is_kept None v = refl
is_kept (Some h) v = by (length h.complete == h.pages)
  where
    by : (b : Bool) → ((h.version == v) && b) ≡ keeps_version (cond b (Some h.version) None) v
    by true = right_true (h.version == v)
      where
        right_true : (c : Bool) → (c && true) ≡ c
        right_true true = refl
        right_true false = refl
    by false = right_false (h.version == v)
      where
        right_false : (c : Bool) → (c && false) ≡ false
        right_false true = refl
        right_false false = refl

-- ---- the same in other words

-- what is noted, with the same versions and moments
pub knows_as : (w : Wholes) (motes image : ℕ) (kept now : ℕ → Option ℕ) (moments more : ℕ → ℕ → List Moment) (all others : ℕ → List Moment)
    → ((m : ℕ) → m < motes → kept m ≡ now m) → ((m v : ℕ) → m < motes → moments m v ≡ more m v) → ((v : ℕ) → all v ≡ others v)
    → Knows w motes image kept moments all → Knows w motes image now more others
knows_as w motes image kept now moments more all others same_kept same_moments same_all h = record {
  keeps = λ loads m. h.keeps loads m ∙ keep m (nat_lt m motes) refl;
  each = λ m v t. h.each m v t ∙ moment m v t (nat_lt m motes) refl;
  first = λ v. h.first v ∙ ap (λ (xs : List Moment). cond {A = Option Moment} (is_loaded image) (slice_get xs 0) None) (same_all v);
  last = λ v. h.last v ∙ ap (λ (xs : List Moment). cond {A = Option Moment} (is_loaded image) (last_in xs) None) (same_all v);
}
  where
    keep : (m : ℕ) (b : Bool) → nat_lt m motes ≡ b → cond {A = Option ℕ} b (kept m) None ≡ cond b (now m) None
    keep m true e = same_kept m (ltb-true m motes e)
    keep m false e = refl

    moment : (m v t : ℕ) (b : Bool) → nat_lt m motes ≡ b
        → cond {A = Option Moment} (b && (is_loaded image && nat_lt 0 t)) (slice_get (moments m v) (t - 1)) None
        ≡ cond (b && (is_loaded image && nat_lt 0 t)) (slice_get (more m v) (t - 1)) None
    moment m v t true e = ap (λ (xs : List Moment). cond {A = Option Moment} (is_loaded image && nat_lt 0 t) (slice_get xs (t - 1)) None) (same_moments m v (ltb-true m motes e))
    moment m v t false e = refl

-- nothing is noted of images that are not loaded
pub knows_unloaded : (w : Wholes) (motes n image : ℕ) (kept now : ℕ → Option ℕ) (moments more : ℕ → ℕ → List Moment) (all others : ℕ → List Moment)
    → is_loaded image ≡ false → Knows w motes image kept moments all → Knows w n image now more others
knows_unloaded w motes n image kept now moments more all others unloaded h = record {
  keeps = λ loads m. absurd (both_ways (is_loaded image) unloaded loads);
  each = λ m v t. h.each m v t ∙ none (nat_lt m motes) (nat_lt 0 t) (slice_get (moments m v) (t - 1)) ∙ sym (none (nat_lt m n) (nat_lt 0 t) (slice_get (more m v) (t - 1)));
  first = λ v. h.first v ∙ here (slice_get (all v) 0) ∙ sym (here (slice_get (others v) 0));
  last = λ v. h.last v ∙ here (last_in (all v)) ∙ sym (here (last_in (others v)));
}
  where
    here : (o : Option Moment) → cond (is_loaded image) o None ≡ None
    here o = ap (λ (b : Bool). cond b o None) unloaded

    none : (a b : Bool) (o : Option Moment) → cond (a && (is_loaded image && b)) o None ≡ None
    none true b o = ap (λ (c : Bool). cond (c && b) o None) unloaded
    none false b o = refl

-- the same maps
pub knows_maps : (before after : Wholes) (motes image : ℕ) (kept : ℕ → Option ℕ) (moments : ℕ → ℕ → List Moment) (all : ℕ → List Moment)
    → after.kept ≡ before.kept → after.moments ≡ before.moments → after.all ≡ before.all → after.last ≡ before.last
    → Knows before motes image kept moments all → Knows after motes image kept moments all
knows_maps before after motes image kept moments all same_kept same_moments same_all same_last h = record {
  keeps = λ loads m. ap (λ ks. kept_in ks m image) same_kept ∙ h.keeps loads m;
  each = λ m v t. ap (λ ms. moment_in ms m image v t) same_moments ∙ h.each m v t;
  first = λ v. ap (λ ms. all_in ms image v) same_all ∙ h.first v;
  last = λ v. ap (λ ms. all_in ms image v) same_last ∙ h.last v;
}

-- ---- one more event

-- what a mote kept before an event, by the events before it
pub record IsNextEvent (stores : List Store) (past : List Played) (p : Played) : Type 0 where
  pub before : (m : ℕ) → m < length stores → store_at p.before m ≡ store_after (store_of stores m) m past

kept_before : (stores : List Store) (past : List Played) (p : Played) → IsNextEvent stores past p → (m i v : ℕ) → m < length stores
    → keeps_whole p.before m i v ≡ keeps_version (kept_whole stores past i m) v
kept_before stores past p next m i v lt =
    is_kept (held (store_at p.before m) i) v ∙ ap (λ (s : Store). keeps_version (whole_version (held s i)) v) (next.before m lt)

pub kept_now : (stores : List Store) (past : List Played) (p : Played) (m i : ℕ) → kept_whole stores (past ++ p ∷ []) i m ≡ whole_version (held (store_at p.after m) i)
kept_now stores past p m i = ap (λ (s : Store). whole_version (held s i)) (store_after_more (store_of stores m) m past p)

kept_after : (stores : List Store) (past : List Played) (p : Played) (m i v : ℕ) → keeps_whole p.after m i v ≡ keeps_version (kept_whole stores (past ++ p ∷ []) i m) v
kept_after stores past p m i v = is_kept (held (store_at p.after m) i) v ∙ ap (λ (o : Option ℕ). keeps_version o v) (sym (kept_now stores past p m i))

both_not : (a b c d : Bool) → a ≡ b → c ≡ d → (a && not c) ≡ (b && not d)
both_not a b c d e f = cc

whole_more : (stores : List Store) (past : List Played) (p : Played) (m i v : ℕ) → IsNextEvent stores past p → m < length stores
    → whole_moments stores past m i v ++ one_if (is_new (kept_whole stores past i m) (kept_whole stores (past ++ p ∷ []) i m) v) (event_moment (past ++ p ∷ []))
    ≡ whole_moments stores (past ++ p ∷ []) m i v
whole_more stores past p m i v next lt =
    let new : becomes_whole m i v p ≡ is_new (kept_whole stores past i m) (kept_whole stores (past ++ p ∷ []) i m) v =
    both_not _ _ _ _ (kept_after stores past p m i v) (kept_before stores past p next m i v lt) in
    ap (λ (b : Bool). whole_moments stores past m i v ++ one_if b (event_moment (past ++ p ∷ []))) (sym new)
    ∙ append_assoc (one_if (has_whole (store_of stores m) i v) beginning) (event_moments (becomes_whole m i v) past) (one_if (becomes_whole m i v p) (event_moment (past ++ p ∷ [])))
    ∙ ap (λ (xs : List Moment). one_if (has_whole (store_of stores m) i v) beginning ++ xs) (sym (moments_more (becomes_whole m i v) past p))

all_more : (stores : List Store) (past : List Played) (p : Played) (i v : ℕ) → IsNextEvent stores past p
    → all_moments stores past i v ++ one_if (all_new (length stores) (kept_whole stores past i) (kept_whole stores (past ++ p ∷ []) i) v) (event_moment (past ++ p ∷ []))
    ≡ all_moments stores (past ++ p ∷ []) i v
all_more stores past p i v next =
    let first : Bool = all_motes (length stores) (λ m. has_whole (store_of stores m) i v) in
    let new : all_become (length stores) i v p ≡ all_new (length stores) (kept_whole stores past i) (kept_whole stores (past ++ p ∷ []) i) v =
    both_not _ _ _ _
    (all_same (length stores) (λ (m : ℕ). keeps_whole p.after m i v) (λ (m : ℕ). keeps_version (kept_whole stores (past ++ p ∷ []) i m) v) (λ m lt. kept_after stores past p m i v))
    (all_same (length stores) (λ (m : ℕ). keeps_whole p.before m i v) (λ (m : ℕ). keeps_version (kept_whole stores past i m) v) (λ m lt. kept_before stores past p next m i v lt)) in
    ap (λ (b : Bool). all_moments stores past i v ++ one_if b (event_moment (past ++ p ∷ []))) (sym new)
    ∙ append_assoc (one_if first beginning) (event_moments (all_become (length stores) i v) past) (one_if (all_become (length stores) i v p) (event_moment (past ++ p ∷ [])))
    ∙ ap (λ (xs : List Moment). one_if first beginning ++ xs) (sym (moments_more (all_become (length stores) i v) past p))

-- what is noted of an event, as of a run
pub known_after : (w : Wholes) (stores : List Store) (past : List Played) (p : Played) (image : ℕ) (now : ℕ → Option ℕ) → IsNextEvent stores past p
    → ((m : ℕ) → m < length stores → now m ≡ kept_whole stores (past ++ p ∷ []) image m)
    → Knows w (length stores) image now (λ m v. whole_moments stores past m image v ++ one_if (is_new (kept_whole stores past image m) (now m) v) (event_moment (past ++ p ∷ [])))
    (λ v. all_moments stores past image v ++ one_if (all_new (length stores) (kept_whole stores past image) now v) (event_moment (past ++ p ∷ [])))
    → KnowsImage w stores (past ++ p ∷ []) image
known_after w stores past p image now next same knows =
    knows_as w (length stores) image now (kept_whole stores (past ++ p ∷ []) image) _ _ _ _ same
    (λ m v lt. ap (λ (o : Option ℕ). whole_moments stores past m image v ++ one_if (is_new (kept_whole stores past image m) o v) (event_moment (past ++ p ∷ []))) (same m lt)
    ∙ whole_more stores past p m image v next lt)
    (λ v. ap (λ (b : Bool). all_moments stores past image v ++ one_if (b && not (all_motes (length stores) (λ m. keeps_version (kept_whole stores past image m) v))) (event_moment (past ++ p ∷ [])))
    (all_same (length stores) (λ (m : ℕ). keeps_version (now m) v) (λ (m : ℕ). keeps_version (kept_whole stores (past ++ p ∷ []) image m) v) (λ m lt. ap (λ (o : Option ℕ). keeps_version o v) (same m lt)))
    ∙ all_more stores past p image v next) knows

-- what a mote keeps is unchanged
pub stays_kept : (stores : List Store) (past : List Played) (p : Played) (m image : ℕ) → IsNextEvent stores past p → m < length stores
    → ((v : ℕ) → keeps_whole p.after m image v ≡ keeps_whole p.before m image v) → kept_whole stores past image m ≡ kept_whole stores (past ++ p ∷ []) image m
stays_kept stores past p m image next lt same =
    same_versions (kept_whole stores past image m) (kept_whole stores (past ++ p ∷ []) image m)
    (λ v. sym (kept_before stores past p next m image v lt) ∙ sym (same v) ∙ kept_after stores past p m image v)

-- an event after which each mote keeps of an image what it kept
pub image_stays : (w : Wholes) (stores : List Store) (past : List Played) (p : Played) (image : ℕ) → IsNextEvent stores past p
    → ((m v : ℕ) → m < length stores → keeps_whole p.after m image v ≡ keeps_whole p.before m image v)
    → KnowsImage w stores past image → KnowsImage w stores (past ++ p ∷ []) image
image_stays w stores past p image next same knows =
    known_after w stores past p image (kept_whole stores past image) next (λ m lt. stays_kept stores past p m image next lt (λ v. same m v lt))
    (knows_still w w (length stores) image (kept_whole stores past image) (kept_whole stores past image)
    (λ m v. whole_moments stores past m image v) (λ v. all_moments stores past image v) (event_moment (past ++ p ∷ [])) refl refl refl knows.keeps
    (λ m v lt. not_new_same (kept_whole stores past image m) v)
    (λ v. both_and (all_motes (length stores) (λ m. keeps_version (kept_whole stores past image m) v)) (all_motes (length stores) (λ m. keeps_version (kept_whole stores past image m) v)) refl) knows)

-- an event after which one mote keeps this
pub image_changes : (before after : Wholes) (stores : List Store) (past : List Played) (p : Played) (mote image : ℕ) (o : Option ℕ) → IsNextEvent stores past p
    → mote < length stores → is_loaded image ≡ true → length past + 2 < 2 ^ 32 - 1 → whole_version (held (store_at p.after mote) image) ≡ o
    → ((m v : ℕ) → m < length stores → m ≢ mote → keeps_whole p.after m image v ≡ keeps_whole p.before m image v)
    → ChangesKept before after (length stores) mote image o (event_moment (past ++ p ∷ []))
    → KnowsImage before stores past image → KnowsImage after stores (past ++ p ∷ []) image
image_changes before after stores past p mote image o next lt loaded room is others changes knows =
    known_after after stores past p image (with_kept (kept_whole stores past image) mote o) next (λ m within. by m within (mote == m) refl)
    (changes (kept_whole stores past image) (λ m v. whole_moments stores past m image v) (λ v. all_moments stores past image v) lt loaded
    (λ v. omega (arith, few_moments stores past mote image v, room)) knows)
  where
    by : (m : ℕ) → m < length stores → (b : Bool) → (mote == m) ≡ b → cond b o (kept_whole stores past image m) ≡ kept_whole stores (past ++ p ∷ []) image m
    by m within true e = sym is ∙ sym (kept_now stores past p mote image) ∙ ap (kept_whole stores (past ++ p ∷ []) image) (eqb-true mote m e)
    by m within false e = stays_kept stores past p m image next within (λ v. others m v within (λ same. both_ways (mote == m) e (eq-eqb mote m (sym same))))
