-- Frames that were sent, and which of them is found.
use Rattle.std.proofs.Common.{◌≡◌, ℕ, ◌-◌, ◌==◌, ◌<◌, ◌≤◌, Bool, true, false, cond, List, [], ◌∷◌, ◌++◌, length, take, get_or, refl, ap, sym, ◌∙◌, subst, suc, arith}
use Rattle.std.specs.Prelude.{Option, Some, None, slice_get}
use Rattle.std.proofs.lemmas.Option.{slice_get_within, get_or_from_slice_get}
use Rattle.std.proofs.Math.Seq.{take-suc}
use Rattle.dg_drip.specs.Sizes.{key_count}
use Rattle.dg_drip.specs.Network.{frame_numbered, is_of, or_this, last_said}
use Rattle.dg_drip.specs.declared.frame.Said.{Said}
use Rattle.dg_drip_replay.specs.Standing.{AreKeyed}

-- ---- keys

keyed_by : (zero_is : Bool) (sent : List Said) (n : ℕ) (s : Said) → AreKeyed sent → cond zero_is None (slice_get sent (n - 1)) ≡ Some s → s.key < key_count
keyed_by true sent n s h e = absurd (let f : (let r : Option Said = None in r) ≡ Some s = e in cc)
keyed_by false sent n s h e =
    subst (λ (x : Said). x.key < key_count) (get_or_from_slice_get sent (n - 1) s s e) (h (n - 1) s (slice_get_within sent (n - 1) s e))

pub keyed_numbered : (sent : List Said) (n : ℕ) (s : Said) → AreKeyed sent → frame_numbered sent n ≡ Some s → s.key < key_count
keyed_numbered sent n s h e = keyed_by (n == 0) sent n s h e

keyed_or : (later : Option Said) (here : Bool) (x s : Said) → (later ≡ Some s → s.key < key_count) → x.key < key_count → or_this later here x ≡ Some s → s.key < key_count
keyed_or (Some y) here x s f g e = f e
keyed_or None true x s f g e = let same : x ≡ s = (let h : (let r : Option Said = Some x in r) ≡ Some s = e in cc) in subst (λ (z : Said). z.key < key_count) same g
keyed_or None false x s f g e = absurd (let h : (let r : Option Said = None in r) ≡ Some s = e in cc)

pub keyed_last : (sent : List Said) (node key : ℕ) (s : Said) → AreKeyed sent → last_said sent node key ≡ Some s → s.key < key_count
keyed_last [] node key s h e = absurd (let f : (let r : Option Said = None in r) ≡ Some s = e in cc)
keyed_last (x ∷ sent) node key s h e =
    keyed_or (last_said sent node key) (is_of node key x) x s (keyed_last sent node key s (λ k d within. h (suc k) d (omega arith))) (h 0 x (omega arith)) e

-- ---- the last one, from the back

last_by : (later : Option Said) (b here : Bool) (x s : Said) → or_this (cond b (Some s) later) here x ≡ cond b (Some s) (or_this later here x)
last_by later true here x s = refl
last_by later false here x s = refl

last_behind : (sent : List Said) (s : Said) (node key : ℕ) → last_said (sent ++ s ∷ []) node key ≡ cond (is_of node key s) (Some s) (last_said sent node key)
last_behind [] s node key = refl
last_behind (x ∷ sent) s node key =
    ap (λ (r : Option Said). or_this r (is_of node key x) x) (last_behind sent s node key) ∙ last_by (last_said sent node key) (is_of node key s) (is_of node key x) x s

-- the last frame up to this place is the one here, or it comes before
pub last_before : (sent : List Said) (left : ℕ) (d : Said) (node key : ℕ) → left < length sent
    → last_said (take (suc left) sent) node key ≡ cond (is_of node key (get_or sent left d)) (Some (get_or sent left d)) (last_said (take left sent) node key)
last_before sent left d node key within =
    ap (λ (xs : List Said). last_said xs node key) (take-suc sent left d within) ∙ last_behind (take left sent) (get_or sent left d) node key

-- the frame before this place is the last one
pub last_here : (sent : List Said) (left : ℕ) (d : Said) (node key : ℕ) → 0 < left → left ≤ length sent → is_of node key (get_or sent (left - 1) d) ≡ true
    → last_said (take left sent) node key ≡ Some (get_or sent (left - 1) d)
last_here sent left d node key some within is =
    let e : left ≡ suc (left - 1) = omega (arith, some) in
    ap (λ (n : ℕ). last_said (take n sent) node key) e
    ∙ last_before sent (left - 1) d node key (omega (arith, some, within))
    ∙ ap (λ (b : Bool). cond b (Some (get_or sent (left - 1) d)) (last_said (take (left - 1) sent) node key)) is

-- or it is not one of them
pub last_not : (sent : List Said) (left : ℕ) (d : Said) (node key : ℕ) → 0 < left → left ≤ length sent → is_of node key (get_or sent (left - 1) d) ≡ false
    → last_said (take (left - 1) sent) node key ≡ last_said (take left sent) node key
last_not sent left d node key some within is =
    let e : left ≡ suc (left - 1) = omega (arith, some) in
    sym (
    ap (λ (n : ℕ). last_said (take n sent) node key) e
    ∙ last_before sent (left - 1) d node key (omega (arith, some, within))
    ∙ ap (λ (b : Bool). cond b (Some (get_or sent (left - 1) d)) (last_said (take (left - 1) sent) node key)) is
    )
