-- Boards of which one is used.
use Rattle.std.proofs.Common.{◌≡◌, ◌≢◌, ℕ, zero, suc, ◌<◌, List, [], ◌∷◌, length, map, get_or, set, refl, ap, sym, ◌∙◌, subst, arith}
use Rattle.std.specs.Prelude.{Some, None, slice_get, slice_set}
use Rattle.std.proofs.lemmas.List.{length-map}
use Rattle.dg_nor.specs.Device.{Device}

-- the board before and after
pub record Used (i : ℕ) (old new : List Device) (d e : Device) : Type 0 where
  pub before : slice_get old i ≡ Some d
  pub after : new ≡ slice_set old i e

pub used_at : {N : Type 0} (f : N → Device) (items : List N) (i : ℕ) (x y : N) → i < length items → Used i (map f items) (map f (set items i y)) (f (get_or items i x)) (f y)
used_at f [] i x y some = absurd (omega (arith, some))
used_at f (z ∷ zs) zero x y some = record { before = refl; after = refl }
used_at f (z ∷ zs) (suc i) x y some =
    let u = used_at f zs i x y (omega (arith, some)) in
    record { before = u.before; after = ap (λ (ds : List Device). f z ∷ ds) u.after }

none_some : {A : Type 0} {P : Type 0} (x : A) → None ≡ Some x → P
none_some x e = absurd cc

pub same_some : {A : Type 0} (x y : A) → Some x ≡ Some y → x ≡ y
same_some x y e = cc

pub get_same : (ds : List Device) (i : ℕ) (d e : Device) → slice_get ds i ≡ Some d → slice_get (slice_set ds i e) i ≡ Some e
get_same [] i d e here = none_some d here
get_same (x ∷ xs) zero d e here = refl
get_same (x ∷ xs) (suc i) d e here = get_same xs i d e here

pub get_other : (ds : List Device) (i m : ℕ) (e : Device) → m ≢ i → slice_get (slice_set ds i e) m ≡ slice_get ds m
get_other [] i m e other = refl
get_other (x ∷ xs) zero zero e other = absurd (other refl)
get_other (x ∷ xs) zero (suc m) e other = refl
get_other (x ∷ xs) (suc i) zero e other = refl
get_other (x ∷ xs) (suc i) (suc m) e other = get_other xs i m e (λ h. other (ap suc h))

-- the same, for an index that equals this one
pub used_there : {N : Type 0} (f : N → Device) (items : List N) (i j : ℕ) (x y : N) → j ≡ i → j < length items → Used i (map f items) (map f (set items j y)) (f (get_or items j x)) (f y)
used_there f items i j x y same within =
    subst (λ (k : ℕ). Used k (map f items) (map f (set items j y)) (f (get_or items j x)) (f y)) same (used_at f items j x y within)

pub within_boards : {N : Type 0} (f : N → Device) (old now : List N) → length (map f now) ≡ length (map f old) → length now ≡ length old
within_boards f old now same = sym (length-map now f) ∙ same ∙ length-map old f
