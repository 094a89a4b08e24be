-- Boards that are used, one after another.
use Rattle.std.proofs.Common.{◌≡◌, ◌≢◌, ℕ, zero, suc, ◌<◌, ◌≤◌, List, [], ◌∷◌, length, set, refl, ap, sym, ◌∙◌, subst, ⊎_elim, arith}
use Rattle.std.specs.Prelude.{slice_get, Option, Some, None}
use Rattle.std.proofs.Math.ListN.{length-set}
use Rattle.dg_nor.specs.Device.{Device, Endures}
use Rattle.dg_nor.specs.Fuse.{beneath_of}
use Rattle.dg_nor.proofs.DeviceLemmas.{Endures-same, Endures_then}
use Rattle.dg_world.proofs.PlaceLemmas.{is_or}
use Rattle.dg_serve.specs.Standings.{BoardEndures, BoardIsCalm, BoardsAreUsed, BoardsAreCalm}

pub get_set_other : {A : Type 0} (xs : List A) (i k : ℕ) (y : A) → k ≢ i → slice_get (set xs i y) k ≡ slice_get xs k
get_set_other [] i k y other = refl
get_set_other (x ∷ xs) zero zero y other = absurd (other refl)
get_set_other (x ∷ xs) zero (suc k) y other = refl
get_set_other (x ∷ xs) (suc i) zero y other = refl
get_set_other (x ∷ xs) (suc i) (suc k) y other = get_set_other xs i k y (λ e. other (ap suc e))

pub get_set_same : {A : Type 0} (xs : List A) (i : ℕ) (y : A) → i < length xs → slice_get (set xs i y) i ≡ Some y
get_set_same [] i y h = absurd (omega arith)
get_set_same (x ∷ xs) zero y h = refl
get_set_same (x ∷ xs) (suc i) y h = get_set_same xs i y (omega arith)

-- ---- one board

endures_same : (o : Option Device) → BoardEndures o o
endures_same None = refl
endures_same (Some a) = Endures-same (beneath_of a)

endures_then : (o p q : Option Device) → BoardEndures o p → BoardEndures p q → BoardEndures o q
endures_then None p q first second = subst (λ (x : Option Device). BoardEndures x q) first second
endures_then (Some a) None q first second = absurd first
endures_then (Some a) (Some b) None first second = absurd second
endures_then (Some a) (Some b) (Some c) first second = Endures_then (beneath_of a) (beneath_of b) (beneath_of c) first second

calm_same : (o : Option Device) → BoardIsCalm o o
calm_same None = refl
calm_same (Some a) = refl

calm_then : (o p q : Option Device) → BoardIsCalm o p → BoardIsCalm p q → BoardIsCalm o q
calm_then None p q first second = subst (λ (x : Option Device). BoardIsCalm x q) first second
calm_then (Some a) None q first second = absurd first
calm_then (Some a) (Some b) None first second = absurd second
calm_then (Some a) (Some b) (Some c) first second = second ∙ first

-- ---- all of them

pub used_same : (motes : ℕ) (xs : List Device) → BoardsAreUsed motes xs xs
used_same motes xs = record { count = refl; others = λ m h. refl; endures = λ m. endures_same (slice_get xs m) }

pub used_then : (motes : ℕ) (xs ys zs : List Device) → BoardsAreUsed motes xs ys → BoardsAreUsed motes ys zs → BoardsAreUsed motes xs zs
used_then motes xs ys zs first second = record {
  count = second.count ∙ first.count;
  others = λ m h. second.others m h ∙ first.others m h;
  endures = λ m. endures_then (slice_get xs m) (slice_get ys m) (slice_get zs m) (first.endures m) (second.endures m);
}

pub used_more : (few motes : ℕ) (xs ys : List Device) → few ≤ motes → BoardsAreUsed few xs ys → BoardsAreUsed motes xs ys
used_more few motes xs ys h used = record { count = used.count; others = λ m k. used.others m (omega arith); endures = used.endures }

pub all_calm : (xs : List Device) → BoardsAreCalm xs xs
all_calm xs = λ m. calm_same (slice_get xs m)

pub calm_all_then : (xs ys zs : List Device) → BoardsAreCalm xs ys → BoardsAreCalm ys zs → BoardsAreCalm xs zs
calm_all_then xs ys zs first second = λ m. calm_then (slice_get xs m) (slice_get ys m) (slice_get zs m) (first m) (second m)

-- ---- one of them changed

pub got_within : {A : Type 0} (xs : List A) (i : ℕ) (a : A) → slice_get xs i ≡ Some a → i < length xs
got_within [] i a h = absurd cc
got_within (x ∷ xs) zero a h = omega arith
got_within (x ∷ xs) (suc i) a h = let k = got_within xs i a h in omega arith

pub used_one : (motes : ℕ) (xs : List Device) (i : ℕ) (a b : Device) → i < motes → slice_get xs i ≡ Some a → Endures (beneath_of a) (beneath_of b) → BoardsAreUsed motes xs (set xs i b)
used_one motes xs i a b known was endures = record {
  count = length-set xs i b;
  others = λ m h. get_set_other xs i m b (λ e. omega (arith, e, h, known));
  endures = λ m.
      ⊎_elim
      (λ same.
      let P : Option Device → Option Device → Type 0 = λ x y. BoardEndures x y in
      let now : slice_get (set xs i b) m ≡ Some b = ap (slice_get (set xs i b)) same ∙ get_set_same xs i b (got_within xs i a was) in
      let then : slice_get xs m ≡ Some a = ap (slice_get xs) same ∙ was in
      subst (λ x. P x (slice_get (set xs i b) m)) (sym then) (subst (λ y. P (Some a) y) (sym now) endures))
      (λ other. subst (λ y. BoardEndures (slice_get xs m) y) (sym (get_set_other xs i m b other)) (endures_same (slice_get xs m)))
      (is_or m i);
}

pub calm_one : (xs : List Device) (i : ℕ) (a b : Device) → slice_get xs i ≡ Some a → b.faults ≡ a.faults → BoardsAreCalm xs (set xs i b)
calm_one xs i a b was stays = λ m.
    ⊎_elim
    (λ same.
    let P : Option Device → Option Device → Type 0 = λ x y. BoardIsCalm x y in
    let now : slice_get (set xs i b) m ≡ Some b = ap (slice_get (set xs i b)) same ∙ get_set_same xs i b (got_within xs i a was) in
    let then : slice_get xs m ≡ Some a = ap (slice_get xs) same ∙ was in
    subst (λ x. P x (slice_get (set xs i b) m)) (sym then) (subst (λ y. P (Some a) y) (sym now) stays))
    (λ other. subst (λ y. BoardIsCalm (slice_get xs m) y) (sym (get_set_other xs i m b other)) (calm_same (slice_get xs m)))
    (is_or m i)
