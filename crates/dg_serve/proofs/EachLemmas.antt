-- What is done for each number in turn: one more, and the rest.
use Rattle.std.proofs.Common.{◌≡◌, ℕ, zero, suc, ◌+◌, ◌*◌, ◌%◌, ◌<◌, ◌≤◌, ◌⊎◌, List, [], ◌++◌, length, append-nil, append_assoc, refl, ap, sym, ◌∙◌, ⊎_elim, inl, inr, arith, add-one, length-append}
use Rattle.std.proofs.lemmas.Nat.{mod-mul-add}
use Rattle.dg_serve.specs.Each.{each}

-- one more number
pub each_more : {A : Type 0} (n : ℕ) (f : ℕ → List A) → each (suc n) f ≡ each n f ++ f n
unfolding each
each_more n f = refl

pub each_next : {A : Type 0} (n : ℕ) (f : ℕ → List A) → each (n + 1) f ≡ each n f ++ f n
each_next n f = ap (λ k. each k f) (add-one n) ∙ each_more n f

pub each_none : {A : Type 0} (f : ℕ → List A) → each 0 f ≡ []
unfolding each
each_none f = refl

last_or : (n k : ℕ) → n < suc k → (n ≡ k) ⊎ (n < k)
last_or n k h = omega_or n k h
  where
    omega_or : (a b : ℕ) → a < suc b → (a ≡ b) ⊎ (a < b)
    omega_or zero zero h = inl refl
    omega_or zero (suc b) h = inr (omega arith)
    omega_or (suc a) zero h = absurd (omega arith)
    omega_or (suc a) (suc b) h = ⊎_elim (λ e. inl (ap suc e)) (λ l. inr (omega arith)) (omega_or a b (omega arith))

-- what comes after the part of a number
pub each_split : {A : Type 0} (n k : ℕ) (f : ℕ → List A) → n < k → (rest : List A) × ((each n f ++ f n) ++ rest ≡ each k f)
each_split n zero f h = absurd (omega arith)
each_split n (suc k) f h =
    ⊎_elim
    (λ same. ([], append-nil (each n f ++ f n) ∙ ap (λ j. each j f ++ f j) same ∙ sym (each_more k f)))
    (λ less.
    let r = each_split n k f less in
    (r.0 ++ f k, sym (append_assoc (each n f ++ f n) r.0 (f k)) ∙ ap (λ l. l ++ f k) r.1 ∙ sym (each_more k f)))
    (last_or n k h)

-- a bound on the length
pub each_few : {A : Type 0} (n c : ℕ) (f : ℕ → List A) → ((k : ℕ) → length (f k) ≤ c) → length (each n f) ≤ n * c
unfolding each
each_few zero c f h = omega arith
each_few (suc n) c f h = let before = each_few n c f h in grind (arith, length-append (each n f) (f n), h n)

-- the first numbers, and those after them
pub each_add : {A : Type 0} (a b : ℕ) (f : ℕ → List A) → each (a + b) f ≡ each a f ++ each b (λ k. f (a + k))
unfolding each
each_add a zero f = let none : a + 0 ≡ a = omega arith in ap (λ k. each k f) none ∙ sym (append-nil (each a f))
each_add a (suc b) f =
    let more : a + suc b ≡ suc (a + b) = omega arith in
    ap (λ k. each k f) more ∙ ap (λ l. l ++ f (a + b)) (each_add a b f) ∙ append_assoc (each a f) (each b (λ k. f (a + k))) (f (a + b))

pub each_same : {A : Type 0} (n : ℕ) (f g : ℕ → List A) → ((k : ℕ) → k < n → f k ≡ g k) → each n f ≡ each n g
unfolding each
each_same zero f g h = refl
each_same (suc n) f g h = ap (λ l. l ++ f n) (each_same n f g (λ k less. h k (omega (arith, less)))) ∙ ap (λ l. each n g ++ l) (h n (omega arith))

-- the numbers below n, this many times over
pub each_over : {A : Type 0} (times n : ℕ) (f : ℕ → List A) → each (times * n) (λ k. f (k % n)) ≡ each times (λ t. each n f)
each_over zero n f = let none : 0 * n ≡ 0 = omega arith in ap (λ k. each k (λ k. f (k % n))) none ∙ each_none (λ k. f (k % n)) ∙ sym (each_none (λ t. each n f))
each_over (suc times) n f =
    let more : suc times * n ≡ times * n + n = omega arith in
    ap (λ k. each k (λ k. f (k % n))) more
    ∙ each_add (times * n) n (λ k. f (k % n))
    ∙ ap (λ l. l ++ each n (λ k. f ((times * n + k) % n))) (each_over times n f)
    ∙ ap (λ l. each times (λ t. each n f) ++ l) (each_same n (λ k. f ((times * n + k) % n)) f (λ k less. ap f (mod-mul-add times n k less)))
    ∙ sym (each_more times (λ t. each n f))
