-- The positions of a round.
use Rattle.std.proofs.Common.{◌≡◌, ℕ, zero, suc, ◌+◌, ◌-◌, ◌*◌, ◌%◌, ◌<◌, ◌≤◌, List, [], ◌∷◌, ◌++◌, length, get_or, drop, replicate, refl, ap, ◌∙◌, arith}
use Rattle.std.proofs.lemmas.List.{length-append, length-replicate, get_or-replicate, get_or_append_left, get_or-append_right, drop_more, drop_all}
use Rattle.dg_base.specs.declared.events.Event.{Event}
use Rattle.dg_rounds.specs.Rounds.{times, paced, passed, round}

pub length-times : {A : Type 0} (n : ℕ) (xs : List A) → length (times n xs) ≡ n * length xs
unfolding times
length-times zero xs = omega arith
length-times (suc n) xs = length-append xs (times n xs) ∙ omega (arith, length-times n xs)

-- what is at the positions of a pair that is repeated
even_place : {A : Type 0} (n j : ℕ) (x y d : A) → j < 2 * n → j % 2 ≡ 0 → get_or (times n (x ∷ y ∷ [])) j d ≡ x
unfolding times
even_place zero j x y d h e = absurd (omega arith)
even_place (suc n) zero x y d h e = refl
even_place (suc n) (suc zero) x y d h e = absurd (omega arith)
even_place (suc n) (suc (suc j)) x y d h e = even_place n j x y d (omega arith) (omega arith)

odd_place : {A : Type 0} (n j : ℕ) (x y d : A) → j < 2 * n → j % 2 ≡ 1 → get_or (times n (x ∷ y ∷ [])) j d ≡ y
unfolding times
odd_place zero j x y d h e = absurd (omega arith)
odd_place (suc n) zero x y d h e = absurd (omega arith)
odd_place (suc n) (suc zero) x y d h e = refl
odd_place (suc n) (suc (suc j)) x y d h e = odd_place n j x y d (omega arith) (omega arith)

-- the parts of a round
abbrev packets : (a b : ℕ) → List Event
packets a b = times 48 (paced a ∷ passed a b ∷ [])

abbrev asking : (a b : ℕ) → List Event
asking a b = passed a b ∷ paced b ∷ passed b a ∷ []

abbrev from_asking : (a b : ℕ) → List Event
from_asking a b = asking a b ++ packets a b

abbrev from_advert : (a b : ℕ) → List Event
from_advert a b = replicate 3 (paced a) ++ from_asking a b

abbrev from_second : (a b : ℕ) → List Event
from_second a b = replicate 50 (paced b) ++ from_advert a b

by_parts : (a b : ℕ) → round a b ≡ replicate 50 (paced a) ++ from_second a b
unfolding round
by_parts a b = refl

long : {A : Type 0} (n : ℕ) (x : A) → length (replicate n x) ≡ n
long n x = length-replicate n x

pub length-round : (a b : ℕ) → length (round a b) ≡ 202
length-round a b =
    ap length (by_parts a b) ∙ length-append (replicate 50 (paced a)) (from_second a b)
    ∙ omega (arith, long 50 (paced a), length-append (replicate 50 (paced b)) (from_advert a b), long 50 (paced b), length-append (replicate 3 (paced a)) (from_asking a b), long 3 (paced a), length-append (asking a b) (packets a b), length-times 48 (paced a ∷ passed a b ∷ []))

at_first : (a b k : ℕ) (d : Event) → get_or (round a b) k d ≡ get_or (replicate 50 (paced a) ++ from_second a b) k d
at_first a b k d = ap (λ xs. get_or xs k d) (by_parts a b)

pub first_rest : (a b k : ℕ) (d : Event) → k < 50 → get_or (round a b) k d ≡ paced a
first_rest a b k d h =
    let l : k < length (replicate 50 (paced a)) = omega (arith, long 50 (paced a)) in
    at_first a b k d ∙ get_or_append_left (replicate 50 (paced a)) (from_second a b) d k l ∙ get_or-replicate 50 k (paced a) d h

past_first : (a b k : ℕ) (d : Event) → 50 ≤ k → get_or (round a b) k d ≡ get_or (from_second a b) (k - 50) d
past_first a b k d h = at_first a b k d ∙ get_or-append_right (replicate 50 (paced a)) (from_second a b) 50 k d (long 50 (paced a)) h

pub second_rest : (a b k : ℕ) (d : Event) → 50 ≤ k → k < 100 → get_or (round a b) k d ≡ paced b
second_rest a b k d h lt =
    let l : k - 50 < length (replicate 50 (paced b)) = omega (arith, long 50 (paced b)) in
    past_first a b k d h ∙ get_or_append_left (replicate 50 (paced b)) (from_advert a b) d (k - 50) l ∙ get_or-replicate 50 (k - 50) (paced b) d (omega arith)

past_second : (a b k : ℕ) (d : Event) → 100 ≤ k → get_or (round a b) k d ≡ get_or (from_advert a b) ((k - 50) - 50) d
past_second a b k d h = past_first a b k d (omega arith) ∙ get_or-append_right (replicate 50 (paced b)) (from_advert a b) 50 (k - 50) d (long 50 (paced b)) (omega arith)

pub advert_rest : (a b k : ℕ) (d : Event) → 100 ≤ k → k < 103 → get_or (round a b) k d ≡ paced a
advert_rest a b k d h lt =
    let l : (k - 50) - 50 < length (replicate 3 (paced a)) = omega (arith, long 3 (paced a)) in
    past_second a b k d h ∙ get_or_append_left (replicate 3 (paced a)) (from_asking a b) d ((k - 50) - 50) l ∙ get_or-replicate 3 ((k - 50) - 50) (paced a) d (omega arith)

past_advert : (a b k : ℕ) (d : Event) → 103 ≤ k → get_or (round a b) k d ≡ get_or (from_asking a b) (k - 103) d
past_advert a b k d h =
    let at : ((k - 50) - 50) - 3 ≡ k - 103 = omega arith in
    past_second a b k d (omega arith) ∙ get_or-append_right (replicate 3 (paced a)) (from_asking a b) 3 ((k - 50) - 50) d (long 3 (paced a)) (omega arith)
    ∙ ap (λ j. get_or (from_asking a b) j d) at

asked : (xs rest : List Event) (x y z d e : Event) (j : ℕ) → j < 3 → get_or (x ∷ y ∷ z ∷ rest) j d ≡ get_or (x ∷ y ∷ []) j z
asked xs rest x y z d e zero h = refl
asked xs rest x y z d e (suc zero) h = refl
asked xs rest x y z d e (suc (suc zero)) h = refl
asked xs rest x y z d e (suc (suc (suc j))) h = absurd (omega arith)

pub asking_rest : (a b k : ℕ) (d : Event) → 103 ≤ k → k < 106 → get_or (round a b) k d ≡ get_or (passed a b ∷ paced b ∷ []) (k - 103) (passed b a)
asking_rest a b k d h lt = past_advert a b k d h ∙ asked [] (packets a b) (passed a b) (paced b) (passed b a) d d (k - 103) (omega arith)

past_asking : (a b k : ℕ) (d : Event) → 106 ≤ k → get_or (round a b) k d ≡ get_or (packets a b) ((k - 103) - 3) d
past_asking a b k d h = past_advert a b k d (omega arith) ∙ get_or-append_right (asking a b) (packets a b) 3 (k - 103) d refl (omega arith)

pub sending_rest : (a b k : ℕ) (d : Event) → 106 ≤ k → k < 202 → k % 2 ≡ 0 → get_or (round a b) k d ≡ paced a
sending_rest a b k d h lt e = past_asking a b k d h ∙ even_place 48 ((k - 103) - 3) (paced a) (passed a b) d (omega arith) (omega arith)

pub hearing_rest : (a b k : ℕ) (d : Event) → 106 ≤ k → k < 202 → k % 2 ≡ 1 → get_or (round a b) k d ≡ passed a b
hearing_rest a b k d h lt e = past_asking a b k d h ∙ odd_place 48 ((k - 103) - 3) (paced a) (passed a b) d (omega arith) (omega arith)

pub round_more : (a b k : ℕ) (e : Event) → k < 202 → ((d : Event) → get_or (round a b) k d ≡ e) → drop k (round a b) ≡ e ∷ drop (k + 1) (round a b)
round_more a b k e h at = drop_more (round a b) k e (omega (arith, length-round a b)) ∙ ap (λ x. x ∷ drop (k + 1) (round a b)) (at e)

pub round_over : (a b k : ℕ) → 202 ≤ k → drop k (round a b) ≡ []
round_over a b k h = drop_all k (round a b) (omega (arith, length-round a b))
