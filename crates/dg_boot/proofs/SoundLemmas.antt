-- The checksums that a descriptor keeps, and what makes pages sound.
use Rattle.std.proofs.Common.{◌≡◌, ℕ, zero, suc, ◌+◌, ◌-◌, ◌<◌, ◌≤◌, Bool, true, false, List, [], map, length, get_or, refl, sym, ap, ◌∙◌, ⊎_elim, arith}
use Rattle.std.proofs.lemmas.Bool.{cases_lt, eq-eqb, and_parts}
use Rattle.std.specs.Prelude.{◌==◌, ◌&&◌}
use Rattle.std.specs.List.{list_all, range_with_len}
use Rattle.dg_words.specs.Lists.{tabulate}
use Rattle.dg_words.proofs.ListLemmas.{length-tabulate, get_or-tabulate}
use Rattle.dg_base.specs.Crc.{crc_of}
use Rattle.dg_object.specs.Descriptor.{crc_in}
use Rattle.dg_volume.specs.Start.{pages_sound}

-- ---- the pages of a slot, given by a function of the page number

-- a data page has the CRC that page 0 keeps of it
abbrev pub is_sound_at : (ℕ → List ℕ) → ℕ → Bool
is_sound_at f p = crc_of (f p) == crc_in (f 0) p

all_same : (p q : ℕ → Bool) (a n : ℕ) → ((k : ℕ) → a ≤ k → k < a + n → p k ≡ q k) → list_all p (range_with_len a n) ≡ list_all q (range_with_len a n)
all_same p q a zero h = refl
all_same p q a (suc n) h =
    let e = h a (omega arith) (omega arith) in
    let f = all_same p q (a + 1) n (λ k l m. h k (omega arith) (omega arith)) in
    ap (λ x. x && list_all p (range_with_len (a + 1) n)) e ∙ ap (λ x. q a && x) f

pub pages_sound-tabulate : (crc n : ℕ) (f : ℕ → List ℕ) → 1 ≤ n → pages_sound crc (tabulate n f) ≡ ((crc_of (f 0) == crc) && list_all (is_sound_at f) (range_with_len 1 (n - 1)))
pages_sound-tabulate crc zero f h = absurd (omega arith)
pages_sound-tabulate crc (suc n) f h =
    let pages = tabulate (suc n) f in
    let long : length (tabulate (suc n) f) ≡ suc n = length-tabulate (suc n) f in
    let rest : length (map f (range_with_len 1 n)) ≡ suc n - 1 = omega arith in
    let kept : ℕ → Bool = λ p. crc_of (get_or pages p []) == crc_in (f 0) p in
    ap (λ m. (crc_of (f 0) == crc) && list_all kept (range_with_len 1 m)) rest
    ∙ ap (λ b. (crc_of (f 0) == crc) && b) (all_same kept (is_sound_at f) 1 (suc n - 1) (λ k l m. ap (λ x. crc_of x == crc_in (f 0) k) (get_or-tabulate (suc n) k f [] (omega arith))))

-- ---- page by page

and_false : (a : Bool) → a && false ≡ false
and_false true = refl
and_false false = refl

all_next : (p : ℕ → Bool) (a n k : ℕ) → a + n ≡ k → list_all p (range_with_len a n) ≡ true → p k ≡ true → list_all p (range_with_len a (n + 1)) ≡ true
all_next p a zero k e h t = let f : a ≡ k = omega arith in ap (λ x. p x && true) f ∙ ap (λ b. b && true) t
all_next p a (suc n) k e h t =
    let parts = and_parts (p a) (list_all p (range_with_len (a + 1) n)) h in
    let rest = all_next p (a + 1) n k (omega arith) parts.1 t in
    let m : suc n + 1 ≡ suc (n + 1) = omega arith in
    ap (λ x. list_all p (range_with_len a x)) m ∙ ap (λ b. b && list_all p (range_with_len (a + 1) (n + 1))) parts.0 ∙ rest

all_fails : (p : ℕ → Bool) (a n k : ℕ) → a ≤ k → k < a + n → p k ≡ false → list_all p (range_with_len a n) ≡ false
all_fails p a zero k l m e = absurd (omega arith)
all_fails p a (suc n) k l m e =
    ⊎_elim
    (λ lt. let rest = all_fails p (a + 1) n k (omega arith) (omega arith) e in ap (λ b. p a && b) rest ∙ and_false (p a))
    (λ ge. let same : a ≡ k = omega arith in ap (λ x. p x && list_all p (range_with_len (a + 1) n)) same ∙ ap (λ b. b && list_all p (range_with_len (a + 1) n)) e)
    (cases_lt a k)

-- the pages before page p are sound, and so is page p
pub sound_more : (f : ℕ → List ℕ) (p : ℕ) (b : Bool) (page first : List ℕ) → 1 ≤ p → list_all (is_sound_at f) (range_with_len 1 (p - 1)) ≡ true
    → b ≡ (crc_of page == crc_in first p) → b ≡ true → page ≡ f p → first ≡ f 0 → list_all (is_sound_at f) (range_with_len 1 (p + 1 - 1)) ≡ true
sound_more f p b page first low h e t same start =
    let here : is_sound_at f p ≡ true = ap (λ x. crc_of x == crc_in (f 0) p) (sym same) ∙ ap (λ x. crc_of page == crc_in x p) (sym start) ∙ sym e ∙ t in
    let m : p + 1 - 1 ≡ (p - 1) + 1 = omega arith in
    ap (λ n. list_all (is_sound_at f) (range_with_len 1 n)) m ∙ all_next (is_sound_at f) 1 (p - 1) p (omega arith) h here

-- a page is not sound
pub sound_fails : (crc n : ℕ) (f : ℕ → List ℕ) (p : ℕ) (b : Bool) (page first : List ℕ) → 1 ≤ p → p < n
    → b ≡ (crc_of page == crc_in first p) → b ≡ false → page ≡ f p → first ≡ f 0 → false ≡ pages_sound crc (tabulate n f)
sound_fails crc n f p b page first low high e t same start =
    let here : is_sound_at f p ≡ false = ap (λ x. crc_of x == crc_in (f 0) p) (sym same) ∙ ap (λ x. crc_of page == crc_in x p) (sym start) ∙ sym e ∙ t in
    sym (pages_sound-tabulate crc n f (omega arith) ∙ ap (λ b. (crc_of (f 0) == crc) && b) (all_fails (is_sound_at f) 1 (n - 1) p low (omega arith) here) ∙ and_false (crc_of (f 0) == crc))

-- all are
pub sound_all : (crc n p : ℕ) (f : ℕ → List ℕ) → 1 ≤ n → crc_of (f 0) ≡ crc → p ≡ n
    → list_all (is_sound_at f) (range_with_len 1 (p - 1)) ≡ true → true ≡ pages_sound crc (tabulate n f)
sound_all crc n p f low first end h =
    let here : (crc_of (f 0) == crc) ≡ true = eq-eqb (crc_of (f 0)) crc first in
    sym (pages_sound-tabulate crc n f low ∙ ap (λ b. b && list_all (is_sound_at f) (range_with_len 1 (n - 1))) here ∙ ap (λ m. list_all (is_sound_at f) (range_with_len 1 (m - 1))) (sym end) ∙ h)
