-- How a text splits into words.
use Rattle.std.proofs.Common.{◌≡◌, ◌≢◌, ℕ, zero, suc, ◌+◌, ◌-◌, ◌<◌, ◌≤◌, false, List, [], ◌∷◌, length, drop, take, get_or, Some, None, refl, ap, sym, ◌∙◌, arith, add-one, ◌==◌, subst, drop-cons, length-drop}
use Rattle.std.proofs.lemmas.List.{get_or-drop, take_all}
use Rattle.std.proofs.lemmas.Bool.Decides.{nat_tests}
use Rattle.dg_script.specs.Words.{split_of, words_of, with_word, halves_of}

-- a leading space changes no word
words_of-space : (cs : List ℕ) → words_of (32 ∷ cs) ≡ words_of cs
unfolding words_of split_of
words_of-space cs = refl

pub words_after_space : (text : List ℕ) (i : ℕ) → i < length text → get_or text i 0 ≡ 32 → words_of (drop (i + 1) text) ≡ words_of (drop i text)
words_after_space text i h space =
    sym (ap words_of (drop-cons text i 0 h ∙ ap (λ c. c ∷ drop (suc i) text) space) ∙ words_of-space (drop (suc i) text) ∙ rw add-one refl)

-- an empty text has no word
pub no_word : (text : List ℕ) → length text ≡ 0 → words_of text ≡ []
unfolding words_of split_of
no_word [] h = refl
no_word (c ∷ cs) h = absurd (omega (arith, h))

with_word-take : (text : List ℕ) (n : ℕ) → 0 < n → n ≤ length text → (ws : List (List ℕ)) → with_word (take n text) ws ≡ take n text ∷ ws
with_word-take text zero some h ws = absurd (omega (arith, some))
with_word-take [] (suc n) some h ws = absurd (omega (arith, h))
with_word-take (c ∷ cs) (suc n) some h ws = refl

not_space : (c : ℕ) → c ≢ 32 → (c == 32) ≡ false
not_space c other = grind (arith, nat_tests)

-- the first n bytes are the first word, or a part of it that does not begin with a space
pub split_of-at : (text : List ℕ) (n : ℕ) → n ≤ length text → ((k : ℕ) → k < n → get_or text k 0 ≢ 32) → (n < length text → get_or text n 0 ≡ 32) → split_of text ≡ record { front = take n text; behind = words_of (drop n text) }
unfolding words_of split_of
split_of-at [] zero h none stops = refl
split_of-at [] (suc n) h none stops = absurd (omega (arith, h))
split_of-at (c ∷ cs) zero h none stops =
    let family : ℕ → Type 0 = λ x. split_of (x ∷ cs) ≡ record { front = []; behind = words_of (x ∷ cs) } in
    subst family (sym (stops (omega arith))) refl
split_of-at (c ∷ cs) (suc n) h none stops =
    let other : (c == 32) ≡ false = not_space c (none 0 (omega arith)) in
    let rest : split_of cs ≡ record { front = take n cs; behind = words_of (drop n cs) } =
    split_of-at cs n (omega (arith, h)) (λ k below. none (suc k) (omega (arith, below))) (λ below. stops (omega (arith, below))) in
    rw (other, rest) refl

-- a word that ends at the end of the text or at a space
pub first_word : (text : List ℕ) (n : ℕ) → 0 < n → n ≤ length text → ((k : ℕ) → k < n → get_or text k 0 ≢ 32) → (n < length text → get_or text n 0 ≡ 32) → words_of text ≡ take n text ∷ words_of (drop n text)
unfolding words_of
first_word text n some h none stops = ap (λ s. with_word s.front s.behind) (split_of-at text n h none stops) ∙ with_word-take text n some h (words_of (drop n text))

-- after the spaces a word has at least one byte
pub word_begins : (text rest : List ℕ) (s n : ℕ) → rest ≡ drop s text → 0 < length rest → (s < length text → get_or text s 0 ≢ 32) → (n < length rest → get_or rest n 0 ≡ 32) → 0 < n
word_begins text rest s (suc n) back some begins stops = omega arith
word_begins text rest s zero back some begins stops =
    let within : s < length text = omega (arith, ap length back, length-drop s text) in
    let place : s + 0 ≡ s = omega arith in
    let here : get_or rest 0 0 ≡ get_or text s 0 = ap (λ xs. get_or xs 0 0) back ∙ get_or-drop s text 0 0 ∙ ap (λ k. get_or text k 0) place in
    absurd (begins within (sym here ∙ stops some))

-- ---- halves

no_colon : (c : ℕ) → c ≢ 58 → (c == 58) ≡ false
no_colon c other = grind (arith, nat_tests)

-- no byte is a colon
pub halves_of-none : (text : List ℕ) → ((k : ℕ) → k < length text → get_or text k 0 ≢ 58) → halves_of text ≡ None
unfolding halves_of
halves_of-none [] none = refl
halves_of-none (c ∷ cs) none =
    let other : (c == 58) ≡ false = no_colon c (none 0 (omega arith)) in
    let rest : halves_of cs ≡ None = halves_of-none cs (λ k below. none (suc k) (omega (arith, below))) in
    rw (other, rest) refl

-- byte n is the first colon
pub halves_of-at : (text : List ℕ) (n : ℕ) → n < length text → ((k : ℕ) → k < n → get_or text k 0 ≢ 58) → get_or text n 0 ≡ 58 → halves_of text ≡ Some (take n text, drop (suc n) text)
unfolding halves_of
halves_of-at [] n h none here = absurd (omega (arith, h))
halves_of-at (c ∷ cs) zero h none here =
    let family : ℕ → Type 0 = λ x. halves_of (x ∷ cs) ≡ Some ([], cs) in
    subst family (sym here) refl
halves_of-at (c ∷ cs) (suc n) h none here =
    let other : (c == 58) ≡ false = no_colon c (none 0 (omega arith)) in
    let rest : halves_of cs ≡ Some (take n cs, drop (suc n) cs) =
    halves_of-at cs n (omega (arith, h)) (λ k below. none (suc k) (omega (arith, below))) here in
    rw (other, rest) refl

pub halves_found : (text : List ℕ) (n : ℕ) → n < length text → ((k : ℕ) → k < n → get_or text k 0 ≢ 58) → get_or text n 0 ≡ 58
    → Some (take n text, take (length text - (n + 1)) (drop (n + 1) text)) ≡ halves_of text
halves_found text n h none here =
    let back : take (length text - (n + 1)) (drop (n + 1) text) ≡ drop (n + 1) text = take_all (length text - (n + 1)) (drop (n + 1) text) (omega (arith, length-drop (n + 1) text)) in
    let next : drop (n + 1) text ≡ drop (suc n) text = rw add-one refl in
    ap (λ (xs : List ℕ). Some (take n text, xs)) (back ∙ next) ∙ sym (halves_of-at text n h none here)
