-- What is shown of a word, byte by byte.
use Rattle.std.proofs.Common.{◌≡◌, ℕ, ◌+◌, ◌/◌, ◌%◌, ◌<◌, ◌≤◌, ◌==◌, not, nat_lt, Bool, true, false, if◌then◌else◌, List, [], ◌∷◌, ◌++◌, length, get_or, drop, refl, ap, sym, ◌∙◌, arith, drop-cons, add-one, append_assoc}
use Rattle.std.proofs.lemmas.Bool.{and_from}
use Rattle.std.proofs.lemmas.Bool.Decides.{nat_tests}
use Rattle.std.proofs.lemmas.List.{append-nil, drop_all}
use Rattle.std.proofs.lemmas.List.Folds.{list_all-append}
use Rattle.std.specs.List.{list_all}
use Rattle.dg_base.specs.Hexadecimal.{hex_digit, hex_text}
use Rattle.dg_messages.specs.Showing.{escaped_byte, is_control, shown_after, shown_byte}

-- what is shown of the bytes from i on is the byte at i, and what is shown of those after it
shown_next : (before : ℕ) (bytes : List ℕ) (i : ℕ) → i < length bytes → shown_after before (drop i bytes) ≡ shown_byte before (get_or bytes i 0) ++ shown_after (get_or bytes i 0) (drop (i + 1) bytes)
unfolding shown_after
shown_next before bytes i h = ap (shown_after before) (drop-cons bytes i 0 h) ∙ rw add-one refl

shown_done : (before : ℕ) → shown_after before [] ≡ []
unfolding shown_after
shown_done before = refl

-- one byte more is shown
pub shown_step : (text bytes whole : List ℕ) (before i : ℕ) → i < length bytes → text ++ shown_after before (drop i bytes) ≡ whole
    → (text ++ shown_byte before (get_or bytes i 0)) ++ shown_after (get_or bytes i 0) (drop (i + 1) bytes) ≡ whole
shown_step text bytes whole before i h e =
    append_assoc text (shown_byte before (get_or bytes i 0)) (shown_after (get_or bytes i 0) (drop (i + 1) bytes))
    ∙ ap (λ (r : List ℕ). text ++ r) (sym (shown_next before bytes i h)) ∙ e

-- all are
pub shown_whole : (text bytes whole : List ℕ) (before i : ℕ) → length bytes ≤ i → text ++ shown_after before (drop i bytes) ≡ whole → text ≡ whole
shown_whole text bytes whole before i h e =
    let none : shown_after before (drop i bytes) ≡ [] = ap (shown_after before) (drop_all i bytes h) ∙ shown_done before in
    sym (append-nil text) ∙ ap (λ (r : List ℕ). text ++ r) (sym none) ∙ e

-- ---- no control character

abbrev plain : List ℕ → Bool
plain text = list_all (λ b. not (is_control b)) text

digit_plain : (v : ℕ) → v < 16 → is_control (hex_digit v) ≡ false
digit_plain v h = grind (arith, nat_tests)

escaped_plain : (c : ℕ) → c < 160 → plain (escaped_byte c) ≡ true
unfolding hex_text
escaped_plain c h =
    let high : c / 16 < 16 = omega (arith, h) in
    let low : c % 16 < 16 = omega arith in
    rw (digit_plain (c / 16) high, digit_plain (c % 16) low) refl

behind_194 : (c : ℕ) (small : Bool) → nat_lt c 160 ≡ small → plain (if small then escaped_byte c else 194 ∷ c ∷ []) ≡ true
behind_194 c true e = let small : c < 160 = grind (arith, nat_tests, e) in escaped_plain c small
behind_194 c false e = let other : is_control c ≡ false = grind (arith, nat_tests, e) in rw other refl

alone : (c : ℕ) (control : Bool) → is_control c ≡ control → plain (if control then escaped_byte c else c ∷ []) ≡ true
alone c true e = let small : c < 160 = grind (arith, nat_tests, e) in escaped_plain c small
alone c false e = rw e refl

either : (b : Bool) (x y : List ℕ) → plain x ≡ true → plain y ≡ true → plain (if b then x else y) ≡ true
either true x y hx hy = hx
either false x y hx hy = hy

byte_plain : (before c : ℕ) → plain (shown_byte before c) ≡ true
byte_plain before c =
    either (before == 194) _ _ (behind_194 c (nat_lt c 160) refl) (either (c == 194) [] _ refl (alone c (is_control c) refl))

pub shown_plain : (before : ℕ) (word : List ℕ) → plain (shown_after before word) ≡ true
unfolding shown_after
shown_plain before [] = refl
shown_plain before (c ∷ cs) =
    list_all-append (λ b. not (is_control b)) (shown_byte before c) (shown_after c cs)
    ∙ and_from _ _ (byte_plain before c) (shown_plain c cs)
