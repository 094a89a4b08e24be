-- What comes after the lines of bytes.
use Rattle.std.proofs.Common.{◌≡◌, ◌≢◌, ℕ, zero, suc, ◌+◌, ◌-◌, ◌≤◌, ◌==◌, Bool, true, false, List, [], ◌∷◌, ◌++◌, length, append_assoc, refl, ap, ◌∙◌, add-one, arith}
use Rattle.std.specs.Prelude.{if◌then◌else◌}
use Rattle.std.proofs.lemmas.Bool.{ne_eqb}
use Rattle.std.proofs.lemmas.List.Elements.{All-head, All-tail}
use Rattle.dg_lines.specs.LineReading.{HasNoEnd, IsLine}
use Rattle.dg_replay.specs.Near.{behind_line, behind_lines, FewBytesBehind}

-- one more line
pub behind_next : (n : ℕ) (bytes : List ℕ) → behind_lines (n + 1) bytes ≡ behind_line (behind_lines n bytes)
unfolding behind_lines
behind_next n bytes = let e : n + 1 ≡ suc n = add-one n in ap (λ k. behind_lines k bytes) e

pub behind_none : (bytes : List ℕ) → behind_lines 0 bytes ≡ bytes
unfolding behind_lines
behind_none bytes = refl

pub none_behind : behind_line [] ≡ []
unfolding behind_line
none_behind = refl

behind_feed : (before rest : List ℕ) → HasNoEnd before → behind_line (before ++ 10 ∷ rest) ≡ rest
unfolding behind_line
behind_feed [] rest h = refl
behind_feed (c ∷ before) rest h =
    ap (λ (b : Bool). if b then before ++ 10 ∷ rest else behind_line (before ++ 10 ∷ rest)) (ne_eqb c 10 (All-head (λ x. x ≢ 10) c before h))
    ∙ behind_feed before rest (All-tail (λ x. x ≢ 10) c before h)

-- after a line that ends in LF
pub behind_whole : (text line rest : List ℕ) → IsLine text line → behind_line (line ++ rest) ≡ rest
behind_whole text line rest l =
    ap (λ (xs : List ℕ). behind_line (xs ++ rest)) l.ended ∙ ap behind_line (append_assoc l.before (10 ∷ []) rest) ∙ behind_feed l.before rest l.whole

-- after bytes without LF
pub behind_endless : (bytes : List ℕ) → HasNoEnd bytes → behind_line bytes ≡ []
unfolding behind_line
behind_endless [] h = refl
behind_endless (c ∷ bytes) h =
    ap (λ (b : Bool). if b then bytes else behind_line bytes) (ne_eqb c 10 (All-head (λ x. x ≢ 10) c bytes h)) ∙ behind_endless bytes (All-tail (λ x. x ≢ 10) c bytes h)

line_shorter : (b : Bool) (cs more : List ℕ) → length more ≤ length cs → length (if b then cs else more) ≤ length cs + 1
line_shorter true cs more h = omega arith
line_shorter false cs more h = omega (arith, h)

behind_shorter : (bytes : List ℕ) → length (behind_line bytes) ≤ length bytes
unfolding behind_line
behind_shorter [] = omega arith
behind_shorter (c ∷ cs) = let n : length (c ∷ cs) ≡ length cs + 1 = omega arith in let h = line_shorter (c == 10) cs (behind_line cs) (behind_shorter cs) in omega (arith, n, h)

more_lines : (k n : ℕ) (bytes : List ℕ) → length (behind_lines (k + n) bytes) ≤ length (behind_lines n bytes)
more_lines zero n bytes = let e : zero + n ≡ n = omega arith in let s : length (behind_lines (zero + n) bytes) ≡ length (behind_lines n bytes) = ap (λ m. length (behind_lines m bytes)) e in omega (arith, s)
more_lines (suc k) n bytes =
    let e : suc k + n ≡ (k + n) + 1 = omega arith in
    let s : length (behind_lines (suc k + n) bytes) ≡ length (behind_line (behind_lines (k + n) bytes)) = ap (λ m. length (behind_lines m bytes)) e ∙ ap length (behind_next (k + n) bytes) in
    let h = more_lines k n bytes in
    let j = behind_shorter (behind_lines (k + n) bytes) in
    omega (arith, s, h, j)

-- what ends near a line ends near each later one
pub near_later : (n m : ℕ) (bytes : List ℕ) → n ≤ m → FewBytesBehind n bytes → FewBytesBehind m bytes
near_later n m bytes h near =
    let sum : (m - n) + n ≡ m = omega (arith, h) in
    let e : length (behind_lines ((m - n) + n) bytes) ≡ length (behind_lines m bytes) = ap (λ k. length (behind_lines k bytes)) sum in
    let less = more_lines (m - n) n bytes in
    omega (arith, near, less, e)
