-- Lines, one at a time.
use Rattle.std.proofs.Common.{◌≡◌, ℕ, ◌+◌, ◌-◌, ◌<◌, ◌≤◌, ◌==◌, false, cond, List, [], ◌∷◌, ◌++◌, length, get_or, take, drop, All, ◌≢◌, append_assoc, refl, sym, ap, ◌∙◌, subst, arith, inl, inr}
use Rattle.std.proofs.lemmas.Bool.{ne_eqb, eqb-false, eqb-true, false_from_ne_true, cases_lt}
use Rattle.std.proofs.lemmas.List.{drop_all, drop_more, drop-drop, get_or-drop, get_or-take, length-drop, length-take, take-append-drop, take-take, take_all, take_more, take_rest}
use Rattle.std.proofs.lemmas.List.Elements.{All-from_get_or, All-take}
use Rattle.std.proofs.lemmas.List.Splits.{slice_split_at, slice_split_none, length-slice_split}
use Rattle.memchr.specs.Find.{NoneBefore, Nowhere, Passes, is_byte}
use Rattle.std.specs.List.{slice_split}
use Rattle.std.specs.Str.Lines.{lines, lines_of_parts, strip_carriage_return}
use Rattle.dg_base.specs.Texts.{IsEnded}

lines_of_parts-cons : (x : List ℕ) (parts : List (List ℕ)) → 0 < length parts → lines_of_parts (x ∷ parts) ≡ strip_carriage_return x ∷ lines_of_parts parts
lines_of_parts-cons x [] l = absurd (omega arith)
lines_of_parts-cons x (y ∷ more) l = refl

-- a line that LF ends
pub lines-ended : (front rest : List ℕ) → All (λ b. (b == 10) ≡ false) front → lines (front ++ 10 ∷ rest) ≡ strip_carriage_return front ∷ lines rest
lines-ended front rest h =
    ap lines_of_parts (slice_split_at (λ b. b == 10) front 10 rest h refl)
    ∙ lines_of_parts-cons front (slice_split (λ b. b == 10) rest) (omega (arith, length-slice_split (λ b. b == 10) rest))

-- a line that the input ends
pub lines-last : (front : List ℕ) → All (λ b. (b == 10) ≡ false) front → 0 < length front → lines front ≡ front ∷ []
lines-last front h some =
    ap lines_of_parts (slice_split_none (λ b. b == 10) front h)
    ∙ ap (λ t. cond t [] (front ∷ [])) (ne_eqb (length front) 0 (λ z. omega arith))

-- no byte before n is an LF
pub none_below : (hay : List ℕ) (n : ℕ) → n ≤ length hay → Nowhere (Passes (is_byte 10) hay) 0 n → All (λ b. (b == 10) ≡ false) (take n hay)
none_below hay n within h =
    All-from_get_or (λ b. (b == 10) ≡ false) (take n hay) 0
    (λ i l.
    let fits : i < n = omega (arith, length-take n hay) in
    rw (get_or-take n hay i 0 fits) (false_from_ne_true _ (h i (omega arith) fits)))

-- tests and facts
pub lacks_feed : (bytes : List ℕ) → All (λ b. (b == 10) ≡ false) bytes → All (λ b. b ≢ 10) bytes
lacks_feed bytes h k d within e = eqb-false _ _ (h k d within) e

-- the first line of a rest whose first LF is at n
pub lines-at : (rest : List ℕ) (n : ℕ) → n < length rest → get_or rest n 0 ≡ 10 → All (λ b. (b == 10) ≡ false) (take n rest)
    → lines rest ≡ strip_carriage_return (take n rest) ∷ lines (drop (n + 1) rest)
lines-at rest n within feed h =
    ap lines (sym (take-append-drop n rest) ∙ ap (λ t. take n rest ++ t) (drop_more rest n 0 within ∙ ap (λ b. b ∷ drop (n + 1) rest) feed))
    ∙ lines-ended (take n rest) (drop (n + 1) rest) h

-- how a line ends
pub ended_at : (rest : List ℕ) (n end : ℕ) → n < length rest → get_or rest n 0 ≡ 10 → end ≤ n → (end < n → (end + 1 ≡ n) × (get_or rest end 0 ≡ 13))
    → IsEnded (take end rest) (take (n + 1) rest)
ended_at rest n end within feed low cut =
    let line : take (n + 1) rest ≡ take n rest ++ 10 ∷ [] = take_more rest n 0 within ∙ ap (λ b. take n rest ++ b ∷ []) feed in
    elim (cases_lt end n) [
      | inl short ↦
          let one = cut short in
          let text : take n rest ≡ take end rest ++ 13 ∷ [] =
          ap (λ m. take m rest) (sym one.0) ∙ take_more rest end 0 (omega arith) ∙ ap (λ b. take end rest ++ b ∷ []) one.1 in
          inr (line ∙ ap (λ t. t ++ 10 ∷ []) text ∙ append_assoc (take end rest) (13 ∷ []) (10 ∷ []))
      | inr whole ↦
          let same : end ≡ n = omega arith in
          inl (line ∙ ap (λ m. take m rest ++ 10 ∷ []) (sym same))
    ]

-- a search for an LF found nothing
pub none_in : (hay : List ℕ) → Nowhere (Passes (is_byte 10) hay) 0 (length hay) → All (λ b. (b == 10) ≡ false) hay
none_in hay h = subst (All (λ b. (b == 10) ≡ false)) (take_all (length hay) hay (omega arith)) (none_below hay (length hay) (omega arith) h)

-- a search found the first LF
pub record FirstFeed (hay : List ℕ) (n : ℕ) : Type 0 where
  pub within : n < length hay
  pub feed : get_or hay n 0 ≡ 10
  pub before : All (λ b. (b == 10) ≡ false) (take n hay)

pub first_at : (hay : List ℕ) (n : ℕ) → NoneBefore (Passes (is_byte 10) hay) 0 (length hay) n × Passes (is_byte 10) hay n → FirstFeed hay n
first_at hay n h = record {
  within = h.0.high;
  feed = eqb-true _ _ h.1;
  before = none_below hay n (let l = h.0.high in omega arith) h.0.before;
}

-- the same in all the bytes from some place on
rest_of : (bytes : List ℕ) (from n : ℕ) → FirstFeed (take (length bytes - from) (drop from bytes)) n → FirstFeed (drop from bytes) n
rest_of bytes from n h = subst (λ t. FirstFeed t n) (take_rest bytes from) h

pub lines-none : (bytes : List ℕ) (from : ℕ) → from < length bytes → Nowhere (Passes (is_byte 10) (take (length bytes - from) (drop from bytes))) 0 (length (take (length bytes - from) (drop from bytes)))
    → lines (drop from bytes) ≡ take (length bytes - from) (drop from bytes) ∷ lines (drop (length bytes) bytes)
lines-none bytes from more h =
    let hay = take (length bytes - from) (drop from bytes) in
    let some : 0 < length hay = omega (arith, length-take (length bytes - from) (drop from bytes), length-drop from bytes) in
    ap lines (sym (take_rest bytes from)) ∙ lines-last hay (none_in hay h) some
    ∙ ap (λ t. hay ∷ lines t) (sym (drop_all (length bytes) bytes (omega arith)))

pub lines-feed : (bytes : List ℕ) (from n end : ℕ) → from ≤ length bytes → FirstFeed (take (length bytes - from) (drop from bytes)) n
    → take (end - from) (drop from bytes) ≡ strip_carriage_return (take (from + n - from) (drop from bytes))
    → lines (drop from bytes) ≡ take (end - from) (drop from bytes) ∷ lines (drop (from + n + 1) bytes)
lines-feed bytes from n end low h text =
    let f = rest_of bytes from n h in
    let same : from + n - from ≡ n = omega arith in
    let next : drop (n + 1) (drop from bytes) ≡ drop (from + n + 1) bytes = drop-drop (n + 1) from bytes ∙ ap (λ m. drop m bytes) (let e : from + (n + 1) ≡ from + n + 1 = omega arith in e) in
    lines-at (drop from bytes) n f.within f.feed f.before
    ∙ ap (λ t. strip_carriage_return (take n (drop from bytes)) ∷ lines t) next
    ∙ ap (λ t. t ∷ lines (drop (from + n + 1) bytes)) (sym (text ∙ ap (λ m. strip_carriage_return (take m (drop from bytes))) same))

pub text_lacks : (bytes : List ℕ) (from n end : ℕ) → from ≤ length bytes → FirstFeed (take (length bytes - from) (drop from bytes)) n → end ≤ from + n
    → All (λ b. b ≢ 10) (take (end - from) (drop from bytes))
text_lacks bytes from n end low h high =
    let f = rest_of bytes from n h in
    let short : All (λ b. (b == 10) ≡ false) (take (end - from) (take n (drop from bytes))) = All-take (λ b. (b == 10) ≡ false) (end - from) (take n (drop from bytes)) f.before in
    lacks_feed _ (subst (All (λ b. (b == 10) ≡ false)) (take-take (end - from) n (drop from bytes) (omega arith)) short)

pub ended : (bytes : List ℕ) (from n end : ℕ) → from ≤ length bytes → FirstFeed (take (length bytes - from) (drop from bytes)) n → from ≤ end → end ≤ from + n
    → (end < from + n → (end + 1 ≡ from + n) × (get_or bytes end 0 ≡ 13))
    → IsEnded (take (end - from) (drop from bytes)) (take (from + n + 1 - from) (drop from bytes))
ended bytes from n end low h start high cut =
    let f = rest_of bytes from n h in
    let whole : n + 1 ≡ from + n + 1 - from = omega arith in
    let there : from + (end - from) ≡ end = omega arith in
    subst (λ m. IsEnded (take (end - from) (drop from bytes)) (take m (drop from bytes))) whole
    (ended_at (drop from bytes) n (end - from) f.within f.feed (omega arith)
    (λ l. let one = cut (omega arith) in (let e = one.0 in omega arith, get_or-drop from bytes (end - from) 0 ∙ ap (λ m. get_or bytes m 0) there ∙ one.1)))
