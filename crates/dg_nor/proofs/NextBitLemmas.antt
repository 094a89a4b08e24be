-- Bits that are cleared one after another, as they are on a chip: the program of one byte that clears the next.
use Rattle.std.proofs.Common.{◌≡◌, ◌⊎◌, ℕ, ◌+◌, ◌-◌, ◌*◌, ◌/◌, ◌%◌, ◌^◌, ◌<◌, ◌≤◌, min, List, [], ◌∷◌, length, get_or, bit_and, sym, ap, ◌∙◌, inl, inr, ⊎_elim, arith}
use Rattle.std.proofs.lemmas.Bool.{cases_lt, cases_eq}
use Rattle.dg_words.specs.Bits.{cleared_bits}
use Rattle.dg_words.specs.Cells.{part}
use Rattle.dg_words.proofs.BitsLemmas.{shifted_next, and_next, byte_next, byte_before, byte_after, other_bytes, get_or-cleared_bits, cleared_bits_from}
use Rattle.dg_words.proofs.CellLemmas.{length-part, get_or-part}
use Rattle.dg_nor.specs.Chip.{programmed}
use Rattle.dg_nor.proofs.ChipLemmas.{length-programmed, get_or-programmed, get_or-programmed_outside}

-- what is there
pub byte_now : (cells : List ℕ) (front bytes n : ℕ) → n < 8 * bytes → part cells front bytes ≡ cleared_bits bytes n → get_or cells (front + n / 8) 0 ≡ 2 ^ (8 - n % 8) - 1
byte_now cells front bytes n h e =
    let inside : n / 8 < bytes = omega arith in
    sym (get_or-part cells front bytes (n / 8) 0 inside) ∙ ap (λ xs. get_or xs (n / 8) 0) e
    ∙ get_or-cleared_bits bytes n (n / 8) 0 inside ∙ ap (λ k. 2 ^ (8 - k) - 1) (byte_before n)

-- the program clears one bit of it
pub one_bit_less : (old byte c : ℕ) → c < 8 → old ≡ 2 ^ (8 - c) - 1 → byte ≡ 127 / 2 ^ c → old ≡ bit_and old byte + 2 ^ (7 - c)
one_bit_less old byte c h e f =
    let b : byte ≡ 2 ^ (8 - (c + 1)) - 1 = f ∙ shifted_next c h in
    let left : bit_and old byte ≡ 2 ^ (8 - (c + 1)) - 1 = ap (λ x. bit_and x byte) e ∙ ap (bit_and (2 ^ (8 - c) - 1)) b ∙ and_next c h in
    e ∙ byte_next c h ∙ ap (λ x. x + 2 ^ (7 - c)) (sym left)

-- all bytes of bits after the program
pub next_bits : (cells new : List ℕ) (front bytes n byte : ℕ) → front + bytes ≤ length cells → n < 8 * bytes → part cells front bytes ≡ cleared_bits bytes n → byte ≡ 127 / 2 ^ (n % 8)
    → new ≡ programmed cells (front + n / 8) (byte ∷ []) → part new front bytes ≡ cleared_bits bytes (n + 1)
next_bits cells new front bytes n byte whole h e b p =
    let at = front + n / 8 in
    let inside : n / 8 < bytes = omega arith in
    let fits : at + length (byte ∷ []) ≤ length cells = omega arith in
    let same = length-programmed cells at (byte ∷ []) fits in
    let long : length new ≡ length cells = ap length p ∙ same in
    let c : n % 8 < 8 = omega arith in
    cleared_bits_from (part new front bytes) bytes (n + 1) (length-part new front bytes (omega arith)) (λ k i.
    ⊎_elim
    (λ here.
    let place : front + k ≡ at + 0 = omega arith in
    let zero : at + 0 ≡ at = omega arith in
    let after : n % 8 + 1 ≡ min 8 (n + 1 - 8 * k) = sym (ap (λ j. min 8 (n + 1 - 8 * j)) here ∙ byte_after n) in
    get_or-part new front bytes k 0 i ∙ ap (λ xs. get_or xs (front + k) 0) p ∙ ap (λ j. get_or (programmed cells at (byte ∷ [])) j 0) place
    ∙ get_or-programmed cells at (byte ∷ []) 0 fits (omega arith)
    ∙ ap (λ x. bit_and x byte) (ap (λ j. get_or cells j 0) zero ∙ byte_now cells front bytes n h e)
    ∙ ap (bit_and (2 ^ (8 - n % 8) - 1)) (b ∙ shifted_next (n % 8) c) ∙ and_next (n % 8) c
    ∙ ap (λ j. 2 ^ (8 - j) - 1) after)
    (λ other.
    let apart : (front + k < at) ⊎ (at + length (byte ∷ []) ≤ front + k) = ⊎_elim (λ lt. inl (omega arith)) (λ ge. inr (omega arith)) (cases_lt k (n / 8)) in
    get_or-part new front bytes k 0 i ∙ ap (λ xs. get_or xs (front + k) 0) p
    ∙ get_or-programmed_outside cells at (byte ∷ []) (front + k) fits apart
    ∙ sym (get_or-part cells front bytes k 0 i) ∙ ap (λ xs. get_or xs k 0) e ∙ get_or-cleared_bits bytes n k 0 i
    ∙ ap (λ j. 2 ^ (8 - j) - 1) (sym (other_bytes n k other)))
    (cases_eq k (n / 8)))
