-- Digits that are refused.
use Rattle.std.proofs.Common.{◌≡◌, ℕ, ◌%◌, ◌⊎◌, inl, inr, false, true, List, length, Option, Some, None, Any, refl, arith}
use Rattle.dg_base.specs.Hexadecimal.{hex_bytes, is_hex_digit}
use Rattle.dg_base.proofs.HexLemmas.{hex_bytes-some}

refused : (digits : List ℕ) (o : Option (List ℕ)) → hex_bytes digits ≡ o → (length digits % 2 ≡ 1) ⊎ Any (λ c. is_hex_digit c ≡ false) digits → o ≡ None
refused digits None e why = refl
refused digits (Some bytes) e (inl odd) =
    let read = hex_bytes-some digits bytes e in
    absurd (omega (arith, read.0))
refused digits (Some bytes) e (inr (k, x, within, at, bad)) =
    let read = hex_bytes-some digits bytes e in
    let good : is_hex_digit x ≡ true = rw at at (read.1 k x within) in
    cc

-- An odd number of digits encodes no bytes. Bytes of which one is not a digit encode none either.
pub refused_digits : (digits : List ℕ) → (length digits % 2 ≡ 1) ⊎ Any (λ c. is_hex_digit c ≡ false) digits → hex_bytes digits ≡ None
refused_digits digits why = refused digits (hex_bytes digits) refl why
