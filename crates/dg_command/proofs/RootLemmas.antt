-- The digits of a root.
use Rattle.std.proofs.Common.{◌≡◌, ℕ, ◌<◌, ◌&&◌, Bool, true, false, List, length, get_or, Some, refl, sym, ◌∙◌, arith}
use Rattle.std.specs.List.{list_all}
use Rattle.std.proofs.lemmas.Bool.{eqb-true}
use Rattle.std.proofs.lemmas.List.Folds.{list_all_at}
use Rattle.dg_base.specs.Hexadecimal.{hex_value, is_hex_digit}
use Rattle.dg_command.specs.Roots.{spells_root}

both : (a b : Bool) → (a && b) ≡ true → (a ≡ true) × (b ≡ true)
both true b e = (refl, e)
both false b e = let no : false ≡ true = e in absurd cc

pub root_length : (text : List ℕ) → spells_root text ≡ true → length text ≡ 64
root_length text h = eqb-true _ _ (both _ (list_all is_hex_digit text) h).0

holds : (b : Bool) → (b ≡ false → ⊥) → b ≡ true
holds true h = refl
holds false h = absurd (h refl)

pub root_digit : (text : List ℕ) (k : ℕ) → spells_root text ≡ true → k < 64 → is_hex_digit (get_or text k 0) ≡ true
root_digit text k h low =
    let count = root_length text h in
    let all = (both _ (list_all is_hex_digit text) h).1 in
    holds (is_hex_digit (get_or text k 0)) (λ other.
    let none : list_all is_hex_digit text ≡ false = list_all_at is_hex_digit text k 0 (omega arith) other in
    let no : true ≡ false = sym all ∙ none in
    absurd cc)

-- a digit has one value
pub one_value : (c v : ℕ) → hex_value c ≡ Some v → (w : ℕ) → hex_value c ≡ Some w → v ≡ w
one_value c v e w f = let same : Some v ≡ Some w = sym e ∙ f in cc
