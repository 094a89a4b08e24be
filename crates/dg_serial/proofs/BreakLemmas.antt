-- A piece is broken exactly if some escape is not followed by one of the two bytes that may follow it.
use Rattle.std.proofs.Common.{◌≡◌, ◌⊎◌, inl, inr, ℕ, ◌==◌, ◌&&◌, ◌||◌, not, Bool, true, false, List, [], ◌∷◌, ◌++◌, refl, ap, sym, ◌∙◌}
use Rattle.std.specs.Prelude.{◌↔◌}
use Rattle.std.proofs.lemmas.Bool.{eqb-true, eq-eqb}
use Rattle.dg_serial.specs.Sizes.{escape_byte, escaped_flag, escaped_escape}
use Rattle.dg_serial.specs.Line.{is_escaped_byte, is_broken_after, ends_escaping, is_broken, BeginsWithSecond, HasLoneEscape}

abbrev broken_from : Bool → List ℕ → Bool
broken_from escapes bytes = is_broken_after escapes bytes || ends_escaping escapes bytes

-- ---- tests

later_true : (x y z : Bool) → y || z ≡ true → (x || y) || z ≡ true
later_true true y z e = refl
later_true false y z e = e

first_true : (x y z : Bool) → x ≡ true → (x || y) || z ≡ true
first_true true y z e = refl
first_true false y z e = absurd (let h : false ≡ true = e in cc)

either_true : (x y z : Bool) → (x || y) || z ≡ true → (x ≡ true) ⊎ (y || z ≡ true)
either_true true y z e = inl refl
either_true false y z e = inr e

both_true : (e s : Bool) → e && not s ≡ true → (e ≡ true) × (s ≡ false)
both_true true true e = absurd (let h : false ≡ true = e in cc)
both_true true false e = (refl, refl)
both_true false s e = absurd (let h : false ≡ true = e in cc)

or_of : (x y : Bool) → (x ≡ true) ⊎ (y ≡ true) → x || y ≡ true
or_of true y h = refl
or_of false y (inl e) = absurd (let h : false ≡ true = e in cc)
or_of false y (inr e) = e

of_or : (x y : Bool) → x || y ≡ true → (x ≡ true) ⊎ (y ≡ true)
of_or true y e = inl refl
of_or false y e = inr e

second_true : (b : ℕ) → (b ≡ escaped_flag) ⊎ (b ≡ escaped_escape) → is_escaped_byte b ≡ true
second_true b (inl e) = or_of (b == escaped_flag) (b == escaped_escape) (inl (eq-eqb b escaped_flag e))
second_true b (inr e) = or_of (b == escaped_flag) (b == escaped_escape) (inr (eq-eqb b escaped_escape e))

second_is : (b : ℕ) → is_escaped_byte b ≡ true → (b ≡ escaped_flag) ⊎ (b ≡ escaped_escape)
second_is b e = elim (of_or (b == escaped_flag) (b == escaped_escape) e) [ inl f ↦ inl (eqb-true b escaped_flag f) | inr f ↦ inr (eqb-true b escaped_escape f) ]

not_true : (s : Bool) → (s ≡ true → ⊥) → s ≡ false
not_true true h = absurd (h refl)
not_true false h = refl

-- ---- a broken piece has such an escape

lone_later : (b : ℕ) (bs : List ℕ) → HasLoneEscape bs → HasLoneEscape (b ∷ bs)
lone_later b bs lone = record { front = b ∷ lone.front; back = lone.back; stands = ap (λ (xs : List ℕ). b ∷ xs) lone.stands; alone = lone.alone }

breaks : (escapes : Bool) (bytes : List ℕ) → broken_from escapes bytes ≡ true → ((escapes ≡ true) × (BeginsWithSecond bytes → ⊥)) ⊎ HasLoneEscape bytes
unfolding is_broken_after ends_escaping
breaks escapes [] e = inl (e, λ h. h)
breaks escapes (b ∷ bs) e =
    elim (either_true (escapes && not (is_escaped_byte b)) (is_broken_after (b == escape_byte) bs) (ends_escaping (b == escape_byte) bs) e) [
      | inl here ↦
          let both = both_true escapes (is_escaped_byte b) here in
          inl (both.0, λ h. let f : false ≡ true = sym both.1 ∙ second_true b h in cc)
      | inr later ↦
          elim (breaks (b == escape_byte) bs later) [
            | inl at ↦ inr (record { front = []; back = bs; stands = ap (λ (x : ℕ). x ∷ bs) (eqb-true b escape_byte at.0); alone = at.1 })
            | inr lone ↦ inr (lone_later b bs lone)
          ]
    ]

-- ---- and a piece with such an escape is broken

breaks_first : (bytes : List ℕ) → (BeginsWithSecond bytes → ⊥) → broken_from true bytes ≡ true
unfolding is_broken_after ends_escaping
breaks_first [] h = refl
breaks_first (b ∷ bs) h =
    let no : is_escaped_byte b ≡ false = not_true (is_escaped_byte b) (λ e. h (second_is b e)) in
    first_true (not (is_escaped_byte b)) (is_broken_after (b == escape_byte) bs) (ends_escaping (b == escape_byte) bs) (ap not no)

breaks_at : (escapes : Bool) (front back : List ℕ) → (BeginsWithSecond back → ⊥) → broken_from escapes (front ++ escape_byte ∷ back) ≡ true
unfolding is_broken_after ends_escaping
breaks_at escapes [] back h = later_true (escapes && not (is_escaped_byte escape_byte)) (is_broken_after true back) (ends_escaping true back) (breaks_first back h)
breaks_at escapes (b ∷ front) back h =
    later_true (escapes && not (is_escaped_byte b)) (is_broken_after (b == escape_byte) (front ++ escape_byte ∷ back)) (ends_escaping (b == escape_byte) (front ++ escape_byte ∷ back)) (breaks_at (b == escape_byte) front back h)

broken_lone : (piece : List ℕ) → is_broken piece ≡ true → HasLoneEscape piece
broken_lone piece e = elim (breaks false piece e) [ inl at ↦ absurd (let h : false ≡ true = at.0 in cc) | inr lone ↦ lone ]

lone_broken : (piece : List ℕ) → HasLoneEscape piece → is_broken piece ≡ true
lone_broken piece lone = ap is_broken lone.stands ∙ breaks_at false lone.front lone.back lone.alone

pub broken : (piece : List ℕ) → (is_broken piece ≡ true) ↔ HasLoneEscape piece
broken piece = (broken_lone piece, lone_broken piece)
