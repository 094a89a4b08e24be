-- Patterns, and the texts of keys.
use Rattle.std.proofs.Common.{◌≡◌, ℕ, zero, suc, ◌+◌, ◌-◌, ◌<◌, ◌≤◌, ◌⊎◌, inl, inr, Bool, true, false, List, [], ◌∷◌, ◌++◌, length, take, drop, get_or, Result, Ok, Err, refl, ap, ap₂, sym, ◌∙◌, arith, length-drop}
use Rattle.std.specs.Prelude.{◌==◌, ◌||◌, if◌then◌else◌, min}
use Rattle.std.proofs.Math.Nat.{min-eq_left, min-eq_right}
use Rattle.std.proofs.lemmas.Bool.{eqb-true}
use Rattle.std.proofs.lemmas.List.{drop_more, take_all}
use Rattle.base64.specs.Engines.{standard}
use Rattle.base64.specs.GeneralPurpose.{encode_of}
use Rattle.dg_words.proofs.CellLemmas.{between-part}
use Rattle.dg_xmss.specs.declared.key.PublicKey.{PublicKey}
use Rattle.dg_sign.specs.KeyTexts.{IsFramed, ReadsDer, ReadsKeyBytes, ReadsPem, agreeing, agrees, any_byte, key_info, pem_characters}
use Rattle.dg_sign.specs.declared.keys.KeyTextFault.{KeyTextFault}
use Rattle.dg_sign.specs.declared.keys.KeyTextFault.TheVariants as fault

nothing_agrees : (p : ℕ) (pattern : List ℕ) → agreeing (p ∷ pattern) [] ≡ 0
unfolding agreeing
nothing_agrees p pattern = refl

cons_agrees : (p b : ℕ) (pattern text : List ℕ) → agrees p b ≡ true → agreeing (p ∷ pattern) (b ∷ text) ≡ suc (agreeing pattern text)
unfolding agreeing
cons_agrees p b pattern text e = ap (λ (t : Bool). if t then suc (agreeing pattern text) else 0) e

cons_differs : (p b : ℕ) (pattern text : List ℕ) → agrees p b ≡ false → agreeing (p ∷ pattern) (b ∷ text) ≡ 0
unfolding agreeing
cons_differs p b pattern text e = ap (λ (t : Bool). if t then suc (agreeing pattern text) else 0) e

pub agrees_at : (pattern text : List ℕ) (at : ℕ) → at < length pattern → at < length text → agrees (get_or pattern at 0) (get_or text at 0) ≡ true
    → agreeing (drop at pattern) (drop at text) ≡ suc (agreeing (drop (at + 1) pattern) (drop (at + 1) text))
agrees_at pattern text at h k e =
    ap₂ agreeing (drop_more pattern at 0 h) (drop_more text at 0 k)
    ∙ cons_agrees (get_or pattern at 0) (get_or text at 0) (drop (at + 1) pattern) (drop (at + 1) text) e

pub differs_at : (pattern text : List ℕ) (at : ℕ) → at < length pattern → at < length text → agrees (get_or pattern at 0) (get_or text at 0) ≡ false
    → agreeing (drop at pattern) (drop at text) ≡ 0
differs_at pattern text at h k e =
    ap₂ agreeing (drop_more pattern at 0 h) (drop_more text at 0 k)
    ∙ cons_differs (get_or pattern at 0) (get_or text at 0) (drop (at + 1) pattern) (drop (at + 1) text) e

-- after the shorter one nothing agrees
no_more : (pattern text : List ℕ) → (length pattern ≡ 0) ⊎ (length text ≡ 0) → agreeing pattern text ≡ 0
unfolding agreeing
no_more [] text h = refl
no_more (p ∷ pattern) [] h = refl
no_more (p ∷ pattern) (b ∷ text) h = elim h [
  | inl e ↦ absurd (omega (arith, e))
  | inr e ↦ absurd (omega (arith, e))
]

agreed_all : (pattern text : List ℕ) (at : ℕ) → (length pattern ≤ at) ⊎ (length text ≤ at) → agreeing (drop at pattern) (drop at text) ≡ 0
agreed_all pattern text at h = elim h [
  | inl e ↦ no_more (drop at pattern) (drop at text) (inl (omega (arith, length-drop at pattern, e)))
  | inr e ↦ no_more (drop at pattern) (drop at text) (inr (omega (arith, length-drop at text, e)))
]

total : (a b : ℕ) → (a ≤ b) ⊎ (b ≤ a)
total zero b = inl (omega arith)
total (suc a) zero = inr (omega arith)
total (suc a) (suc b) = elim (total a b) [
  | inl h ↦ inl (omega (arith, h))
  | inr h ↦ inr (omega (arith, h))
]

min_reached : (a b at : ℕ) → min a b ≤ at → (a ≤ at) ⊎ (b ≤ at)
min_reached a b at h = elim (total a b) [
  | inl e ↦ inl (omega (arith, min-eq_left e, h))
  | inr e ↦ inr (omega (arith, min-eq_right e, h))
]

pub agreed_shorter : (pattern text : List ℕ) (at : ℕ) → min (length pattern) (length text) ≤ at → agreeing (drop at pattern) (drop at text) ≡ 0
agreed_shorter pattern text at h = agreed_all pattern text at (min_reached (length pattern) (length text) at h)

-- ---- patterns in which no byte stands for any

abbrev pub IsFixed : List ℕ → Type 0
IsFixed [] = Unit {0}
IsFixed (p ∷ pattern) = ((p == any_byte) ≡ false) × IsFixed pattern

fixed_agrees : (p b : ℕ) → (p == any_byte) ≡ false → agrees p b ≡ true → b ≡ p
fixed_agrees p b f e = sym (eqb-true p b (sym (ap (λ (t : Bool). t || p == b) f) ∙ e))

front_more : (p b : ℕ) (pattern text : List ℕ) → (p == any_byte) ≡ false → agreeing (p ∷ pattern) (b ∷ text) ≡ suc (length pattern)
    → (agreeing pattern text ≡ length pattern → text ≡ pattern ++ drop (length pattern) text) → b ∷ text ≡ p ∷ (pattern ++ drop (length pattern) text)
front_more p b pattern text f e rest = go (agrees p b) refl
  where
    go : (t : Bool) → agrees p b ≡ t → b ∷ text ≡ p ∷ (pattern ++ drop (length pattern) text)
    go true is =
        let more : suc (agreeing pattern text) ≡ suc (length pattern) = sym (cons_agrees p b pattern text is) ∙ e in
        ap₂ (λ (x : ℕ) (xs : List ℕ). x ∷ xs) (fixed_agrees p b f is) (rest (omega (arith, more)))
    go false is = absurd (omega (arith, sym (cons_differs p b pattern text is) ∙ e))

agreed_front : (pattern text : List ℕ) → IsFixed pattern → agreeing pattern text ≡ length pattern → text ≡ pattern ++ drop (length pattern) text
agreed_front [] text f e = refl
agreed_front (p ∷ pattern) [] f e = absurd (omega (arith, sym (nothing_agrees p pattern) ∙ e))
agreed_front (p ∷ pattern) (b ∷ text) f e = front_more p b pattern text f.0 e (agreed_front pattern text f.1)

info_is_fixed : IsFixed key_info
info_is_fixed = (refl, (refl, (refl, (refl, (refl, (refl, (refl, (refl, (refl, (refl, (refl, (refl, (refl, (refl, (refl, (refl, (refl, (refl, (refl, (refl, tt))))))))))))))))))))

pub info_front : (der : List ℕ) → agreeing key_info der ≡ 20 → der ≡ key_info ++ take (length der - 20) (drop 20 der)
info_front der e =
    agreed_front key_info der info_is_fixed e
    ∙ ap (λ (bytes : List ℕ). key_info ++ bytes) (sym (take_all (length der - 20) (drop 20 der) (omega (arith, length-drop 20 der))))

-- ---- what is read

pub der_read : (der bytes : List ℕ) (r : Result PublicKey KeyTextFault) → der ≡ key_info ++ bytes → ReadsKeyBytes bytes r → ReadsDer der r
der_read der bytes (Ok key) e h = (bytes, e, h)
der_read der bytes (Err fault.Memory) e h = absurd h
der_read der bytes (Err (fault.Digit at)) e h = absurd h
der_read der bytes (Err (fault.Pem at)) e h = absurd h
der_read der bytes (Err (fault.Base64 cause)) e h = absurd h
der_read der bytes (Err (fault.Der at)) e h = absurd h
der_read der bytes (Err (fault.Key cause)) e h = (bytes, e, h)

pub pem_read : (line der : List ℕ) (r : Result PublicKey KeyTextFault) → IsFramed line → pem_characters line ≡ encode_of standard der → ReadsDer der r → ReadsPem line r
pem_read line der (Ok key) framed e h = (framed, (der, e, h))
pem_read line der (Err fault.Memory) framed e h = tt
pem_read line der (Err (fault.Digit at)) framed e h = (framed, (der, e, h))
pem_read line der (Err (fault.Pem at)) framed e h = absurd h.2
pem_read line der (Err (fault.Base64 cause)) framed e h = absurd h.2
pem_read line der (Err (fault.Der at)) framed e h = (framed, (der, e, h))
pem_read line der (Err (fault.Key cause)) framed e h = (framed, (der, e, h))

pub characters_of : (line none first both : List ℕ) → none ≡ [] → first ≡ none ++ take (91 - 27) (drop 27 line) → both ≡ first ++ take (148 - 92) (drop 92 line)
    → both ≡ pem_characters line
characters_of line none first both e f g =
    g
    ∙ ap (λ (xs : List ℕ). xs ++ take (148 - 92) (drop 92 line)) (f ∙ ap (λ (xs : List ℕ). xs ++ take (91 - 27) (drop 27 line)) e)
    ∙ ap₂ (λ (xs ys : List ℕ). xs ++ ys) (between-part line 27 91 64 refl) (between-part line 92 148 56 refl)
