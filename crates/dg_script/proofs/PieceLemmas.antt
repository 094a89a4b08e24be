-- The words of a text are its longest pieces without a space.
use Rattle.std.proofs.Common.{◌≡◌, inl, inr, ℕ, Bool, true, false, ◌==◌, cond, List, [], ◌∷◌, ◌++◌, refl, ap, sym, ◌∙◌, subst, eqb-true, eq-eqb}
use Rattle.dg_script.specs.Words.{Split, with_word, split_of, words_of}
use Rattle.dg_script.specs.Pieces.{HasNoSpace, GoesOnSpaced, AreWords}

not_nil : (c : ℕ) (cs : List ℕ) → c ∷ cs ≡ [] → ⊥
not_nil c cs e = cc

-- one more space before the words
spaced : (text : List ℕ) (words : List (List ℕ)) → AreWords text words → AreWords (32 ∷ text) words
unfolding AreWords
spaced text [] h = (refl, h)
spaced text (w ∷ words) (gap, behind, b, h) =
    (32 ∷ gap, behind, record { parts = ap (λ (xs : List ℕ). 32 ∷ xs) b.parts; spaces = (refl, b.spaces); some = b.some; whole = b.whole; ended = b.ended }, h)

-- a text up to its first space, and what is after it
record IsSplit (text : List ℕ) (s : Split) : Type 0 where
  behind : List ℕ
  parts : text ≡ s.front ++ behind
  whole : HasNoSpace s.front
  ended : GoesOnSpaced behind
  words : AreWords behind s.behind

words_by : (text front : List ℕ) (words : List (List ℕ)) (behind : List ℕ) → text ≡ front ++ behind → HasNoSpace front → GoesOnSpaced behind → AreWords behind words → AreWords text (with_word front words)
unfolding AreWords
words_by text [] words behind parts whole ended h = subst (λ (xs : List ℕ). AreWords xs words) (sym parts) h
words_by text (c ∷ front) words behind parts whole ended h =
    ([], behind, record { parts = parts; spaces = tt; some = not_nil c front; whole = whole; ended = ended }, h)

none_split : IsSplit [] (record { front = []; behind = [] })
unfolding AreWords
none_split = record { behind = []; parts = refl; whole = tt; ended = inl refl; words = tt }

split_more : (c : ℕ) (text : List ℕ) (s : Split) (b : Bool) → (c == 32) ≡ b → IsSplit text s
    → IsSplit (c ∷ text) (cond b (record { front = []; behind = with_word s.front s.behind }) (record { front = c ∷ s.front; behind = s.behind }))
split_more c text s true is h =
    let space : c ≡ 32 = eqb-true c 32 is in
    record {
      behind = c ∷ text;
      parts = refl;
      whole = tt;
      ended = inr (text, ap (λ (x : ℕ). x ∷ text) space);
      words = subst (λ (x : ℕ). AreWords (x ∷ text) (with_word s.front s.behind)) (sym space) (spaced text (with_word s.front s.behind) (words_by text s.front s.behind h.behind h.parts h.whole h.ended h.words));
    }
split_more c text s false is h =
    record {
      behind = h.behind;
      parts = ap (λ (xs : List ℕ). c ∷ xs) h.parts;
      whole = (λ e. absurd (let f : true ≡ false = sym (eq-eqb c 32 e) ∙ is in cc), h.whole);
      ended = h.ended;
      words = h.words;
    }

is_split : (text : List ℕ) → IsSplit text (split_of text)
unfolding split_of
is_split [] = none_split
is_split (c ∷ text) = split_more c text (split_of text) (c == 32) refl (is_split text)

pub are_words : (text : List ℕ) → AreWords text (words_of text)
unfolding words_of
are_words text =
    let s = is_split text in
    words_by text (split_of text).front (split_of text).behind s.behind s.parts s.whole s.ended s.words
