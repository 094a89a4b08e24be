-- Words and fields that were spelled are read back.
use Rattle.std.proofs.Common.{◌≡◌, ◌≢◌, ℕ, ◌+◌, ◌*◌, ◌/◌, ◌%◌, ◌<◌, ◌≤◌, ◌^◌, ◌==◌, ◌&&◌, not, nat_le, Bool, true, false, List, [], ◌∷◌, ◌++◌, length, Some, Ok, All, decimal, refl, ap, ◌∙◌, subst, arith}
use Rattle.std.proofs.lemmas.Bool.{le-leb, lt-ltb, ne_eqb, and_from, and_parts, not_from_false, not-true}
use Rattle.std.proofs.lemmas.Bool.Decides.{nat_tests}
use Rattle.std.proofs.lemmas.List.{append-nil, length-append, get_or_default}
use Rattle.std.proofs.lemmas.Fmt.{decimal_nonempty, digits_decimal, length-decimal-le}
use Rattle.std.proofs.lemmas.Str.Parse.{IsNumeralModel, numerals_by_value, tells_all_ascii_digits}
use Rattle.std.specs.Char.{is_ascii_digit}
use Rattle.std.specs.List.{list_all}
use Rattle.std.specs.Str.{all_ascii_digits}
use Rattle.std.specs.Str.Parse.{digits_value}
use Rattle.dg_words.specs.Cells.{AreBytes}
use Rattle.dg_base.specs.Hexadecimal.{hex_text, hex_digit}
use Rattle.dg_base.specs.Texts.{spells_name, is_name_byte}
use Rattle.dg_base.specs.Sizes.{longest_mask}
use Rattle.dg_base.proofs.NumberLemmas.{number_of-decimal}
use Rattle.dg_base.proofs.HexLemmas.{hex_bytes-hex_text, length-hex_text}
use Rattle.dg_script.specs.Sizes.{most_line}
use Rattle.dg_script.specs.Words.{split_of, with_word, words_of, behind_spaces}
use Rattle.dg_script.specs.Contents.{spelled_name, content_of, sized_content, spelled_mask}
use Rattle.dg_script.specs.Verbs.{word_of, verb_of, standing}
use Rattle.dg_script.specs.Fields.{number_in, ranged_in, mote_in, other_in}
use Rattle.dg_script.specs.Lines.{fields_of, played_verb, is_comment, line_of}
use Rattle.dg_script.specs.Fitting.{is_played, StandsBy}
use Rattle.dg_script.specs.Spelling.{content_text}
use Rattle.dg_script.specs.declared.fault.LineFault.{LineFault}
use Rattle.dg_script.specs.declared.line.Line.{Line}
use Rattle.dg_script.specs.declared.place.Place.{Place}
use Rattle.dg_script.specs.declared.verbs.Verb.{Verb}
use Rattle.dg_script.specs.declared.verbs.Verb.TheVariants as verb

-- ---- words

-- no byte is a space
abbrev pub lacks : List ℕ → Bool
lacks [] = true
lacks (c ∷ cs) = not (c == 32) && lacks cs

pub record IsWord (w : List ℕ) : Type 0 where
  pub some : 0 < length w
  pub whole : lacks w ≡ true

abbrev pub AreWords : List (List ℕ) → Type 0
AreWords [] = Unit {0}
AreWords (w ∷ ws) = IsWord w × AreWords ws

split_word : (w rest : List ℕ) → lacks w ≡ true → split_of (w ++ rest) ≡ record { front = w ++ (split_of rest).front; behind = (split_of rest).behind }
unfolding split_of
split_word [] rest h = refl
split_word (c ∷ cs) rest h =
    let parts = and_parts (not (c == 32)) (lacks cs) h in
    let other : (c == 32) ≡ false = not-true _ parts.0 in
    rw (other, split_word cs rest parts.1) refl

words_word : (w rest : List ℕ) → IsWord w → (split_of rest).front ≡ [] → words_of (w ++ rest) ≡ w ∷ (split_of rest).behind
unfolding words_of
words_word [] rest h starts = absurd (omega (arith, h.some))
words_word (c ∷ cs) rest h starts =
    ap (λ s. with_word s.front s.behind) (split_word (c ∷ cs) rest h.whole)
    ∙ ap (λ (xs : List ℕ). (c ∷ xs) ∷ (split_of rest).behind) (ap (λ (f : List ℕ). cs ++ f) starts ∙ append-nil cs)

-- words with one space between them are these words
pub words_spaced : (w : List ℕ) (ws : List (List ℕ)) → IsWord w → AreWords ws → words_of (w ++ behind_spaces ws) ≡ w ∷ ws
unfolding words_of split_of
words_spaced w [] h hs = words_word w [] h refl
words_spaced w (v ∷ vs) h hs = words_word w (behind_spaces (v ∷ vs)) h refl ∙ ap (λ (rest : List (List ℕ)). w ∷ rest) (words_spaced v vs hs.0 hs.1)

-- how many bytes words are, each with a space
abbrev total : List (List ℕ) → ℕ
total [] = 0
total (w ∷ ws) = 1 + length w + total ws

length-behind : (ws : List (List ℕ)) → length (behind_spaces ws) ≡ total ws
length-behind [] = refl
length-behind (w ∷ ws) = omega (arith, length-append (32 ∷ w) (behind_spaces ws), length-behind ws)

-- ---- the table of verbs

record IsVerb (v : Verb) : Type 0 where
  word : IsWord (word_of v)
  short : length (word_of v) ≤ 6
  says : is_comment (word_of v) ≡ false
  found : verb_of (word_of v) ≡ Some v

is_verb : (v : Verb) → IsVerb v
unfolding verb_of
is_verb verb.Motes = record { word = record { some = omega arith; whole = refl }; short = omega arith; says = refl; found = refl }
is_verb verb.Golden = record { word = record { some = omega arith; whole = refl }; short = omega arith; says = refl; found = refl }
is_verb verb.Boards = record { word = record { some = omega arith; whole = refl }; short = omega arith; says = refl; found = refl }
is_verb verb.Link = record { word = record { some = omega arith; whole = refl }; short = omega arith; says = refl; found = refl }
is_verb verb.Narrow = record { word = record { some = omega arith; whole = refl }; short = omega arith; says = refl; found = refl }
is_verb verb.Image = record { word = record { some = omega arith; whole = refl }; short = omega arith; says = refl; found = refl }
is_verb verb.Tick = record { word = record { some = omega arith; whole = refl }; short = omega arith; says = refl; found = refl }
is_verb verb.Hear = record { word = record { some = omega arith; whole = refl }; short = omega arith; says = refl; found = refl }
is_verb verb.Last = record { word = record { some = omega arith; whole = refl }; short = omega arith; says = refl; found = refl }
is_verb verb.Reset = record { word = record { some = omega arith; whole = refl }; short = omega arith; says = refl; found = refl }
is_verb verb.Inject = record { word = record { some = omega arith; whole = refl }; short = omega arith; says = refl; found = refl }
is_verb verb.Order = record { word = record { some = omega arith; whole = refl }; short = omega arith; says = refl; found = refl }
is_verb verb.Frame = record { word = record { some = omega arith; whole = refl }; short = omega arith; says = refl; found = refl }
is_verb verb.Cut = record { word = record { some = omega arith; whole = refl }; short = omega arith; says = refl; found = refl }
is_verb verb.Round = record { word = record { some = omega arith; whole = refl }; short = omega arith; says = refl; found = refl }
is_verb verb.Sweeps = record { word = record { some = omega arith; whole = refl }; short = omega arith; says = refl; found = refl }

played_verb-reads : (v : Verb) → is_played v ≡ true → played_verb (word_of v) ≡ Ok v
unfolding played_verb
played_verb-reads v plays = rw (is_verb v).found refl

-- a line whose words are a verb and fields that are read
pub reads_words : (v : Verb) (place : Place) (ws : List (List ℕ)) (line : Line) → AreWords ws → total ws ≤ 299000 → is_played v ≡ true → fields_of v place ws ≡ Ok line
    → line_of place (word_of v ++ behind_spaces ws) ≡ Ok line
unfolding line_of
reads_words v place ws line are small plays read =
    let is = is_verb v in
    let words : words_of (word_of v ++ behind_spaces ws) ≡ word_of v ∷ ws = words_spaced (word_of v) ws is.word are in
    let short : nat_le (length (word_of v ++ behind_spaces ws)) most_line ≡ true =
    le-leb _ _ (omega (arith, length-append (word_of v) (behind_spaces ws), length-behind ws, is.short, small)) in
    rw (short, words, is.says, played_verb-reads v plays) read

-- ---- fields

pub digits_lack : (w : List ℕ) → all_ascii_digits w ≡ true → lacks w ≡ true
digits_lack [] h = refl
digits_lack (c ∷ cs) h =
    let parts = and_parts (is_ascii_digit c) (all_ascii_digits cs) h in
    let other : (c == 32) ≡ false = ne_eqb c 32 (λ e. let q : is_ascii_digit c ≡ is_ascii_digit 32 = ap is_ascii_digit e in cc) in
    and_from _ _ (not_from_false _ other) (digits_lack cs parts.1)

names_lack : (w : List ℕ) → list_all is_name_byte w ≡ true → lacks w ≡ true
names_lack [] h = refl
names_lack (c ∷ cs) h =
    let parts = and_parts (is_name_byte c) (list_all is_name_byte cs) h in
    let other : (c == 32) ≡ false = ne_eqb c 32 (λ e. let q : is_name_byte c ≡ is_name_byte 32 = ap is_name_byte e in cc) in
    and_from _ _ (not_from_false _ other) (names_lack cs parts.1)

digit_other : (v : ℕ) → (hex_digit v == 32) ≡ false
digit_other v = grind (arith, nat_tests)

pub hex_lacks : (bytes : List ℕ) → lacks (hex_text bytes) ≡ true
unfolding hex_text
hex_lacks [] = refl
hex_lacks (b ∷ bs) = and_from _ _ (not_from_false _ (digit_other (b / 16))) (and_from _ _ (not_from_false _ (digit_other (b % 16))) (hex_lacks bs))

-- a number as it is written
pub record IsNumber (n : ℕ) : Type 0 where
  pub small : n < 2 ^ 32
  pub word : IsWord (decimal n)
  pub short : length (decimal n) ≤ 10
  pub read : number_in (decimal n) ≡ Ok n

own : IsNumeralModel (λ ds. all_ascii_digits ds ≡ true) (digits_value 10)
own = numerals_by_value _ tells_all_ascii_digits

pub number : (n : ℕ) → n < 2 ^ 32 → IsNumber n
unfolding number_in
number n h = record {
  small = h;
  word = record { some = decimal_nonempty n (omega (arith, h)); whole = digits_lack (decimal n) (digits_decimal own n (omega (arith, h))) };
  short = length-decimal-le 10 n (omega arith) (omega (arith, h)) (omega (arith, h));
  read = rw (number_of-decimal n h) refl;
}

pub ranged : (fault : LineFault) (least n most : ℕ) → IsNumber n → least ≤ n → n ≤ most → ranged_in fault least most (decimal n) ≡ Ok n
unfolding ranged_in
ranged fault least n most is low high = rw (is.read, le-leb least n low, le-leb n most high) refl

pub mote : (motes n : ℕ) → IsNumber n → n < motes → mote_in motes (decimal n) ≡ Ok n
unfolding mote_in
mote motes n is below = rw (is.read, lt-ltb n motes below) refl

pub other_mote : (motes first n : ℕ) → IsNumber n → n < motes → n ≢ first → other_in motes first (decimal n) ≡ Ok n
unfolding other_in
other_mote motes first n is below other = rw (mote motes n is below, ne_eqb n first other) refl

-- a name
pub record IsName (name : List ℕ) : Type 0 where
  pub word : IsWord name
  pub short : length name ≤ 16
  pub read : spelled_name name ≡ Ok name

pub name : (bytes : List ℕ) → spells_name bytes ≡ true → IsName bytes
unfolding spelled_name
name bytes h =
    let outer = and_parts (nat_le 1 (length bytes) && nat_le (length bytes) 16) (list_all is_name_byte bytes) h in
    let low : 1 ≤ length bytes = grind (arith, nat_tests) in
    let high : length bytes ≤ 16 = grind (arith, nat_tests) in
    record { word = record { some = omega (arith, low); whole = names_lack bytes outer.1 }; short = high; read = rw h refl }

all_bytes : (bytes : List ℕ) → AreBytes bytes → All (λ b. b < 256) bytes
all_bytes bytes are k d inside = subst (λ (x : ℕ). x < 256) (get_or_default bytes k 0 d inside) (are k)

-- a content
pub record IsWritten (least most : ℕ) (bytes : List ℕ) : Type 0 where
  pub word : IsWord (content_text bytes)
  pub size : length (content_text bytes) ≡ 4 + 2 * length bytes
  pub read : sized_content least most (content_text bytes) ≡ Ok bytes

pub content : (least most : ℕ) (bytes : List ℕ) → AreBytes bytes → least ≤ length bytes → length bytes ≤ most → IsWritten least most bytes
unfolding sized_content content_of
content least most bytes are low high = record {
  word = record { some = omega arith; whole = hex_lacks bytes };
  size = omega (arith, length-hex_text bytes);
  read = rw (hex_bytes-hex_text bytes (all_bytes bytes are), le-leb least (length bytes) low, le-leb (length bytes) most high) refl;
}

pub record IsMask (bytes : List ℕ) : Type 0 where
  pub word : IsWord (hex_text bytes)
  pub size : length (hex_text bytes) ≡ 2 * length bytes
  pub read : spelled_mask (hex_text bytes) ≡ Ok bytes

pub mask : (bytes : List ℕ) → AreBytes bytes → 1 ≤ length bytes → length bytes ≤ longest_mask → IsMask bytes
unfolding spelled_mask
mask bytes are low high = record {
  word = record { some = omega (arith, length-hex_text bytes, low); whole = hex_lacks bytes };
  size = length-hex_text bytes;
  read = rw (hex_bytes-hex_text bytes (all_bytes bytes are), le-leb 1 (length bytes) low, le-leb (length bytes) longest_mask high) refl;
}

pub stood : (v : Verb) (place : Place) → StandsBy v place → standing v place ≡ Ok (tt {0})
unfolding standing
stood v place stands = rw (stands.fits, stands.behind) refl
