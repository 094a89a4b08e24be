-- What is written of a report is read back.
use Rattle.std.proofs.Common.{◌≡◌, ℕ, ◌+◌, ◌-◌, ◌*◌, ◌/◌, ◌%◌, ◌<◌, ◌^◌, ◌==◌, true, false, List, [], ◌∷◌, ◌++◌, length, take, codes, Result, Ok, Err, is_err, OnOk, unwrap_or, decimal, refl, ap, ◌∙◌, subst, arith, eqb-true, eq-eqb}
use Rattle.std.specs.Int.{to_be_bytes, w16}
use Rattle.std.specs.Char.{is_ascii_digit}
use Rattle.std.specs.Str.{all_ascii_digits}
use Rattle.std.specs.Str.Parse.{digits_value}
use Rattle.std.proofs.lemmas.Bool.{agree_below_at, ne_eqb, and_from, and_parts}
use Rattle.std.proofs.lemmas.List.{length-append, take_at}
use Rattle.std.proofs.lemmas.Fmt.{digits_decimal}
use Rattle.std.proofs.lemmas.Str.Parse.{IsNumeralModel, numerals_by_value, tells_all_ascii_digits}
use Rattle.dg_base.specs.Numbers.{number_of}
use Rattle.dg_base.specs.Hexadecimal.{hex_text, hex_digit}
use Rattle.dg_base.proofs.NumberLemmas.{number_of-decimal}
use Rattle.dg_base.proofs.HexLemmas.{length-hex_text}
use Rattle.dg_script.specs.Words.{same, words_of, spaced}
use Rattle.dg_script.specs.Report.{cause_words, report_words, report_line}
use Rattle.dg_lines.specs.ReportReading.{FitsCause, FitsReport, number_at, digit_value, crc_of_digits, cause_said, report_said}
use Rattle.dg_script.specs.declared.report.Cause.{Cause}
use Rattle.dg_script.specs.declared.report.Cause.TheVariants as cause
use Rattle.dg_script.specs.declared.report.Report.{Report}
use Rattle.dg_script.specs.declared.report.Report.TheVariants.{Order, Lost, Have, Start, Off, SentAdvert, SentRequest, SentData, Refused, Taken, End, MoteOn, MoteOff, Kept}
use Rattle.dg_lines.proofs.WordsReadLemmas.{IsWord, words_spaced, hex_lacks, number}

-- ---- words

pub same-true : (xs ys : List ℕ) → same xs ys ≡ true → xs ≡ ys
same-true [] [] h = refl
same-true [] (y ∷ ys) h = cc
same-true (x ∷ xs) [] h = cc
same-true (x ∷ xs) (y ∷ ys) h =
    let parts = and_parts (x == y) (same xs ys) h in
    let head : x ≡ y = eqb-true x y parts.0 in
    let tail : xs ≡ ys = same-true xs ys parts.1 in
    cc

pub same-refl : (xs : List ℕ) → same xs xs ≡ true
same-refl [] = refl
same-refl (x ∷ xs) = and_from (x == x) (same xs xs) (eq-eqb x x refl) (same-refl xs)

number_word : (n : ℕ) → n < 2 ^ 32 → IsWord (decimal n)
number_word n h = (number n h).word

small_word : (n : ℕ) → n < 256 → IsWord (decimal n)
small_word n h = (number n (omega (arith, h))).word

crc_word : (n : ℕ) → IsWord (hex_text (to_be_bytes w16 n))
crc_word n = record { some = omega (arith, length-hex_text (to_be_bytes w16 n)); whole = hex_lacks (to_be_bytes w16 n) }

-- words with one space between them
cause_is : (mote : ℕ) (why : Cause) → mote < 256 → FitsCause why → words_of (spaced (codes "no" ∷ decimal mote ∷ cause_words why)) ≡ codes "no" ∷ decimal mote ∷ cause_words why
cause_is m cause.Off h f = words_spaced (codes "no") (decimal m ∷ codes "off" ∷ []) (record { some = omega arith; whole = refl }) (small_word m h, (record { some = omega arith; whole = refl }, tt))
cause_is m cause.Frame h f = words_spaced (codes "no") (decimal m ∷ codes "frame" ∷ []) (record { some = omega arith; whole = refl }) (small_word m h, (record { some = omega arith; whole = refl }, tt))
cause_is m cause.Link h f = words_spaced (codes "no") (decimal m ∷ codes "link" ∷ []) (record { some = omega arith; whole = refl }) (small_word m h, (record { some = omega arith; whole = refl }, tt))
cause_is m cause.Image h f = words_spaced (codes "no") (decimal m ∷ codes "image" ∷ []) (record { some = omega arith; whole = refl }) (small_word m h, (record { some = omega arith; whole = refl }, tt))
cause_is m cause.Empty h f = words_spaced (codes "no") (decimal m ∷ codes "empty" ∷ []) (record { some = omega arith; whole = refl }) (small_word m h, (record { some = omega arith; whole = refl }, tt))
cause_is m (cause.TooLarge n) h f = words_spaced (codes "no") (decimal m ∷ codes "toolarge" ∷ decimal n ∷ []) (record { some = omega arith; whole = refl }) (small_word m h, (record { some = omega arith; whole = refl }, (number_word n f, tt)))
cause_is m cause.Reserved h f = words_spaced (codes "no") (decimal m ∷ codes "reserved" ∷ []) (record { some = omega arith; whole = refl }) (small_word m h, (record { some = omega arith; whole = refl }, tt))
cause_is m (cause.Stale n) h f = words_spaced (codes "no") (decimal m ∷ codes "stale" ∷ decimal n ∷ []) (record { some = omega arith; whole = refl }) (small_word m h, (record { some = omega arith; whole = refl }, (number_word n f, tt)))
cause_is m cause.Taken h f = words_spaced (codes "no") (decimal m ∷ codes "taken" ∷ []) (record { some = omega arith; whole = refl }) (small_word m h, (record { some = omega arith; whole = refl }, tt))
cause_is m (cause.Worn n) h f = words_spaced (codes "no") (decimal m ∷ codes "worn" ∷ decimal n ∷ []) (record { some = omega arith; whole = refl }) (small_word m h, (record { some = omega arith; whole = refl }, (number_word n f, tt)))
cause_is m (cause.OldOrder n) h f = words_spaced (codes "no") (decimal m ∷ codes "oldorder" ∷ decimal n ∷ []) (record { some = omega arith; whole = refl }) (small_word m h, (record { some = omega arith; whole = refl }, (number_word n f, tt)))

words : (r : Report) → FitsReport r → words_of (spaced (report_words r)) ≡ report_words r
words (Order m k i v) f =
    words_spaced (codes "order") (decimal m ∷ decimal k ∷ decimal i ∷ decimal v ∷ []) (record { some = omega arith; whole = refl }) (small_word m f.0, (number_word k f.1, (small_word i f.2, (number_word v f.3, tt))))
words (Lost m i) f = words_spaced (codes "none") (decimal m ∷ decimal i ∷ []) (record { some = omega arith; whole = refl }) (small_word m f.0, (small_word i f.1, tt))
words (Have m i v n) f =
    words_spaced (codes "have") (decimal m ∷ decimal i ∷ decimal v ∷ decimal n ∷ []) (record { some = omega arith; whole = refl }) (small_word m f.0, (small_word i f.1, (number_word v f.2, (small_word n f.3, tt))))
words (Start m i v l c) f =
    words_spaced (codes "start") (decimal m ∷ decimal i ∷ decimal v ∷ decimal l ∷ hex_text (to_be_bytes w16 c) ∷ []) (record { some = omega arith; whole = refl })
    (small_word m f.0, (small_word i f.1, (number_word v f.2, (number_word l f.3, (crc_word c, tt)))))
words (Off m) f = words_spaced (codes "off") (decimal m ∷ []) (record { some = omega arith; whole = refl }) (small_word m f, tt)
words (SentAdvert m) f = words_spaced (codes "sent") (decimal m ∷ codes "advert" ∷ []) (record { some = omega arith; whole = refl }) (small_word m f, (record { some = omega arith; whole = refl }, tt))
words (SentRequest m to i v p n) f =
    words_spaced (codes "sent") (decimal m ∷ codes "request" ∷ decimal to ∷ decimal i ∷ decimal v ∷ decimal p ∷ decimal n ∷ []) (record { some = omega arith; whole = refl })
    (small_word m f.0, (record { some = omega arith; whole = refl }, (number_word to (omega (arith, f.1)), (small_word i f.2, (number_word v f.3, (small_word p f.4, (small_word n f.5, tt)))))))
words (SentData m i v p n) f =
    words_spaced (codes "sent") (decimal m ∷ codes "data" ∷ decimal i ∷ decimal v ∷ decimal p ∷ decimal n ∷ []) (record { some = omega arith; whole = refl })
    (small_word m f.0, (record { some = omega arith; whole = refl }, (small_word i f.1, (number_word v f.2, (small_word p f.3, (small_word n f.4, tt))))))
words (Refused m why) f = cause_is m why f.0 f.1
words (Taken i v) f =
    words_spaced (codes "no") (codes "image" ∷ decimal i ∷ decimal v ∷ codes "taken" ∷ []) (record { some = omega arith; whole = refl })
    (record { some = omega arith; whole = refl }, (small_word i f.0, (number_word v f.1, (record { some = omega arith; whole = refl }, tt))))
words (End n) f = words_spaced (codes "end") (decimal n ∷ []) (record { some = omega arith; whole = refl }) (number_word n f, tt)
words (MoteOn m i v) f =
    words_spaced (codes "mote") (decimal m ∷ codes "on" ∷ decimal i ∷ decimal v ∷ []) (record { some = omega arith; whole = refl }) (small_word m f.0, (record { some = omega arith; whole = refl }, (small_word i f.1, (number_word v f.2, tt))))
words (MoteOff m) f = words_spaced (codes "mote") (decimal m ∷ codes "off" ∷ []) (record { some = omega arith; whole = refl }) (small_word m f, (record { some = omega arith; whole = refl }, tt))
words (Kept m i v n) f =
    words_spaced (codes "kept") (decimal m ∷ decimal i ∷ decimal v ∷ decimal n ∷ []) (record { some = omega arith; whole = refl }) (small_word m f.0, (small_word i f.1, (number_word v f.2, (small_word n f.3, tt))))

-- ---- fields

number_here : (n : ℕ) → n < 2 ^ 32 → unwrap_or (number_of (decimal n)) 0 ≡ n
number_here n h = rw (number_of-decimal n h) refl

small_here : (n : ℕ) → n < 256 → unwrap_or (number_of (decimal n)) 0 % 256 ≡ n
small_here n h =
    let few : n < 2 ^ 32 = omega (arith, h) in
    rw (number_here n few) (let e : n % 256 ≡ n = omega (arith, h) in e)

address_here : (n : ℕ) → n < 2 ^ 16 → unwrap_or (number_of (decimal n)) 0 % 65536 ≡ n
address_here n h =
    let few : n < 2 ^ 32 = omega (arith, h) in
    rw (number_here n few) (let e : n % 65536 ≡ n = omega (arith, h) in e)

digit_here : (v : ℕ) → v < 16 → digit_value (hex_digit v) ≡ v
digit_here v h = eqb-true _ _ (agree_below_at (λ v. digit_value (hex_digit v) == v) (λ _. true) 16 v refl h)

crc_here : (n : ℕ) → n < 2 ^ 16 → crc_of_digits (hex_text (to_be_bytes w16 n)) ≡ n
unfolding crc_of_digits hex_text
crc_here n h =
    let a = digit_here (n / 256 % 256 / 16) (omega arith) in
    let b = digit_here (n / 256 % 256 % 16) (omega arith) in
    let c = digit_here (n % 256 / 16) (omega arith) in
    let d = digit_here (n % 256 % 16) (omega arith) in
    rw (a, b, c, d) (let e : ((n / 256 % 256 / 16 * 16 + n / 256 % 256 % 16) * 16 + n % 256 / 16) * 16 + n % 256 % 16 ≡ n = omega (arith, h) in e)

-- a number is not the word `image`
own : IsNumeralModel (λ ds. all_ascii_digits ds ≡ true) (digits_value 10)
own = numerals_by_value _ tells_all_ascii_digits

no_image : (w : List ℕ) → all_ascii_digits w ≡ true → same w (codes "image") ≡ false
no_image [] h = refl
no_image (c ∷ cs) h =
    let parts = and_parts (is_ascii_digit c) (all_ascii_digits cs) h in
    let other : (c == 105) ≡ false = ne_eqb c 105 (λ e. let q : is_ascii_digit c ≡ is_ascii_digit 105 = ap is_ascii_digit e in cc) in
    rw other refl

no_image_number : (n : ℕ) → n < 256 → same (decimal n) (codes "image") ≡ false
no_image_number n h = no_image (decimal n) (digits_decimal own n (omega (arith, h)))

-- ---- lines

cause_here : (mote : ℕ) (why : Cause) → FitsCause why → cause_said (codes "no" ∷ decimal mote ∷ cause_words why) ≡ why
unfolding number_at
cause_here m cause.Off f = refl
cause_here m cause.Frame f = refl
cause_here m cause.Link f = refl
cause_here m cause.Image f = refl
cause_here m cause.Empty f = refl
cause_here m (cause.TooLarge n) f = ap cause.TooLarge (number_here n f)
cause_here m cause.Reserved f = refl
cause_here m (cause.Stale n) f = ap cause.Stale (number_here n f)
cause_here m cause.Taken f = refl
cause_here m (cause.Worn n) f = ap cause.Worn (number_here n f)
cause_here m (cause.OldOrder n) f = ap cause.OldOrder (number_here n f)

here : (r : Report) → FitsReport r → report_said (report_words r) ≡ r
unfolding report_said number_at
here (Order m k i v) f = let a = small_here m f.0 in let b = number_here k f.1 in let c = small_here i f.2 in let d = number_here v f.3 in cc
here (Lost m i) f = let a = small_here m f.0 in let b = small_here i f.1 in cc
here (Have m i v n) f = let a = small_here m f.0 in let b = small_here i f.1 in let c = number_here v f.2 in let d = small_here n f.3 in cc
here (Start m i v l c) f = let a = small_here m f.0 in let b = small_here i f.1 in let d = number_here v f.2 in let e = number_here l f.3 in let g = crc_here c f.4 in cc
here (Off m) f = let a = small_here m f in cc
here (SentAdvert m) f = let a = small_here m f in cc
here (SentRequest m to i v p n) f =
    let a = small_here m f.0 in let b = address_here to f.1 in let c = small_here i f.2 in let d = number_here v f.3 in let e = small_here p f.4 in let g = small_here n f.5 in cc
here (SentData m i v p n) f = let a = small_here m f.0 in let b = small_here i f.1 in let c = number_here v f.2 in let d = small_here p f.3 in let e = small_here n f.4 in cc
here (Refused m why) f =
    let a = small_here m f.0 in
    let b = cause_here m why f.1 in
    rw (no_image_number m f.0) (let e : Refused (unwrap_or (number_of (decimal m)) 0 % 256) (cause_said (codes "no" ∷ decimal m ∷ cause_words why)) ≡ Refused m why = cc in e)
here (Taken i v) f = let a = small_here i f.0 in let b = number_here v f.1 in cc
here (End n) f = let a = number_here n f in cc
here (MoteOn m i v) f = let a = small_here m f.0 in let b = small_here i f.1 in let c = number_here v f.2 in cc
here (MoteOff m) f = let a = small_here m f in cc
here (Kept m i v n) f = let a = small_here m f.0 in let b = small_here i f.1 in let c = number_here v f.2 in let d = small_here n f.3 in cc

-- the text of a line is the line without its LF
text_of_line : (text : List ℕ) → take (length (text ++ 10 ∷ []) - 1) (text ++ 10 ∷ []) ≡ text
text_of_line text = take_at text (10 ∷ []) (length (text ++ 10 ∷ []) - 1) (omega (arith, length-append text (10 ∷ [])))

pub said_again : (r : Report) (line : List ℕ) → FitsReport r → report_line r ≡ line → report_said (words_of (take (length line - 1) line)) ≡ r
unfolding report_line
said_again r line f e =
    let P : List ℕ → Type 0 = λ l. report_said (words_of (take (length l - 1) l)) ≡ r in
    subst P e (ap (λ t. report_said (words_of t)) (text_of_line (spaced (report_words r))) ∙ ap report_said (words r f) ∙ here r f)

pub line_some : (r : Report) (line : List ℕ) → report_line r ≡ line → length line ≡ 0 → ⊥
unfolding report_line
line_some r line e none = omega (arith, ap length e, length-append (spaced (report_words r)) (10 ∷ []))

-- ---- the lines that are read

pub on_ok : {T E P : Type 0} (r : Result T E) → is_err r ≡ false → OnOk r P → P
on_ok (Ok x) fine h = h
on_ok (Err e) fine h = absurd (let f : true ≡ false = fine in cc)

-- if what is written for a report differs from the line, the report is not written as the line
pub not_written : (r s : Report) (line text : List ℕ) → s ≡ r → text ≡ report_line s → report_line r ≡ line → same text line ≡ false → ⊥
not_written r s line text e w is other =
    let f : text ≡ line = w ∙ ap report_line e ∙ is in
    let g : same line line ≡ false = subst (λ (t : List ℕ). same t line ≡ false) f other in
    let h : same line line ≡ true = same-refl line in
    cc
