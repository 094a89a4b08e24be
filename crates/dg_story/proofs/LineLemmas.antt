-- Stamps, and what comes after them.
use Rattle.std.proofs.Common.{◌≡◌, ◌≢◌, ℕ, zero, suc, ◌+◌, ◌^◌, ◌<◌, List, [], ◌∷◌, ◌++◌, length, get_or, take, drop, true, false, Option, Some, None, is_some, Result, Ok, decimal, refl, ap, sym, ◌∙◌, subst, arith}
use Rattle.std.proofs.lemmas.Bool.{eqb-true, eq-eqb}
use Rattle.std.proofs.lemmas.List.{take-append-drop, drop_more, length-append, get_or-take, length-take}
use Rattle.std.proofs.lemmas.Fmt.{decimal_is_IsNumeral, IsAscii-decimal, parse-decimal}
use Rattle.std.proofs.lemmas.Str.{IsUtf8-from_ascii}
use Rattle.std.proofs.lemmas.Str.Parse.{digit_from_value}
use Rattle.std.specs.Str.{IsUtf8}
use Rattle.std.specs.Str.Parse.{AllDigits, ParsesUnsigned}
use Rattle.memchr.specs.Find.{NoneBefore, Nowhere, Passes, is_byte}
use Rattle.dg_story.specs.Lines.{with_stamp, report_line_text}
use Rattle.dg_script.specs.Report.{report_line}
use Rattle.dg_story.specs.Reading.{FitsStamp, IsNoReport, IsNoLine}
use Rattle.dg_story.specs.declared.lines.Stamp.{Stamp}

-- no space in a text
abbrev pub NoSpace : List ℕ → Type 0
NoSpace xs = (k : ℕ) → k < length xs → get_or xs k 0 ≢ 32

digits_no_space : (ds : List ℕ) → AllDigits 10 ds → NoSpace ds
digits_no_space [] d k h e = omega (arith, h)
digits_no_space (c ∷ cs) d zero h e = omega (arith, digit_from_value c d.0, e)
digits_no_space (c ∷ cs) d (suc k) h e = digits_no_space cs d.1 k (omega (arith, h)) e

pub decimal_no_space : (n : ℕ) → n < 2 ^ 64 → NoSpace (decimal n)
decimal_no_space n h = digits_no_space (decimal n) (decimal_is_IsNumeral n h).0.1

-- a text before the first space, and the text after it, are one text's alone
pub split_once : (xs ys rest more : List ℕ) → NoSpace xs → NoSpace ys → xs ++ 32 ∷ rest ≡ ys ++ 32 ∷ more → (xs ≡ ys) × (rest ≡ more)
split_once [] [] rest more p q e = (refl, ap (λ (zs : List ℕ). drop 1 zs) e)
split_once [] (y ∷ ys) rest more p q e = absurd (q 0 (omega arith) (sym (ap (λ (zs : List ℕ). get_or zs 0 0) e)))
split_once (x ∷ xs) [] rest more p q e = absurd (p 0 (omega arith) (ap (λ (zs : List ℕ). get_or zs 0 0) e))
split_once (x ∷ xs) (y ∷ ys) rest more p q e =
    let tail : xs ++ 32 ∷ rest ≡ ys ++ 32 ∷ more = ap (λ (zs : List ℕ). drop 1 zs) e in
    let head : x ≡ y = ap (λ (zs : List ℕ). get_or zs 0 0) e in
    let same = split_once xs ys rest more (λ k h. p (suc k) (omega (arith, h))) (λ k h. q (suc k) (omega (arith, h))) tail in
    (ap (λ n. n ∷ xs) head ∙ ap (λ (zs : List ℕ). y ∷ zs) same.0, same.1)

-- a number that is printed is read
pub is_text : (n : ℕ) (bytes : List ℕ) → n < 2 ^ 64 → bytes ≡ decimal n → IsUtf8 bytes
is_text n bytes h e = subst IsUtf8 (sym e) (IsUtf8-from_ascii (decimal n) (IsAscii-decimal n h))

pub parsed : {E : Type 0} (n : ℕ) (bytes : List ℕ) (r : Result ℕ E) → n < 2 ^ 64 → bytes ≡ decimal n → ParsesUnsigned 64 10 bytes r → r ≡ Ok n
parsed n bytes r h e p = parse-decimal 64 n bytes r h h e p

-- where the first space stands
pub at_space : (bytes : List ℕ) (at : ℕ) → at < length bytes → get_or bytes at 0 ≡ 32 → bytes ≡ take at bytes ++ 32 ∷ drop (at + 1) bytes
at_space bytes at within h =
    sym (take-append-drop at bytes) ∙ ap (λ (xs : List ℕ). take at bytes ++ xs) (drop_more bytes at 0 within ∙ ap (λ b. b ∷ drop (at + 1) bytes) h)

front_no_space : (bytes : List ℕ) (at : ℕ) → Nowhere (Passes (is_byte 32) bytes) 0 at → NoSpace (take at bytes)
front_no_space bytes at h k within e =
    let short : k < at = let m = length-take at bytes in omega (arith, within, m) in
    h k (omega arith) short (eq-eqb _ _ (sym (get_or-take at bytes k 0 short) ∙ e))

pub space_splits : (bytes : List ℕ) (at n : ℕ) (rest : List ℕ) → NoneBefore (Passes (is_byte 32) bytes) 0 (length bytes) at × Passes (is_byte 32) bytes at
    → n < 2 ^ 64 → bytes ≡ decimal n ++ 32 ∷ rest → (take at bytes ≡ decimal n) × (drop (at + 1) bytes ≡ rest)
space_splits bytes at n rest h small e =
    split_once (take at bytes) (decimal n) (drop (at + 1) bytes) rest (front_no_space bytes at h.0.before) (decimal_no_space n small)
    (sym (at_space bytes at h.0.high (eqb-true _ _ h.1)) ∙ e)

seam : (xs rest : List ℕ) → get_or (xs ++ 32 ∷ rest) (length xs) 0 ≡ 32
seam [] rest = refl
seam (x ∷ xs) rest = seam xs rest

-- no number before a space
pub no_space_no_number : (bytes : List ℕ) → Nowhere (Passes (is_byte 32) bytes) 0 (length bytes) → (n : ℕ) (rest : List ℕ) → n < 2 ^ 64 → bytes ≢ decimal n ++ 32 ∷ rest
no_space_no_number bytes h n rest small e =
    let size : length bytes ≡ length (decimal n) + length (32 ∷ rest) = ap length e ∙ length-append (decimal n) (32 ∷ rest) in
    h (length (decimal n)) (omega arith) (omega (arith, size))
    (eq-eqb _ _ (ap (λ (zs : List ℕ). get_or zs (length (decimal n)) 0) e ∙ seam (decimal n) rest))

pub front_no_number : (bytes : List ℕ) (at : ℕ) → NoneBefore (Passes (is_byte 32) bytes) 0 (length bytes) at × Passes (is_byte 32) bytes at
    → ((n : ℕ) → n < 2 ^ 64 → take at bytes ≢ decimal n) → (n : ℕ) (rest : List ℕ) → n < 2 ^ 64 → bytes ≢ decimal n ++ 32 ∷ rest
front_no_number bytes at h none n rest small e = none n small (space_splits bytes at n rest h small e).0

pub number_before : (bytes : List ℕ) (at n : ℕ) → NoneBefore (Passes (is_byte 32) bytes) 0 (length bytes) at × Passes (is_byte 32) bytes at
    → take at bytes ≡ decimal n → bytes ≡ decimal n ++ 32 ∷ drop (at + 1) bytes
number_before bytes at n h e =
    at_space bytes at h.0.high (eqb-true _ _ h.1) ∙ ap (λ (xs : List ℕ). xs ++ 32 ∷ drop (at + 1) bytes) e

-- stamps
stamp_tail : (line rest : List ℕ) (stamp : Stamp) → line ≡ with_stamp (Some stamp) rest → drop 1 line ≡ decimal stamp.event ++ 32 ∷ (decimal stamp.ms ++ 32 ∷ rest)
stamp_tail line rest stamp e = ap (λ (zs : List ℕ). drop 1 zs) e

stamp_head : (line rest : List ℕ) (stamp : Stamp) → line ≡ with_stamp (Some stamp) rest → get_or line 0 0 ≡ 64
stamp_head line rest stamp e = ap (λ (zs : List ℕ). get_or zs 0 0) e

pub other_head : (line : List ℕ) → get_or line 0 0 ≢ 64 → (stamp : Stamp) (rest : List ℕ) → FitsStamp (Some stamp) → line ≢ with_stamp (Some stamp) rest
other_head line h stamp rest fits e = h (stamp_head line rest stamp e)

pub no_bytes : (line : List ℕ) → length line ≡ 0 → (stamp : Stamp) (rest : List ℕ) → FitsStamp (Some stamp) → line ≢ with_stamp (Some stamp) rest
no_bytes [] h stamp rest fits e = absurd (let f : 0 ≡ 64 = stamp_head [] rest stamp e in omega (arith, f))
no_bytes (x ∷ xs) h stamp rest fits e = absurd (omega (arith, h))

pub no_event : (line : List ℕ) → ((n : ℕ) (rest : List ℕ) → n < 2 ^ 64 → drop 1 line ≢ decimal n ++ 32 ∷ rest)
    → (stamp : Stamp) (rest : List ℕ) → FitsStamp (Some stamp) → line ≢ with_stamp (Some stamp) rest
no_event line h stamp rest fits e = h stamp.event (decimal stamp.ms ++ 32 ∷ rest) fits.0 (stamp_tail line rest stamp e)

pub no_ms : (line behind : List ℕ) (event : ℕ) → event < 2 ^ 64 → drop 1 line ≡ decimal event ++ 32 ∷ behind
    → ((n : ℕ) (rest : List ℕ) → n < 2 ^ 64 → behind ≢ decimal n ++ 32 ∷ rest)
    → (stamp : Stamp) (rest : List ℕ) → FitsStamp (Some stamp) → line ≢ with_stamp (Some stamp) rest
no_ms line behind event small is h stamp rest fits e =
    let same = split_once (decimal event) (decimal stamp.event) behind (decimal stamp.ms ++ 32 ∷ rest) (decimal_no_space event small)
    (decimal_no_space stamp.event fits.0) (sym is ∙ stamp_tail line rest stamp e) in
    h stamp.ms rest fits.1 same.1

head_is : (line : List ℕ) → get_or line 0 0 ≡ 64 → line ≡ 64 ∷ drop 1 line
head_is [] h = absurd (omega (arith, h))
head_is (x ∷ xs) h = ap (λ n. n ∷ xs) h

pub stamp_is : (line behind rest : List ℕ) (event ms : ℕ) → get_or line 0 0 ≡ 64 → drop 1 line ≡ decimal event ++ 32 ∷ behind → behind ≡ decimal ms ++ 32 ∷ rest
    → line ≡ with_stamp (Some (record { event = event; ms = ms })) rest
stamp_is line behind rest event ms h p q =
    head_is line h ∙ ap (λ (zs : List ℕ). 64 ∷ zs) (p ∙ ap (λ (zs : List ℕ). decimal event ++ 32 ∷ zs) q)

stamps_same : (a b : Stamp) (p q : List ℕ) → FitsStamp (Some a) → FitsStamp (Some b) → with_stamp (Some a) p ≡ with_stamp (Some b) q → p ≡ q
stamps_same a b p q f g e =
    let first = split_once (decimal a.event) (decimal b.event) (decimal a.ms ++ 32 ∷ p) (decimal b.ms ++ 32 ∷ q) (decimal_no_space a.event f.0)
    (decimal_no_space b.event g.0) (ap (λ (zs : List ℕ). drop 1 zs) e) in
    (split_once (decimal a.ms) (decimal b.ms) p q (decimal_no_space a.ms f.1) (decimal_no_space b.ms g.1) first.1).1

-- no line
no_stamp_by : (o : Option Stamp) (text line : List ℕ) → ((stamp : Stamp) (rest : List ℕ) → FitsStamp (Some stamp) → line ≢ with_stamp (Some stamp) rest)
    → FitsStamp o → is_some o ≡ true → with_stamp o text ≢ line
no_stamp_by None text line h fits timed e = absurd (let f : false ≡ true = timed in cc)
no_stamp_by (Some stamp) text line h fits timed e = h stamp text fits (sym e)

pub no_stamp_no_line : (line : List ℕ) → ((stamp : Stamp) (rest : List ℕ) → FitsStamp (Some stamp) → line ≢ with_stamp (Some stamp) rest) → IsNoLine true line
unfolding report_line_text
no_stamp_no_line line h l fits of e = no_stamp_by l.stamp (report_line l.report) line h fits.0 of.0 e

other_by : (o : Option Stamp) (stamp : Stamp) (text rest line : List ℕ) → FitsStamp (Some stamp) → line ≡ with_stamp (Some stamp) rest → FitsStamp o → is_some o ≡ true
    → with_stamp o text ≡ line → text ≡ rest
other_by None stamp text rest line g is fits timed e = absurd (let f : false ≡ true = timed in cc)
other_by (Some s) stamp text rest line g is fits timed e = stamps_same s stamp text rest fits g (e ∙ is)

pub rest_no_line : (line rest : List ℕ) (stamp : Stamp) → FitsStamp (Some stamp) → line ≡ with_stamp (Some stamp) rest → IsNoReport rest → IsNoLine true line
unfolding report_line_text
rest_no_line line rest stamp g is h l fits of e =
    h l.report fits.1 of.1 (other_by l.stamp stamp (report_line l.report) rest line g is fits.0 of.0 e)

plain_by : (o : Option Stamp) (text line : List ℕ) → is_some o ≡ false → with_stamp o text ≡ line → text ≡ line
plain_by None text line plain e = e
plain_by (Some s) text line plain e = absurd (let f : true ≡ false = plain in cc)

pub plain_no_line : (line : List ℕ) → IsNoReport line → IsNoLine false line
unfolding report_line_text
plain_no_line line h l fits of e = h l.report fits.1 of.1 (plain_by l.stamp (report_line l.report) line of.0 e)

-- the words of a last line
pub stamped_ending : (line rest words : List ℕ) (stamp : Stamp) → line ≡ with_stamp (Some stamp) rest → rest ≡ words ++ 10 ∷ []
    → line ≡ with_stamp (Some stamp) (words ++ 10 ∷ [])
stamped_ending line rest words stamp e p = e ∙ ap (λ (zs : List ℕ). with_stamp (Some stamp) zs) p

pub ruleset numbers_read = (is_text, parsed)

pub ruleset numbers_taken = (no_space_no_number, front_no_number, number_before)

pub ruleset stamps_taken = (other_head, no_bytes, no_event, no_ms, stamp_is)

pub ruleset stamped_lines = (no_stamp_no_line, rest_no_line)
