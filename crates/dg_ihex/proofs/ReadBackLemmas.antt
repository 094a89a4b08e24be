-- A line that is written is read back.
use Rattle.std.proofs.Common.{◌≡◌, ℕ, ◌+◌, ◌-◌, ◌*◌, ◌/◌, ◌%◌, ◌<◌, ◌≤◌, ◌==◌, nat_lt, Bool, true, false, cond, List, [], ◌∷◌, ◌++◌, length, sum, get_or, take, All, Option, Some, None, unwrap_or, Result, refl, ap, ◌∙◌, arith}
use Rattle.std.specs.Prelude.{slice_index, slice_range}
use Rattle.std.specs.Char.{to_ascii_uppercase}
use Rattle.std.specs.List.{flat_map}
use Rattle.std.specs.Str.Lines.{lines, strip_carriage_return}
use Rattle.std.proofs.lemmas.Bool.{agree_below_at, eqb-true, ltb-true}
use Rattle.std.proofs.lemmas.Bool.Decides.{nat_tests}
use Rattle.std.proofs.lemmas.List.{append_assoc, length_push, take_at}
use Rattle.std.proofs.lemmas.List.Elements.{All-nil, All-cons, All-head, All-tail, All-push, All-get_or, All-weaker}
use Rattle.std.proofs.lemmas.List.Sums.{fold_push}
use Rattle.dg_base.specs.Hexadecimal.{hex_bytes, hex_digit, hex_text, hex_value, onto_bytes}
use Rattle.dg_base.proofs.LineLemmas.{lines-ended}
use Rattle.dg_ihex.specs.declared.faults.HexCause.{HexCause}
use Rattle.dg_ihex.specs.declared.record.Record.{Record}
use Rattle.dg_ihex.specs.Records.{record_of, record_of_bytes, record_of_digits, typed_record}
use Rattle.dg_ihex.specs.Written.{record_checksum, with_checksum, fields_of_record, line_of_record}
use Rattle.dg_ihex.specs.inner.Words.{upper_hex}
use Rattle.dg_ihex.specs.inner.Words.{ended_by_feed}

-- ---- digits

abbrev pub IsByte : ℕ → Type 0
IsByte b = b < 256

known : (o : Option ℕ) (v : ℕ) → unwrap_or o 255 ≡ v → v < 16 → o ≡ Some v
known (Some w) v e h = ap Some e
known None v e h = absurd (omega arith)

upper_digit : (v : ℕ) → v < 16 → hex_value (to_ascii_uppercase (hex_digit v)) ≡ Some v
upper_digit v h =
    known (hex_value (to_ascii_uppercase (hex_digit v))) v
    (eqb-true _ _ (agree_below_at (λ v. unwrap_or (hex_value (to_ascii_uppercase (hex_digit v))) 255 == v) (λ _. true) 16 v refl h)) h

-- a byte that is not part of a line's end
abbrev pub IsPlain : ℕ → Type 0
IsPlain b = 13 < b

plain_digit : (v : ℕ) → v < 16 → IsPlain (to_ascii_uppercase (hex_digit v))
plain_digit v h = ltb-true _ _ (agree_below_at (λ v. nat_lt 13 (to_ascii_uppercase (hex_digit v))) (λ _. true) 16 v refl h)

joins : (o p : Option ℕ) (r : Option (List ℕ)) (high low : ℕ) (bytes : List ℕ) → o ≡ Some high → p ≡ Some low → r ≡ Some bytes → onto_bytes o p r ≡ Some ((high * 16 + low) ∷ bytes)
joins o p r high low bytes a b c = rw (a, b, c) refl

pub hex_bytes-upper_hex : (bytes : List ℕ) → All IsByte bytes → hex_bytes (upper_hex bytes) ≡ Some bytes
unfolding hex_bytes hex_text
hex_bytes-upper_hex [] h = refl
hex_bytes-upper_hex (b ∷ bytes) h =
    let small : b < 256 = All-head IsByte b bytes h in
    let whole : b / 16 * 16 + b % 16 ≡ b = omega arith in
    joins _ _ _ (b / 16) (b % 16) bytes (upper_digit (b / 16) (omega arith)) (upper_digit (b % 16) (omega arith)) (hex_bytes-upper_hex bytes (All-tail IsByte b bytes h))
    ∙ ap (λ v. Some (v ∷ bytes)) whole

plain_hex : (bytes : List ℕ) → All IsByte bytes → All IsPlain (upper_hex bytes)
unfolding hex_text
plain_hex [] h = All-nil IsPlain
plain_hex (b ∷ bytes) h =
    let small : b < 256 = All-head IsByte b bytes h in
    let high = to_ascii_uppercase (hex_digit (b / 16)) in
    let low = to_ascii_uppercase (hex_digit (b % 16)) in
    All-cons IsPlain high (low ∷ upper_hex bytes) (plain_digit (b / 16) (omega arith))
    (All-cons IsPlain low (upper_hex bytes) (plain_digit (b % 16) (omega arith)) (plain_hex bytes (All-tail IsByte b bytes h)))

-- ---- the bytes of a record

check_fits : (s : ℕ) → (256 - s % 256) % 256 < 256
check_fits s = omega arith

check_sums : (s : ℕ) → (s + (256 - s % 256) % 256) % 256 ≡ 0
check_sums s = omega arith

pub record FitsLine (kind offset : ℕ) (bytes : List ℕ) : Type 0 where
  pub kind_fits : kind < 256
  pub offset_fits : offset < 65536
  pub few : length bytes < 256
  pub each : All IsByte bytes

fields_fit : (kind offset : ℕ) (bytes : List ℕ) → FitsLine kind offset bytes → All IsByte (with_checksum (fields_of_record kind offset bytes))
fields_fit kind offset bytes h =
    All-push IsByte (fields_of_record kind offset bytes) (record_checksum (fields_of_record kind offset bytes))
    (All-cons IsByte (length bytes) (offset / 256 ∷ offset % 256 ∷ kind ∷ bytes) h.few
    (All-cons IsByte (offset / 256) (offset % 256 ∷ kind ∷ bytes) (let f = h.offset_fits in omega arith)
    (All-cons IsByte (offset % 256) (kind ∷ bytes) (omega arith) (All-cons IsByte kind bytes h.kind_fits h.each))))
    (check_fits (sum (fields_of_record kind offset bytes)))

sum_push : (xs : List ℕ) (y : ℕ) → sum (xs ++ y ∷ []) ≡ sum xs + y
sum_push xs y = fold_push ◌+◌ 0 xs y

chosen : (a b c : Bool) (x y z : Result Record HexCause) → a ≡ false → b ≡ true → c ≡ true → cond a y (cond b (cond c x z) y) ≡ x
chosen a b c x y z p q r = rw (p, q, r) refl

not_short : (n : ℕ) → 5 ≤ n → nat_lt n 5 ≡ false
not_short n h = grind (arith, nat_tests)

same_test : (m n : ℕ) → m ≡ n → (m == n) ≡ true
same_test m n h = grind (arith, nat_tests)

-- bytes that pass the tests
passes : (bytes : List ℕ) → 5 ≤ length bytes → length bytes ≡ slice_index bytes 0 + 5 → sum bytes % 256 ≡ 0
    → record_of_bytes bytes ≡ typed_record (slice_index bytes 3) (slice_index bytes 1 * 256 + slice_index bytes 2) (slice_range bytes 4 (length bytes - 1))
unfolding record_of_bytes
passes bytes long counted sums =
    chosen (nat_lt (length bytes) 5) (length bytes == slice_index bytes 0 + 5) (sum bytes % 256 == 0) _ _ _ (not_short (length bytes) long) (same_test _ _ counted) (same_test _ _ sums)

record_back : (kind offset : ℕ) (bytes : List ℕ) → record_of_bytes (with_checksum (fields_of_record kind offset bytes)) ≡ typed_record kind offset bytes
record_back kind offset bytes =
    let check = record_checksum (fields_of_record kind offset bytes) in
    let whole = with_checksum (fields_of_record kind offset bytes) in
    let long : length whole ≡ length bytes + 5 = omega (arith, length_push bytes check) in
    let sums : sum whole % 256 ≡ 0 = ap (λ n. n % 256) (sum_push (fields_of_record kind offset bytes) check) ∙ check_sums (sum (fields_of_record kind offset bytes)) in
    let count : length bytes ≡ length whole - 1 - 4 = omega (arith, long) in
    let content : slice_range whole 4 (length whole - 1) ≡ bytes = take_at bytes (check ∷ []) (length whole - 1 - 4) count in
    let address : offset / 256 * 256 + offset % 256 ≡ offset = omega arith in
    passes whole (omega (arith, long)) long sums
    ∙ ap (λ o. typed_record kind o (slice_range whole 4 (length whole - 1))) address ∙ ap (typed_record kind offset) content

pub line_back : (kind offset : ℕ) (bytes : List ℕ) → FitsLine kind offset bytes → record_of (line_of_record kind offset bytes) ≡ typed_record kind offset bytes
unfolding record_of line_of_record
line_back kind offset bytes h =
    ap record_of_digits (hex_bytes-upper_hex (with_checksum (fields_of_record kind offset bytes)) (fields_fit kind offset bytes h)) ∙ record_back kind offset bytes

-- ---- lines

plain_line : (kind offset : ℕ) (bytes : List ℕ) → FitsLine kind offset bytes → All IsPlain (line_of_record kind offset bytes)
unfolding line_of_record
plain_line kind offset bytes h = All-cons IsPlain 58 _ (omega arith) (plain_hex (with_checksum (fields_of_record kind offset bytes)) (fields_fit kind offset bytes h))

no_feed : (b : ℕ) → IsPlain b → (b == 10) ≡ false
no_feed b h = grind (arith, nat_tests)

no_return : (b : ℕ) → IsPlain b → (b == 13) ≡ false
no_return b h = grind (arith, nat_tests)

strip_plain : (text : List ℕ) → 0 < length text → All IsPlain text → strip_carriage_return text ≡ text
strip_plain text some h =
    ap (λ t. cond t (take (length text - 1) text) text) (no_return (get_or text (length text - 1) 0) (All-get_or IsPlain text (length text - 1) 0 (omega arith) h))

pub record IsLine (text : List ℕ) : Type 0 where
  pub some : 0 < length text
  pub plain : All IsPlain text

pub line_is : (kind offset : ℕ) (bytes : List ℕ) → FitsLine kind offset bytes → IsLine (line_of_record kind offset bytes)
unfolding line_of_record
line_is kind offset bytes h = record { some = omega arith; plain = plain_line kind offset bytes h }

-- the lines of texts that LF ends are the texts
pub lines_back : (texts : List (List ℕ)) → All IsLine texts → lines (flat_map ended_by_feed texts) ≡ texts
lines_back [] h = refl
lines_back (text ∷ texts) h =
    let line = All-head IsLine text texts h in
    ap lines (append_assoc text (10 ∷ []) (flat_map ended_by_feed texts))
    ∙ lines-ended text (flat_map ended_by_feed texts) (All-weaker IsPlain (λ b. (b == 10) ≡ false) no_feed text line.plain)
    ∙ ap (λ t. t ∷ lines (flat_map ended_by_feed texts)) (strip_plain text line.some line.plain)
    ∙ ap (λ ts. text ∷ ts) (lines_back texts (All-tail IsLine text texts h))
