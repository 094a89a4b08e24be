-- Lines that are too long for a record.
use Rattle.std.proofs.Common.{◌≡◌, ℕ, ◌+◌, ◌-◌, ◌*◌, ◌%◌, ◌<◌, ◌≤◌, ◌==◌, ◌&&◌, ◌||◌, ◌⊎◌, Bool, true, false, cond, nat_lt, List, [], ◌∷◌, ◌++◌, length, get_or, take, drop, append_assoc, Option, Some, None, Result, Err, is_some, All, Any, refl, sym, ap, ◌∙◌, subst, arith, inl, inr}
use Rattle.std.proofs.lemmas.Bool.Decides.{nat_tests}
use Rattle.std.proofs.Math.Seq.{take-append-add}
use Rattle.std.specs.Prelude.{slice_index}
use Rattle.std.specs.Str.Lines.{strip_carriage_return}
use Rattle.std.proofs.lemmas.List.{append-nil, get_or_append_left, get_or-append-add, length-append, length-drop, length-take, take-append-drop, take_all, take_rest}
use Rattle.std.proofs.lemmas.List.Elements.{All-head, All-tail, All-take}
use Rattle.std.proofs.lemmas.List.Folds.{list_all-append, list_all_at}
use Rattle.std.specs.Char.{is_ascii_hexdigit}
use Rattle.std.specs.Int.{is_in_range}
use Rattle.std.specs.List.{list_all}
use Rattle.dg_base.proofs.HexLemmas.{ahead_of-nil, hex_bytes-some, hex_bytes-none}
use Rattle.dg_base.specs.Hexadecimal.{hex_bytes, hex_value, is_hex_digit, onto_bytes}
use Rattle.dg_base.specs.Outside.{ahead_of}
use Rattle.dg_ihex.specs.declared.faults.HexCause.{HexCause}
use Rattle.dg_ihex.specs.declared.faults.HexCause.TheVariants as causes
use Rattle.dg_ihex.specs.declared.record.Record.{Record}
use Rattle.dg_ihex.specs.Sizes.{longest_record}
use Rattle.dg_ihex.specs.Records.{record_of, record_of_bytes, record_of_digits}
use Rattle.dg_ihex.specs.Files.{judged, records_of}
use Rattle.dg_ihex.specs.inner.Words.{to_list}
use Rattle.dg_ihex.specs.Streams.{ReadsAlike, SaysAlike, Stays}

-- ---- digits, and those after them

behind_pair : (o p : Option ℕ) (r s : Option (List ℕ)) (bytes : List ℕ) (more : Option (List ℕ)) → onto_bytes o p r ≡ Some bytes → ((found : List ℕ) → r ≡ Some found → s ≡ ahead_of found more)
    → onto_bytes o p s ≡ ahead_of bytes more
behind_pair (Some high) (Some low) (Some found) s bytes None h g =
    ap (onto_bytes (Some high) (Some low)) (g found refl)
behind_pair (Some high) (Some low) (Some found) s bytes (Some more) h g =
    let e : (high * 16 + low) ∷ found ≡ bytes = cc in
    ap (onto_bytes (Some high) (Some low)) (g found refl) ∙ ap (λ t. Some (t ++ more)) e
behind_pair (Some high) (Some low) None s bytes more h g = cc
behind_pair (Some high) None r s bytes more h g = cc
behind_pair None p r s bytes more h g = cc

hex_bytes-behind : (digits more bytes : List ℕ) → hex_bytes digits ≡ Some bytes → hex_bytes (digits ++ more) ≡ ahead_of bytes (hex_bytes more)
unfolding hex_bytes
hex_bytes-behind [] more bytes h =
    let e : [] ≡ bytes = cc in
    sym (ahead_of-nil (hex_bytes more)) ∙ ap (λ t. ahead_of t (hex_bytes more)) e
hex_bytes-behind (c ∷ []) more bytes h = cc
hex_bytes-behind (c ∷ d ∷ digits) more bytes h =
    behind_pair (hex_value c) (hex_value d) (hex_bytes digits) (hex_bytes (digits ++ more)) bytes (hex_bytes more) h (λ found e. hex_bytes-behind digits more found e)

either : (o : Option (List ℕ)) → (o ≡ None) ⊎ ((bytes : List ℕ) × (o ≡ Some bytes))
either None = inl refl
either (Some bytes) = inr (bytes, refl)

-- a digit and a byte that is not a digit, at one place
unlike : (digits more : List ℕ) → Any (λ c. is_hex_digit c ≡ false) digits → All (λ c. is_hex_digit c ≡ true) (digits ++ more) → ⊥
unlike digits more (k, x, within, at, bad) good =
    let there : get_or (digits ++ more) k x ≡ x = get_or_append_left digits more x k within ∙ at in
    let sure : is_hex_digit x ≡ true = sym (ap is_hex_digit there) ∙ good k x (omega (arith, within, length-append digits more)) in
    cc

-- ---- tests of digits

cases_same : (a b d : Bool) (x y z : ℕ) → ((a || b) || d) ≡ is_some (cond a (Some x) (cond b (Some y) (cond d (Some z) None)))
cases_same true b d x y z = refl
cases_same false true d x y z = refl
cases_same false false true x y z = refl
cases_same false false false x y z = refl

pub hexdigit : (c : ℕ) → is_ascii_hexdigit c ≡ is_hex_digit c
hexdigit c = cases_same (is_in_range 48 57 c) (is_in_range 65 70 c) (is_in_range 97 102 c) (c - 48) (c - 55) (c - 87)

apart : true ≡ false → ⊥
apart e = cc

all_true : (digits : List ℕ) → All (λ c. is_hex_digit c ≡ true) digits → list_all is_hex_digit digits ≡ true
all_true [] h = refl
all_true (c ∷ digits) h =
    ap (λ b. b && list_all is_hex_digit digits) (All-head (λ c. is_hex_digit c ≡ true) c digits h) ∙ all_true digits (All-tail (λ c. is_hex_digit c ≡ true) c digits h)

hex_bytes-bad : (digits more : List ℕ) → list_all is_hex_digit digits ≡ false → hex_bytes (digits ++ more) ≡ None
hex_bytes-bad digits more bad =
    elim (either (hex_bytes (digits ++ more))) [
      | inl none ↦ none
      | inr (bytes, e) ↦ absurd (apart (sym (all_true (digits ++ more) ((hex_bytes-some (digits ++ more) bytes e).1)) ∙ list_all-append is_hex_digit digits more ∙ ap (λ b. b && list_all is_hex_digit more) bad))
    ]

hex_bytes-good : (digits : List ℕ) → length digits % 2 ≡ 0 → list_all is_hex_digit digits ≡ true → (bytes : List ℕ) × (hex_bytes digits ≡ Some bytes)
hex_bytes-good digits even good =
    elim (either (hex_bytes digits)) [
      | inl none ↦ elim (hex_bytes-none digits none) [
        | inl odd ↦ absurd (omega (arith, odd, even))
        | inr (k, x, within, at, bad) ↦ absurd (apart (sym good ∙ list_all_at is_hex_digit digits k x within (ap is_hex_digit at ∙ bad)))
      ]
      | inr found ↦ found
    ]

-- a prefix of digits
hex_bytes-front : (n : ℕ) (digits bytes : List ℕ) → hex_bytes digits ≡ Some bytes → 2 * n ≤ length digits → (front : List ℕ) × (hex_bytes (take (2 * n) digits) ≡ Some front) × (length front ≡ n)
hex_bytes-front n digits bytes h few =
    let all = hex_bytes-some digits bytes h in
    let front = take (2 * n) digits in
    let long = length-take (2 * n) digits in
    elim (either (hex_bytes front)) [
      | inl none ↦ elim (hex_bytes-none front none) [
        | inl odd ↦ absurd (omega (arith, odd, long, few))
        | inr bad ↦ absurd (unlike front [] bad (subst (All (λ c. is_hex_digit c ≡ true)) (sym (append-nil front)) (All-take (λ c. is_hex_digit c ≡ true) (2 * n) digits all.1)))
      ]
      | inr (found, e) ↦ (found, e, (let g = (hex_bytes-some front found e).0 in omega (arith, g, long, few)))
    ]

-- ---- records of too many bytes

count_of : (n first : ℕ) (rest : Result Record HexCause) → 260 < n → first < 256 → cond (nat_lt n 5) (Err causes.Count) (cond (n == first + 5) rest (Err causes.Count)) ≡ Err causes.Count
count_of n first rest long small =
    let b : nat_lt n 5 ≡ false = grind (arith, nat_tests) in
    let c : (n == first + 5) ≡ false = grind (arith, nat_tests) in
    rw (b, c) refl

long_bytes : (bytes : List ℕ) → 260 < length bytes → slice_index bytes 0 < 256 → record_of_bytes bytes ≡ Err causes.Count
unfolding record_of_bytes
long_bytes bytes long small = count_of (length bytes) (slice_index bytes 0) _ long small

abbrev long_answer : Option (List ℕ) → Result Record HexCause
long_answer None = Err causes.Hex
long_answer (Some bytes) = Err causes.Count

long_by : (bytes : List ℕ) (o : Option (List ℕ)) → 260 < length bytes → All (λ b. b < 256) bytes → record_of_digits (ahead_of bytes o) ≡ long_answer o
long_by bytes None long small = refl
long_by bytes (Some more) long small =
    let first = small 0 0 (omega arith) in
    long_bytes (bytes ++ more) (omega (arith, length-append bytes more)) (subst (λ b. b < 256) (sym (get_or_append_left bytes more 0 0 (omega arith))) first)

long_digits : (digits more bytes : List ℕ) → hex_bytes digits ≡ Some bytes → 260 < length bytes → record_of_digits (hex_bytes (digits ++ more)) ≡ long_answer (hex_bytes more)
long_digits digits more bytes h long =
    ap record_of_digits (hex_bytes-behind digits more bytes h) ∙ long_by bytes (hex_bytes more) long ((hex_bytes-some digits bytes h).2)

-- ---- prefixes

alike_behind : (first : ℕ) (short digits : List ℕ) → ((more : List ℕ) → record_of_digits (hex_bytes (short ++ more)) ≡ record_of_digits (hex_bytes (digits ++ more))) → ReadsAlike (first ∷ short) (first ∷ digits)
unfolding record_of
alike_behind first short digits h = record {
  some = omega arith;
  alike = λ more. ap (λ (r : Result Record HexCause). cond (first == 58) r (Err causes.Start)) (h more);
}

good_front : (n first : ℕ) (digits bytes : List ℕ) → hex_bytes digits ≡ Some bytes → 260 < n → 2 * n ≤ length digits → ReadsAlike (first ∷ take (2 * n) digits) (first ∷ digits)
good_front n first digits bytes h long few =
    let front = hex_bytes-front n digits bytes h few in
    let all = hex_bytes-some digits bytes h in
    alike_behind first (take (2 * n) digits) digits
    (λ more. long_digits (take (2 * n) digits) more front.0 front.1 (omega (arith, front.2, long)) ∙ sym (long_digits digits more bytes h (omega (arith, all.0, long, few))))

long_front : (first : ℕ) (digits : List ℕ) → list_all is_hex_digit digits ≡ true → longest_record < length digits → length digits % 2 ≡ 0 → ReadsAlike (take (longest_record + 2) (first ∷ digits)) (first ∷ digits)
long_front first digits good long even =
    let h = hex_bytes-good digits even good in
    good_front 261 first digits h.0 h.1 (omega arith) (omega arith)

-- the bytes after the first
pub digits_front : (front short shown : List ℕ) → list_all is_hex_digit shown ≡ true → shown ≡ take (length front - 1) (drop 1 front) → short ≡ take (longest_record + 2) front
    → longest_record + 1 < length front → length front % 2 ≡ 1 → ReadsAlike short front
digits_front [] short shown good same is long odd = absurd (omega arith)
digits_front (first ∷ digits) short shown good same is long odd =
    let all : shown ≡ digits = same ∙ take_all (length (first ∷ digits) - 1) digits (omega arith) in
    subst (λ s. ReadsAlike s (first ∷ digits)) (sym is) (long_front first digits (ap (list_all is_hex_digit) (sym all) ∙ good) (omega arith) (omega arith))

no_digit : (more : List ℕ) → hex_bytes (120 ∷ more) ≡ None
no_digit more = hex_bytes-bad (120 ∷ []) more refl

pub broken_front : (front short shown : List ℕ) → list_all is_hex_digit shown ≡ false → shown ≡ take (length front - 1) (drop 1 front) → short ≡ slice_index front 0 ∷ 120 ∷ []
    → 0 < length front → ReadsAlike short front
broken_front [] short shown bad same is some = absurd (omega arith)
broken_front (first ∷ digits) short shown bad same is some =
    let all : shown ≡ digits = same ∙ take_all (length (first ∷ digits) - 1) digits (omega arith) in
    let wrong : list_all is_hex_digit digits ≡ false = ap (list_all is_hex_digit) (sym all) ∙ bad in
    subst (λ s. ReadsAlike s (first ∷ digits)) (sym is)
    (alike_behind first (120 ∷ []) digits (λ more. ap record_of_digits (no_digit more ∙ sym (hex_bytes-bad digits more wrong))))

-- ---- whole lines

pub says : (x y : List ℕ) → 0 < length x → 0 < length y → record_of x ≡ record_of y → SaysAlike x y
says [] y s t e = absurd (omega arith)
says (a ∷ x) [] s t e = absurd (omega arith)
says (a ∷ x) (b ∷ y) s t e = record { causes = λ before. ap (judged (records_of before)) e; records = ap to_list e }

cond_front : (b : Bool) (front x y : List ℕ) → cond b (front ++ x) (front ++ y) ≡ front ++ cond b x y
cond_front true front x y = refl
cond_front false front x y = refl

-- a CR at the end of a line is one at the end of its rest
strip_behind : (front rest : List ℕ) → 0 < length rest → strip_carriage_return (front ++ rest) ≡ front ++ strip_carriage_return rest
strip_behind front rest some =
    let whole = front ++ rest in
    let last : length whole - 1 ≡ length front + (length rest - 1) = omega (arith, length-append front rest) in
    ap (λ n. cond (get_or whole n 0 == 13) (take n whole) whole) last
    ∙ ap (λ b. cond (b == 13) (take (length front + (length rest - 1)) whole) whole) (get_or-append-add front rest (length rest - 1) 0)
    ∙ ap (λ t. cond (get_or rest (length rest - 1) 0 == 13) t whole) (take-append-add front rest (length rest - 1))
    ∙ cond_front (get_or rest (length rest - 1) 0 == 13) front (take (length rest - 1) rest) rest

reads_last : (short front rest : List ℕ) → ReadsAlike short front → 0 < length front → 0 < length rest → (more : List ℕ) → SaysAlike ((short ++ rest) ++ more) ((front ++ rest) ++ more)
reads_last short front rest h some others more =
    let a = append_assoc short rest more in
    let b = append_assoc front rest more in
    let n = h.some in
    says ((short ++ rest) ++ more) ((front ++ rest) ++ more)
    (omega (arith, length-append (short ++ rest) more, length-append short rest, n)) (omega (arith, length-append (front ++ rest) more, length-append front rest, some))
    (ap record_of a ∙ h.alike (rest ++ more) ∙ ap record_of (sym b))

reads_ended : (short front rest : List ℕ) → ReadsAlike short front → 0 < length front → 0 < length rest → (more : List ℕ)
    → SaysAlike (strip_carriage_return ((short ++ rest) ++ more)) (strip_carriage_return ((front ++ rest) ++ more))
reads_ended short front rest h some others more =
    let tail : 0 < length (rest ++ more) = omega (arith, length-append rest more, others) in
    let a : strip_carriage_return ((short ++ rest) ++ more) ≡ short ++ strip_carriage_return (rest ++ more) = ap strip_carriage_return (append_assoc short rest more) ∙ strip_behind short (rest ++ more) tail in
    let b : strip_carriage_return ((front ++ rest) ++ more) ≡ front ++ strip_carriage_return (rest ++ more) = ap strip_carriage_return (append_assoc front rest more) ∙ strip_behind front (rest ++ more) tail in
    let n = h.some in
    let end = strip_carriage_return (rest ++ more) in
    subst (λ x. SaysAlike x (strip_carriage_return ((front ++ rest) ++ more))) (sym a)
    (subst (SaysAlike (short ++ end)) (sym b)
    (says (short ++ end) (front ++ end) (omega (arith, length-append short end, n)) (omega (arith, length-append front end, some)) (h.alike end)))

pub shorter : (short front rest : List ℕ) → ReadsAlike short front → 0 < length front → 0 < length rest → Stays (short ++ rest) (front ++ rest)
shorter short front rest h some others = record {
  some = λ _. omega (arith, length-append short rest, others);
  only = λ _. omega (arith, length-append front rest, others);
  last = reads_last short front rest h some others;
  ended = reads_ended short front rest h some others;
}

-- ---- what stays

alike_refl : (x : List ℕ) → SaysAlike x x
alike_refl x = record { causes = λ before. refl; records = refl }

alike_trans : (x y z : List ℕ) → SaysAlike x y → SaysAlike y z → SaysAlike x z
alike_trans x y z h k = record { causes = λ before. h.causes before ∙ k.causes before; records = h.records ∙ k.records }

pub stays_same : (line : List ℕ) → Stays line line
stays_same line = record { some = λ h. h; only = λ h. h; last = λ more. alike_refl (line ++ more); ended = λ more. alike_refl (strip_carriage_return (line ++ more)) }

pub stays_trans : (short kept line : List ℕ) → Stays short kept → Stays kept line → Stays short line
stays_trans short kept line h k = record {
  some = λ l. h.some (k.some l);
  only = λ l. k.only (h.only l);
  last = λ more. alike_trans (short ++ more) (kept ++ more) (line ++ more) (h.last more) (k.last more);
  ended = λ more. alike_trans (strip_carriage_return (short ++ more)) (strip_carriage_return (kept ++ more)) (strip_carriage_return (line ++ more)) (h.ended more) (k.ended more);
}

some_more : (kept line bytes : List ℕ) → (0 < length line → 0 < length kept) → 0 < length (line ++ bytes) → 0 < length (kept ++ bytes)
some_more kept [] bytes h l = omega (arith, length-append kept bytes, l)
some_more kept (c ∷ line) bytes h l = let some = h (omega arith) in omega (arith, length-append kept bytes, some)

pub stays_more : (kept line bytes : List ℕ) → Stays kept line → Stays (kept ++ bytes) (line ++ bytes)
stays_more kept line bytes h = record {
  some = λ l. some_more kept line bytes h.some l;
  only = λ l. some_more line kept bytes h.only l;
  last = λ more. subst (λ x. SaysAlike x ((line ++ bytes) ++ more)) (sym (append_assoc kept bytes more)) (subst (SaysAlike (kept ++ (bytes ++ more))) (sym (append_assoc line bytes more)) (h.last (bytes ++ more)));
  ended = λ more. subst (λ x. SaysAlike (strip_carriage_return x) (strip_carriage_return ((line ++ bytes) ++ more))) (sym (append_assoc kept bytes more))
      (subst (λ y. SaysAlike (strip_carriage_return (kept ++ (bytes ++ more))) (strip_carriage_return y)) (sym (append_assoc line bytes more)) (h.ended (bytes ++ more)));
}

-- a line whose prefix is shortened
pub line_short : (line short kept : List ℕ) (front : ℕ) → ReadsAlike short (take front line) → 0 < front → front < length line → kept ≡ short ++ take (length line - front) (drop front line) → Stays kept line
line_short line short kept front h some within is =
    let rest = drop front line in
    let k : kept ≡ short ++ rest = is ∙ ap (λ t. short ++ t) (take_rest line front) in
    subst (λ x. Stays x line) (sym k)
    (subst (Stays (short ++ rest)) (take-append-drop front line) (shorter short (take front line) rest h (omega (arith, length-take front line, some, within)) (omega (arith, length-drop front line, within))))
