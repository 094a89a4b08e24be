-- Lines among bytes that are kept.
use Rattle.std.proofs.Common.{◌≡◌, ◌≢◌, ℕ, ◌+◌, ◌-◌, ◌<◌, ◌≤◌, ◌==◌, true, eqb-true, eq-eqb, List, [], ◌∷◌, ◌++◌, length, take, drop, Option, Some, None, Result, Ok, Err, min, refl, sym, ap, ◌∙◌, subst, arith, inl, inr, ⊎_elim, append_assoc, length-append}
use Rattle.std.specs.Prelude.{slice_range, ⊤}
use Rattle.std.specs.Str.Lines.{strip_carriage_return}
use Rattle.dg_script.specs.Sizes.{most_line}
use borrow.Rule.Slice.PartMut.{put_mid}
use Rattle.std.proofs.lemmas.Slice.{take-put_mid}
use Rattle.std.proofs.Math.Seq.{take-append-add}
use Rattle.std.proofs.lemmas.List.{append-nil, drop-drop, drop-take, take-take, take_at, drop_at, take-append-drop, drop_more, length-take, length-drop, get_or_append_left, get_or-append_right}
use Rattle.std.proofs.lemmas.List.Elements.{All-from_get_or}
use Rattle.std.proofs.lemmas.Bool.{cases_lt}
use Rattle.dg_base.proofs.LineLemmas.{FirstFeed, lacks_feed}
use Rattle.dg_base.specs.Outside.{Takes, AtEnd}
use Rattle.dg_lines.specs.declared.line_reader.ReadStop.{ReadStop as Stop}
use Rattle.dg_lines.specs.declared.line_reader.ReadStop.TheVariants.{ReadFault, Long, TooLong}
use Rattle.dg_lines.specs.LineReading.{Reading, most_kept, most_used_bytes, HasNoEnd, EndsAt, NextAnswer, FirstLine, Gives, IsLong}

-- ---- parts of a part

long_enough : (xs : List ℕ) (a b n : ℕ) (p q : List ℕ) → slice_range xs a b ≡ p ++ q → length p ≡ n → n ≤ b - a
long_enough xs a b n p q e l =
    let long : length (slice_range xs a b) ≡ length p + length q = ap length e ∙ length-append p q in
    let most : length (slice_range xs a b) ≡ min (b - a) (length (drop a xs)) = length-take (b - a) (drop a xs) in
    omega (arith, long, most, l)

-- how long a part is
pub part_long : (xs : List ℕ) (a b : ℕ) → b ≤ length xs → length (slice_range xs a b) ≡ b - a
part_long xs a b h =
    let behind : length (drop a xs) ≡ length xs - a = length-drop a xs in
    length-take (b - a) (drop a xs) ∙ omega (arith, behind, h)

pub part_short : (xs : List ℕ) (a b : ℕ) → length (slice_range xs a b) ≤ b - a
part_short xs a b = omega (arith, length-take (b - a) (drop a xs))

pub front_of : (xs : List ℕ) (a b n : ℕ) (p q : List ℕ) → slice_range xs a b ≡ p ++ q → length p ≡ n → slice_range xs a (a + n) ≡ p
front_of xs a b n p q e l =
    let h = long_enough xs a b n p q e l in
    let k : (a + n) - a ≡ n = omega arith in
    ap (λ m. take m (drop a xs)) k ∙ sym (take-take n (b - a) (drop a xs) h) ∙ ap (take n) e ∙ take_at p q n l

pub rest_of : (xs : List ℕ) (a b n : ℕ) (p q : List ℕ) → slice_range xs a b ≡ p ++ q → length p ≡ n → slice_range xs (a + n) b ≡ q
rest_of xs a b n p q e l =
    let h = long_enough xs a b n p q e l in
    let m = b - (a + n) in
    let all : n + m ≡ b - a = omega (arith, h) in
    ap (take m) (sym (drop-drop n a xs)) ∙ sym (drop-take n m (drop a xs)) ∙ ap (λ k. drop n (take k (drop a xs))) all ∙ ap (drop n) e ∙ drop_at p q n l

-- what is searched after the bytes that were searched before
pub searched : (xs : List ℕ) (a b n : ℕ) → a + n ≤ b → slice_range xs (a + n) b ≡ drop n (slice_range xs a b)
searched xs a b n h =
    let m = b - (a + n) in
    let all : n + m ≡ b - a = omega (arith, h) in
    ap (take m) (sym (drop-drop n a xs)) ∙ sym (drop-take n m (drop a xs)) ∙ ap (λ k. drop n (take k (drop a xs))) all

-- ---- no LF in parts

pub no_end_join : (xs ys : List ℕ) → HasNoEnd xs → HasNoEnd ys → HasNoEnd (xs ++ ys)
no_end_join xs ys f g = All-from_get_or (λ c. c ≢ 10) (xs ++ ys) 0 (λ k within. ⊎_elim
    (λ low. subst (λ (c : ℕ). c ≢ 10) (sym (get_or_append_left xs ys 0 k low)) (f k 0 low))
    (λ high.
    let there : k - length xs < length ys = omega (arith, high, within, length-append xs ys) in
    subst (λ (c : ℕ). c ≢ 10) (sym (get_or-append_right xs ys (length xs) k 0 refl high)) (g (k - length xs) 0 there))
    (cases_lt k (length xs)))

pub found_none : (ahead : List ℕ) (looked : ℕ) → HasNoEnd (take looked ahead) → HasNoEnd (drop looked ahead) → HasNoEnd ahead
found_none ahead looked f g = subst HasNoEnd (take-append-drop looked ahead) (no_end_join (take looked ahead) (drop looked ahead) f g)

pub found_at : (ahead : List ℕ) (looked at : ℕ) → looked ≤ length ahead → HasNoEnd (take looked ahead) → FirstFeed (drop looked ahead) at → EndsAt (Some (looked + at)) ahead
found_at ahead looked at within f first =
    let behind = drop looked ahead in
    let low = take looked ahead in
    let split : behind ≡ take at behind ++ 10 ∷ drop (at + 1) behind =
    sym (take-append-drop at behind) ∙ ap (λ t. take at behind ++ t) (drop_more behind at 0 first.within ∙ ap (λ c. c ∷ drop (at + 1) behind) first.feed) in
    let all : ahead ≡ (low ++ take at behind) ++ 10 ∷ drop (at + 1) behind =
    sym (take-append-drop looked ahead) ∙ ap (λ t. low ++ t) split ∙ sym (append_assoc low (take at behind) (10 ∷ drop (at + 1) behind)) in
    let first_long : length (take at behind) ≡ at = length-take at behind ∙ omega (arith, first.within) in
    let long : length (low ++ take at behind) ≡ looked + at = length-append low (take at behind) ∙ omega (arith, length-take looked ahead, within, first_long) in
    (low ++ take at behind, drop (at + 1) behind, all, long, no_end_join low (take at behind) f (lacks_feed (take at behind) first.before))

-- ---- a line among the bytes that are kept

abbrev pub view : (xs : List ℕ) → (from to taken number text_from text_to : ℕ) → Reading
view xs from to taken number text_from text_to = record { ahead = slice_range xs from to; passed = taken - (to - from); number = number; text = slice_range xs text_from text_to; last = text_to == from }

module _ (xs : List ℕ) (from to at taken number tf tt text_to : ℕ) (whole : length xs ≤ most_kept) (order : from ≤ to) (inside : to ≤ length xs) (fits : number + (to - from) ≤ taken) (few : taken ≤ most_used_bytes)
    (ends : EndsAt (Some at) (slice_range xs from to)) (told : slice_range xs from text_to ≡ strip_carriage_return (slice_range xs from (from + at))) where
  line_of_end : List ℕ
  line_of_end = ends.0 ++ 10 ∷ []

  all_parts : slice_range xs from to ≡ line_of_end ++ ends.1
  unfolding line_of_end
  all_parts = ends.2 ∙ sym (append_assoc ends.0 (10 ∷ []) ends.1)

  line_long : length line_of_end ≡ at + 1
  unfolding line_of_end
  line_long = length-append ends.0 (10 ∷ []) ∙ ap (λ n. n + 1) ends.3

  behind : slice_range xs (from + at + 1) to ≡ ends.1
  behind =
      let e : from + at + 1 ≡ from + (at + 1) = omega arith in
      ap (λ k. slice_range xs k to) e ∙ rest_of xs from to (at + 1) line_of_end ends.1 all_parts line_long

  pub at_inside : from + at + 1 ≤ to
  at_inside = omega (arith, long_enough xs from to (at + 1) line_of_end ends.1 all_parts line_long, order)

  first_given : {A : Type 0} → FirstLine (slice_range xs from to) A (slice_range xs from text_to) (slice_range xs (from + at + 1) to)
  unfolding line_of_end
  first_given = record {
    line = line_of_end;
    parts = all_parts ∙ ap (λ r. line_of_end ++ r) (sym behind);
    is = inl (record { before = ends.0; whole = ends.4; ended = refl; told = told ∙ ap strip_carriage_return (front_of xs from to at ends.0 (10 ∷ ends.1) ends.2 ends.3) });
  }

  pub gives : text_to - from ≤ most_line → text_to ≤ from + at → Gives (slice_range xs from to) (view xs from to taken number tf tt) (view xs (from + at + 1) to taken (number + 1) from text_to) ⊥
  gives short before_end =
      let all = part_long xs from to (omega (arith, whole, inside)) in
      let left = part_long xs (from + at + 1) to (omega (arith, whole, inside)) in
      let in_all = at_inside in
      record {
        first = first_given;
        last = λ e. absurd (omega (arith, eqb-true text_to (from + at + 1) e, before_end));
        short = omega (arith, part_short xs from text_to, short);
        number = refl;
        passed = omega (arith, all, left, in_all, fits);
        used = omega (arith, all, fits, few);
        near = omega (arith, left, inside);
      }

  pub is_long : most_line < text_to - from → text_to ≤ length xs → IsLong (slice_range xs from to) (view xs from to taken number tf tt) ⊥
  is_long long ended =
      let all = part_long xs from to (omega (arith, whole, inside)) in
      let left = part_long xs (from + at + 1) to (omega (arith, whole, inside)) in
      record {
        text = slice_range xs from text_to;
        rest = slice_range xs (from + at + 1) to;
        first = first_given;
        long = omega (arith, part_long xs from text_to (omega (arith, whole, ended)), long);
        used = omega (arith, all, fits, few);
        near = omega (arith, left, inside);
      }

-- ---- results

-- a result that needs the end of the input holds wherever the end is known
pub answer_if : {A B : Type 0} (F : Type 0) (r : Result (Option ℕ) Stop) (bytes : List ℕ) (old new : Reading) → (A → B) → NextAnswer r bytes old new A ⊥ → NextAnswer r bytes old new B F
answer_if F (Ok (Some n)) bytes old new f h = (
  h.0,
  record {
    first = record { line = h.1.first.line; parts = h.1.first.parts; is = ⊎_elim (λ l. inl l) (λ l. inr (l.0, l.1, (f l.2.0, l.2.1))) h.1.first.is };
    last = λ e. let x = h.1.last e in (f x.0, x.1);
    short = h.1.short;
    number = h.1.number;
    passed = h.1.passed;
    used = h.1.used;
    near = h.1.near;
  },
)
answer_if F (Ok None) bytes old new f h = record { none = h.none; ended = f h.ended; same_number = h.same_number; same_passed = h.same_passed; no_more = h.no_more }
answer_if F (Err ReadFault) bytes old new f h = absurd h.0
answer_if F (Err (Long line)) bytes old new f h = (
  h.0,
  record {
    text = h.1.text;
    rest = h.1.rest;
    first = record { line = h.1.first.line; parts = h.1.first.parts; is = ⊎_elim (λ l. inl l) (λ l. inr (l.0, l.1, f l.2)) h.1.first.is };
    long = h.1.long;
    used = h.1.used;
    near = h.1.near;
  },
)
answer_if F (Err TooLong) bytes old new f h = h

-- ---- bytes that are appended to others

pub put_behind : (at most n : ℕ) (xs new : List ℕ) → at ≤ length xs → n ≤ length new → take (at + n) (put_mid at ((at + most) - at) xs new) ≡ take at xs ++ take n new
put_behind at most n xs new inside few =
    let k = (at + most) - at in
    let whole : take (at + length new) (put_mid at k xs new) ≡ take at xs ++ new = take-put_mid at k xs new (at + length new) refl inside in
    let less : at + n ≤ at + length new = omega (arith, few) in
    let long : length (take at xs) ≡ at = length-take at xs ∙ omega (arith, inside) in
    let sum : at + n ≡ length (take at xs) + n = omega (arith, long) in
    sym (take-take (at + n) (at + length new) (put_mid at k xs new) less) ∙ ap (take (at + n)) whole ∙ ap (λ m. take m (take at xs ++ new)) sum ∙ take-append-add (take at xs) new n

-- ---- the last line of an input

module _ (xs : List ℕ) (from to taken number tf te : ℕ) (whole : length xs ≤ most_kept) (inside : to ≤ length xs) (fits : number + (to - from) ≤ taken) (few : taken ≤ most_used_bytes)
    (none : HasNoEnd (slice_range xs from to)) (some : from < to) where
  not_empty : slice_range xs from to ≢ []
  not_empty e = absurd (omega (arith, ap length e, part_long xs from to (omega (arith, whole, inside)), some))

  pub last_given : (A : Type 0) → A → FirstLine (slice_range xs from to) A (slice_range xs from to) []
  last_given A there = record { line = slice_range xs from to; parts = sym (append-nil (slice_range xs from to)); is = inr (record { whole = none; some = not_empty; told = refl }, refl, there) }

  nothing_left : slice_range xs to to ≡ []
  nothing_left = let zero_left : to - to ≡ 0 = omega arith in ap (λ n. take n (drop to xs)) zero_left

  pub gives_last : to - from ≤ most_line → Gives (slice_range xs from to) (view xs from to taken number tf te) (view xs to to taken (number + 1) from to) ⊤
  gives_last short =
      let all = part_long xs from to (omega (arith, whole, inside)) in
      let left : length (slice_range xs to to) ≡ 0 = ap length nothing_left in
      record {
        first = subst (λ (r : List ℕ). FirstLine (slice_range xs from to) (⊤ × ((to == to) ≡ true)) (slice_range xs from to) r) (sym nothing_left) (last_given (⊤ × ((to == to) ≡ true)) (tt, eq-eqb to to refl));
        last = λ e. (tt, nothing_left);
        short = omega (arith, all, short);
        number = refl;
        passed = omega (arith, all, left, fits);
        used = omega (arith, all, fits, few);
        near = omega (arith, left);
      }

  pub last_long : most_line < to - from → IsLong (slice_range xs from to) (view xs from to taken number tf te) ⊤
  last_long long =
      let all = part_long xs from to (omega (arith, whole, inside)) in
      record { text = slice_range xs from to; rest = []; first = last_given ⊤ tt; long = omega (arith, all, long); used = omega (arith, all, fits, few); near = omega arith }

-- what is at its end stays there if nothing was taken
pub at_end_then : (before after : Option (List ℕ)) (bytes : List ℕ) → Takes before after bytes → AtEnd before → AtEnd after
at_end_then None None bytes taken ended = tt
at_end_then None (Some rest) bytes taken ended = absurd cc
at_end_then (Some []) None bytes taken ended = tt
at_end_then (Some (x ∷ xs)) after bytes taken ended = absurd cc
at_end_then (Some []) (Some []) bytes taken ended = refl
at_end_then (Some []) (Some (x ∷ xs)) [] taken ended = absurd cc
at_end_then (Some []) (Some (x ∷ xs)) (y ∷ ys) taken ended = absurd cc
