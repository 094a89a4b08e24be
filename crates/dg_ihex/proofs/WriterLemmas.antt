-- What is written, bit by bit.
use Rattle.std.proofs.Common.{◌≡◌, ℕ, suc, ◌+◌, ◌-◌, ◌*◌, ◌/◌, ◌%◌, ◌<◌, min, List, [], ◌∷◌, ◌++◌, length, get_or, set, take, drop, map, append_assoc, Result, Ok, Err, OnOk, refl, sym, ap, ◌∙◌, arith}
use Rattle.std.specs.Char.{to_ascii_uppercase}
use Rattle.std.specs.List.{flat_map, range_with_len}
use Rattle.std.specs.Prelude.{slice_range}
use Rattle.std.proofs.lemmas.Bool.Decides.{nat_tests}
use Rattle.std.proofs.lemmas.List.{append-nil, map-append, map_more, take_more_set, get_or-drop, drop-drop, drop-set-lt, take_min, length-drop}
use Rattle.std.proofs.lemmas.List.Concat.{flat_map-append}
use Rattle.dg_words.proofs.ListLemmas.{flat_map-range_more}
use Rattle.dg_base.specs.Hexadecimal.{hex_digit, hex_text}
use Rattle.dg_ihex.specs.Sizes.{segment, piece_bytes}
use Rattle.dg_ihex.specs.Written.{record_checksum, with_checksum, base_line, base_lines, lines_at, written_file}
use Rattle.dg_ihex.specs.inner.Words.{upper_hex, end_line, piece_at, records_of_data}
use Rattle.dg_ihex.specs.inner.Words.{data_line, ended_by_feed}

-- ---- upper case

pub capital_more : (text old : List ℕ) (at x : ℕ) → at < length text → at < length old → x ≡ to_ascii_uppercase (get_or text at 0) → take at text ≡ map to_ascii_uppercase (take at old)
    → drop at text ≡ drop at old
    → (take (at + 1) (set text at x) ≡ map to_ascii_uppercase (take (at + 1) old)) × (drop (at + 1) (set text at x) ≡ drop (at + 1) old)
capital_more text old at x room there is done rest =
    let here : at + 0 ≡ at = omega arith in
    let same : get_or text at 0 ≡ get_or old at 0 =
    ap (λ n. get_or text n 0) (sym here) ∙ sym (get_or-drop at text 0 0) ∙ ap (λ t. get_or t 0 0) rest ∙ get_or-drop at old 0 0 ∙ ap (λ n. get_or old n 0) here in (
      take_more_set text at x room ∙ ap (λ t. t ++ x ∷ []) done ∙ ap (λ y. map to_ascii_uppercase (take at old) ++ y ∷ []) (is ∙ ap to_ascii_uppercase same)
          ∙ sym (map_more to_ascii_uppercase old at 0 there),
      drop-set-lt (at + 1) text at x (omega arith) ∙ sym (drop-drop 1 at text) ∙ ap (drop 1) rest ∙ drop-drop 1 at old,
    )

hex_text-append : (xs ys : List ℕ) → hex_text (xs ++ ys) ≡ hex_text xs ++ hex_text ys
unfolding hex_text
hex_text-append [] ys = refl
hex_text-append (x ∷ xs) ys = ap (λ t. hex_digit (x / 16) ∷ hex_digit (x % 16) ∷ t) (hex_text-append xs ys)

pub upper_hex-append : (xs ys : List ℕ) → upper_hex (xs ++ ys) ≡ upper_hex xs ++ upper_hex ys
upper_hex-append xs ys = ap (map to_ascii_uppercase) (hex_text-append xs ys) ∙ map-append to_ascii_uppercase (hex_text xs) (hex_text ys)

-- ---- lines

regrouped : (t a b c : List ℕ) → ((((t ++ 58 ∷ []) ++ a) ++ b) ++ c) ++ 10 ∷ [] ≡ t ++ ((58 ∷ (a ++ b ++ c)) ++ 10 ∷ [])
regrouped t a b c = simp append_assoc

pub line_pushed : (t0 t1 t2 t3 t4 t5 head bytes : List ℕ) (check : ℕ) → t1 ≡ t0 ++ 58 ∷ [] → t2 ≡ t1 ++ upper_hex head → t3 ≡ t2 ++ upper_hex bytes → t4 ≡ t3 ++ upper_hex (check ∷ []) → t5 ≡ t4 ++ 10 ∷ []
    → check ≡ record_checksum (head ++ bytes) → t5 ≡ t0 ++ ended_by_feed (58 ∷ upper_hex (with_checksum (head ++ bytes)))
line_pushed t0 t1 t2 t3 t4 t5 head bytes check e1 e2 e3 e4 e5 is =
    let text : upper_hex (with_checksum (head ++ bytes)) ≡ upper_hex head ++ upper_hex bytes ++ upper_hex (check ∷ []) =
    upper_hex-append (head ++ bytes) (record_checksum (head ++ bytes) ∷ []) ∙ ap (λ n. upper_hex (head ++ bytes) ++ upper_hex (n ∷ [])) (sym is)
    ∙ ap (λ t. t ++ upper_hex (check ∷ [])) (upper_hex-append head bytes) in
    e5 ∙ ap (λ t. t ++ 10 ∷ []) (e4 ∙ ap (λ t. t ++ upper_hex (check ∷ [])) (e3 ∙ ap (λ t. t ++ upper_hex bytes) (e2 ∙ ap (λ t. t ++ upper_hex head) e1)))
    ∙ regrouped t0 (upper_hex head) (upper_hex bytes) (upper_hex (check ∷ []))
    ∙ ap (λ t. t0 ++ ended_by_feed (58 ∷ t)) (sym text)

-- ---- pieces

pub no_base : (k : ℕ) (t : List ℕ) → base_lines k ≡ [] → t ≡ t ++ flat_map ended_by_feed (base_lines k)
no_base k t none = sym (ap (λ ls. t ++ flat_map ended_by_feed ls) none ∙ append-nil t)

pub inside_segment : (k : ℕ) → (k * piece_bytes % segment ≡ 0 → ⊥) → base_lines k ≡ []
inside_segment k h = grind (arith, nat_tests)

pub first_piece : (k : ℕ) → k ≡ 0 → base_lines k ≡ []
first_piece k h = grind (arith, nat_tests)

pub at_base : (k : ℕ) → k * piece_bytes % segment ≡ 0 → (k ≡ 0 → ⊥) → base_lines k ≡ base_line (k * piece_bytes / segment) ∷ []
at_base k start some = grind (arith, nat_tests)

pub new_base : (k : ℕ) (t u : List ℕ) → k * piece_bytes % segment ≡ 0 → (k ≡ 0 → ⊥) → u ≡ t ++ ended_by_feed (base_line (k * piece_bytes / segment)) → u ≡ t ++ flat_map ended_by_feed (base_lines k)
new_base k t u start some h =
    let lines = at_base k start some in
    h ∙ ap (λ l. t ++ l) (sym (append-nil (ended_by_feed (base_line (k * piece_bytes / segment))))) ∙ ap (λ ls. t ++ flat_map ended_by_feed ls) (sym lines)

-- a piece that is cut out of the bytes
pub piece_is : (bytes : List ℕ) (k address end : ℕ) → address ≡ k * piece_bytes → end ≡ min (address + piece_bytes) (length bytes) → address < length bytes → slice_range bytes address end ≡ piece_at bytes k
piece_is bytes k address end is upto within =
    let count : end - address ≡ min piece_bytes (length (drop address bytes)) = omega (arith, length-drop address bytes) in
    ap (λ n. take n (drop address bytes)) count ∙ take_min piece_bytes (drop address bytes) ∙ ap (λ n. take piece_bytes (drop n bytes)) is

pub piece_pushed : (t0 t1 t2 bytes piece : List ℕ) (k offset : ℕ) → t1 ≡ t0 ++ flat_map ended_by_feed (base_lines k) → t2 ≡ t1 ++ ended_by_feed (data_line offset piece)
    → offset ≡ k * piece_bytes % segment → piece ≡ piece_at bytes k → t2 ≡ t0 ++ flat_map ended_by_feed (lines_at bytes k)
piece_pushed t0 t1 t2 bytes piece k offset e1 e2 at is =
    let line = data_line (k * piece_bytes % segment) (piece_at bytes k) in
    e2 ∙ ap (λ t. t ++ ended_by_feed (data_line offset piece)) e1
    ∙ ap (λ o. (t0 ++ flat_map ended_by_feed (base_lines k)) ++ ended_by_feed (data_line o piece)) at
    ∙ ap (λ p. (t0 ++ flat_map ended_by_feed (base_lines k)) ++ ended_by_feed (data_line (k * piece_bytes % segment) p)) is
    ∙ append_assoc t0 (flat_map ended_by_feed (base_lines k)) (ended_by_feed line)
    ∙ ap (λ l. t0 ++ (flat_map ended_by_feed (base_lines k) ++ l)) (sym (append-nil (ended_by_feed line)))
    ∙ ap (λ t. t0 ++ t) (sym (flat_map-append ended_by_feed (base_lines k) (line ∷ [])))

-- the pieces so far, and one more
pub pieces_more : (t u bytes : List ℕ) (k : ℕ) → t ≡ flat_map ended_by_feed (flat_map (lines_at bytes) (range_with_len 0 k)) → u ≡ t ++ flat_map ended_by_feed (lines_at bytes k)
    → u ≡ flat_map ended_by_feed (flat_map (lines_at bytes) (range_with_len 0 (k + 1)))
pieces_more t u bytes k h e =
    let next : 0 + k ≡ k = omega arith in
    let more : suc k ≡ k + 1 = omega arith in
    e ∙ ap (λ t. t ++ flat_map ended_by_feed (lines_at bytes k)) h
    ∙ sym (flat_map-append ended_by_feed (flat_map (lines_at bytes) (range_with_len 0 k)) (lines_at bytes k))
    ∙ ap (λ n. flat_map ended_by_feed (flat_map (lines_at bytes) (range_with_len 0 k) ++ lines_at bytes n)) (sym next)
    ∙ ap (flat_map ended_by_feed) (flat_map-range_more (lines_at bytes) 0 k)
    ∙ ap (λ n. flat_map ended_by_feed (flat_map (lines_at bytes) (range_with_len 0 n))) more

pub file_done : (t u bytes : List ℕ) (k : ℕ) → k ≡ records_of_data (length bytes) → t ≡ flat_map ended_by_feed (flat_map (lines_at bytes) (range_with_len 0 k)) → u ≡ t ++ ended_by_feed end_line → u ≡ written_file bytes
unfolding written_file
file_done t u bytes k all h e =
    let front = flat_map (lines_at bytes) (range_with_len 0 (records_of_data (length bytes))) in
    e ∙ ap (λ t. t ++ ended_by_feed end_line) (h ∙ ap (λ n. flat_map ended_by_feed (flat_map (lines_at bytes) (range_with_len 0 n))) all)
    ∙ ap (λ l. flat_map ended_by_feed front ++ l) (sym (append-nil (ended_by_feed end_line)))
    ∙ sym (flat_map-append ended_by_feed front (end_line ∷ []))

pub on_ok : {A E : Type 0} (r : Result A E) (P Q : Type 0) → (P → Q) → OnOk r P → OnOk r Q
on_ok (Ok x) P Q f h = f h
on_ok (Err e) P Q f h = tt
