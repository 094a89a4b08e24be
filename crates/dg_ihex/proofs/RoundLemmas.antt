-- A file that is written is read back, piece by piece.
use Rattle.std.proofs.Common.{◌≡◌, ℕ, zero, suc, ◌+◌, ◌-◌, ◌*◌, ◌/◌, ◌%◌, ◌<◌, ◌≤◌, inl, inr, min, nat_lt, Bool, true, false, cond, List, [], ◌∷◌, ◌++◌, length, take, drop, All, None, Ok, Err, append_assoc, refl, sym, ap, ◌∙◌, subst, arith}
use Rattle.std.specs.List.{flat_map, range_with_len}
use Rattle.std.proofs.lemmas.Bool.{cases_eq}
use Rattle.std.proofs.lemmas.Bool.Decides.{nat_tests}
use Rattle.std.proofs.lemmas.List.{length-append, length-take, length-drop, take_all, take-append-drop, take-take, drop-take}
use Rattle.std.proofs.lemmas.List.Elements.{All-nil, All-cons, All-append, All-take, All-drop}
use Rattle.dg_ihex.specs.declared.faults.HexCause.TheVariants.{Shape, End}
use Rattle.dg_ihex.specs.declared.record.Record.TheVariants as records
use Rattle.dg_ihex.specs.Sizes.{longest_image, segment, piece_bytes}
use Rattle.dg_ihex.specs.Blocks.{Block, image_of_blocks}
use Rattle.dg_ihex.specs.Records.{record_of, typed_record, data_record, linear_record, marker}
use Rattle.dg_ihex.specs.Files.{base_of, blocks_of, has_end, cause_of, records_of, file_from, hex_file}
use Rattle.dg_ihex.specs.Written.{base_line, base_lines, line_of_record, lines_at, written_file, hex_lines}
use Rattle.dg_ihex.specs.inner.Words.{end_line, piece_at, records_of_data}
use Rattle.dg_ihex.specs.inner.Words.{data_line}
use Rattle.dg_ihex.proofs.FileLemmas.{base_of-more, blocks_next, blocks_same, data_block, end_same, end_now, no_byte, record_line, span_fits, with_block}
use Rattle.dg_ihex.proofs.StreamLemmas.{file_more}
use Rattle.dg_ihex.proofs.ReadBackLemmas.{FitsLine, IsByte, IsLine, line_back, line_is, lines_back}
use Rattle.dg_ihex.proofs.WriterLemmas.{at_base, inside_segment, first_piece}
use Rattle.dg_ihex.proofs.LayLemmas.{Lays, lays_nothing, lays_more, lays_free, lays_within, lays_image}

-- ---- the lines that are written

data_fits : (offset : ℕ) (bytes : List ℕ) → offset < segment → length bytes ≤ piece_bytes → All IsByte bytes → FitsLine 0 offset bytes
data_fits offset bytes at few each = record { kind_fits = omega arith; offset_fits = at; few = omega arith; each = each }

end_fits : FitsLine 1 0 []
end_fits = record { kind_fits = omega arith; offset_fits = omega arith; few = omega arith; each = All-nil IsByte }

base_fits : (units : ℕ) → units < 65536 → FitsLine 4 0 (units / 256 ∷ units % 256 ∷ [])
base_fits units h = record {
  kind_fits = omega arith;
  offset_fits = omega arith;
  few = omega arith;
  each = All-cons IsByte (units / 256) (units % 256 ∷ []) (omega arith) (All-cons IsByte (units % 256) [] (omega arith) (All-nil IsByte));
}

within_segment : (n : ℕ) → n ≤ segment → nat_lt 65536 n ≡ false
within_segment n h = grind (arith, nat_tests)

data_back : (offset : ℕ) (bytes : List ℕ) → offset < segment → offset + length bytes ≤ segment → length bytes ≤ piece_bytes → All IsByte bytes
    → record_of (data_line offset bytes) ≡ Ok (records.Data offset bytes)
unfolding typed_record data_record
data_back offset bytes at short few each =
    line_back 0 offset bytes (data_fits offset bytes at few each)
    ∙ ap (λ t. cond t (Err Shape) (Ok (records.Data offset bytes))) (within_segment (offset + length bytes) short)

end_back : record_of end_line ≡ Ok records.End
unfolding typed_record marker
end_back = line_back 1 0 [] end_fits

base_back : (units : ℕ) → units < 65536 → record_of (base_line units) ≡ Ok (records.Linear units)
unfolding typed_record linear_record
base_back units h =
    let whole : units / 256 * 256 + units % 256 ≡ units = omega arith in
    line_back 4 0 (units / 256 ∷ units % 256 ∷ []) (base_fits units h) ∙ ap (λ n. Ok (records.Linear n)) whole

line_some : (kind offset : ℕ) (bytes : List ℕ) → 0 < length (line_of_record kind offset bytes)
unfolding line_of_record
line_some kind offset bytes = omega arith

-- ---- the state after lines

pub record Laid (before : List (List ℕ)) (base : ℕ) (image : List ℕ) : Type 0 where
  pub over : base_of (records_of before) ≡ base
  pub open_file : has_end (records_of before) ≡ false
  pub lays : Lays (blocks_of (records_of before)) image

laid_nothing : Laid [] 0 []
unfolding blocks_of
laid_nothing = record { over = refl; open_file = refl; lays = lays_nothing }

-- a line of a base
pub after_base : (before : List (List ℕ)) (base units : ℕ) (image : List ℕ) → Laid before base image → length image ≤ longest_image → units < 65536
    → (cause_of before (base_line units) ≡ None) × Laid (before ++ base_line units ∷ []) (units * 65536) image
after_base before base units image h fits small =
    let all = records_of before in
    let next = records.Linear units in
    let line = record_line before (base_line units) next (line_some 4 0 (units / 256 ∷ units % 256 ∷ [])) (base_back units small) in (
      line.0 ∙ no_byte all next false refl (lays_within (blocks_of all) image h.lays fits) h.open_file,
      record {
        over = ap base_of (sym line.1) ∙ base_of-more all next;
        open_file = ap has_end (sym line.1) ∙ sym (end_same all next false (sym h.open_file) refl);
        lays = subst (λ r. Lays (blocks_of r) image) line.1 (subst (λ b. Lays b image) (blocks_same all next refl) h.lays);
      },
    )

-- a line of data
pub after_data : (before : List (List ℕ)) (base offset : ℕ) (image bytes : List ℕ) → Laid before base image → base + offset ≡ length image → offset < segment → offset + length bytes ≤ segment
    → 0 < length bytes → length bytes ≤ piece_bytes → All IsByte bytes → length image + length bytes ≤ longest_image
    → (cause_of before (data_line offset bytes) ≡ None) × Laid (before ++ data_line offset bytes ∷ []) base (image ++ bytes)
after_data before base offset image bytes h there at short some few each fits =
    let all = records_of before in
    let next = records.Data offset bytes in
    let block : Block = record { address = length image; bytes = bytes } in
    let line = record_line before (data_line offset bytes) next (line_some 0 offset bytes) (data_back offset bytes at short few each) in
    let own = data_block (base_of all) offset (length image) bytes (omega (arith, h.over)) some in
    let more = lays_more (blocks_of all) image bytes block h.lays refl (omega arith) in
    let close = lays_within (blocks_of all ++ block ∷ []) (image ++ bytes) more (omega (arith, length-append image bytes)) in (
      line.0 ∙ with_block all next block false false false own (lays_free (blocks_of all) image bytes block h.lays refl) (span_fits _ _ refl close) h.open_file,
      record {
        over = ap base_of (sym line.1) ∙ base_of-more all next ∙ h.over;
        open_file = ap has_end (sym line.1) ∙ sym (end_same all next false (sym h.open_file) refl);
        lays = subst (λ r. Lays (blocks_of r) (image ++ bytes)) line.1 (subst (λ b. Lays b (image ++ bytes)) (blocks_next all next block own) more);
      },
    )

-- the end
pub after_end : (before : List (List ℕ)) (base : ℕ) (image : List ℕ) → Laid before base image → 0 < length image → length image ≤ longest_image → file_from before (end_line ∷ []) ≡ Ok image
unfolding file_from
after_end before base image h some fits =
    let all = records_of before in
    let line = record_line before end_line records.End (line_some 1 0 []) end_back in
    let fine = line.0 ∙ no_byte all records.End false refl (lays_within (blocks_of all) image h.lays fits) h.open_file in
    let lays : Lays (blocks_of (records_of (before ++ end_line ∷ []))) image =
    subst (λ r. Lays (blocks_of r) image) line.1 (subst (λ b. Lays b image) (blocks_same all records.End refl) h.lays) in
    let closed : has_end (records_of (before ++ end_line ∷ [])) ≡ true = ap has_end (sym line.1) ∙ sym (end_now all) in
    file_more before end_line [] fine
    ∙ ap (λ t. cond t (Ok (image_of_blocks (blocks_of (records_of (before ++ end_line ∷ []))))) (Err (record { line = length (before ++ end_line ∷ []) + 1; cause = End }))) closed
    ∙ ap Ok (lays_image (blocks_of (records_of (before ++ end_line ∷ []))) image lays some)

-- ---- the pieces

-- the base before a piece
abbrev base_before : ℕ → ℕ
base_before k = (k - 1) * piece_bytes / segment * segment

same_base : (k : ℕ) → (k * piece_bytes % segment ≡ 0 → ⊥) → base_before k ≡ k * piece_bytes / segment * segment
same_base k h = omega arith

first_base : (k : ℕ) → k ≡ 0 → base_before k ≡ k * piece_bytes / segment * segment
first_base k h = omega arith

take_piece : (image : List ℕ) (k : ℕ) → take (k * piece_bytes) image ++ piece_at image k ≡ take ((k + 1) * piece_bytes) image
take_piece image k =
    let m = k * piece_bytes in
    let next : m + piece_bytes ≡ (k + 1) * piece_bytes = omega arith in
    ap (λ t. t ++ piece_at image k) (sym (take-take m (m + piece_bytes) image (omega arith)))
    ∙ ap (λ t. take m (take (m + piece_bytes) image) ++ t) (sym (drop-take m piece_bytes image))
    ∙ take-append-drop m (take (m + piece_bytes) image) ∙ ap (λ n. take n image) next

pub record Fits (image : List ℕ) : Type 0 where
  pub some : 0 < length image
  pub fits : length image ≤ longest_image
  pub each : All IsByte image

-- the line of the data of a piece, and the lines after it
one_piece : (image : List ℕ) (k : ℕ) (before tail : List (List ℕ)) → Fits image → k * piece_bytes < length image → Laid before (k * piece_bytes / segment * segment) (take (k * piece_bytes) image)
    → let line = data_line (k * piece_bytes % segment) (piece_at image k) in
    (file_from before (line ∷ tail) ≡ file_from (before ++ line ∷ []) tail) × Laid (before ++ line ∷ []) (base_before (k + 1)) (take ((k + 1) * piece_bytes) image)
one_piece image k before tail h within laid =
    let line = data_line (k * piece_bytes % segment) (piece_at image k) in
    let front : length (take (k * piece_bytes) image) ≡ k * piece_bytes = omega (arith, length-take (k * piece_bytes) image) in
    let piece : length (piece_at image k) ≡ min piece_bytes (length image - k * piece_bytes) = length-take piece_bytes (drop (k * piece_bytes) image) ∙ ap (min piece_bytes) (length-drop (k * piece_bytes) image) in
    let fits = h.fits in
    let next : k * piece_bytes / segment * segment ≡ base_before (k + 1) = ap (λ n. n * piece_bytes / segment * segment) (let e : k ≡ k + 1 - 1 = omega arith in e) in
    let d = after_data before (k * piece_bytes / segment * segment) (k * piece_bytes % segment) (take (k * piece_bytes) image) (piece_at image k) laid (omega (arith, front)) (omega arith) (omega (arith, piece))
    (omega (arith, piece)) (omega (arith, piece)) (All-take IsByte piece_bytes (drop (k * piece_bytes) image) (All-drop IsByte (k * piece_bytes) image h.each)) (omega (arith, piece, front)) in
    (file_more before line tail d.0, subst (λ b. Laid (before ++ line ∷ []) b (take ((k + 1) * piece_bytes) image)) next (subst (Laid (before ++ line ∷ []) (k * piece_bytes / segment * segment)) (take_piece image k) d.1))

regroup_lines : (base : List (List ℕ)) (line : List ℕ) (rest end : List (List ℕ)) → ((base ++ line ∷ []) ++ rest) ++ end ≡ base ++ (line ∷ (rest ++ end))
regroup_lines base line rest end = simp append_assoc

pieces_left : (n k m length_ : ℕ) → k + n ≡ records_of_data length_ → n ≡ suc m → k * piece_bytes < length_
pieces_left n k m length_ h is = omega arith

pub file_pieces : (n k : ℕ) (image : List ℕ) (before : List (List ℕ)) → Fits image → k + n ≡ records_of_data (length image) → Laid before (base_before k) (take (k * piece_bytes) image)
    → file_from before (flat_map (lines_at image) (range_with_len k n) ++ end_line ∷ []) ≡ Ok image
file_pieces zero k image before h count laid =
    let all : take (k * piece_bytes) image ≡ image = take_all (k * piece_bytes) image (omega arith) in
    after_end before (base_before k) image (subst (Laid before (base_before k)) all laid) h.some h.fits
file_pieces (suc n) k image before h count laid =
    let within : k * piece_bytes < length image = pieces_left (suc n) k n (length image) count refl in
    let fits = h.fits in
    let line = data_line (k * piece_bytes % segment) (piece_at image k) in
    let tail = flat_map (lines_at image) (range_with_len (k + 1) n) ++ end_line ∷ [] in
    let left : k + 1 + n ≡ records_of_data (length image) = omega arith in
    let front : length (take (k * piece_bytes) image) ≤ longest_image = omega (arith, length-take (k * piece_bytes) image) in
    let rest : (texts : List (List ℕ)) → Laid texts (k * piece_bytes / segment * segment) (take (k * piece_bytes) image) → file_from texts (line ∷ tail) ≡ Ok image =
    λ texts there. (let one = one_piece image k texts tail h within there in one.0 ∙ file_pieces n (k + 1) image (texts ++ line ∷ []) h left one.1) in
    ap (file_from before) (regroup_lines (base_lines k) line (flat_map (lines_at image) (range_with_len (k + 1) n)) (end_line ∷ []))
    ∙ elim (cases_eq (k * piece_bytes % segment) 0) [
      | inr inside ↦ ap (λ b. file_from before (b ++ (line ∷ tail))) (inside_segment k inside) ∙ rest before (subst (λ b. Laid before b (take (k * piece_bytes) image)) (same_base k inside) laid)
      | inl start ↦ elim (cases_eq k 0) [
        | inl first ↦ ap (λ b. file_from before (b ++ (line ∷ tail))) (first_piece k first) ∙ rest before (subst (λ b. Laid before b (take (k * piece_bytes) image)) (first_base k first) laid)
        | inr later ↦
            let b = after_base before (base_before k) (k * piece_bytes / segment) (take (k * piece_bytes) image) laid front (omega arith) in
            ap (λ b. file_from before (b ++ (line ∷ tail))) (at_base k start later)
            ∙ file_more before (base_line (k * piece_bytes / segment)) (line ∷ tail) b.0 ∙ rest (before ++ base_line (k * piece_bytes / segment) ∷ []) b.1
      ]
    ]

-- ---- the file

chosen_line : (test : Bool) (line : List ℕ) → IsLine line → All IsLine (cond test (line ∷ []) [])
chosen_line true line h = All-cons IsLine line [] h (All-nil IsLine)
chosen_line false line h = All-nil IsLine

pieces_are_lines : (image : List ℕ) (n k : ℕ) → Fits image → k + n ≡ records_of_data (length image) → All IsLine (flat_map (lines_at image) (range_with_len k n))
pieces_are_lines image zero k h count = All-nil IsLine
pieces_are_lines image (suc n) k h count =
    let within : k * piece_bytes < length image = pieces_left (suc n) k n (length image) count refl in
    let fits = h.fits in
    let units = k * piece_bytes / segment in
    let line = data_line (k * piece_bytes % segment) (piece_at image k) in
    let base : All IsLine (base_lines k) = chosen_line _ (base_line units) (line_is 4 0 (units / 256 ∷ units % 256 ∷ []) (base_fits units (omega arith))) in
    let few : length (piece_at image k) ≤ piece_bytes = omega (arith, length-take piece_bytes (drop (k * piece_bytes) image)) in
    let each = All-take IsByte piece_bytes (drop (k * piece_bytes) image) (All-drop IsByte (k * piece_bytes) image h.each) in
    let own = line_is 0 (k * piece_bytes % segment) (piece_at image k) (data_fits (k * piece_bytes % segment) (piece_at image k) (omega arith) few each) in
    All-append IsLine (lines_at image k) (flat_map (lines_at image) (range_with_len (k + 1) n))
    (All-append IsLine (base_lines k) (line ∷ []) base (All-cons IsLine line [] own (All-nil IsLine)))
    (pieces_are_lines image n (k + 1) h (omega arith))

pub hex_file-written_file : (image : List ℕ) → Fits image → hex_file (written_file image) ≡ Ok image
unfolding hex_file written_file
hex_file-written_file image h =
    let n = records_of_data (length image) in
    let each : All IsLine (hex_lines image) =
    All-append IsLine (flat_map (lines_at image) (range_with_len 0 n)) (end_line ∷ []) (pieces_are_lines image n 0 h (omega arith)) (All-cons IsLine end_line [] (line_is 1 0 [] end_fits) (All-nil IsLine)) in
    ap (file_from []) (lines_back (hex_lines image) each) ∙ file_pieces n 0 image [] h (omega arith) laid_nothing
