-- The first lines of a script, and what comes after them.
use Rattle.std.proofs.Common.{◌≡◌, inl, inr, ℕ, ◌+◌, ◌-◌, ◌<◌, ◌≤◌, ◌==◌, Bool, true, false, not, List, [], ◌∷◌, ◌++◌, length, map, take, append-nil, append_assoc, length-append, refl, ap, sym, ◌∙◌, subst, arith}
use Rattle.std.specs.Prelude.{Some, Result, Ok, Err, if◌then◌else◌}
use Rattle.std.specs.List.{slice_split, onto_first}
use Rattle.std.specs.Str.Lines.{lines, lines_of_parts, strip_carriage_return}
use Rattle.std.proofs.lemmas.List.Splits.{slice_split-cons_yes, slice_split-cons_no, length-slice_split}
use Rattle.std.proofs.Math.Seq.{take-append-add}
use Rattle.dg_script.specs.Sizes.{most_used_bytes}
use Rattle.dg_script.specs.Lines.{line_of}
use Rattle.dg_script.specs.Places.{first_place, place_after}
use Rattle.dg_script.specs.Script.{Script, script_from, with_line}
use Rattle.dg_script.specs.declared.fault.LineFault.{LineFault}
use Rattle.dg_script.specs.declared.line.Line.{Line}
use Rattle.dg_script.specs.declared.place.Place.{Place}
use Rattle.dg_replay.specs.Ending.{up_to, whole_lines, used, has_unused_bytes, script_of, ending_from}
use Rattle.dg_replay.specs.Prefixes.{IsWholeLines, BeginsAs, ReadsTo}
use Rattle.dg_replay.specs.Replayed.{IsSettled, AreWhole}
use Rattle.dg_replay.proofs.NextLineLemmas.{script_line, script_fault}
use Rattle.dg_replay.proofs.WholeLemmas.{are_whole_lines}

-- ---- texts of bytes

abbrev feed : ℕ → Bool
feed = λ b. b == 10

-- the parts of bytes up to an LF, whatever comes after it
record Splits (before : List ℕ) : Type 0 where
  first : List ℕ
  others : List (List ℕ)
  all : (xs : List ℕ) → slice_split feed (before ++ 10 ∷ xs) ≡ first ∷ (others ++ slice_split feed xs)

splits_more : (c : ℕ) (before : List ℕ) (b : Bool) → (c == 10) ≡ b → Splits before → Splits (c ∷ before)
splits_more c before true is s = record {
  first = [];
  others = s.first ∷ s.others;
  all = λ xs. slice_split-cons_yes feed c (before ++ 10 ∷ xs) is ∙ ap (λ (ps : List (List ℕ)). [] ∷ ps) (s.all xs);
}
splits_more c before false is s = record {
  first = c ∷ s.first;
  others = s.others;
  all = λ xs. slice_split-cons_no feed c (before ++ 10 ∷ xs) is ∙ ap (onto_first c) (s.all xs);
}

splits : (before : List ℕ) → Splits before
splits [] = record { first = []; others = []; all = λ xs. slice_split-cons_yes feed 10 xs refl }
splits (c ∷ before) = splits_more c before (c == 10) refl (splits before)

lines_of_parts-cons : (x : List ℕ) (parts : List (List ℕ)) → 0 < length parts → lines_of_parts (x ∷ parts) ≡ strip_carriage_return x ∷ lines_of_parts parts
lines_of_parts-cons x [] l = absurd (omega arith)
lines_of_parts-cons x (y ∷ more) l = refl

some_behind : (xs ys : List (List ℕ)) → 0 < length ys → 0 < length (xs ++ ys)
some_behind xs ys h = omega (arith, length-append xs ys, h)

lines_of_parts-append : (xs ys : List (List ℕ)) → 0 < length ys → lines_of_parts (xs ++ ys) ≡ map strip_carriage_return xs ++ lines_of_parts ys
lines_of_parts-append [] ys h = refl
lines_of_parts-append (x ∷ xs) ys h =
    lines_of_parts-cons x (xs ++ ys) (some_behind xs ys h)
    ∙ ap (λ (ls : List (List ℕ)). strip_carriage_return x ∷ ls) (lines_of_parts-append xs ys h)

texts_before : (before xs : List ℕ) → lines (before ++ 10 ∷ xs) ≡ map strip_carriage_return ((splits before).first ∷ (splits before).others) ++ lines xs
texts_before before xs =
    let s = splits before in
    ap lines_of_parts (s.all xs) ∙ lines_of_parts-append (s.first ∷ s.others) (slice_split feed xs) (omega (arith, length-slice_split feed xs))

no_lines : lines [] ≡ []
no_lines = refl

-- bytes that end in LF are lines of their own
pub lines_front : (front xs : List ℕ) → IsWholeLines front → lines (front ++ xs) ≡ lines front ++ lines xs
lines_front front xs (inl none) =
    ap (λ (f : List ℕ). lines (f ++ xs)) none ∙ ap (λ (f : List ℕ). lines f ++ lines xs) (sym none)
lines_front front xs (inr (before, is)) =
    let own : List (List ℕ) = map strip_carriage_return ((splits before).first ∷ (splits before).others) in
    let alone : lines front ≡ own = ap lines is ∙ texts_before before [] ∙ append-nil own in
    ap (λ (f : List ℕ). lines (f ++ xs)) is ∙ ap lines (append_assoc before (10 ∷ []) xs) ∙ texts_before before xs ∙ ap (λ (ls : List (List ℕ)). ls ++ lines xs) (sym alone)

-- ---- whole lines

feed_up : (ys : List ℕ) → up_to 10 ys ≡ 10 ∷ ys
feed_up [] = refl
feed_up (y ∷ ys) = refl

front_up : (c : ℕ) (before ys : List ℕ) → up_to c (before ++ 10 ∷ ys) ≡ c ∷ (before ++ 10 ∷ ys)
front_up c [] ys = refl
front_up c (x ∷ before) ys = refl

whole_before : (before xs : List ℕ) → whole_lines (before ++ 10 ∷ xs) ≡ before ++ 10 ∷ whole_lines xs
unfolding whole_lines
whole_before [] xs = feed_up (whole_lines xs)
whole_before (c ∷ before) xs = ap (up_to c) (whole_before before xs) ∙ front_up c before (whole_lines xs)

-- bytes that end in LF are whole lines, and those after them add theirs
pub whole_lines_front : (front xs : List ℕ) → IsWholeLines front → whole_lines (front ++ xs) ≡ front ++ whole_lines xs
whole_lines_front front xs (inl none) = ap (λ (f : List ℕ). whole_lines (f ++ xs)) none ∙ ap (λ (f : List ℕ). f ++ whole_lines xs) (sym none)
whole_lines_front front xs (inr (before, is)) =
    ap (λ (f : List ℕ). whole_lines (f ++ xs)) is
    ∙ ap whole_lines (append_assoc before (10 ∷ []) xs)
    ∙ whole_before before xs
    ∙ sym (append_assoc before (10 ∷ []) (whole_lines xs))
    ∙ ap (λ (f : List ℕ). f ++ whole_lines xs) (sym is)

-- bytes that are whole lines end in LF
pub front_of_whole : (front : List ℕ) → whole_lines front ≡ front → IsWholeLines front
front_of_whole front whole = subst IsWholeLines whole (are_whole_lines front).ended

-- ---- the bytes that are used

begins_used : (k : ℕ) (over : Bool) (front more : List ℕ) → IsWholeLines front → length front ≤ k
    → (rest : List (List ℕ)) × (lines (if over then whole_lines (take k (front ++ more)) else front ++ more) ≡ lines front ++ rest)
begins_used k false front more is few = (lines more, lines_front front more is)
begins_used k true front more is few =
    let left : ℕ = k - length front in
    let sum : k ≡ length front + left = omega (arith, few) in
    let cut : take k (front ++ more) ≡ front ++ take left more = ap (λ n. take n (front ++ more)) sum ∙ take-append-add front more left in (
      lines (whole_lines (take left more)),
      ap lines (ap whole_lines cut ∙ whole_lines_front front (take left more) is) ∙ lines_front front (whole_lines (take left more)) is,
    )

-- whatever follows whole lines, and whether that is too much, they are the first lines of what is used
pub used_begins : (front more : List ℕ) → IsWholeLines front → length front ≤ most_used_bytes → (rest : List (List ℕ)) × (lines (used (front ++ more)) ≡ lines front ++ rest)
used_begins front more is few = begins_used most_used_bytes (has_unused_bytes (front ++ more)) front more is few

-- ---- scripts

begins_line : (r : Result Line LineFault) (n : ℕ) (f g : Line → Script) → ((line : Line) → BeginsAs (f line) (g line)) → BeginsAs (with_line r f n) (with_line r g n)
begins_line (Err fault) n f g h = record { rest = []; lines = refl; fault = λ at is. refl }
begins_line (Ok line) n f g h = record {
  rest = (h line).rest;
  lines = ap (λ (ls : List Line). line ∷ ls) (h line).lines;
  fault = λ at is. ap (λ (s : Script). record { lines = line ∷ s.lines; fault = s.fault }) ((h line).fault at is);
}

-- texts that follow others leave their lines unchanged
pub texts_begin : (ends : Bool) (place : Place) (n : ℕ) (texts more : List (List ℕ)) → BeginsAs (script_from false place n texts) (script_from ends place n (texts ++ more))
unfolding script_from
texts_begin ends place n [] more = record { rest = (script_from ends place n more).lines; lines = refl; fault = λ at is. cc }
texts_begin ends place n (text ∷ texts) more =
    begins_line (line_of place text) n (λ line. script_from false (place_after place line) (n + 1) texts) (λ line. script_from ends (place_after place line) (n + 1) (texts ++ more))
    (λ line. texts_begin ends (place_after place line) (n + 1) texts more)

-- the script of an input whose first texts are these
pub script_begins : (input : List ℕ) (texts rest : List (List ℕ)) → lines (used input) ≡ texts ++ rest → script_of input ≡ script_from (not (has_unused_bytes input)) first_place 1 (texts ++ rest)
unfolding script_of
script_begins input texts rest are = ap (λ (ls : List (List ℕ)). script_from (not (has_unused_bytes input)) first_place 1 ls) are

pub front_begins : (front more : List ℕ) → IsWholeLines front → length front ≤ most_used_bytes → BeginsAs (script_from false first_place 1 (lines front)) (script_of (front ++ more))
front_begins front more is few =
    let u = used_begins front more is few in
    subst (λ (s : Script). BeginsAs (script_from false first_place 1 (lines front)) s) (sym (script_begins (front ++ more) (lines front) u.0 u.1))
    (texts_begin (not (has_unused_bytes (front ++ more))) first_place 1 (lines front) u.0)

pub whole_front_begins : (front more : List ℕ) → whole_lines front ≡ front → length front ≤ most_used_bytes → BeginsAs (script_from false first_place 1 (lines front)) (script_of (front ++ more))
whole_front_begins front more whole few = front_begins front more (front_of_whole front whole) few

-- ---- one line after the other

pub reads_first : ReadsTo [] [] first_place 1
reads_first = record { reads = λ ends more. refl }

-- the next text spells a line
pub reads_next : (texts : List (List ℕ)) (done : List Line) (place : Place) (n : ℕ) (text : List ℕ) (line : Line) → ReadsTo texts done place n → line_of place text ≡ Ok line
    → ReadsTo (texts ++ text ∷ []) (done ++ line ∷ []) (place_after place line) (n + 1)
reads_next texts done place n text line r spelled = record {
  reads = λ ends more.
      ap (λ (ls : List (List ℕ)). script_from ends first_place 1 ls) (append_assoc texts (text ∷ []) more)
      ∙ r.reads ends (text ∷ more)
      ∙ ap (λ (s : Script). record { lines = done ++ s.lines; fault = s.fault }) (script_line ends place n text more line spelled)
      ∙ ap (λ (ls : List Line). record { lines = ls; fault = (script_from ends (place_after place line) (n + 1) more).fault }) (sym (append_assoc done (line ∷ []) (script_from ends (place_after place line) (n + 1) more).lines));
}

-- the next text does not spell a line, and the script ends there
pub reads_fault : (texts : List (List ℕ)) (done : List Line) (place : Place) (n : ℕ) (text : List ℕ) (fault : LineFault) → ReadsTo texts done place n → line_of place text ≡ Err fault
    → (ends : Bool) (more : List (List ℕ)) → script_from ends first_place 1 (texts ++ text ∷ more) ≡ record { lines = done; fault = Some (n, fault) }
reads_fault texts done place n text fault r spelled ends more =
    r.reads ends (text ∷ more)
    ∙ ap (λ (s : Script). record { lines = done ++ s.lines; fault = s.fault }) (script_fault ends place n text more fault spelled)
    ∙ ap (λ (ls : List Line). record { lines = ls; fault = Some (n, fault) }) (append-nil done)

-- ---- what the bytes that were taken settle

-- the lines of whole lines are those of every input that begins with these bytes
pub reads_whole : (front ahead : List ℕ) (done : List Line) (place : Place) (n : ℕ) → IsWholeLines front → length front ≤ most_used_bytes → ReadsTo (lines front) done place n → AreWhole (front ++ ahead) done
reads_whole front ahead done place n is few r = λ more.
    let input : List ℕ = front ++ (ahead ++ more) in
    let same : (front ++ ahead) ++ more ≡ input = append_assoc front ahead more in
    let u = used_begins front (ahead ++ more) is few in
    let ends : Bool = not (has_unused_bytes input) in
    let e : script_of ((front ++ ahead) ++ more) ≡ record { lines = done ++ (script_from ends place n u.0).lines; fault = (script_from ends place n u.0).fault } =
    ap script_of same ∙ script_begins input (lines front) u.0 u.1 ∙ r.reads ends u.0 in
    ((script_from ends place n u.0).lines, ap (λ (s : Script). s.lines) (sym e))

-- a script that ends at a fault ends there, however long its input is
fault_ends : (boards : ℕ) (a b : Bool) (done : List Line) (at : ℕ × LineFault) → ending_from boards a (record { lines = done; fault = Some at }) ≡ ending_from boards b (record { lines = done; fault = Some at })
fault_ends boards a b done at = refl

pub fault_script : (front ahead text : List ℕ) (texts : List (List ℕ)) (done : List Line) (place : Place) (n : ℕ) (fault : LineFault) → IsWholeLines front → length front ≤ most_used_bytes → lines front ≡ texts ++ text ∷ []
    → ReadsTo texts done place n → line_of place text ≡ Err fault → script_of (front ++ ahead) ≡ record { lines = done; fault = Some (n, fault) }
fault_script front ahead text texts done place n fault is few parts r spelled =
    let u = used_begins front ahead is few in
    let all : lines (used (front ++ ahead)) ≡ texts ++ text ∷ u.0 = u.1 ∙ ap (λ (ls : List (List ℕ)). ls ++ u.0) parts ∙ append_assoc texts (text ∷ []) u.0 in
    script_begins (front ++ ahead) texts (text ∷ u.0) all ∙ reads_fault texts done place n text fault r spelled (not (has_unused_bytes (front ++ ahead))) u.0

-- a fault of a whole line settles how the script ends
pub fault_settles : (boards : ℕ) (front ahead text : List ℕ) (texts : List (List ℕ)) (done : List Line) (place : Place) (n : ℕ) (fault : LineFault) → IsWholeLines front → length front ≤ most_used_bytes → lines front ≡ texts ++ text ∷ []
    → ReadsTo texts done place n → line_of place text ≡ Err fault → IsSettled boards (front ++ ahead)
fault_settles boards front ahead text texts done place n fault is few parts r spelled = λ more.
    let there : Script = record { lines = done; fault = Some (n, fault) } in
    let one : script_of ((front ++ ahead) ++ more) ≡ there = ap script_of (append_assoc front ahead more) ∙ fault_script front (ahead ++ more) text texts done place n fault is few parts r spelled in
    let two : script_of (front ++ ahead) ≡ there = fault_script front ahead text texts done place n fault is few parts r spelled in
    let a : Bool = has_unused_bytes ((front ++ ahead) ++ more) in
    let b : Bool = has_unused_bytes (front ++ ahead) in
    ap (λ (s : Script). ending_from boards a s) one ∙ fault_ends boards a b done (n, fault) ∙ ap (λ (s : Script). ending_from boards b s) (sym two)
