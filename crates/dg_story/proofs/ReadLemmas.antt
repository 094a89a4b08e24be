-- Lines that are read one after another.
use Rattle.std.proofs.Common.{◌≡◌, ℕ, ◌+◌, ◌<◌, ◌≤◌, List, [], ◌∷◌, ◌++◌, length, take, drop, Bool, true, false, Result, Ok, Err, OnOk, is_err, inl, inr, ap, sym, ◌∙◌, subst, refl, arith, append_assoc}
use Rattle.std.proofs.lemmas.List.{append-nil, take_more, take-append-drop, length-append}
use Rattle.std.proofs.lemmas.Grind.{flat_map-append}
use Rattle.dg_base.proofs.LineLemmas.{FirstFeed, lacks_feed}
use Rattle.std.specs.List.{AllByRecursion}
use Rattle.dg_story.specs.Lines.{report_line_text, lines_text, Tells}
use Rattle.dg_story.specs.Reading.{begins_timed, IsLineOf, IsFirstLine, IsNoLine, IsEndLine, IsRead, FirstNoReport, HasMoreLines, most_lines}
use Rattle.dg_story.specs.declared.lines.Line.{Line}
use Rattle.dg_story.specs.declared.told.Told.{Told}

pub line_at : (bytes : List ℕ) (n : ℕ) → FirstFeed bytes n → IsFirstLine (take (n + 1) bytes) (drop (n + 1) bytes)
line_at bytes n f = inl (take n bytes, take_more bytes n 0 f.within ∙ ap (λ (b : ℕ). take n bytes ++ b ∷ []) f.feed, lacks_feed (take n bytes) f.before)

-- the lines so far were read, and the rest is left
pub record SoFar (bytes rest : List ℕ) (told : List Told) (last count : ℕ) (timed : Bool) : Type 0 where
  pub lines : List Line
  pub parts : bytes ≡ lines_text lines ++ rest
  pub replay : AllByRecursion (IsLineOf timed) lines
  pub few : length lines ≤ most_lines
  pub tells : Tells told last count lines

one_more : (bytes : List ℕ) (lines : List Line) (l : Line) (rest line behind : List ℕ) → bytes ≡ lines_text lines ++ rest → rest ≡ line ++ behind → report_line_text l ≡ line
    → bytes ≡ lines_text (lines ++ l ∷ []) ++ behind
one_more bytes lines l rest line behind h e is =
    let text : lines_text (lines ++ l ∷ []) ≡ lines_text lines ++ line =
    flat_map-append report_line_text lines (l ∷ []) ∙ ap (λ (xs : List ℕ). lines_text lines ++ xs) (append-nil (report_line_text l) ∙ is) in
    h ∙ ap (λ (xs : List ℕ). lines_text lines ++ xs) e ∙ sym (append_assoc (lines_text lines) line behind) ∙ ap (λ (xs : List ℕ). xs ++ behind) (sym text)

all_more : (timed : Bool) (lines : List Line) (l : Line) → AllByRecursion (IsLineOf timed) lines → IsLineOf timed l → AllByRecursion (IsLineOf timed) (lines ++ l ∷ [])
all_more timed [] l h p = (p, tt)
all_more timed (x ∷ xs) l h p = (h.0, all_more timed xs l h.1 p)

pub split_whole : (rest line behind : List ℕ) (n : ℕ) → line ≡ take n rest → behind ≡ drop n rest → rest ≡ line ++ behind
split_whole rest line behind n p q = sym (ap (λ (xs : List ℕ). xs ++ behind) p ∙ ap (λ (xs : List ℕ). take n rest ++ xs) q ∙ take-append-drop n rest)

pub so_far_more : (bytes rest line behind : List ℕ) (told new : List Told) (last next count n : ℕ) (timed : Bool) (l : Line) → (h : SoFar bytes rest told last count timed)
    → count < most_lines → rest ≡ line ++ behind → report_line_text l ≡ line → IsLineOf timed l
    → ((lines : List Line) → Tells told last count lines → Tells new next n (lines ++ l ∷ [])) → SoFar bytes behind new next n timed
so_far_more bytes rest line behind told new last next count n timed l h room e is of tells = record {
  lines = h.lines ++ l ∷ [];
  parts = one_more bytes h.lines l rest line behind h.parts e is;
  replay = all_more timed h.lines l h.replay of;
  few = let m = length-append h.lines (l ∷ []) in omega (arith, m, h.few, h.tells.count_is, room);
  tells = tells h.lines h.tells;
}

-- a call that did not fail
pub went_well : {T E : Type 0} {P : Type 0} (r : Result T E) → is_err r ≡ false → OnOk r P → P
went_well (Ok y) fine h = h
went_well (Err y) fine h = absurd (let f : true ≡ false = fine in cc)

-- how a reading ends
pub read_all : (bytes rest : List ℕ) (told : List Told) (last count : ℕ) (timed : Bool) → SoFar bytes rest told last count timed → timed ≡ begins_timed bytes → rest ≡ []
    → IsRead bytes told last count rest
read_all bytes rest told last count timed h t none = record {
  lines = h.lines;
  reports = record {
    ending = rest;
    parts = h.parts;
    replay = subst (λ b. AllByRecursion (IsLineOf b) h.lines) t h.replay;
    few = h.few;
    ended = inl (none, none);
  };
  tells = h.tells;
}

pub read_to : (bytes rest line behind words : List ℕ) (told : List Told) (last count : ℕ) (timed : Bool) → SoFar bytes rest told last count timed → timed ≡ begins_timed bytes
    → rest ≡ line ++ behind → behind ≡ [] → IsEndLine timed line words → IsRead bytes told last count words
read_to bytes rest line behind words told last count timed h t e none is =
    let whole : rest ≡ line = e ∙ ap (λ (xs : List ℕ). line ++ xs) none ∙ append-nil line in
    record {
      lines = h.lines;
      reports = record {
        ending = line;
        parts = h.parts ∙ ap (λ (xs : List ℕ). lines_text h.lines ++ xs) whole;
        replay = subst (λ b. AllByRecursion (IsLineOf b) h.lines) t h.replay;
        few = h.few;
        ended = inr (subst (λ b. IsEndLine b line words) t is);
      };
      tells = h.tells;
    }

pub not_read : (bytes rest line behind : List ℕ) (told : List Told) (last count number : ℕ) (timed : Bool) → SoFar bytes rest told last count timed → timed ≡ begins_timed bytes
    → rest ≡ line ++ behind → 0 < length line → IsFirstLine line behind → IsNoLine timed line → number ≡ count + 1 → FirstNoReport bytes number
not_read bytes rest line behind told last count number timed h t e some first none is = record {
  lines = h.lines;
  line = line;
  rest = behind;
  parts = h.parts ∙ ap (λ (xs : List ℕ). lines_text h.lines ++ xs) e;
  replay = subst (λ b. AllByRecursion (IsLineOf b) h.lines) t h.replay;
  counted = let n = h.tells.count_is in omega (arith, n, is);
  some = λ nil. let n : length line ≡ 0 = ap length nil in omega (arith, some, n);
  first = first;
  none = subst (λ b. IsNoLine b line) t none;
}

pub too_many : (bytes rest : List ℕ) (told : List Told) (last count : ℕ) (timed : Bool) → SoFar bytes rest told last count timed → timed ≡ begins_timed bytes → most_lines ≤ count
    → 0 < length rest → HasMoreLines bytes
too_many bytes rest told last count timed h t full more = record {
  lines = h.lines;
  rest = rest;
  parts = h.parts;
  replay = subst (λ b. AllByRecursion (IsLineOf b) h.lines) t h.replay;
  full = let n = h.tells.count_is in omega (arith, n, h.few, full);
  more = λ nil. let n : length rest ≡ 0 = ap length nil in omega (arith, more, n);
}

-- before the first line
pub begun_reading : (bytes : List ℕ) (told : List Told) (last count : ℕ) (timed : Bool) → Tells told last count [] → SoFar bytes bytes told last count timed
begun_reading bytes told last count timed h = record { lines = []; parts = refl; replay = tt; few = omega arith; tells = h }

pub ruleset readings = (read_all, read_to, not_read, too_many)
