-- What holds of every picture.
use Rattle.std.proofs.Common.{◌≡◌, ℕ, zero, suc, ◌+◌, ◌*◌, ◌/◌, ◌≤◌, ◌<◌, ◌==◌, ◌&&◌, max, min, nat_lt, Bool, true, false, List, [], ◌∷◌, ◌++◌, length, take, Option, Some, None, if◌then◌else◌, refl, ap, sym, ◌∙◌, arith, inl, inr}
use Rattle.std.proofs.lemmas.Bool.{cases_Bool, lt-ltb, ltb-true, and_parts, eqb-true}
use Rattle.std.proofs.lemmas.List.{take_all}
use Rattle.std.proofs.lemmas.Grind.{fold-append}
use Rattle.std.proofs.Math.Nat.{mul-le-mul_left, lt-div-mul-add}
use Rattle.std.specs.List.{fold, filter, list_any, find, prefix_len, AllByRecursion}
use Rattle.std.specs.Option.{unwrap_or}
use Rattle.dg_story.specs.Lines.{is_told, placed_from, told_of, end_of}
use Rattle.dg_story.specs.Reports.{is_change, is_change_of, nothing, reported, last_reported, motes, last_image, report_motes, report_image, first_of, kept_first, total}
use Rattle.dg_layout.specs.Layout.{each, grid_of, step_of, left_of, is_before, count_before, shown, lane_of, rows_of, lane_bottom, foot, height_to, changes_of}
use Rattle.dg_story.specs.Reading.{IsLineOf}
use Rattle.dg_story.specs.declared.lines.Line.{Line}
use Rattle.dg_story.specs.declared.told.Told.{Told}
use Rattle.dg_story.specs.declared.reports.Pages.{Pages}
use Rattle.dg_layout.specs.declared.layout.Frame.{Frame}
use Rattle.dg_layout.proofs.LayoutLemmas.{lanes_fit}
use Rattle.dg_layout.specs.declared.layout.TheConstants.{LINE_STEPS, MOMENT_STEPS}
use Rattle.dg_script.specs.declared.report.Report.{Report}
use Rattle.dg_script.specs.declared.report.Report.TheVariants.{Have, Lost}

-- ---- largest numbers

grows : (f : Told → ℕ) (n : ℕ) (ts : List Told) → n ≤ fold (λ k (t : Told). max k (f t)) n ts
grows f n [] = omega arith
grows f n (t ∷ ts) = let h = grows f (max n (f t)) ts in omega (arith, h)

all_within : (f : Told → ℕ) (n : ℕ) (ts : List Told) → AllByRecursion (λ (t : Told). f t ≤ fold (λ k (t : Told). max k (f t)) n ts) ts
all_within f n [] = tt
all_within f n (t ∷ ts) = (let h = grows f (max n (f t)) ts in omega (arith, h), all_within f (max n (f t)) ts)

-- ---- sizes

pub lanes : (told : List Told) → AllByRecursion (λ (t : Told). report_image t.report ≤ (rows_of told).images) told
unfolding rows_of
lanes told = all_within (λ t. report_image t.report) 0 told

pub rows : (told : List Told) → AllByRecursion (λ (t : Told). report_motes t.report ≤ (rows_of told).rows) told
unfolding rows_of
rows told = all_within (λ t. report_motes t.report) 0 told

low_by : (mote rows image most lane row : ℕ) → mote < rows → image ≤ most → row ≡ 10 + lane * most → 56 + row * mote + lane * image ≤ 48 + row * rows
low_by mote rows image most lane row inside within is =
    let down : row * (mote + 1) ≤ row * rows = mul-le-mul_left row (let h : mote + 1 ≤ rows = omega (arith, inside) in h) in
    let across : lane * image ≤ lane * most = mul-le-mul_left lane within in
    omega (arith, down, across, is)

pub low : (told : List Told) (mote image : ℕ) → mote < (rows_of told).rows → image ≤ (rows_of told).images
    → lane_bottom (rows_of told) mote image ≤ foot (rows_of told)
unfolding rows_of
low told mote image inside within = low_by mote (motes told) image (last_image told) (lane_of (last_image told)) (10 + lane_of (last_image told) * last_image told) inside within refl

fits_by : (rows row lanes : ℕ) → rows ≤ 16 → row ≡ 10 + lanes → lanes ≤ 48 → 48 + row * rows + 24 ≤ 1000
fits_by rows row lanes few is thin =
    let wide : row * rows ≤ row * 16 = mul-le-mul_left row few in
    omega (arith, wide, is, thin)

few_told : (k n : ℕ) (lines : List Line) (timed : Bool) → n ≤ 16 → AllByRecursion (IsLineOf timed) lines
    → fold (λ n (t : Told). max n (report_motes t.report)) n (filter (λ (t : Told). is_told t.report) (placed_from k lines)) ≤ 16
few_told k n [] timed few h = few
few_told k n (l ∷ ls) timed few h = elim (cases_Bool (is_told l.report)) [
  | inl holds ↦ rw holds (few_told (k + 1) (max n (report_motes l.report)) ls timed (let a = h.0.1.0 in omega (arith, few, a)) h.1)
  | inr fails ↦ rw fails (few_told (k + 1) n ls timed few h.1)
]

pub high : (timed : Bool) (lines : List Line) → AllByRecursion (IsLineOf timed) lines → height_to (foot (rows_of (told_of lines))) ≤ 1000
unfolding rows_of
high timed lines h =
    let n = last_image (told_of lines) in
    fits_by (motes (told_of lines)) (10 + lane_of n * n) (lane_of n * n) (few_told 1 0 lines timed (omega arith) h) refl (lanes_fit n)

pub grid_fits : (columns : ℕ) → 0 < columns → columns * min 40 (1200 / columns) ≤ 1200
grid_fits columns some =
    let low : min 40 (1200 / columns) ≤ 1200 / columns = omega arith in
    let wide = mul-le-mul_left columns low in
    omega (arith, wide, some)

wide_within : (columns k width : ℕ) → k ≤ columns → columns * width ≤ 1200 → 100 + k * width ≤ 1300
wide_within columns k width inside fits =
    let wide = mul-le-mul_left width inside in
    omega (arith, wide, fits)

pub wide : (timed : Bool) (n k : ℕ) → k ≤ (grid_of timed n).columns → left_of (grid_of timed n) k ≤ 1300
unfolding grid_of
wide timed n k inside =
    let columns = n / step_of timed n + 1 in
    wide_within columns k (min 40 (1200 / columns)) inside (grid_fits columns (omega arith))

-- ---- the last column

step_within : (least : ℕ) (steps : List ℕ) → least < unwrap_or (find (λ step. nat_lt least step) steps) (least + 1)
step_within least [] = omega arith
step_within least (x ∷ xs) = elim (cases_Bool (nat_lt least x)) [
  | inl holds ↦ rw holds (ltb-true _ _ holds)
  | inr fails ↦ rw fails (step_within least xs)
]

spans_by : (n per : ℕ) → 0 < per → n < (n / per + 1) * per
spans_by n per some = let below = lt-div-mul-add {a = n} some in omega (arith, below)

spans : (timed : Bool) (n : ℕ) → n < (grid_of timed n).columns * (grid_of timed n).per
unfolding grid_of
spans timed n = spans_by n (step_of timed n) (let h = step_within (n / 240) (if timed then MOMENT_STEPS else LINE_STEPS) in omega (arith, h))

abbrev Within : (n : ℕ) → List Told → Type 0
Within n told = AllByRecursion (λ (t : Told). t.place ≤ n) told

all_before : (n p : ℕ) (cs : List Told) → n < p → Within n cs → prefix_len (is_before p) cs ≡ length cs
all_before n p [] h a = refl
all_before n p (t ∷ ts) h a =
    let q : nat_lt t.place p ≡ true = lt-ltb _ _ (let b = a.0 in omega (arith, h, b)) in
    let rest = all_before n p ts h a.1 in
    rw q (omega (arith, rest))

within_filter : (n : ℕ) (f : Told → Bool) (ts : List Told) → Within n ts → Within n (filter f ts)
within_filter n f [] a = tt
within_filter n f (t ∷ ts) a = elim (cases_Bool (f t)) [
  | inl holds ↦ rw holds (a.0, within_filter n f ts a.1)
  | inr fails ↦ rw fails (within_filter n f ts a.1)
]

within_append : (n : ℕ) (xs ys : List Told) → Within n xs → Within n ys → Within n (xs ++ ys)
within_append n [] ys p q = q
within_append n (x ∷ xs) ys p q = (p.0, within_append n xs ys p.1 q)

within_each : (n : ℕ) (f : ℕ → List Told) → ((k : ℕ) → Within n (f k)) → (m : ℕ) → Within n (each f m)
unfolding each
within_each n f h zero = tt
within_each n f h (suc m) = within_append n (each f m) (f m) (within_each n f h m) (h m)

within_kept : (n mote image : ℕ) (kept : Option Pages) → Within n (kept_first mote image kept)
within_kept n mote image None = tt
within_kept n mote image (Some pages) = (omega arith, tt)

within_first : (n : ℕ) (told : List Told) (mote image : ℕ) → Within n (first_of told mote image)
within_first n told mote image = elim (cases_Bool (list_any (λ (t : Told). is_change_of mote image t.report) told)) [
  | inl holds ↦ rw holds tt
  | inr fails ↦ rw fails (within_kept n mote image (total mote image told))
]

within_changes : (n : ℕ) (frame : Frame) (told : List Told) → Within n told → Within n (changes_of frame told)
unfolding changes_of
within_changes n frame told h =
    within_append n _ _
    (within_each n (λ mote. each (λ i. first_of told mote (i + 1)) frame.images)
    (λ mote. within_each n (λ i. first_of told mote (i + 1)) (λ i. within_first n told mote (i + 1)) frame.images) frame.rows)
    (within_filter n (λ t. is_change t.report) told h)

-- what a chip kept of one image from the start on says nothing of another one, or of another mote
kept_stays : (told : List Told) (mote image m i : ℕ) (kept : Option Pages) → list_any (λ (t : Told). is_change_of mote image t.report) told ≡ true
    → list_any (λ (t : Told). is_change_of m i t.report) told ≡ false → fold (λ k (t : Told). reported mote image k t.report) nothing (kept_first m i kept) ≡ nothing
kept_stays told mote image m i None holds fails = refl
kept_stays told mote image m i (Some pages) holds fails = elim (cases_Bool (m == mote && i == image)) [
  | inl same ↦
      let parts = and_parts (m == mote) (i == image) same in
      let p : m ≡ mote = eqb-true _ _ parts.0 in
      let q : i ≡ image = eqb-true _ _ parts.1 in
      let other : list_any (λ (t : Told). is_change_of mote image t.report) told ≡ false =
      sym (ap (λ n. list_any (λ (t : Told). is_change_of n i t.report) told) p ∙ ap (λ n. list_any (λ (t : Told). is_change_of mote n t.report) told) q) ∙ fails in
      absurd (let f : true ≡ false = sym holds ∙ other in cc)
  | inr other ↦ rw other refl
]

first_stays : (told : List Told) (mote image m i : ℕ) → list_any (λ (t : Told). is_change_of mote image t.report) told ≡ true
    → fold (λ k (t : Told). reported mote image k t.report) nothing (first_of told m i) ≡ nothing
first_stays told mote image m i holds = elim (cases_Bool (list_any (λ (t : Told). is_change_of m i t.report) told)) [
  | inl here ↦ rw here refl
  | inr fails ↦ rw fails (kept_stays told mote image m i (total m i told) holds fails)
]

each_stays : (h : Pages → Told → Pages) (f : ℕ → List Told) → ((k : ℕ) → fold h nothing (f k) ≡ nothing) → (m : ℕ) → fold h nothing (each f m) ≡ nothing
unfolding each
each_stays h f stays zero = refl
each_stays h f stays (suc m) =
    fold-append h nothing (each f m) (f m) ∙ ap (λ (p : Pages). fold h p (f m)) (each_stays h f stays m) ∙ stays m

quiet : (mote image : ℕ) (kept : Pages) (r : Report) → is_change r ≡ false → reported mote image kept r ≡ kept
quiet mote image kept (Have m i version count) h = absurd (let f : true ≡ false = h in cc)
quiet mote image kept (Lost m i) h = absurd (let f : true ≡ false = h in cc)
quiet mote image kept r h = refl

-- a line that reports no change reports no pages
reported_changes : (mote image : ℕ) (kept : Pages) (told : List Told)
    → fold (λ k (t : Told). reported mote image k t.report) kept (filter (λ (t : Told). is_change t.report) told) ≡ fold (λ k (t : Told). reported mote image k t.report) kept told
reported_changes mote image kept [] = refl
reported_changes mote image kept (t ∷ ts) = elim (cases_Bool (is_change t.report)) [
  | inl holds ↦ rw holds (reported_changes mote image (reported mote image kept t.report) ts)
  | inr fails ↦
      rw fails (reported_changes mote image kept ts
      ∙ ap (λ (k : Pages). fold (λ k (t : Told). reported mote image k t.report) k ts) (sym (quiet mote image kept t.report fails)))
]

told_changes : (frame : Frame) (mote image : ℕ) (told : List Told) → list_any (λ (t : Told). is_change_of mote image t.report) told ≡ true
    → fold (λ k (t : Told). reported mote image k t.report) nothing (changes_of frame told) ≡ last_reported mote image told
unfolding changes_of
told_changes frame mote image told holds =
    let h : Pages → Told → Pages = λ k t. reported mote image k t.report in
    let firsts = each (λ m. each (λ i. first_of told m (i + 1)) frame.images) frame.rows in
    fold-append h nothing firsts (filter (λ (t : Told). is_change t.report) told)
    ∙ ap (λ (p : Pages). fold h p (filter (λ (t : Told). is_change t.report) told))
    (each_stays h (λ m. each (λ i. first_of told m (i + 1)) frame.images)
    (λ m. each_stays h (λ i. first_of told m (i + 1)) (λ i. first_stays told mote image m (i + 1) holds) frame.images) frame.rows)
    ∙ reported_changes mote image nothing told

pub last : (timed : Bool) (mote image : ℕ) (lines : List Line) → list_any (λ t. is_change_of mote image t.report) (told_of lines) ≡ true
    → shown mote image (grid_of timed (end_of lines)).per (grid_of timed (end_of lines)).columns (changes_of (rows_of (told_of lines)) (told_of lines))
    ≡ last_reported mote image (told_of lines)
last timed mote image lines holds =
    let grid = grid_of timed (end_of lines) in
    let cs = changes_of (rows_of (told_of lines)) (told_of lines) in
    let inside = within_changes (end_of lines) (rows_of (told_of lines)) (told_of lines)
    (within_filter (end_of lines) (λ t. is_told t.report) (placed_from 1 lines) (all_within (λ t. t.place) 0 (placed_from 1 lines))) in
    let all : count_before grid.per grid.columns cs ≡ length cs = all_before (end_of lines) (grid.columns * grid.per) cs (spans timed (end_of lines)) inside in
    ap (λ (xs : List Told). fold (λ k (t : Told). reported mote image k t.report) nothing xs) (ap (λ n. take n cs) all ∙ take_all (length cs) cs (omega arith))
    ∙ told_changes (rows_of (told_of lines)) mote image (told_of lines) holds
