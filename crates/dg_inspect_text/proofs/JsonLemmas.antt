-- Values of JSON that have no floating-point number, and lists of values one by one.
use Rattle.std.proofs.Common.{◌≡◌, ℕ, ◌+◌, ◌<◌, ◌≤◌, Bool, true, false, cond, List, [], ◌∷◌, ◌++◌, map, take, length, get_or, Option, Some, None, Result, Ok, Err, IfOk, refl, sym, ap, ◌∙◌, arith, append_assoc, append-nil, drop}
use Rattle.std.specs.Prelude.{◌||◌, ◌==◌, if◌then◌else◌}
use Rattle.std.specs.List.{filter, range_with_len}
use Rattle.std.specs.FinSet as set
use Rattle.std.specs.Str.{IsUtf8, is_utf8}
use Rattle.std.proofs.lemmas.List.{take_more, length-take-le, take_all, map-id, map-append}
use Rattle.std.proofs.lemmas.Str.{IsUtf8-from_is_utf8, is_utf8-from_IsUtf8}
use Rattle.std.proofs.lemmas.List.FromFn.{filter_of_map_range_with_len_more}
use Rattle.serde_json.specs.Data.{Data, string}
use Rattle.serde_json.specs.View.{view, items_of}
use Rattle.serde_json.specs.declared.value.Value.{Value}
use Rattle.serde_json.specs.Written.{has_float, items_have_float}
use Rattle.dg_bits.specs.Sets.{Numbers}
use Rattle.dg_control.specs.declared.snapshot.Order.{Order}
use Rattle.dg_inspect.specs.declared.seen.ChipSeen.{ChipSeen}
use Rattle.dg_inspect.specs.declared.seen.ChipSeen.TheVariants as chip
use Rattle.dg_inspect.specs.declared.seen.FileSeen.{FileSeen}
use Rattle.dg_inspect.specs.declared.seen.FileSeen.TheVariants as file
use Rattle.dg_inspect.specs.declared.seen.ImageSeen.{ImageSeen}
use Rattle.dg_inspect.specs.declared.seen.NextNumbers.{NextNumbers}
use Rattle.dg_inspect.specs.declared.seen.NextStart.{NextStart}
use Rattle.dg_inspect.specs.declared.seen.OrderState.{OrderState}
use Rattle.dg_inspect.specs.declared.seen.PagesSeen.{PagesSeen}
use Rattle.dg_inspect.specs.declared.seen.ProgramSeen.{ProgramSeen}
use Rattle.dg_inspect.specs.declared.seen.VolumeSeen.{VolumeSeen}
use Rattle.dg_compare.specs.declared.results.Comparison.{Comparison}
use Rattle.dg_compare.specs.declared.results.Flaw.{Flaw}
use Rattle.dg_compare.specs.declared.results.Flaw.TheVariants as flaw
use Rattle.dg_compare.specs.declared.results.ImageCompared.{ImageCompared}
use Rattle.dg_compare.specs.declared.results.OrderCompared.{OrderCompared}
use Rattle.dg_compare.specs.declared.results.ProgramCompared.{ProgramCompared}
use Rattle.dg_compare.specs.declared.results.SharedPages.{SharedPages}
use Rattle.dg_compare.specs.declared.results.SharedPages.TheVariants as shared
use Rattle.dg_compare.specs.declared.results.Verdict.{Verdict}
use Rattle.dg_compare.specs.declared.results.Verdict.TheVariants as verdict
use Rattle.dg_inspect_text.specs.declared.report.Moment.{Moment}
use Rattle.dg_inspect_text.specs.declared.report.Report.{Report}
use Rattle.dg_inspect_text.specs.Json.{count_json, or_null, numbered, name_json, bytes_json, complete_json, chain_json, image_json, kept_json, program_json, version_json, start_json, order_json, volume_json, moment_json, chip_volume, chip_break, file_volume, file_break, report_json, reports_json, next_json, flaw_json, verdict_flaw, verdict_json, shared_json, side_json, ahead_json, image_compared_json, compared_json, line_of, program_compared_json, order_compared_json, sources_json, comparison_json}

-- ---- no floating-point number

or_false : (a b : Bool) → a ≡ false → b ≡ false → (a || b) ≡ false
or_false false false e f = refl
or_false true b e f = absurd cc
or_false false true e f = absurd cc

plain_null : {A : Type 0} (f : A → Data) → ((x : A) → has_float (f x) ≡ false) → (o : Option A) → has_float (or_null f o) ≡ false
plain_null f each None = refl
plain_null f each (Some x) = each x

plain_map : {A : Type 0} (f : A → Data) → ((x : A) → has_float (f x) ≡ false) → (xs : List A) → items_have_float (items_of (map f xs)) ≡ false
plain_map f each [] = refl
plain_map f each (x ∷ xs) = or_false (has_float (f x)) (items_have_float (items_of (map f xs))) (each x) (plain_map f each xs)

plain_append : (ds es : List Data) → items_have_float (items_of ds) ≡ false → items_have_float (items_of es) ≡ false → items_have_float (items_of (ds ++ es)) ≡ false
plain_append [] es p q = q
plain_append (d ∷ ds) es p q = or_false (has_float d) (items_have_float (items_of (ds ++ es))) (first (has_float d) (items_have_float (items_of ds)) p) (plain_append ds es (second (has_float d) (items_have_float (items_of ds)) p) q)
  where
    first : (a b : Bool) → (a || b) ≡ false → a ≡ false
    first false b e = refl
    first true b e = e

    second : (a b : Bool) → (a || b) ≡ false → b ≡ false
    second false b e = e
    second true b e = absurd cc

plain_numbered : {A : Type 0} (f : ℕ → A → List Data) → ((n : ℕ) (x : A) → items_have_float (items_of (f n x)) ≡ false) → (n : ℕ) (xs : List A) → items_have_float (items_of (numbered f n xs)) ≡ false
unfolding numbered
plain_numbered f each n [] = refl
plain_numbered f each n (x ∷ xs) = plain_append (f n x) (numbered f (n + 1) xs) (each n x) (plain_numbered f each (n + 1) xs)

plain_count : (n : ℕ) → has_float (count_json n) ≡ false
plain_count n = refl

plain_if : (b : Bool) (d e : Data) → has_float d ≡ false → has_float e ≡ false → has_float (if b then d else e) ≡ false
plain_if true d e p q = p
plain_if false d e p q = q

plain_complete : (x : PagesSeen) → has_float (complete_json x) ≡ false
plain_complete x =
    or_false _ _ (plain_null bytes_json (λ b. refl) x.bytes)
    (or_false _ _ (plain_map count_json plain_count (filter (set.contains x.unsound) (range_with_len 0 65))) refl)

plain_image : (n : ℕ) (x : ImageSeen) → has_float (image_json n x) ≡ false
plain_image n x =
    or_false _ _ (plain_null chain_json (λ b. refl) x.chain)
    (or_false _ _ (plain_null complete_json plain_complete x.complete) refl)

plain_kept : (n : ℕ) (o : Option ImageSeen) → items_have_float (items_of (kept_json n o)) ≡ false
plain_kept n None = refl
plain_kept n (Some x) = or_false _ _ (plain_image n x) refl

plain_program : (x : ProgramSeen) → has_float (program_json x) ≡ false
plain_program x = or_false _ _ (plain_complete x.pages) refl

plain_start : (x : NextStart) → has_float (start_json x) ≡ false
plain_start x = or_false _ _ (plain_null version_json (λ v. refl) x.runs) refl

plain_order : (o : Order) (state : OrderState) → has_float (order_json o state) ≡ false
plain_order o state = plain_if (o.number == 0) _ _ refl refl

plain_volume : (x : VolumeSeen) → has_float (volume_json x) ≡ false
plain_volume x =
    or_false _ _ (plain_numbered kept_json plain_kept 0 x.images.items)
    (or_false _ _ (plain_start x.next)
    (or_false _ _ (plain_order x.order x.order_state)
    (or_false _ _ (plain_null program_json plain_program x.program) refl)))

plain_chip : (x : ChipSeen) → (has_float (chip_volume x) ≡ false) × (has_float (chip_break x) ≡ false)
plain_chip (chip.Volume x) = (plain_volume x, refl)
plain_chip (chip.Broken b) = (refl, refl)

plain_file : (x : FileSeen) → (has_float (file_volume x) ≡ false) × (has_float (file_break x) ≡ false)
plain_file file.Other = (refl, refl)
plain_file file.Blank = (refl, refl)
plain_file (file.Chip older x) = plain_chip x

plain_moment : (m : Moment) → has_float (moment_json m) ≡ false
plain_moment m = or_false _ _ (plain_null count_json plain_count m.modified) refl

plain_report : (r : Report) → has_float (report_json r) ≡ false
plain_report r =
    let seen = plain_file r.seen in
    or_false _ _ seen.1 (or_false _ _ (plain_moment r.moment) (or_false _ _ seen.0 refl))

pub plain_reports : (rs : List Report) → has_float (reports_json rs) ≡ false
plain_reports rs = plain_map report_json plain_report rs

pub plain_next : (x : NextNumbers) → has_float (next_json x) ≡ false
plain_next x =
    or_false _ _ (plain_null count_json plain_count x.number)
    (or_false _ _ (plain_map (or_null count_json) (plain_null count_json plain_count) (drop 1 x.versions)) refl)

plain_flaw : (f : Flaw) → has_float (flaw_json f) ≡ false
plain_flaw (flaw.Image i p) = refl
plain_flaw (flaw.Program p) = refl
plain_flaw (flaw.Root i) = refl

plain_verdict_flaw : (v : Verdict) → has_float (verdict_flaw v) ≡ false
plain_verdict_flaw verdict.Sound = refl
plain_verdict_flaw (verdict.Flawed f) = plain_flaw f
plain_verdict_flaw verdict.NoVolume = refl

pub plain_verdict : (name : List ℕ) (m : Moment) (v : Verdict) → has_float (verdict_json name m v) ≡ false
plain_verdict name m v = or_false _ _ (plain_verdict_flaw v) (or_false _ _ (plain_moment m) refl)

plain_shared : (x : SharedPages) → has_float (shared_json x) ≡ false
plain_shared shared.Nothing = refl
plain_shared shared.Equal = refl
plain_shared (shared.Differ p) = refl

plain_image_compared : (n : ℕ) (x : ImageCompared) → has_float (image_compared_json n x) ≡ false
plain_image_compared n x = or_false _ _ (plain_null ahead_json (λ a. refl) x.ahead) (or_false _ _ (plain_shared x.shared) refl)

plain_compared : (n : ℕ) (x : ImageCompared) → items_have_float (items_of (compared_json n x)) ≡ false
plain_compared n x = or_false _ _ (plain_image_compared n x) refl

plain_order_compared : (x : OrderCompared) → has_float (order_compared_json x) ≡ false
plain_order_compared x = or_false _ _ (plain_null side_json (λ a. refl) x.ahead) refl

plain_program_compared : (x : ProgramCompared) → has_float (program_compared_json x) ≡ false
plain_program_compared x = or_false _ _ (plain_shared x.shared) refl

pub plain_sources : (name : List ℕ) (m : Moment) (other : List ℕ) (n : Moment) → has_float (sources_json name m other n) ≡ false
plain_sources name m other n = or_false _ _ (or_false _ _ (plain_moment m) refl) (or_false _ _ (or_false _ _ (plain_moment n) refl) refl)

pub plain_comparison : (files : Data) (x : Comparison) → has_float files ≡ false → has_float (comparison_json files x) ≡ false
plain_comparison files x plain =
    or_false _ _ plain
    (or_false _ _ (plain_numbered compared_json plain_compared 0 x.images.items)
    (or_false _ _ (plain_order_compared x.order) (or_false _ _ (plain_program_compared x.program) refl)))

-- ---- the line of a value

pub line_told : {T E : Type 0} (bytes : T → List ℕ) (r : Result T E) (v : Value) (d : Data) → view v ≡ d → has_float d ≡ false → IfOk r (λ line. has_float (view v) ≡ false → bytes line ≡ line_of (view v)) → IfOk r (λ line. bytes line ≡ line_of d)
line_told bytes (Err e) v d is plain told = tt
line_told bytes (Ok s) v d is plain told = told (ap has_float is ∙ plain) ∙ ap line_of is

-- ---- lists one by one

filter_more : (p : ℕ → Bool) (n : ℕ) → filter p (range_with_len 0 (n + 1)) ≡ filter p (range_with_len 0 n) ++ cond (p n) (n ∷ []) []
filter_more p n =
    ap (filter p) (sym (map-id (range_with_len 0 (n + 1)))) ∙ filter_of_map_range_with_len_more p (λ (x : ℕ). x) 0 n n (omega arith)
    ∙ ap (λ (xs : List ℕ). filter p xs ++ cond (p n) (n ∷ []) []) (map-id (range_with_len 0 n))

one_page : (n : ℕ) (b c : Bool) → b ≡ c → map count_json (cond c (n ∷ []) []) ≡ cond b (count_json n ∷ []) []
one_page n true true e = refl
one_page n false false e = refl
one_page n true false e = absurd cc
one_page n false true e = absurd cc

-- one page more
page_more : (s : Numbers) (n : ℕ) (b : Bool) → b ≡ set.contains s n → map count_json (filter (set.contains s) (range_with_len 0 (n + 1))) ≡ map count_json (filter (set.contains s) (range_with_len 0 n)) ++ cond b (count_json n ∷ []) []
page_more s n b e =
    ap (map count_json) (filter_more (set.contains s) n)
    ∙ map-append count_json (filter (set.contains s) (range_with_len 0 n)) (cond (set.contains s n) (n ∷ []) [])
    ∙ ap (λ (xs : List Data). map count_json (filter (set.contains s) (range_with_len 0 n)) ++ xs) (one_page n b (set.contains s n) e)

pub page_in_set : (s : Numbers) (n : ℕ) (v : Value) (vs : List Value) → true ≡ set.contains s n → view v ≡ count_json n → map view vs ≡ map count_json (filter (set.contains s) (range_with_len 0 n))
    → map view (vs ++ v ∷ []) ≡ map count_json (filter (set.contains s) (range_with_len 0 (n + 1)))
page_in_set s n v vs e told before = map-append view vs (v ∷ []) ∙ ap (λ (xs : List Data). xs ++ view v ∷ []) before ∙ ap (λ (d : Data). map count_json (filter (set.contains s) (range_with_len 0 n)) ++ d ∷ []) told ∙ sym (page_more s n true e)

pub page_not_in_set : (s : Numbers) (n : ℕ) (vs : List Value) → false ≡ set.contains s n → map view vs ≡ map count_json (filter (set.contains s) (range_with_len 0 n))
    → map view vs ≡ map count_json (filter (set.contains s) (range_with_len 0 (n + 1)))
page_not_in_set s n vs e before = before ∙ sym (append-nil (map count_json (filter (set.contains s) (range_with_len 0 n)))) ∙ sym (page_more s n false e)

plus_none : (n : ℕ) → n ≡ n + 0
plus_none n = omega arith

numbered_append : {A : Type 0} (f : ℕ → A → List Data) (n : ℕ) (xs : List A) (x : A) → numbered f n (xs ++ x ∷ []) ≡ numbered f n xs ++ f (n + length xs) x
unfolding numbered
numbered_append f n [] x = append-nil (f n x) ∙ ap (λ (k : ℕ). f k x) (plus_none n)
numbered_append f n (y ∷ xs) x =
    ap (λ (ds : List Data). f n y ++ ds) (numbered_append f (n + 1) xs x ∙ ap (λ (k : ℕ). numbered f (n + 1) xs ++ f k x) (omega arith))
    ∙ sym (append_assoc (f n y) (numbered f (n + 1) xs) (f (n + length (y ∷ xs)) x))

-- what the next one gives with its number
pub numbered_more : {A : Type 0} (f : ℕ → A → List Data) (xs : List A) (i : ℕ) (x : A) → i < length xs → x ≡ get_or xs i x → numbered f 0 (take (i + 1) xs) ≡ numbered f 0 (take i xs) ++ f i x
numbered_more f xs i x lt is =
    let long : length (take i xs) ≡ i = length-take-le i xs (omega (arith, lt)) in
    let at : 0 + length (take i xs) ≡ i = omega (arith, long) in
    ap (numbered f 0) (take_more xs i x lt ∙ ap (λ y. take i xs ++ y ∷ []) (sym is)) ∙ numbered_append f 0 (take i xs) x ∙ ap (λ (k : ℕ). numbered f 0 (take i xs) ++ f k x) at

pub numbered_pushed : {A : Type 0} (f : ℕ → A → List Data) (xs : List A) (i : ℕ) (x : A) (v : Value) (vs : List Value) → i < length xs → x ≡ get_or xs i x → view v ∷ [] ≡ f i x → map view vs ≡ numbered f 0 (take i xs) → map view (vs ++ v ∷ []) ≡ numbered f 0 (take (i + 1) xs)
numbered_pushed f xs i x v vs lt is told before =
    map-append view vs (v ∷ []) ∙ ap (λ (ds : List Data). ds ++ view v ∷ []) before ∙ ap (λ (ds : List Data). numbered f 0 (take i xs) ++ ds) told ∙ sym (numbered_more f xs i x lt is)

pub numbered_passed : {A : Type 0} (f : ℕ → A → List Data) (xs : List A) (i : ℕ) (x : A) (vs : List Value) → i < length xs → x ≡ get_or xs i x → [] ≡ f i x → map view vs ≡ numbered f 0 (take i xs) → map view vs ≡ numbered f 0 (take (i + 1) xs)
numbered_passed f xs i x vs lt is none before =
    before ∙ sym (append-nil (numbered f 0 (take i xs))) ∙ ap (λ (ds : List Data). numbered f 0 (take i xs) ++ ds) none ∙ sym (numbered_more f xs i x lt is)

pub numbered_none : {A : Type 0} (f : ℕ → A → List Data) (vs : List Value) → vs ≡ [] → map view vs ≡ numbered f 0 []
unfolding numbered
numbered_none f vs none = ap (map view) none

-- all of them
pub numbered_all : {A : Type 0} (f : ℕ → A → List Data) (xs : List A) (i : ℕ) (vs : List Value) → length xs ≤ i → map view vs ≡ numbered f 0 (take i xs) → map view vs ≡ numbered f 0 xs
numbered_all f xs i vs past before = before ∙ ap (numbered f 0) (take_all i xs past)

pub kept_none : (n : ℕ) (o : Option ImageSeen) → ((x : ImageSeen) → o ≡ Some x → ⊥) → [] ≡ kept_json n o
kept_none n None never = refl
kept_none n (Some x) never = absurd (never x refl)

-- ---- names

is_false : (b : Bool) → (b ≡ true → ⊥) → b ≡ false
is_false false none = refl
is_false true none = absurd (none refl)

pub name_is_text : (name : List ℕ) → IsUtf8 name → string name ≡ name_json name
name_is_text name is = ap (λ (b : Bool). string (if b then name else [])) (sym (is_utf8-from_IsUtf8 name is))

pub name_is_none : (name : List ℕ) → (IsUtf8 name → ⊥) → string [] ≡ name_json name
name_is_none name none = ap (λ (b : Bool). string (if b then name else [])) (sym (is_false (is_utf8 name) (λ is. none (IsUtf8-from_is_utf8 name is))))

pub told_as : {E : Type 0} (r : Result Value E) (d e : Data) → d ≡ e → IfOk r (λ v. view v ≡ d) → IfOk r (λ v. view v ≡ e)
told_as (Err x) d e same told = tt
told_as (Ok v) d e same told = told ∙ same
