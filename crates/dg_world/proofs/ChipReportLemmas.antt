-- What is reported of chips that changed.
use Rattle.std.proofs.Common.{◌≡◌, ℕ, ◌+◌, ◌<◌, ◌≤◌, Bool, true, false, cond, List, [], ◌∷◌, ◌++◌, refl, ap, ◌∙◌, arith, zero, suc, length, eq-eqb}
use Rattle.std.specs.Prelude.{◌==◌, if◌then◌else◌, slice_index_or, Option, Some, None, option_to_list}
use Rattle.std.specs.List.{filter, filter_map, cons_option, range_with_len}
use Rattle.std.proofs.lemmas.List.{append_assoc}
use Rattle.std.proofs.lemmas.List.Elements.{filter-append, filter_map-append}
use Rattle.dg_control.specs.declared.snapshot.Order.{Order}
use Rattle.dg_slot.specs.Kept.{Held}
use Rattle.dg_volume.specs.Sizes.{images}
use Rattle.dg_volume.specs.Store.{Store, held}
use Rattle.dg_volume.specs.Told.{told}
use Rattle.dg_volume.specs.declared.volume.Kept.{Kept}
use Rattle.dg_rules.specs.Changes.{same_held, order_change, have_change, changes, is_reported}
use Rattle.dg_script.specs.declared.report.Report.{Report}
use Rattle.dg_script.specs.declared.report.Report.TheVariants.{Order as OrderLine, Lost, Have, Start, Off, SentAdvert, SentRequest, SentData, Refused, Taken, End, MoteOn, MoteOff, Kept as KeptLine}
use Rattle.dg_world.specs.inner.ChipReports.{have_line, have_lines, change_lines}
use Rattle.dg_node.specs.Reports.{IsReportOf}
use Rattle.dg_world.specs.inner.OutcomeEndings.{SameReport}
use Rattle.dg_node.specs.declared.report.ChipReport.{ChipReport}
use Rattle.dg_mote.specs.Summary.{same_order}

pub range_more : (a n : ℕ) → range_with_len a (n + 1) ≡ range_with_len a n ++ (a + n) ∷ []
range_more a zero = ap (λ (x : ℕ). x ∷ []) (omega arith)
range_more a (suc n) =
    let e : suc n + 1 ≡ suc (n + 1) = omega arith in
    let f : (a + 1) + n ≡ a + suc n = omega arith in
    ap (range_with_len a) e ∙ ap (λ (xs : List ℕ). a ∷ xs) (range_more (a + 1) n ∙ ap (λ (x : ℕ). range_with_len (a + 1) n ++ x ∷ []) f)

single : {A : Type 0} (o : Option A) → cons_option o [] ≡ option_to_list o
single None = refl
single (Some x) = refl

-- one more image
pub haves_more : (m : ℕ) (a b : ChipReport) (n : ℕ) → have_lines m a b (n + 1) ≡ have_lines m a b n ++ option_to_list (have_line m n (slice_index_or a.kept n None) (slice_index_or b.kept n None))
haves_more m a b n =
    let f : ℕ → Option Report = λ i. have_line m i (slice_index_or a.kept i None) (slice_index_or b.kept i None) in
    let e : 0 + n ≡ n = omega arith in
    ap (filter_map f) (range_more 0 n) ∙ filter_map-append f (range_with_len 0 n) ((0 + n) ∷ [])
    ∙ ap (λ (xs : List Report). filter_map f (range_with_len 0 n) ++ xs) (single (f (0 + n)) ∙ ap (λ (k : ℕ). option_to_list (f k)) e)

-- ---- what a volume reports is the store's

have_told : (m i : ℕ) (a b : Option Held) → have_line m i (told a) (told b) ≡ have_change m i a b
have_told m i None None = refl
have_told m i (Some a) None = refl
have_told m i None (Some b) = refl
have_told m i (Some a) (Some b) = refl

below_more : (n k : ℕ) → k + suc n ≤ images → k + 1 + n ≤ images
below_more n k h = omega (arith, h)

pub same_over : (f g : ℕ → Option Report) (k n : ℕ) → ((i : ℕ) → i < images → f i ≡ g i) → k + n ≤ images → filter_map f (range_with_len k n) ≡ filter_map g (range_with_len k n)
same_over f g k zero same h = refl
same_over f g k (suc n) same h =
    let e : f k ≡ g k = same k (omega (arith, h)) in
    ap (λ (o : Option Report). cons_option o (filter_map f (range_with_len (k + 1) n))) e ∙ ap (cons_option (g k)) (same_over f g (k + 1) n same (below_more n k h))

pub changes_are_reported : (m : ℕ) (a b : ChipReport) (s t : Store) → IsReportOf a s → IsReportOf b t → change_lines m a b ≡ changes m s t
changes_are_reported m a b s t is_report after =
    let f : ℕ → Option Report = λ i. have_line m i (slice_index_or a.kept i None) (slice_index_or b.kept i None) in
    let g : ℕ → Option Report = λ i. have_change m i (held s i) (held t i) in
    let same : (i : ℕ) → i < images → f i ≡ g i = λ i h.
    ap (λ (o : Option Kept). have_line m i o (slice_index_or b.kept i None)) (is_report.kept i h)
    ∙ ap (have_line m i (told (held s i))) (after.kept i h) ∙ have_told m i (held s i) (held t i) in
    ap (λ (o : Order). order_change m o b.order ++ filter_map f (range_with_len 0 images)) is_report.order
    ∙ ap (λ (o : Order). order_change m s.order o ++ filter_map f (range_with_len 0 images)) after.order
    ∙ ap (λ (xs : List Report). order_change m s.order t.order ++ xs) (same_over f g 0 images same (omega arith))

-- ---- where neither what is kept nor the order changes

same_number : (n : ℕ) → (n == n) ≡ true
same_number n = eq-eqb n n refl

order_same : (m : ℕ) (o : Order) → order_change m o o ≡ []
order_same m o =
    let e : same_order o o ≡ true = cc (same_number o.number, same_number o.image, same_number o.version) in
    ap (λ (b : Bool). if b then [] else (OrderLine m o.number o.image o.version ∷ [])) e

have_same : (m i : ℕ) (o : Option Held) → have_change m i o o ≡ None
have_same m i None = refl
have_same m i (Some h) =
    let e : same_held (Some h) h ≡ true = cc (same_number h.version, same_number (length h.complete)) in
    ap (λ (b : Bool). if b then None else Some (Have m i h.version (length h.complete))) e

none_over : (f : ℕ → Option Report) (k n : ℕ) → ((i : ℕ) → f i ≡ None) → filter_map f (range_with_len k n) ≡ []
none_over f k zero none = refl
none_over f k (suc n) none = ap (λ (o : Option Report). cons_option o (filter_map f (range_with_len (k + 1) n))) (none k) ∙ none_over f (k + 1) n none

pub changes_same : (m : ℕ) (s t : Store) → SameReport s t → changes m s t ≡ []
changes_same m s t same =
    let f : List (Option Held) → List Report = λ xs. filter_map (λ i. have_change m i (held s i) (slice_index_or xs i None)) (range_with_len 0 images) in
    ap (λ (o : Order). order_change m s.order o ++ f t.kept) same.order
    ∙ ap (λ (xs : List (Option Held)). order_change m s.order s.order ++ f xs) same.kept
    ∙ ap (λ (xs : List Report). xs ++ f s.kept) (order_same m s.order)
    ∙ none_over (λ i. have_change m i (held s i) (held s i)) 0 images (λ i. have_same m i (held s i))

-- ---- lists that are appended to

pub told_then : {A : Type 0} (start mid end a b c : List A) → mid ≡ start ++ a → end ≡ mid ++ b → a ++ b ≡ c → end ≡ start ++ c
told_then {A} start mid end a b c e f g = f ∙ ap (λ (l : List A). l ++ b) e ∙ append_assoc start a b ∙ ap (λ (l : List A). start ++ l) g

-- ---- lines that are reported

reported_always : (r : Report) → is_reported true r ≡ true
reported_always (OrderLine m n i v) = refl
reported_always (Lost m i) = refl
reported_always (Have m i v n) = refl
reported_always (Start m i v n c) = refl
reported_always (Off m) = refl
reported_always (SentAdvert m) = refl
reported_always (SentRequest m to i v p n) = refl
reported_always (SentData m i v p n) = refl
reported_always (Refused m why) = refl
reported_always (Taken i v) = refl
reported_always (End n) = refl
reported_always (MoteOn m i v) = refl
reported_always (MoteOff m) = refl
reported_always (KeptLine m i v n) = refl

-- where `sent` lines are wanted every line is reported
pub all_reported : (xs : List Report) → filter (is_reported true) xs ≡ xs
all_reported [] = refl
all_reported (x ∷ xs) = ap (λ (b : Bool). cond b (x ∷ filter (is_reported true) xs) (filter (is_reported true) xs)) (reported_always x) ∙ ap (λ (l : List Report). x ∷ l) (all_reported xs)

-- a line that is reported whether or not `sent` lines are
abbrev Always : Option Report → Type 0
Always None = Unit {0}
Always (Some r) = (reported : Bool) → is_reported reported r ≡ true

cons_told : (reported : Bool) (o : Option Report) (xs : List Report) → Always o → filter (is_reported reported) xs ≡ xs → filter (is_reported reported) (cons_option o xs) ≡ cons_option o xs
cons_told reported None xs always e = e
cons_told reported (Some r) xs always e = ap (λ (b : Bool). cond b (r ∷ filter (is_reported reported) xs) (filter (is_reported reported) xs)) (always reported) ∙ ap (λ (l : List Report). r ∷ l) e

over_told : (reported : Bool) (f : ℕ → Option Report) (k n : ℕ) → ((i : ℕ) → Always (f i)) → filter (is_reported reported) (filter_map f (range_with_len k n)) ≡ filter_map f (range_with_len k n)
over_told reported f k zero always = refl
over_told reported f k (suc n) always = cons_told reported (f k) (filter_map f (range_with_len (k + 1) n)) (always k) (over_told reported f (k + 1) n always)

order_told : (reported : Bool) (m : ℕ) (a b : Order) → filter (is_reported reported) (order_change m a b) ≡ order_change m a b
order_told reported m a b = either (same_order a b)
  where
    either : (c : Bool) → filter (is_reported reported) (if c then [] else (OrderLine m b.number b.image b.version ∷ [])) ≡ (if c then [] else (OrderLine m b.number b.image b.version ∷ []))
    either true = refl
    either false = refl

unless_always : (c : Bool) (m i v n : ℕ) → Always (if c then None else Some (Have m i v n))
unless_always true m i v n = tt
unless_always false m i v n = λ reported. refl

have_always : (m i : ℕ) (a b : Option Kept) → Always (have_line m i a b)
have_always m i None None = tt
have_always m i (Some a) None = λ reported. refl
have_always m i None (Some b) = λ reported. refl
have_always m i (Some a) (Some b) = unless_always _ m i b.version b.done

held_always : (m i : ℕ) (a b : Option Held) → Always (have_change m i a b)
held_always m i None None = tt
held_always m i (Some a) None = λ reported. refl
held_always m i None (Some b) = λ reported. refl
held_always m i (Some a) (Some b) = unless_always _ m i b.version (length b.complete)

both_told : (reported : Bool) (xs ys : List Report) → filter (is_reported reported) xs ≡ xs → filter (is_reported reported) ys ≡ ys → filter (is_reported reported) (xs ++ ys) ≡ xs ++ ys
both_told reported xs ys e f = filter-append (is_reported reported) xs ys ∙ ap (λ (l : List Report). l ++ filter (is_reported reported) ys) e ∙ ap (λ (l : List Report). xs ++ l) f

-- what changed is always reported
pub changes_reported : (reported : Bool) (m : ℕ) (a b : ChipReport) → filter (is_reported reported) (change_lines m a b) ≡ change_lines m a b
changes_reported reported m a b =
    both_told reported (order_change m a.order b.order) (have_lines m a b images) (order_told reported m a.order b.order)
    (over_told reported (λ i. have_line m i (slice_index_or a.kept i None) (slice_index_or b.kept i None)) 0 images (λ i. have_always m i (slice_index_or a.kept i None) (slice_index_or b.kept i None)))

-- so is the loss of power
pub cut_told : (reported : Bool) (m : ℕ) (s t : Store) → filter (is_reported reported) (changes m s t ++ Off m ∷ []) ≡ changes m s t ++ Off m ∷ []
cut_told reported m s t =
    both_told reported (changes m s t) (Off m ∷ [])
    (both_told reported (order_change m s.order t.order) _ (order_told reported m s.order t.order) (over_told reported (λ i. have_change m i (held s i) (held t i)) 0 images (λ i. held_always m i (held s i) (held t i))))
    refl
