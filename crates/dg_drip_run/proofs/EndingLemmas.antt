-- What was read and played is what the bytes of the input say.
use Rattle.std.proofs.Common.{◌≡◌, ◌≢◌, ◌∙◌, ⊎_elim, ℕ, ◌+◌, ◌-◌, ◌<◌, ◌≤◌, ◌==◌, Bool, true, false, List, [], ◌∷◌, ◌++◌, length, take, refl, ap, sym, subst, append-nil, append_assoc, length-append, arith, Result, Ok, Err, Option, Some, All}
use Rattle.std.specs.Prelude.{nat_lt, if◌then◌else◌}
use Rattle.std.specs.List.{slice_split}
use Rattle.std.specs.Str.Lines.{lines, strip_carriage_return}
use Rattle.std.proofs.lemmas.Bool.{ne_eqb}
use Rattle.std.proofs.lemmas.Bool.Decides.{nat_tests}
use Rattle.std.proofs.lemmas.List.Splits.{slice_split_at, slice_split_none, length-slice_split}
use Rattle.std.proofs.Math.Seq.{take-append-add}
use Rattle.dg_base.proofs.LineLemmas.{lines-ended, lines-last}
use Rattle.dg_lines.specs.LineReading.{IsLine, IsLastLine, HasNoEnd}
use Rattle.dg_drip.specs.Network.{are_drip_neighbours}
use Rattle.dg_drip_script.specs.Lines.{drip_line_of, line_fault}
use Rattle.dg_drip_script.specs.Scripts.{DripItem, DripScript, first_script, spelled_behind, then_line, standing_of, with_drip_line}
use Rattle.dg_drip_script.specs.Sizes.{most_events}
use Rattle.dg_drip_script.specs.declared.line.DripLine.{DripLine}
use Rattle.dg_drip_script.specs.declared.line.DripLine.TheVariants.{Nothing, Nodes, Link, Event as EventLine, Round, Sweeps}
use Rattle.dg_drip_script.specs.declared.line.DripFault.{DripFault}
use Rattle.dg_script.specs.declared.fault.LineFault.{LineFault}
use Rattle.dg_script.specs.declared.fault.LineFault.TheVariants as fault
use Rattle.dg_end.specs.declared.ends.End.{End}
use Rattle.dg_end.specs.declared.ends.End.TheVariants as ends
use Rattle.dg_drip_run.specs.Dripped.{AreLines}
use Rattle.dg_drip_run.specs.Causes.{ended_parts, ended_lines, lines_within, ending_by_line, ending_by_lines}

-- ---- tests

-- the ending of an input of which this many bytes are used
abbrev pub ending_within : (most : ℕ) → (over : Bool) → List ℕ → Result (Unit {0}) End
ending_within most over input = ending_by_lines over first_script 1 (lines_within most over input)

-- a line with this number and this fault ends a script
abbrev pub bad_end : (number : ℕ) → LineFault → Result (Unit {0}) End
bad_end number f = Err (ends.BadLine number f)

pub above : (n m : ℕ) → m < n → nat_lt m n ≡ true
above n m h = grind (arith, nat_tests)

pub not_above : (n m : ℕ) → n ≤ m → nat_lt m n ≡ false
not_above n m h = grind (arith, nat_tests)

-- ---- texts of bytes

no_feed : (bytes : List ℕ) → HasNoEnd bytes → All (λ b. (b == 10) ≡ false) bytes
no_feed bytes h = λ k d within. ne_eqb _ 10 (h k d within)

ended_parts-cons : (x : List ℕ) (parts : List (List ℕ)) → 0 < length parts → ended_parts (x ∷ parts) ≡ strip_carriage_return x ∷ ended_parts parts
ended_parts-cons x [] l = absurd (omega arith)
ended_parts-cons x (y ∷ more) l = refl

ended-ended : (front rest : List ℕ) → HasNoEnd front → ended_lines (front ++ 10 ∷ rest) ≡ strip_carriage_return front ∷ ended_lines rest
ended-ended front rest h =
    ap ended_parts (slice_split_at (λ b. b == 10) front 10 rest (no_feed front h) refl)
    ∙ ended_parts-cons front (slice_split (λ b. b == 10) rest) (omega (arith, length-slice_split (λ b. b == 10) rest))

pub ended-none : (front : List ℕ) → HasNoEnd front → ended_lines front ≡ []
ended-none front h = ap ended_parts (slice_split_none (λ b. b == 10) front (no_feed front h))

-- a line that ends in LF, and what comes after it
behind_line : (text line rest : List ℕ) (f : List ℕ → List (List ℕ)) → ((front more : List ℕ) → HasNoEnd front → f (front ++ 10 ∷ more) ≡ strip_carriage_return front ∷ f more) → IsLine text line → f (line ++ rest) ≡ text ∷ f rest
behind_line text line rest f ended l =
    ap f (ap (λ (x : List ℕ). x ++ rest) l.ended ∙ append_assoc l.before (10 ∷ []) rest) ∙ (ended l.before rest l.whole ∙ ap (λ (t : List ℕ). t ∷ f rest) (sym l.told))

lines_behind : (text line rest : List ℕ) → IsLine text line → lines (line ++ rest) ≡ text ∷ lines rest
lines_behind text line rest l = behind_line text line rest lines (λ front more none. lines-ended front more (no_feed front none)) l

ended_behind : (text line rest : List ℕ) → IsLine text line → ended_lines (line ++ rest) ≡ text ∷ ended_lines rest
ended_behind text line rest l = behind_line text line rest ended_lines (λ front more none. ended-ended front more none) l

pub last_alone : (text line : List ℕ) → IsLastLine text line → lines line ≡ text ∷ []
last_alone text line l = lines-last line (no_feed line l.whole) (some_bytes line l.some) ∙ ap (λ (t : List ℕ). t ∷ []) (sym l.told)
  where
    some_bytes : (xs : List ℕ) → xs ≢ [] → 0 < length xs
    some_bytes [] some = absurd (some refl)
    some_bytes (x ∷ xs) some = omega arith

-- the lines that were given are the first ones of all bytes
all_lines : (texts : List (List ℕ)) (given x : List ℕ) (ended : Type 0) → (ended → x ≡ []) → AreLines texts given ended → lines (given ++ x) ≡ texts ++ lines x
all_lines [] given x ended none h = ap (λ (g : List ℕ). lines (g ++ x)) h
all_lines (text ∷ texts) given x ended none h =
    ap (λ (g : List ℕ). lines (g ++ x)) h.2
    ∙ (ap lines (append_assoc h.0 h.1 x)
    ∙ ⊎_elim
    (λ l. lines_behind text h.0 (h.1 ++ x) l ∙ ap (λ (ts : List (List ℕ)). text ∷ ts) (all_lines texts h.1 x ended none h.4))
    (λ l.
    let no_more : x ≡ [] = none l.3 in
    let alone : h.0 ++ (h.1 ++ x) ≡ h.0 = ap (λ (xs : List ℕ). h.0 ++ xs) (ap (λ (xs : List ℕ). xs ++ x) l.1 ∙ no_more) ∙ append-nil h.0 in
    ap lines alone ∙ (last_alone text h.0 l.0 ∙ ap (λ (ts : List (List ℕ)). text ∷ ts) (sym (ap (λ (ts : List (List ℕ)). ts ++ lines x) l.2 ∙ ap lines no_more))))
    h.3)

ended_front : (texts : List (List ℕ)) (given y : List ℕ) (ended : Type 0) → (ended → ⊥) → AreLines texts given ended → ended_lines (given ++ y) ≡ texts ++ ended_lines y
ended_front [] given y ended not_yet h = ap (λ (g : List ℕ). ended_lines (g ++ y)) h
ended_front (text ∷ texts) given y ended not_yet h =
    ap (λ (g : List ℕ). ended_lines (g ++ y)) h.2
    ∙ (ap ended_lines (append_assoc h.0 h.1 y)
    ∙ ⊎_elim
    (λ l. ended_behind text h.0 (h.1 ++ y) l ∙ ap (λ (ts : List (List ℕ)). text ∷ ts) (ended_front texts h.1 y ended not_yet h.4))
    (λ l. absurd (not_yet l.3))
    h.3)

-- ---- the lines that are used

-- what is used of a rest, where this many bytes may be used
abbrev pub rest_within : (left : ℕ) → (over : Bool) → List ℕ → List (List ℕ)
rest_within left true x = ended_lines (take left x)
rest_within left false x = lines x

cut_behind : (most : ℕ) (given x : List ℕ) → length given ≤ most → take most (given ++ x) ≡ given ++ take (most - length given) x
cut_behind most given x few =
    let sum : most ≡ length given + (most - length given) = omega (arith, few) in
    ap (λ (n : ℕ). take n (given ++ x)) sum ∙ take-append-add given x (most - length given)

pub given_within : (most : ℕ) (over : Bool) (texts : List (List ℕ)) (given x : List ℕ) (ended : Type 0) → (ended → x ≡ []) → length given ≤ most → nat_lt most (length (given ++ x)) ≡ over → AreLines texts given ended
    → lines_within most over (given ++ x) ≡ texts ++ rest_within (most - length given) over x
unfolding lines_within
given_within most false texts given x ended none few is h = all_lines texts given x ended none h
given_within most true texts given x ended none few is h =
    ap ended_lines (cut_behind most given x few)
    ∙ ended_front texts given (take (most - length given) x) ended
    (λ e. absurd (let no : false ≡ true = sym (not_above (length (given ++ x)) most (omega (arith, length-append given x, ap length (none e), few))) ∙ is in cc)) h

-- a line that ends within what is used comes first of a rest
pub next_within : (left : ℕ) (over : Bool) (text next y : List ℕ) → length next ≤ left → IsLine text next → (more : List (List ℕ)) × (rest_within left over (next ++ y) ≡ text ∷ more)
next_within left false text next y fits l = (lines y, lines_behind text next y l)
next_within left true text next y fits l = (ended_lines (take (left - length next) y), ap ended_lines (cut_behind left next y fits) ∙ ended_behind text next (take (left - length next) y) l)

-- ---- lines that are played

grows_by_line : (s : DripScript) (line : DripLine) → length s.items ≤ length (with_drip_line s line).items
grows_by_line s Nothing = omega arith
grows_by_line s (Nodes count) = omega arith
grows_by_line s (Link a b) = by_link (are_drip_neighbours s.links a b)
  where
    by_link : (x : Bool) → length s.items ≤ length (if x then s else record s { links = s.links ++ (a, b) ∷ [] }).items
    by_link true = omega arith
    by_link false = omega arith
grows_by_line s (EventLine event) = omega (arith, length-append s.items (record { event = event; reported = true } ∷ []))
grows_by_line s (Round a b) = longer s.items _
  where
    longer : (xs ys : List DripItem) → length xs ≤ length (xs ++ ys)
    longer xs ys = omega (arith, length-append xs ys)
grows_by_line s (Sweeps count) = longer s.items _
  where
    longer : (xs ys : List DripItem) → length xs ≤ length (xs ++ ys)
    longer xs ys = omega (arith, length-append xs ys)

line_there : (r : Result DripLine DripFault) (go : DripLine → Option DripScript) (s : DripScript) → then_line r go ≡ Some s → (line : DripLine) × (r ≡ Ok line) × (go line ≡ Some s)
line_there (Ok line) go s h = (line, refl, h)
line_there (Err f) go s h = absurd (let x = h in cc)

grows : (texts : List (List ℕ)) (s t : DripScript) → spelled_behind s texts ≡ Some t → length s.items ≤ length t.items
grows [] s t h = let same : s ≡ t = cc in subst (λ (x : DripScript). length s.items ≤ length x.items) same (omega arith)
grows (text ∷ texts) s t h =
    let l = line_there (drip_line_of (standing_of s) text) (λ line. spelled_behind (with_drip_line s line) texts) t h in
    omega (arith, grows_by_line s l.0, grows texts (with_drip_line s l.0) t l.2)

-- a line that is played
passes_line : (over : Bool) (s : DripScript) (number : ℕ) (text : List ℕ) (texts : List (List ℕ)) (line : DripLine) → drip_line_of (standing_of s) text ≡ Ok line → length (with_drip_line s line).items ≤ most_events
    → ending_by_lines over s number (text ∷ texts) ≡ ending_by_lines over (with_drip_line s line) (number + 1) texts
unfolding ending_by_lines
passes_line over s number text texts line is few =
    ap (λ (r : Result DripLine DripFault). ending_by_line r s number (λ t. ending_by_lines over t (number + 1) texts)) is
    ∙ ap (λ (b : Bool). if b then Err ends.TooMany else ending_by_lines over (with_drip_line s line) (number + 1) texts) (not_above (length (with_drip_line s line).items) most_events few)

-- lines that are played
pub ends_behind : (over : Bool) (texts more : List (List ℕ)) (s t : DripScript) (number : ℕ) → spelled_behind s texts ≡ Some t → length t.items ≤ most_events
    → ending_by_lines over s number (texts ++ more) ≡ ending_by_lines over t (number + length texts) more
ends_behind over [] more s t number h few =
    let same : s ≡ t = cc in
    let e : number ≡ number + 0 = omega arith in
    ap (λ (x : DripScript). ending_by_lines over x number more) same ∙ ap (λ (n : ℕ). ending_by_lines over t n more) e
ends_behind over (text ∷ texts) more s t number h few =
    let l = line_there (drip_line_of (standing_of s) text) (λ line. spelled_behind (with_drip_line s line) texts) t h in
    let e : number + 1 + length texts ≡ number + length (text ∷ texts) = omega arith in
    passes_line over s number text (texts ++ more) l.0 l.1 (omega (arith, few, grows texts (with_drip_line s l.0) t l.2))
    ∙ (ends_behind over texts more (with_drip_line s l.0) t (number + 1) l.2 few ∙ ap (λ (n : ℕ). ending_by_lines over t n more) e)

pub spelled_then : (front back : List (List ℕ)) (s t : DripScript) → spelled_behind s front ≡ Some t → spelled_behind s (front ++ back) ≡ spelled_behind t back
spelled_then [] back s t h = let same : s ≡ t = cc in ap (λ (x : DripScript). spelled_behind x back) same
spelled_then (text ∷ front) back s t h =
    let l = line_there (drip_line_of (standing_of s) text) (λ line. spelled_behind (with_drip_line s line) front) t h in
    ap (λ (r : Result DripLine DripFault). then_line r (λ line. spelled_behind (with_drip_line s line) (front ++ back))) l.1 ∙ spelled_then front back (with_drip_line s l.0) t l.2

-- the line that brings too many events
pub too_many_by : (over : Bool) (text : List ℕ) (more : List (List ℕ)) (s t : DripScript) (number : ℕ) → spelled_behind s (text ∷ []) ≡ Some t → most_events < length t.items
    → ending_by_lines over s number (text ∷ more) ≡ Err ends.TooMany
unfolding ending_by_lines
too_many_by over text more s t number h many =
    let l = line_there (drip_line_of (standing_of s) text) (λ line. Some (with_drip_line s line)) t h in
    let same : with_drip_line s l.0 ≡ t = let e = l.2 in cc in
    ap (λ (r : Result DripLine DripFault). ending_by_line r s number (λ t. ending_by_lines over t (number + 1) more)) l.1
    ∙ ap (λ (b : Bool). if b then Err ends.TooMany else ending_by_lines over (with_drip_line s l.0) (number + 1) more) (above (length (with_drip_line s l.0).items) most_events (subst (λ (x : DripScript). most_events < length x.items) (sym same) many))

-- a line with a fault
pub bad_by : (over : Bool) (text : List ℕ) (more : List (List ℕ)) (s : DripScript) (number : ℕ) (f : DripFault) → drip_line_of (standing_of s) text ≡ Err f → ending_by_lines over s number (text ∷ more) ≡ bad_end number (line_fault f)
unfolding ending_by_lines
bad_by over text more s number f is = ap (λ (r : Result DripLine DripFault). ending_by_line r s number (λ t. ending_by_lines over t (number + 1) more)) is

pub over_behind : (s : DripScript) (number : ℕ) → ending_by_lines true s number [] ≡ Err ends.TooLong
unfolding ending_by_lines
over_behind s number = refl

pub no_nodes_behind : (s : DripScript) (number : ℕ) → s.nodes ≡ 0 → ending_by_lines false s number [] ≡ bad_end number fault.Place
unfolding ending_by_lines
no_nodes_behind s number none = let by : ℕ → Result (Unit {0}) End = λ n. if n == 0 then bad_end number fault.Place else Ok tt in ap by none

pub ends_at_end : (s : DripScript) (number : ℕ) → 0 < s.nodes → ending_by_lines false s number [] ≡ Ok tt
unfolding ending_by_lines
ends_at_end s number some = let by : Bool → Result (Unit {0}) End = λ b. if b then bad_end number fault.Place else Ok tt in ap by (ne_eqb s.nodes 0 (λ zero_nodes. omega (arith, some, zero_nodes)))
