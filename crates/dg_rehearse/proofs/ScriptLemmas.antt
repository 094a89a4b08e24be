-- Lines that are written one after the other are a script.
use Rattle.std.proofs.Common.{lit<, lit≤, ◌≡◌, ◌≢◌, ℕ, zero, suc, ◌+◌, ◌-◌, ◌<◌, ◌≤◌, ◌^◌, ◌==◌, ◌||◌, ◌&&◌, not, Bool, true, false, cond, Decides, List, [], ◌∷◌, ◌++◌, length, map, take, append_assoc, decimal, refl, ap, sym, subst, ◌∙◌, arith}
use Rattle.std.specs.Prelude.{IfSome, IsTrue, Option, Some, None, Ok, Result, slice_index, nat_lt, nat_le, codes, is_some, if◌then◌else◌}
use Rattle.std.specs.Char.{is_ascii_digit}
use Rattle.std.specs.List.{AllByRecursion, flat_map, list_all, list_any, slice_split, onto_first}
use Rattle.std.specs.Str.{all_ascii_digits}
use Rattle.std.specs.Str.Lines.{lines, lines_of_parts, strip_carriage_return}
use Rattle.std.specs.Str.Parse.{digits_value}
use Rattle.std.proofs.lemmas.Bool.{ne_eqb, and_from, and_parts, false_from_ne_true}
use Rattle.std.proofs.lemmas.Bool.Decides.{Decides-eqb, Decides-and, Decides-or, nat_tests}
use Rattle.std.proofs.lemmas.Fmt.{digits_decimal}
use Rattle.std.proofs.lemmas.List.Elements.{All-from_recursion}
use Rattle.std.proofs.lemmas.List.Splits.{slice_split-cons_yes, slice_split-cons_no, length-slice_split}
use Rattle.std.proofs.lemmas.Str.Parse.{IsNumeralModel, numerals_by_value, tells_all_ascii_digits}
use Rattle.dg_words.specs.Cells.{AreBytes}
use Rattle.dg_base.specs.Hexadecimal.{hex_text, hex_digit}
use Rattle.dg_base.specs.Texts.{is_name_byte, spells_name}
use Rattle.dg_base.specs.declared.events.Cut.{Cut}
use Rattle.dg_base.specs.declared.events.Event.{Event}
use Rattle.dg_base.specs.declared.events.Event.TheVariants.{Tick, Hear, Last, Reset, Inject, Order, Frame}
use Rattle.dg_base.specs.declared.events.Step.{Step}
use Rattle.dg_netcfg.specs.Readings.{IsSameLink}
use Rattle.dg_script.specs.Fitting.{FitsCut, FitsEvent, FitsLine, IsGoldenImage}
use Rattle.dg_script.specs.Lines.{line_of}
use Rattle.dg_script.specs.Places.{first_place, place_after, joins, is_linked, none_narrow, fault_at_end}
use Rattle.dg_script.specs.Ranges.{AreTwo, IsDeclared}
use Rattle.dg_script.specs.Script.{Script, script_from, with_line}
use Rattle.dg_script.specs.inner.Words.{numbered}
use Rattle.dg_script.specs.Sizes.{most_motes, most_sweeps}
use Rattle.dg_script.specs.Spelling.{content_text, line_text}
use Rattle.dg_script.specs.Words.{behind_spaces}
use Rattle.dg_script.specs.declared.fault.LineFault.{LineFault}
use Rattle.dg_script.specs.declared.line.Line.{Line}
use Rattle.dg_script.specs.declared.line.Line.TheVariants.{Nothing, Motes, Golden, Boards, Link, Narrow, Image, Cut as CutLine, Happens as EventLine, Round, Sweeps}
use Rattle.dg_script.specs.declared.place.Place.{Place}
use Rattle.dg_lines.proofs.ReadsBackLemmas.{line_reads}
use Rattle.dg_trial.specs.Playing.{FitsStep}
use Rattle.dg_rehearse.specs.Rehearsed.{SpellsScript, cut_lines, step_lines, written_lines}

pub all_both : {A : Type 0} (P : A → Type 0) (xs ys : List A) → AllByRecursion P xs → AllByRecursion P ys → AllByRecursion P (xs ++ ys)
all_both P [] ys h k = k
all_both P (x ∷ xs) ys h k = (h.0, all_both P xs ys h.1 k)

-- ---- texts without line ends

abbrev Keeps : ℕ → Type 0
Keeps c = (c ≢ 10) × (c ≢ 13)

abbrev Plain : List ℕ → Type 0
Plain text = AllByRecursion Keeps text

abbrev plains : List ℕ → Bool
plains [] = true
plains (c ∷ cs) = (not (c == 10) && not (c == 13)) && plains cs

plain_by : (w : List ℕ) → plains w ≡ true → Plain w
plain_by [] h = tt
plain_by (c ∷ cs) h =
    let parts = and_parts (not (c == 10) && not (c == 13)) (plains cs) h in
    let both = and_parts (not (c == 10)) (not (c == 13)) parts.0 in
    (((λ e. let p = both.0 in let q : not (c == 10) ≡ not (10 == 10) = ap (λ x. not (x == 10)) e in cc), (λ e. let p = both.1 in let q : not (c == 13) ≡ not (13 == 13) = ap (λ x. not (x == 13)) e in cc)), plain_by cs parts.1)

plain_digits : (w : List ℕ) → all_ascii_digits w ≡ true → Plain w
plain_digits [] h = tt
plain_digits (c ∷ cs) h =
    let parts = and_parts (is_ascii_digit c) (all_ascii_digits cs) h in
    let is = parts.0 in
    (((λ e. let q : is_ascii_digit c ≡ is_ascii_digit 10 = ap is_ascii_digit e in cc), (λ e. let q : is_ascii_digit c ≡ is_ascii_digit 13 = ap is_ascii_digit e in cc)), plain_digits cs parts.1)

plain_named : (w : List ℕ) → list_all is_name_byte w ≡ true → Plain w
plain_named [] h = tt
plain_named (c ∷ cs) h =
    let parts = and_parts (is_name_byte c) (list_all is_name_byte cs) h in
    let is = parts.0 in
    (((λ e. let q : is_name_byte c ≡ is_name_byte 10 = ap is_name_byte e in cc), (λ e. let q : is_name_byte c ≡ is_name_byte 13 = ap is_name_byte e in cc)), plain_named cs parts.1)

plain_name : (w : List ℕ) → IsTrue (spells_name w) → Plain w
plain_name w h = plain_named w (and_parts (nat_le 1 (length w) && nat_le (length w) 16) (list_all is_name_byte w) h).1

own : IsNumeralModel (λ ds. all_ascii_digits ds ≡ true) (digits_value 10)
own = numerals_by_value _ tells_all_ascii_digits

plain_number : (n : ℕ) → n < 2 ^ 32 → Plain (decimal n)
plain_number n h = plain_digits (decimal n) (digits_decimal own n (omega (arith, h)))

digit_by : (b : Bool) (v k : ℕ) → k < 48 → cond b (48 + v) (87 + v) ≢ k
digit_by true v k small e = omega (arith, small, e)
digit_by false v k small e = omega (arith, small, e)

plain_digit : (v : ℕ) → Keeps (hex_digit v)
plain_digit v = (digit_by (nat_lt v 10) v 10 (omega arith), digit_by (nat_lt v 10) v 13 (omega arith))

plain_hex : (bytes : List ℕ) → Plain (hex_text bytes)
unfolding hex_text
plain_hex [] = tt
plain_hex (b ∷ bs) = (plain_digit _, (plain_digit _, plain_hex bs))

plain_content : (bytes : List ℕ) → Plain (content_text bytes)
plain_content bytes = all_both Keeps (codes "hex:") (hex_text bytes) (plain_by (codes "hex:") refl) (plain_hex bytes)

plain_space : Keeps 32
plain_space = ((λ e. omega (arith, e)), (λ e. omega (arith, e)))

plain_behind : (ws : List (List ℕ)) → AllByRecursion Plain ws → Plain (behind_spaces ws)
plain_behind [] h = tt
plain_behind (w ∷ ws) h = (plain_space, all_both Keeps w (behind_spaces ws) h.0 (plain_behind ws h.1))

plain_words : (w : List ℕ) (ws : List (List ℕ)) → plains w ≡ true → AllByRecursion Plain ws → Plain (w ++ behind_spaces ws)
plain_words w ws h hs = all_both Keeps w (behind_spaces ws) (plain_by w h) (plain_behind ws hs)

-- ---- the text of a line is such a text

abbrev pub IsPlain : Line → Type 0
IsPlain line = Plain (line_text line)

plain_event : (event : Event) → FitsEvent most_motes event → IsPlain (EventLine event)
unfolding line_text
plain_event (Tick m d w) h = plain_words (codes "tick") (decimal m ∷ decimal d ∷ decimal w ∷ []) refl (plain_number m (omega (arith, h.0)), (plain_number d h.1.dt, (plain_number w h.1.word, tt)))
plain_event (Hear m d w k) h =
    plain_words (codes "hear") (decimal m ∷ decimal d ∷ decimal w ∷ decimal k ∷ []) refl (plain_number m (omega (arith, h.0.0)), (plain_number d h.1.0.dt, (plain_number w h.1.0.word, (plain_number k h.1.1, tt))))
plain_event (Last a b d w) h =
    plain_words (codes "last") (decimal a ∷ decimal b ∷ decimal d ∷ decimal w ∷ []) refl (plain_number a (omega (arith, h.0.first)), (plain_number b (omega (arith, h.0.second)), (plain_number d h.1.dt, (plain_number w h.1.word, tt))))
plain_event (Reset m d w) h = plain_words (codes "reset") (decimal m ∷ decimal d ∷ decimal w ∷ []) refl (plain_number m (omega (arith, h.0)), (plain_number d h.1.dt, (plain_number w h.1.word, tt)))
plain_event (Inject m i v d w) h =
    let low = h.0.1.image in
    plain_words (codes "inject") (decimal m ∷ decimal i ∷ decimal v ∷ decimal d ∷ decimal w ∷ []) refl
    (plain_number m (omega (arith, h.0.0)), (plain_number i (omega (arith, low)), (plain_number v h.1.1, (plain_number d h.1.0.dt, (plain_number w h.1.0.word, tt)))))
plain_event (Order m k i v d w) h =
    let low = h.0.1.image in
    plain_words (codes "order") (decimal m ∷ decimal k ∷ decimal i ∷ decimal v ∷ decimal d ∷ decimal w ∷ []) refl
    (plain_number m (omega (arith, h.0.0)), (plain_number k h.0.4, (plain_number i (omega (arith, low)), (plain_number v h.0.2, (plain_number d h.1.dt, (plain_number w h.1.word, tt))))))
plain_event (Frame m d w bytes) h =
    plain_words (codes "frame") (decimal m ∷ decimal d ∷ decimal w ∷ content_text bytes ∷ []) refl (plain_number m (omega (arith, h.0.0)), (plain_number d h.1.dt, (plain_number w h.1.word, (plain_content bytes, tt))))

plain_line : (line : Line) → FitsLine most_motes line → IsPlain line
unfolding line_text
plain_line Nothing h = tt
plain_line (Motes n) h = plain_words (codes "motes") (decimal n ∷ []) refl (plain_number n (omega (arith, h.1)), tt)
plain_line (Golden called used content) h =
    plain_words (codes "golden") (called ∷ decimal used ∷ content_text content ∷ []) refl (plain_name called h.name, (plain_number used (omega (arith, h.used)), (plain_content content, tt)))
plain_line Boards h = plain_words (codes "boards") [] refl tt
plain_line (Link a b) h = plain_words (codes "link") (decimal a ∷ decimal b ∷ []) refl (plain_number a (omega (arith, h.first)), (plain_number b (omega (arith, h.second)), tt))
plain_line (Narrow m) h = plain_words (codes "narrow") (decimal m ∷ []) refl (plain_number m (omega (arith, h)), tt)
plain_line (Image image version called content) h =
    let low = h.image in
    plain_words (codes "image") (decimal image ∷ decimal version ∷ called ∷ content_text content ∷ []) refl
    (plain_number image (omega (arith, low)), (plain_number version h.version_fits, (plain_name called h.name, (plain_content content, tt))))
plain_line (CutLine cut) h = plain_words (codes "cut") (decimal cut.after ∷ hex_text cut.mask ∷ []) refl (plain_number cut.after h.fits, (plain_hex cut.mask, tt))
plain_line (EventLine event) h = plain_event event h
plain_line (Round a b) h = plain_words (codes "round") (decimal a ∷ decimal b ∷ []) refl (plain_number a (omega (arith, h.first)), (plain_number b (omega (arith, h.second)), tt))
plain_line (Sweeps n) h = plain_words (codes "sweeps") (decimal n ∷ []) refl (plain_number n (omega (arith, h.1)), tt)

plain_lines : (ls : List Line) → AllByRecursion (FitsLine most_motes) ls → AllByRecursion IsPlain ls
plain_lines [] h = tt
plain_lines (l ∷ ls) h = (plain_line l h.0, plain_lines ls h.1)

-- ---- bytes are split into lines

abbrev feed : ℕ → Bool
feed = λ b. b == 10

split_plain : (t rest : List ℕ) → Plain t → slice_split feed (t ++ 10 ∷ rest) ≡ t ∷ slice_split feed rest
split_plain [] rest h = slice_split-cons_yes feed 10 rest refl
split_plain (c ∷ t) rest h = slice_split-cons_no feed c (t ++ 10 ∷ rest) (ne_eqb c 10 h.0.0) ∙ ap (onto_first c) (split_plain t rest h.1)

parts_cons : (x : List ℕ) (parts : List (List ℕ)) → 0 < length parts → lines_of_parts (x ∷ parts) ≡ strip_carriage_return x ∷ lines_of_parts parts
parts_cons x [] l = absurd (omega arith)
parts_cons x (y ∷ more) l = refl

last_plain : (t : List ℕ) → Plain t → slice_index t (length t - 1) ≢ 13
last_plain [] h e = absurd (omega (arith, e))
last_plain (c ∷ cs) h e = (All-from_recursion Keeps (c ∷ cs) h (length (c ∷ cs) - 1) 0 (omega arith)).1 e

strip_plain : (t : List ℕ) → Plain t → strip_carriage_return t ≡ t
strip_plain t h = ap (λ (b : Bool). cond b (take (length t - 1) t) t) (ne_eqb (slice_index t (length t - 1)) 13 (last_plain t h))

lines_one : (t rest : List ℕ) → Plain t → lines (t ++ 10 ∷ rest) ≡ t ∷ lines rest
lines_one t rest h =
    ap lines_of_parts (split_plain t rest h) ∙ parts_cons t (slice_split feed rest) (omega (arith, length-slice_split feed rest)) ∙ ap (λ (x : List ℕ). x ∷ lines rest) (strip_plain t h)

lines_written : (ls : List Line) → AllByRecursion IsPlain ls → lines (written_lines ls) ≡ map line_text ls
lines_written [] h = refl
lines_written (l ∷ ls) h =
    ap lines (append_assoc (line_text l) (10 ∷ []) (written_lines ls)) ∙ lines_one (line_text l) (written_lines ls) h.0 ∙ ap (λ (xs : List (List ℕ)). line_text l ∷ xs) (lines_written ls h.1)

-- ---- lines that are read at their places

abbrev pub Reads : Place → List Line → Type 0
Reads place [] = fault_at_end place ≡ None
Reads place (l ∷ ls) = (line_of place (line_text l) ≡ Ok l) × Reads (place_after place l) ls

script_next : (place : Place) (n : ℕ) (line : Line) (texts : List (List ℕ)) (s : Script) → line_of place (line_text line) ≡ Ok line → script_from true (place_after place line) (n + 1) texts ≡ s
    → script_from true place n (line_text line ∷ texts) ≡ record { lines = line ∷ s.lines; fault = s.fault }
unfolding script_from
script_next place n line texts s reads rest =
    ap (λ (r : Result Line LineFault). with_line r (λ l. script_from true (place_after place l) (n + 1) texts) n) reads ∙ ap (λ (x : Script). record { lines = line ∷ x.lines; fault = x.fault }) rest

script_end : (place : Place) (n : ℕ) → fault_at_end place ≡ None → script_from true place n [] ≡ record { lines = []; fault = None }
unfolding script_from
script_end place n h = ap (λ (f : Option LineFault). record { lines = []; fault = numbered n f }) h

script_read : (place : Place) (n : ℕ) (ls : List Line) → Reads place ls → script_from true place n (map line_text ls) ≡ record { lines = ls; fault = None }
script_read place n [] h = script_end place n h
script_read place n (l ∷ ls) h = script_next place n l (map line_text ls) (record { lines = ls; fault = None }) h.0 (script_read (place_after place l) (n + 1) ls h.1)

-- a place after the first two lines
abbrev pub behind_head : (motes : ℕ) (events : Bool) (cut : Option Cut) (links : List (ℕ × ℕ)) → Place
behind_head motes events cut links = record { motes = motes; ready = true; events = events; cut = cut; links = links; narrow = none_narrow }

pub some_motes : (motes : ℕ) → 1 ≤ motes → nat_lt 0 motes ≡ true
some_motes motes h = grind (arith, nat_tests)

follows_any : (cut : Option Cut) → (if is_some cut then true else true) ≡ true
follows_any None = refl
follows_any (Some cut) = refl

pub written_script : (ls : List Line) → AllByRecursion (FitsLine most_motes) ls → Reads first_place ls → SpellsScript (written_lines ls) ls
written_script ls fits reads = ap (λ (xs : List (List ℕ)). script_from true first_place 1 xs) (lines_written ls (plain_lines ls fits)) ∙ script_read first_place 1 ls reads

-- ---- events

-- the numbers of an event that fit some motes fit the most
pub fits_event : (motes : ℕ) (event : Event) → motes ≤ most_motes → FitsEvent motes event → FitsEvent most_motes event
fits_event motes (Tick m dt word) few h = (omega (arith, few, h.0), h.1)
fits_event motes (Hear m dt word frame) few h = ((omega (arith, few, h.0.0), h.0.1), h.1)
fits_event motes (Last from to dt word) few h = (record { first = omega (arith, few, h.0.first); second = omega (arith, few, h.0.second); two = h.0.two }, h.1)
fits_event motes (Reset m dt word) few h = (omega (arith, few, h.0), h.1)
fits_event motes (Inject m image version dt word) few h = ((omega (arith, few, h.0.0), h.0.1), h.1)
fits_event motes (Order m number image version dt word) few h = ((omega (arith, few, h.0.0), h.0.1, h.0.2, h.0.3, h.0.4), h.1)
fits_event motes (Frame m dt word bytes) few h = ((omega (arith, few, h.0.0), h.0.1), h.1)

event_read : (motes : ℕ) (b : Bool) (cut : Option Cut) (links : List (ℕ × ℕ)) (event : Event) → 1 ≤ motes → motes ≤ most_motes → FitsEvent motes event
    → line_of (behind_head motes b cut links) (line_text (EventLine event)) ≡ Ok (EventLine event)
event_read motes b cut links (Tick m d w) some few h =
    line_reads (behind_head motes b cut links) (EventLine (Tick m d w)) (fits_event motes (Tick m d w) few h) tt (record { fits = and_from _ _ (some_motes motes some) refl; behind = follows_any cut }) h refl
event_read motes b cut links (Hear m d w k) some few h =
    line_reads (behind_head motes b cut links) (EventLine (Hear m d w k)) (fits_event motes (Hear m d w k) few h) tt (record { fits = and_from _ _ (some_motes motes some) refl; behind = follows_any cut }) h refl
event_read motes b cut links (Last x y d w) some few h =
    line_reads (behind_head motes b cut links) (EventLine (Last x y d w)) (fits_event motes (Last x y d w) few h) tt (record { fits = and_from _ _ (some_motes motes some) refl; behind = follows_any cut }) h refl
event_read motes b cut links (Reset m d w) some few h =
    line_reads (behind_head motes b cut links) (EventLine (Reset m d w)) (fits_event motes (Reset m d w) few h) tt (record { fits = and_from _ _ (some_motes motes some) refl; behind = follows_any cut }) h refl
event_read motes b cut links (Inject m i v d w) some few h =
    line_reads (behind_head motes b cut links) (EventLine (Inject m i v d w)) (fits_event motes (Inject m i v d w) few h) tt (record { fits = and_from _ _ (some_motes motes some) refl; behind = follows_any cut }) h refl
event_read motes b cut links (Order m k i v d w) some few h =
    line_reads (behind_head motes b cut links) (EventLine (Order m k i v d w)) (fits_event motes (Order m k i v d w) few h) tt (record { fits = and_from _ _ (some_motes motes some) refl; behind = follows_any cut }) h refl
event_read motes b cut links (Frame m d w bytes) some few h =
    line_reads (behind_head motes b cut links) (EventLine (Frame m d w bytes)) (fits_event motes (Frame m d w bytes) few h) tt (record { fits = and_from _ _ (some_motes motes some) refl; behind = follows_any cut }) h refl

step_read : (motes : ℕ) (b : Bool) (links : List (ℕ × ℕ)) (cut : Option Cut) (event : Event) (rest : List Line) → 1 ≤ motes → motes ≤ most_motes → IfSome cut FitsCut → FitsEvent motes event
    → Reads (behind_head motes true None links) rest → Reads (behind_head motes b None links) ((cut_lines cut ++ EventLine event ∷ []) ++ rest)
step_read motes b links None event rest some few cut_fits fits more = (event_read motes b None links event some few fits, more)
step_read motes b links (Some cut) event rest some few cut_fits fits more = (
  line_reads (behind_head motes b None links) (CutLine cut) cut_fits tt (record { fits = and_from _ _ (some_motes motes some) refl; behind = refl }) cut_fits refl,
  (
    event_read motes b (Some cut) links event some few fits,
    more,
  ),
)

pub steps_read : (motes : ℕ) (b : Bool) (links : List (ℕ × ℕ)) (steps : List Step) (rest : List Line) → 1 ≤ motes → motes ≤ most_motes → AllByRecursion (FitsStep motes) steps → ((e : Bool) → Reads (behind_head motes e None links) rest)
    → Reads (behind_head motes b None links) (flat_map step_lines steps ++ rest)
steps_read motes b links [] rest some few h more = more b
steps_read motes b links (x ∷ xs) rest some few h more =
    subst (λ (ls : List Line). Reads (behind_head motes b None links) ls) (sym (append_assoc (step_lines x) (flat_map step_lines xs) rest))
    (step_read motes b links x.cut x.event (flat_map step_lines xs ++ rest) some few h.0.cut h.0.event (steps_read motes true links xs rest some few h.1 more))

pub events_read : (motes : ℕ) (b : Bool) (links : List (ℕ × ℕ)) (events : List Event) (rest : List Line) → 1 ≤ motes → motes ≤ most_motes → AllByRecursion (FitsEvent motes) events → ((e : Bool) → Reads (behind_head motes e None links) rest)
    → Reads (behind_head motes b None links) (map EventLine events ++ rest)
events_read motes b links [] rest some few h more = more b
events_read motes b links (e ∷ es) rest some few h more = (event_read motes b None links e some few h.0, events_read motes true links es rest some few h.1 more)

pub sweeps_read : (motes : ℕ) (b : Bool) (links : List (ℕ × ℕ)) (n : ℕ) → 1 ≤ motes → 1 ≤ n → n ≤ most_sweeps → Reads (behind_head motes b None links) (Sweeps n ∷ [])
sweeps_read motes b links n some low high =
    (line_reads (behind_head motes b None links) (Sweeps n) (low, high) tt (record { fits = and_from _ _ (some_motes motes some) refl; behind = refl }) (low, high) refl, refl)

pub image_read : (motes : ℕ) (b : Bool) (links : List (ℕ × ℕ)) (image version : ℕ) (called content : List ℕ) (rest : List Line) → 1 ≤ motes → length content ≤ 70656 → FitsLine most_motes (Image image version called content)
    → Reads (behind_head motes b None links) rest → Reads (behind_head motes b None links) (Image image version called content ∷ rest)
image_read motes b links image version called content rest some small fits more =
    (line_reads (behind_head motes b None links) (Image image version called content) fits (omega (arith, small)) (record { fits = and_from _ _ (some_motes motes some) refl; behind = refl }) fits refl, more)

-- ---- links

abbrev pub IsNew : List (ℕ × ℕ) → ℕ × ℕ → Type 0
IsNew before l = is_linked before l.0 l.1 ≡ false

abbrev pub Apart : ℕ × ℕ → ℕ × ℕ → Type 0
Apart l m = ¬ IsSameLink l m

joins_decides : (l m : ℕ × ℕ) → Decides (joins m.0 m.1 l) (IsSameLink l m)
joins_decides l m =
    Decides-or _ _ (Decides-and _ _ (Decides-eqb l.0 m.0) (Decides-eqb l.1 m.1)) (Decides-and _ _ (Decides-eqb l.0 m.1) (Decides-eqb l.1 m.0))

none_more : (p : ℕ × ℕ → Bool) (xs : List (ℕ × ℕ)) (x : ℕ × ℕ) → list_any p xs ≡ false → p x ≡ false → list_any p (xs ++ x ∷ []) ≡ false
none_more p [] x none h = ap (λ (b : Bool). b || false) h
none_more p (y ∷ ys) x none h =
    let parts = or_parts (p y) (list_any p ys) none in
    ap (λ (b : Bool). b || list_any p (ys ++ x ∷ [])) parts.0 ∙ none_more p ys x parts.1 h
  where
    or_parts : (a b : Bool) → (a || b) ≡ false → (a ≡ false) × (b ≡ false)
    or_parts false b e = (refl, e)
    or_parts true b e = absurd cc

new_behind : (before : List (ℕ × ℕ)) (l : ℕ × ℕ) (ls : List (ℕ × ℕ)) → AllByRecursion (IsNew before) ls → AllByRecursion (Apart l) ls → AllByRecursion (IsNew (before ++ l ∷ [])) ls
new_behind before l [] new apart = tt
new_behind before l (m ∷ ms) new apart =
    (none_more (joins m.0 m.1) before l new.0 (false_from_ne_true (joins m.0 m.1 l) (λ t. apart.0 ((joins_decides l m).0 t))), new_behind before l ms new.1 apart.1)

-- each differs from all after it
unfoldable pub Pairs : List (ℕ × ℕ) → Type 0
Pairs [] = Unit {0}
Pairs (l ∷ ls) = AllByRecursion (Apart l) ls × Pairs ls

pub all_new : (ls : List (ℕ × ℕ)) → AllByRecursion (IsNew []) ls
all_new [] = tt
all_new (l ∷ ls) = (refl, all_new ls)

abbrev pub link_line : ℕ × ℕ → Line
link_line l = Link l.0 l.1

links_read : (motes : ℕ) (before ls : List (ℕ × ℕ)) (image rest : List Line) → 1 ≤ motes → motes ≤ most_motes → AllByRecursion (λ l. AreTwo motes l.0 l.1) ls → AllByRecursion (IsNew before) ls → Pairs ls
    → ((links : List (ℕ × ℕ)) → Reads (behind_head motes false None links) (image ++ rest)) → Reads (behind_head motes false None before) ((map link_line ls ++ image) ++ rest)
unfolding Pairs
links_read motes before [] image rest some few joined new apart more = more before
links_read motes before (l ∷ ls) image rest some few joined new apart more =
    let two : AreTwo motes l.0 l.1 = joined.0 in
    let most : AreTwo most_motes l.0 l.1 = record { first = omega (arith, two.first, few); second = omega (arith, two.second, few); two = two.two } in (
      line_reads (behind_head motes false None before) (Link l.0 l.1) most tt (record { fits = and_from _ _ (and_from _ _ (some_motes motes some) refl) refl; behind = refl }, new.0) two refl,
      links_read motes (before ++ l ∷ []) ls image rest some few joined.1 (new_behind before l ls new.1 apart.0) apart.1 more,
    )

-- ---- the first two lines

-- golden as rehearsals and trials format it
pub golden_fits : IsGoldenImage (codes "base") 0 (codes "A")
golden_fits = record { name = refl; used = lit≤ tt; some = lit≤ tt; fits = lit≤ tt; bytes = byte }
  where
    byte : AreBytes (codes "A")
    byte zero = lit< tt
    byte (suc k) = lit< tt

abbrev motes_place : ℕ → Place
motes_place motes = record { motes = motes; ready = false; events = false; cut = None; links = []; narrow = none_narrow }

-- the lines of motes, golden and links, and those after them
pub head_read : (motes : ℕ) (ls : List (ℕ × ℕ)) (image rest : List Line) → 1 ≤ motes → motes ≤ most_motes → AllByRecursion (λ l. AreTwo motes l.0 l.1) ls → Pairs ls
    → ((links : List (ℕ × ℕ)) → Reads (behind_head motes false None links) (image ++ rest)) → Reads first_place (Motes motes ∷ Golden (codes "base") 0 (codes "A") ∷ ((map link_line ls ++ image) ++ rest))
head_read motes ls image rest some few joined apart more = (
  line_reads first_place (Motes motes) (some, few) tt (record { fits = refl; behind = refl }) (some, few) refl,
  (
    line_reads (motes_place motes) (Golden (codes "base") 0 (codes "A")) golden_fits tt (record { fits = and_from _ _ (some_motes motes some) refl; behind = refl }) golden_fits refl,
    links_read motes [] ls image rest some few joined (all_new ls) apart more,
  ),
)

-- their numbers fit
pub head_fits : (motes : ℕ) (ls : List (ℕ × ℕ)) (more : List Line) → 1 ≤ motes → motes ≤ most_motes → AllByRecursion (λ l. AreTwo motes l.0 l.1) ls → AllByRecursion (FitsLine most_motes) more
    → AllByRecursion (FitsLine most_motes) (Motes motes ∷ Golden (codes "base") 0 (codes "A") ∷ (map link_line ls ++ more))
head_fits motes ls more some few joined fits = ((some, few), (golden_fits, all_both (FitsLine most_motes) (map link_line ls) more (links_fit_line ls joined) fits))
  where
    links_fit_line : (ms : List (ℕ × ℕ)) → AllByRecursion (λ l. AreTwo motes l.0 l.1) ms → AllByRecursion (FitsLine most_motes) (map link_line ms)
    links_fit_line [] h = tt
    links_fit_line (l ∷ ms) h = (record { first = omega (arith, h.0.first, few); second = omega (arith, h.0.second, few); two = h.0.two }, links_fit_line ms h.1)

step_fits_line : (motes : ℕ) (cut : Option Cut) (event : Event) → motes ≤ most_motes → IfSome cut FitsCut → FitsEvent motes event → AllByRecursion (FitsLine most_motes) (cut_lines cut ++ EventLine event ∷ [])
step_fits_line motes None event few c fits = (fits_event motes event few fits, tt)
step_fits_line motes (Some cut) event few c fits = (c, (fits_event motes event few fits, tt))

pub steps_fit_lines : (motes : ℕ) (steps : List Step) → motes ≤ most_motes → AllByRecursion (FitsStep motes) steps → AllByRecursion (FitsLine most_motes) (flat_map step_lines steps)
steps_fit_lines motes [] few h = tt
steps_fit_lines motes (x ∷ xs) few h = all_both (FitsLine most_motes) (step_lines x) (flat_map step_lines xs) (step_fits_line motes x.cut x.event few h.0.cut h.0.event) (steps_fit_lines motes xs few h.1)

pub events_fit_lines : (motes : ℕ) (events : List Event) → motes ≤ most_motes → AllByRecursion (FitsEvent motes) events → AllByRecursion (FitsLine most_motes) (map EventLine events)
events_fit_lines motes [] few h = tt
events_fit_lines motes (e ∷ es) few h = (fits_event motes e few h.0, events_fit_lines motes es few h.1)
