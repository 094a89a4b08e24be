-- The trace of a service is a script.
use Rattle.std.proofs.Common.{◌≡◌, ◌≢◌, ℕ, suc, ◌+◌, ◌-◌, ◌<◌, ◌≤◌, ◌^◌, ◌==◌, ◌||◌, ◌&&◌, not, Bool, true, false, cond, Decides, List, [], ◌∷◌, ◌++◌, length, map, take, append_assoc, decimal, Ok, refl, sym, ap, subst, ◌∙◌, inl, inr, arith}
use Rattle.std.specs.Prelude.{AllPairs, slice_index, nat_lt, codes, None, Result}
use Rattle.std.specs.Char.{is_ascii_digit}
use Rattle.std.specs.List.{AllByRecursion, list_any, slice_split, onto_first}
use Rattle.std.specs.Str.{all_ascii_digits}
use Rattle.std.specs.Str.Lines.{lines, lines_of_parts, strip_carriage_return}
use Rattle.std.specs.Str.Parse.{digits_value}
use Rattle.std.proofs.lemmas.Bool.{ne_eqb, and_from, and_parts, false_from_ne_true}
use Rattle.std.proofs.lemmas.Bool.Decides.{Decides-eqb, Decides-and, Decides-or, nat_tests}
use Rattle.std.proofs.lemmas.Fmt.{digits_decimal}
use Rattle.std.proofs.lemmas.List.Concat.{flat_map-append}
use Rattle.std.proofs.lemmas.List.Elements.{All-from_recursion, recursion_from_All}
use Rattle.std.proofs.lemmas.List.Splits.{slice_split-cons_yes, slice_split-cons_no, length-slice_split}
use Rattle.std.proofs.lemmas.Str.Parse.{IsNumeralModel, numerals_by_value, tells_all_ascii_digits}
use Rattle.dg_base.specs.Hexadecimal.{hex_text, hex_digit}
use Rattle.dg_base.specs.declared.events.Event.{Event}
use Rattle.dg_base.specs.declared.events.Event.TheVariants.{Tick, Hear, Last, Reset, Inject, Order, Frame}
use Rattle.dg_netcfg.specs.Readings.{IsAllowed, IsSameLink}
use Rattle.dg_netcfg.specs.declared.profile.NetProfile.{NetProfile}
use Rattle.dg_script.specs.Ranges.{AreTwo}
use Rattle.dg_script.specs.Fitting.{FitsEvent, IsTimed}
use Rattle.dg_script.specs.Lines.{line_of}
use Rattle.dg_script.specs.Places.{first_place, place_after, joins, is_linked, none_narrow}
use Rattle.dg_script.specs.Script.{Script, script_from, with_line}
use Rattle.dg_script.specs.Sizes.{most_motes}
use Rattle.dg_script.specs.Spelling.{content_text, line_text}
use Rattle.dg_script.specs.Words.{behind_spaces}
use Rattle.dg_script.specs.declared.fault.LineFault.{LineFault}
use Rattle.dg_script.specs.declared.line.Line.{Line}
use Rattle.dg_script.specs.declared.line.Line.TheVariants.{Nothing, Motes, Golden, Boards, Link, Image, Cut, Happens as EventLine, Round, Sweeps, Narrow}
use Rattle.dg_script.specs.declared.place.Place.{Place}
use Rattle.dg_lines.proofs.ReadsBackLemmas.{line_reads}
use Rattle.dg_serve.specs.Services.{Part, Begins, Looks, Ticks, Moment, EventApplied, PartDone, PartsDone}
use Rattle.dg_serve.specs.Traces.{head_lines, lines_text, trace, IsScript}
use Rattle.dg_serve.proofs.ApplyLemmas.{fits_event}
use Rattle.dg_serve.proofs.RunLemmas.{Joins, PartFits, all_both}

-- ---- texts without line ends

abbrev Keeps : ℕ → Type 0
Keeps c = (c ≢ 10) × (c ≢ 13)

abbrev Plain : List ℕ → Type 0
Plain text = AllByRecursion Keeps text

abbrev plains : List ℕ → Bool
plains [] = true
plains (c ∷ cs) = (not (c == 10) && not (c == 13)) && plains cs

plain_by : (w : List ℕ) → plains w ≡ true → Plain w
plain_by [] h = tt
plain_by (c ∷ cs) h =
    let parts = and_parts (not (c == 10) && not (c == 13)) (plains cs) h in
    let both = and_parts (not (c == 10)) (not (c == 13)) parts.0 in
    (((λ e. let p = both.0 in let q : not (c == 10) ≡ not (10 == 10) = ap (λ x. not (x == 10)) e in cc), (λ e. let p = both.1 in let q : not (c == 13) ≡ not (13 == 13) = ap (λ x. not (x == 13)) e in cc)), plain_by cs parts.1)

plain_digits : (w : List ℕ) → all_ascii_digits w ≡ true → Plain w
plain_digits [] h = tt
plain_digits (c ∷ cs) h =
    let parts = and_parts (is_ascii_digit c) (all_ascii_digits cs) h in
    let is = parts.0 in
    (((λ e. let q : is_ascii_digit c ≡ is_ascii_digit 10 = ap is_ascii_digit e in cc), (λ e. let q : is_ascii_digit c ≡ is_ascii_digit 13 = ap is_ascii_digit e in cc)), plain_digits cs parts.1)

own : IsNumeralModel (λ ds. all_ascii_digits ds ≡ true) (digits_value 10)
own = numerals_by_value _ tells_all_ascii_digits

plain_number : (n : ℕ) → n < 2 ^ 32 → Plain (decimal n)
plain_number n h = plain_digits (decimal n) (digits_decimal own n (omega (arith, h)))

digit_by : (b : Bool) (v k : ℕ) → k < 48 → cond b (48 + v) (87 + v) ≢ k
digit_by true v k small e = omega (arith, small, e)
digit_by false v k small e = omega (arith, small, e)

plain_digit : (v : ℕ) → Keeps (hex_digit v)
plain_digit v = (digit_by (nat_lt v 10) v 10 (omega arith), digit_by (nat_lt v 10) v 13 (omega arith))

plain_hex : (bytes : List ℕ) → Plain (hex_text bytes)
unfolding hex_text
plain_hex [] = tt
plain_hex (b ∷ bs) = (plain_digit _, (plain_digit _, plain_hex bs))

plain_space : Keeps 32
plain_space = ((λ e. omega (arith, e)), (λ e. omega (arith, e)))

plain_behind : (ws : List (List ℕ)) → AllByRecursion Plain ws → Plain (behind_spaces ws)
plain_behind [] h = tt
plain_behind (w ∷ ws) h = (plain_space, all_both Keeps w (behind_spaces ws) h.0 (plain_behind ws h.1))

plain_words : (w : List ℕ) (ws : List (List ℕ)) → plains w ≡ true → AllByRecursion Plain ws → Plain (w ++ behind_spaces ws)
plain_words w ws h hs = all_both Keeps w (behind_spaces ws) (plain_by w h) (plain_behind ws hs)

-- ---- the lines of a trace

abbrev TracedEvent : Event → Type 0
TracedEvent (Tick m d w) = (m < 2 ^ 32) × IsTimed d w
TracedEvent (Hear m d w k) = ⊥
TracedEvent (Last a b d w) = ⊥
TracedEvent (Reset m d w) = (m < 2 ^ 32) × IsTimed d w
TracedEvent (Inject m i v d w) = ⊥
TracedEvent (Order m k i v d w) = ⊥
TracedEvent (Frame m d w bytes) = (m < 2 ^ 32) × IsTimed d w

abbrev Traced : Line → Type 0
Traced Nothing = ⊥
Traced (Motes n) = n < 2 ^ 32
Traced (Golden name used content) = ⊥
Traced Boards = Unit {0}
Traced (Link a b) = (a < 2 ^ 32) × (b < 2 ^ 32)
Traced (Image image version name content) = ⊥
Traced (Cut cut) = ⊥
Traced (EventLine event) = TracedEvent event
Traced (Round a b) = ⊥
Traced (Sweeps n) = ⊥
Traced (Narrow m) = ⊥

plain_event : (event : Event) → TracedEvent event → Plain (line_text (EventLine event))
unfolding line_text
plain_event (Tick m d w) h = plain_words (codes "tick") (decimal m ∷ decimal d ∷ decimal w ∷ []) refl (plain_number m h.0, (plain_number d h.1.dt, (plain_number w h.1.word, tt)))
plain_event (Hear m d w k) h = absurd h
plain_event (Last a b d w) h = absurd h
plain_event (Reset m d w) h = plain_words (codes "reset") (decimal m ∷ decimal d ∷ decimal w ∷ []) refl (plain_number m h.0, (plain_number d h.1.dt, (plain_number w h.1.word, tt)))
plain_event (Inject m i v d w) h = absurd h
plain_event (Order m k i v d w) h = absurd h
plain_event (Frame m d w bytes) h =
    plain_words (codes "frame") (decimal m ∷ decimal d ∷ decimal w ∷ content_text bytes ∷ []) refl
    (plain_number m h.0, (plain_number d h.1.dt, (plain_number w h.1.word, (all_both Keeps (codes "hex:") (hex_text bytes) (plain_by (codes "hex:") refl) (plain_hex bytes), tt))))

plain_line : (line : Line) → Traced line → Plain (line_text line)
unfolding line_text
plain_line Nothing h = absurd h
plain_line (Motes n) h = plain_words (codes "motes") (decimal n ∷ []) refl (plain_number n h, tt)
plain_line (Golden name used content) h = absurd h
plain_line Boards h = plain_words (codes "boards") [] refl tt
plain_line (Link a b) h = plain_words (codes "link") (decimal a ∷ decimal b ∷ []) refl (plain_number a h.0, (plain_number b h.1, tt))
plain_line (Image image version name content) h = absurd h
plain_line (Cut cut) h = absurd h
plain_line (EventLine event) h = plain_event event h
plain_line (Round a b) h = absurd h
plain_line (Sweeps n) h = absurd h
plain_line (Narrow m) h = absurd h

-- ---- bytes are split into lines

abbrev feed : ℕ → Bool
feed = λ b. b == 10

split_plain : (t rest : List ℕ) → Plain t → slice_split feed (t ++ 10 ∷ rest) ≡ t ∷ slice_split feed rest
split_plain [] rest h = slice_split-cons_yes feed 10 rest refl
split_plain (c ∷ t) rest h = slice_split-cons_no feed c (t ++ 10 ∷ rest) (ne_eqb c 10 h.0.0) ∙ ap (onto_first c) (split_plain t rest h.1)

parts_cons : (x : List ℕ) (parts : List (List ℕ)) → 0 < length parts → lines_of_parts (x ∷ parts) ≡ strip_carriage_return x ∷ lines_of_parts parts
parts_cons x [] l = absurd (omega arith)
parts_cons x (y ∷ more) l = refl

last_plain : (t : List ℕ) → Plain t → slice_index t (length t - 1) ≢ 13
last_plain [] h e = absurd (omega (arith, e))
last_plain (c ∷ cs) h e = (All-from_recursion Keeps (c ∷ cs) h (length (c ∷ cs) - 1) 0 (omega arith)).1 e

strip_plain : (t : List ℕ) → Plain t → strip_carriage_return t ≡ t
strip_plain t h = ap (λ (b : Bool). cond b (take (length t - 1) t) t) (ne_eqb (slice_index t (length t - 1)) 13 (last_plain t h))

lines_one : (t rest : List ℕ) → Plain t → lines (t ++ 10 ∷ rest) ≡ t ∷ lines rest
lines_one t rest h =
    ap lines_of_parts (split_plain t rest h) ∙ parts_cons t (slice_split feed rest) (omega (arith, length-slice_split feed rest)) ∙ ap (λ (x : List ℕ). x ∷ lines rest) (strip_plain t h)

lines_written : (ls : List Line) → AllByRecursion Traced ls → lines (lines_text ls) ≡ map line_text ls
lines_written [] h = refl
lines_written (l ∷ ls) h =
    ap lines (append_assoc (line_text l) (10 ∷ []) (lines_text ls)) ∙ lines_one (line_text l) (lines_text ls) (plain_line l h.0) ∙ ap (λ (xs : List (List ℕ)). line_text l ∷ xs) (lines_written ls h.1)

-- ---- the lines are read at their places

script_next : (place : Place) (n : ℕ) (line : Line) (texts : List (List ℕ)) (s : Script) → line_of place (line_text line) ≡ Ok line → script_from true (place_after place line) (n + 1) texts ≡ s
    → script_from true place n (line_text line ∷ texts) ≡ record { lines = line ∷ s.lines; fault = s.fault }
unfolding script_from
script_next place n line texts s reads rest =
    ap (λ (r : Result Line LineFault). with_line r (λ l. script_from true (place_after place l) (n + 1) texts) n) reads ∙ ap (λ (x : Script). record { lines = line ∷ x.lines; fault = x.fault }) rest

abbrev behind_head : (motes : ℕ) (events : Bool) (links : List (ℕ × ℕ)) → Place
behind_head motes events links = record { motes = motes; ready = true; events = events; cut = None; links = links; narrow = none_narrow }

some_motes : (motes : ℕ) → 1 ≤ motes → nat_lt 0 motes ≡ true
some_motes motes h = grind (arith, nat_tests)

-- an event at one of this many motes, as a service applies it
abbrev IsServed : ℕ → Event → Type 0
IsServed motes (Tick m d w) = FitsEvent motes (Tick m d w)
IsServed motes (Hear m d w k) = ⊥
IsServed motes (Last a b d w) = ⊥
IsServed motes (Reset m d w) = FitsEvent motes (Reset m d w)
IsServed motes (Inject m i v d w) = ⊥
IsServed motes (Order m k i v d w) = ⊥
IsServed motes (Frame m d w bytes) = FitsEvent motes (Frame m d w bytes)

event_read : (motes : ℕ) (b : Bool) (links : List (ℕ × ℕ)) (event : Event) → 1 ≤ motes → motes ≤ most_motes → IsServed motes event → line_of (behind_head motes b links) (line_text (EventLine event)) ≡ Ok (EventLine event)
event_read motes b links (Tick m d w) some few h =
    line_reads (behind_head motes b links) (EventLine (Tick m d w)) (fits_event motes (Tick m d w) few h) tt (record { fits = and_from _ _ (some_motes motes some) refl; behind = refl }) h refl
event_read motes b links (Reset m d w) some few h =
    line_reads (behind_head motes b links) (EventLine (Reset m d w)) (fits_event motes (Reset m d w) few h) tt (record { fits = and_from _ _ (some_motes motes some) refl; behind = refl }) h refl
event_read motes b links (Frame m d w bytes) some few h =
    line_reads (behind_head motes b links) (EventLine (Frame m d w bytes)) (fits_event motes (Frame m d w bytes) few h) tt (record { fits = and_from _ _ (some_motes motes some) refl; behind = refl }) h refl
event_read motes b links (Hear m d w k) some few h = absurd h
event_read motes b links (Last x y d w) some few h = absurd h
event_read motes b links (Inject m i v d w) some few h = absurd h
event_read motes b links (Order m k i v d w) some few h = absurd h

no_texts : (motes : ℕ) (b : Bool) (links : List (ℕ × ℕ)) (n : ℕ) → script_from true (behind_head motes b links) n [] ≡ record { lines = []; fault = None }
unfolding script_from
no_texts motes b links n = refl

events_read : (motes : ℕ) (b : Bool) (links : List (ℕ × ℕ)) (n : ℕ) (events : List Event) → 1 ≤ motes → motes ≤ most_motes → AllByRecursion (IsServed motes) events
    → script_from true (behind_head motes b links) n (map line_text (map EventLine events)) ≡ record { lines = map EventLine events; fault = None }
events_read motes b links n [] some few h = no_texts motes b links n
events_read motes b links n (e ∷ es) some few h =
    script_next (behind_head motes b links) n (EventLine e) (map line_text (map EventLine es)) (record { lines = map EventLine es; fault = None }) (event_read motes b links e some few h.0) (events_read motes true links (n + 1) es some few h.1)

-- ---- links

abbrev link_line : ℕ × ℕ → Line
link_line = λ l. Link l.0 l.1

abbrev IsNew : List (ℕ × ℕ) → ℕ × ℕ → Type 0
IsNew before l = is_linked before l.0 l.1 ≡ false

abbrev Apart : ℕ × ℕ → ℕ × ℕ → Type 0
Apart l m = ¬ IsSameLink l m

joins_decides : (l m : ℕ × ℕ) → Decides (joins m.0 m.1 l) (IsSameLink l m)
joins_decides l m =
    Decides-or _ _ (Decides-and _ _ (Decides-eqb l.0 m.0) (Decides-eqb l.1 m.1)) (Decides-and _ _ (Decides-eqb l.0 m.1) (Decides-eqb l.1 m.0))

none_more : (p : ℕ × ℕ → Bool) (xs : List (ℕ × ℕ)) (x : ℕ × ℕ) → list_any p xs ≡ false → p x ≡ false → list_any p (xs ++ x ∷ []) ≡ false
none_more p [] x none h = ap (λ (b : Bool). b || false) h
none_more p (y ∷ ys) x none h =
    let parts = or_parts (p y) (list_any p ys) none in
    ap (λ (b : Bool). b || list_any p (ys ++ x ∷ [])) parts.0 ∙ none_more p ys x parts.1 h
  where
    or_parts : (a b : Bool) → (a || b) ≡ false → (a ≡ false) × (b ≡ false)
    or_parts false b e = (refl, e)
    or_parts true b e = absurd cc

new_behind : (before : List (ℕ × ℕ)) (l : ℕ × ℕ) (ls : List (ℕ × ℕ)) → AllByRecursion (IsNew before) ls → AllByRecursion (Apart l) ls → AllByRecursion (IsNew (before ++ l ∷ [])) ls
new_behind before l [] new apart = tt
new_behind before l (m ∷ ms) new apart =
    (none_more (joins m.0 m.1) before l new.0 (false_from_ne_true (joins m.0 m.1 l) (λ t. apart.0 ((joins_decides l m).0 t))), new_behind before l ms new.1 apart.1)

-- each differs from all after it
Pairs : List (ℕ × ℕ) → Type 0
Pairs [] = Unit {0}
Pairs (l ∷ ls) = AllByRecursion (Apart l) ls × Pairs ls

pairs_of : (ls : List (ℕ × ℕ)) → AllPairs Apart ls → Pairs ls
unfolding Pairs
pairs_of [] h = tt
pairs_of (l ∷ ls) h = (recursion_from_All (Apart l) ls (λ k d less. h 0 (suc k) d (omega arith) (omega (arith, less))), pairs_of ls (λ i j d before within. h (suc i) (suc j) d (omega (arith, before)) (omega (arith, within))))

links_read : (motes : ℕ) (before ls : List (ℕ × ℕ)) (n : ℕ) (events : List Event) → 1 ≤ motes → motes ≤ most_motes → AllByRecursion (Joins motes) ls → AllByRecursion (IsNew before) ls → Pairs ls → AllByRecursion (IsServed motes) events
    → script_from true (behind_head motes false before) n (map line_text (map link_line ls ++ map EventLine events)) ≡ record { lines = map link_line ls ++ map EventLine events; fault = None }
unfolding Pairs
links_read motes before [] n events some few joined new apart served = events_read motes false before n events some few served
links_read motes before (l ∷ ls) n events some few joined new apart served =
    let two : AreTwo motes l.0 l.1 = record { first = joined.0.0; second = joined.0.1; two = joined.0.2 } in
    let most : AreTwo most_motes l.0 l.1 = record { first = omega (arith, joined.0.0, few); second = omega (arith, joined.0.1, few); two = joined.0.2 } in
    let place = behind_head motes false before in
    script_next place n (Link l.0 l.1) (map line_text (map link_line ls ++ map EventLine events)) (record { lines = map link_line ls ++ map EventLine events; fault = None })
    (line_reads place (Link l.0 l.1) most tt (record { fits = and_from _ _ (and_from _ _ (some_motes motes some) refl) refl; behind = refl }, new.0) two refl)
    (links_read motes (before ++ l ∷ []) ls (n + 1) events some few joined.1 (new_behind before l ls new.1 apart.0) apart.1 served)

-- ---- the whole trace

all_new : (ls : List (ℕ × ℕ)) → AllByRecursion (IsNew []) ls
all_new [] = tt
all_new (l ∷ ls) = (refl, all_new ls)

abbrev motes_place : ℕ → Place
motes_place motes = record { motes = motes; ready = false; events = false; cut = None; links = []; narrow = none_narrow }

lines_read : (profile : NetProfile) (events : List Event) → IsAllowed profile → AllByRecursion (IsServed profile.motes) events
    → script_from true first_place 1 (map line_text (head_lines profile ++ map EventLine events)) ≡ record { lines = head_lines profile ++ map EventLine events; fault = None }
lines_read profile events allowed served =
    let motes = profile.motes in
    let some = allowed.motes.0 in
    let few = allowed.motes.1 in
    let links = links_read motes [] profile.links 3 events some few (recursion_from_All (Joins motes) profile.links allowed.links) (all_new profile.links) (pairs_of profile.links allowed.once) served in
    script_next first_place 1 (Motes motes) _ (record { lines = Boards ∷ map link_line profile.links ++ map EventLine events; fault = None })
    (line_reads first_place (Motes motes) (some, few) tt (record { fits = refl; behind = refl }) (some, few) refl)
    (script_next (motes_place motes) 2 Boards _ (record { lines = map link_line profile.links ++ map EventLine events; fault = None })
    (line_reads (motes_place motes) Boards tt tt (record { fits = and_from _ _ (some_motes motes some) refl; behind = refl }) tt refl) links)

-- ---- every event is in the trace

line_event : (motes : ℕ) (event : Event) → motes ≤ most_motes → IsServed motes event → TracedEvent event
line_event motes (Tick m d w) few h = (omega (arith, few, h.0), h.1)
line_event motes (Reset m d w) few h = (omega (arith, few, h.0), h.1)
line_event motes (Frame m d w bytes) few h = (omega (arith, few, h.0.0), h.1)
line_event motes (Hear m d w k) few h = absurd h
line_event motes (Last x y d w) few h = absurd h
line_event motes (Inject m i v d w) few h = absurd h
line_event motes (Order m k i v d w) few h = absurd h

traced_events : (motes : ℕ) (events : List Event) → motes ≤ most_motes → AllByRecursion (IsServed motes) events → AllByRecursion Traced (map EventLine events)
traced_events motes [] few h = tt
traced_events motes (e ∷ es) few h = (line_event motes e few h.0, traced_events motes es few h.1)

traced_links : (motes : ℕ) (ls : List (ℕ × ℕ)) → motes ≤ most_motes → AllByRecursion (Joins motes) ls → AllByRecursion Traced (map link_line ls)
traced_links motes [] few h = tt
traced_links motes (l ∷ ls) few h = ((omega (arith, few, h.0.0), omega (arith, few, h.0.1)), traced_links motes ls few h.1)

pub is_script : (profile : NetProfile) (events : List Event) → IsAllowed profile → AllByRecursion (IsServed profile.motes) events → IsScript (trace profile events) (head_lines profile ++ map EventLine events)
is_script profile events allowed served =
    let few = allowed.motes.1 in
    let told : AllByRecursion Traced (head_lines profile ++ map EventLine events) =
    (omega (arith, few), (tt, all_both Traced (map link_line profile.links) (map EventLine events) (traced_links profile.motes profile.links few (recursion_from_All (Joins profile.motes) profile.links allowed.links)) (traced_events profile.motes events few served))) in
    let bytes : trace profile events ≡ lines_text (head_lines profile ++ map EventLine events) = sym (flat_map-append (λ l. line_text l ++ 10 ∷ []) (head_lines profile) (map EventLine events)) in
    ap (λ (xs : List (List ℕ)). script_from true first_place 1 xs) (ap lines bytes ∙ lines_written (head_lines profile ++ map EventLine events) told) ∙ lines_read profile events allowed served

-- ---- the events of a service

applied_served : (motes : ℕ) (s : Moment) (event : (dt word : ℕ) → Event) (es : List Event) (t : Moment) → ((dt word : ℕ) → IsTimed dt word → IsServed motes (event dt word)) → EventApplied motes s event es t → AllByRecursion (IsServed motes) es
applied_served motes s event es t fits h = subst (AllByRecursion (IsServed motes)) (sym h.one) (fits h.dt h.word h.reads.fits, tt)

part_served : (motes : ℕ) (part : Part) (s : Moment) (es : List Event) (t : Moment) → PartFits motes part → PartDone motes part s es t → AllByRecursion (IsServed motes) es
part_served motes (Begins m) s es t fits h = applied_served motes s (λ dt word. Reset m dt word) es t (λ dt word timed. (fits, timed)) h
part_served motes (Ticks m) s es t fits h = applied_served motes s (λ dt word. Tick m dt word) es t (λ dt word timed. (fits, timed)) h
part_served motes (Looks m) s es t fits (inl h) = subst (AllByRecursion (IsServed motes)) (sym h.1) tt
part_served motes (Looks m) s es t fits (inr h) = applied_served motes (record s { inboxes = h.taken }) (λ dt word. Frame m dt word h.bytes) es t (λ dt word timed. ((fits, h.fits), timed)) h.heard

pub all_served : (motes : ℕ) (s : Moment) (parts : List Part) (es : List Event) (t : Moment) → AllByRecursion (PartFits motes) parts → PartsDone motes s parts es t → AllByRecursion (IsServed motes) es
unfolding PartsDone
all_served motes s [] es t fits h = subst (AllByRecursion (IsServed motes)) (sym h.0) tt
all_served motes s (part ∷ parts) es t fits h =
    subst (AllByRecursion (IsServed motes)) (sym h.4) (all_both (IsServed motes) h.1 h.2 (part_served motes part s h.1 h.0 fits.0 h.3) (all_served motes h.0 parts h.2 t fits.1 h.5))
