-- The results of playing one item, and items one after another.
use Rattle.std.proofs.Common.{◌≡◌, ℕ, zero, suc, ◌+◌, ◌-◌, ◌<◌, ◌≤◌, false, List, [], ◌∷◌, ◌++◌, length, replicate, get_or, take, drop, refl, append-nil, append_assoc, ap, sym, ◌∙◌, subst, arith}
use Rattle.std.proofs.lemmas.List.{map-append}
use Rattle.std.specs.List.{AllByRecursion}
use Rattle.std.specs.Prelude.{None, Err}
use Rattle.dg_base.specs.declared.events.Event.{Event}
use Rattle.dg_rounds.specs.Rounds.{times, round, sweep, paced, passed}
use Rattle.dg_nor.specs.Device.{Device}
use Rattle.dg_script.specs.Items.{Item, Applies, unreported}
use Rattle.dg_rules.specs.Premises.{LinkFits}
use Rattle.dg_script.specs.Ranges.{EventInRange}
use Rattle.dg_rules.specs.World.{World}
use Rattle.dg_world.specs.Worlds.{IsWorld}
use Rattle.dg_world.specs.declared.world.World.{World as KeptWorld}
use Rattle.dg_completion.proofs.GrowLemmas.{all_append, all_replicate, all_times}
use Rattle.dg_world.specs.Boards.{WorldStands}
use Rattle.dg_replay.specs.Playing.{ItemsPlayed, ItemsPlayedAs}
use Rattle.dg_replay.specs.Shown.{Saw}
use Rattle.dg_replay.specs.Stages.{Told, told_so_far, boards_told}
use Rattle.dg_replay.specs.declared.stop.Stop.{Stop}
use Rattle.dg_replay.proofs.ItemStepLemmas.{played_none, played_join, stopped_later}

-- ---- what a loop over items keeps

-- what was reported so far, and what a watcher saw by then with these boards, by the boards with which the replay began
abbrev pub told_by : (text : List ℕ) (now : List Device) (saw : (initial now : List Device) → Saw) → List Device → Told
told_by text now saw initial = told_so_far text (saw initial now)

-- These items were played, from a kept world and boards to these.
pub record PlayedSoFar (items : List Item) (first kept : KeptWorld) (old now : List Device) (report_before told : List Device → Told) : Type 0 where
  pub goes : (w : World) → IsWorld first old w → (v : World) × IsWorld kept now v × (length v.sites ≡ length w.sites)
  pub played : (w : World) (initial : List Device) → IsWorld first old w → WorldStands w initial old → ItemsPlayed w items kept initial now (report_before initial) (told initial)

pub so_far_none : (first : KeptWorld) (old : List Device) (told : List Device → Told) → PlayedSoFar [] first first old old told told
so_far_none first old told = record { goes = λ w is. (w, is, refl); played = λ w initial is stands. played_none w first initial old (told initial) is stands }

so_far_more : (xs ys : List Item) (first k k2 : KeptWorld) (old mid now : List Device) (t0 t1 t2 : List Device → Told) → PlayedSoFar xs first k old mid t0 t1
    → ((w : World) → IsWorld k mid w → (v : World) × IsWorld k2 now v × (length v.sites ≡ length w.sites))
    → ((w : World) (initial : List Device) → IsWorld k mid w → WorldStands w initial mid → ItemsPlayed w ys k2 initial now (t1 initial) (t2 initial))
    → PlayedSoFar (xs ++ ys) first k2 old now t0 t2
so_far_more xs ys first k k2 old mid now t0 t1 t2 s goes played =
    record {
      goes = λ w is. let a = s.goes w is in let b = goes a.0 a.1 in (b.0, b.1, b.2 ∙ a.2);
      played = λ w initial is stands. let a = s.played w initial is stands in played_join w xs ys k k2 initial mid now (t0 initial) (t1 initial) (t2 initial) a (played a.world initial a.kept_now a.boards);
    }

so_far_stops : (stop : Stop) (xs ys more whole : List Item) (first k k2 : KeptWorld) (old mid now : List Device) (t0 t1 t2 : List Device → Told) → PlayedSoFar xs first k old mid t0 t1
    → ((w : World) (initial : List Device) → IsWorld k mid w → WorldStands w initial mid → ItemsPlayedAs (Err stop) w ys k2 initial (t1 initial) (boards_told now (t2 initial))) → whole ≡ xs ++ (ys ++ more)
    → (w : World) (initial : List Device) → IsWorld first old w → WorldStands w initial old → ItemsPlayedAs (Err stop) w whole k2 initial (t0 initial) (boards_told now (t2 initial))
so_far_stops stop xs ys more whole first k k2 old mid now t0 t1 t2 s played is w initial at stands =
    let a = s.played w initial at stands in
    stopped_later stop w xs ys more whole k k2 initial mid now (t0 initial) (t1 initial) (t2 initial) a (played a.world initial a.kept_now a.boards) is

-- ---- events of rounds

unreported-append : (xs ys : List Event) → unreported (xs ++ ys) ≡ unreported xs ++ unreported ys
unreported-append xs ys = map-append (λ (e : Event). Applies (record { event = e; cut = None }) false) xs ys

pub unreported_join : (xs ys more all : List Event) → xs ++ (ys ++ more) ≡ all → unreported all ≡ unreported xs ++ (unreported ys ++ unreported more)
unreported_join xs ys more all e =
    ap unreported (sym e) ∙ unreported-append xs (ys ++ more) ∙ ap (λ (zs : List Item). unreported xs ++ zs) (unreported-append ys more)

-- of the one after others
all_at : {A : Type 0} (P : A → Type 0) (xs : List A) (y : A) (ys all : List A) → xs ++ y ∷ ys ≡ all → AllByRecursion P all → P y
all_at {A = A} P xs y ys all e h = behind xs (subst (λ (zs : List A). AllByRecursion P zs) (sym e) h)
  where
    behind : (xs : List A) → AllByRecursion P (xs ++ y ∷ ys) → P y
    behind [] h = h.0
    behind (x ∷ xs) h = behind xs h.1

pub all_get : {A : Type 0} (P : A → Type 0) (xs : List A) (i : ℕ) (d : A) → i < length xs → AllByRecursion P xs → P (get_or xs i d)
all_get P [] i d h each = absurd (omega arith)
all_get P (x ∷ xs) zero d h each = each.0
all_get P (x ∷ xs) (suc i) d h each = all_get P xs i d (omega arith) each.1

-- the events of a round are at its two motes
pub round_fits : (n a b : ℕ) → LinkFits n (a, b) → AllByRecursion (EventInRange n) (round a b)
unfolding round
round_fits n a b l =
    let P : Event → Type 0 = EventInRange n in
    let pages : List Event = times 48 (paced a ∷ passed a b ∷ []) in
    let asks : List Event = passed a b ∷ paced b ∷ passed b a ∷ pages in
    let back : P (passed b a) = record { first = l.second; second = l.first; two = λ e. l.two (sym e) } in
    let asked : AllByRecursion P asks = (l, (l.second, (back, all_times P 48 (paced a ∷ passed a b ∷ []) (l.first, (l, tt))))) in
    let told : AllByRecursion P (replicate 3 (paced a) ++ asks) = all_append P (replicate 3 (paced a)) asks (all_replicate P 3 (paced a) l.first) asked in
    let rested : AllByRecursion P (replicate 50 (paced b) ++ (replicate 3 (paced a) ++ asks)) = all_append P (replicate 50 (paced b)) (replicate 3 (paced a) ++ asks) (all_replicate P 50 (paced b) l.second) told in
    all_append P (replicate 50 (paced a)) (replicate 50 (paced b) ++ (replicate 3 (paced a) ++ asks)) (all_replicate P 50 (paced a) l.first) rested

times_split : {A : Type 0} (m n : ℕ) (xs : List A) → times (m + n) xs ≡ times m xs ++ times n xs
unfolding times
times_split {A = A} zero n xs = ap (λ (k : ℕ). times k xs) (omega arith)
times_split {A = A} (suc m) n xs =
    let e : suc m + n ≡ suc (m + n) = omega arith in
    ap (λ (k : ℕ). times k xs) e ∙ ap (λ (zs : List A). xs ++ zs) (times_split m n xs) ∙ sym (append_assoc xs (times m xs) (times n xs))

times_one : {A : Type 0} (xs : List A) → times 1 xs ≡ xs
unfolding times
times_one xs = append-nil xs

-- ---- what a loop over events keeps

-- These events were played of all, and the others are left.
pub record EventsSoFar (all given left : List Event) (first kept : KeptWorld) (old now : List Device) (report_before told : List Device → Told) : Type 0 where
  pub so_far : PlayedSoFar (unreported given) first kept old now report_before told
  pub parts : given ++ left ≡ all

pub events_none : (all left : List Event) (first : KeptWorld) (old : List Device) (told : List Device → Told) → left ≡ all → EventsSoFar all [] left first first old old told told
events_none all left first old told e = record { so_far = so_far_none first old told; parts = e }

-- the next event may be played
pub events_may : (all given left others : List Event) (event : Event) (first kept : KeptWorld) (old now : List Device) (report_before told : List Device → Told) → EventsSoFar all given left first kept old now report_before told → left ≡ event ∷ others
    → (z : World) → IsWorld first old z → AllByRecursion (EventInRange (length z.sites)) all → (u : World) × IsWorld kept now u × EventInRange (length u.sites) event
events_may all given left others event first kept old now report_before told s next z is fits =
    let on = s.so_far.goes z is in
    let at : given ++ event ∷ others ≡ all = ap (λ (xs : List Event). given ++ xs) (sym next) ∙ s.parts in
    (on.0, on.1, subst (λ (n : ℕ). EventInRange n event) (sym on.2) (all_at (EventInRange (length z.sites)) given event others all at fits))

pub events_more : (all given left others : List Event) (event : Event) (first k k2 : KeptWorld) (old mid now : List Device) (t0 t1 t2 : List Device → Told) → EventsSoFar all given left first k old mid t0 t1 → left ≡ event ∷ others
    → ((w : World) → IsWorld k mid w → (v : World) × IsWorld k2 now v × (length v.sites ≡ length w.sites))
    → ((w : World) (initial : List Device) → IsWorld k mid w → WorldStands w initial mid → ItemsPlayed w (unreported (event ∷ [])) k2 initial now (t1 initial) (t2 initial))
    → EventsSoFar all (given ++ event ∷ []) others first k2 old now t0 t2
events_more all given left others event first k k2 old mid now t0 t1 t2 s next goes played =
    record {
      so_far = subst (λ (xs : List Item). PlayedSoFar xs first k2 old now t0 t2) (sym (unreported-append given (event ∷ []))) (so_far_more (unreported given) (unreported (event ∷ [])) first k k2 old mid now t0 t1 t2 s.so_far goes played);
      parts = append_assoc given (event ∷ []) others ∙ ap (λ (xs : List Event). given ++ xs) (sym next) ∙ s.parts;
    }

pub events_stop : (stop : Stop) (all given left others : List Event) (event : Event) (first k k2 : KeptWorld) (old mid now : List Device) (t0 t1 t2 : List Device → Told) → EventsSoFar all given left first k old mid t0 t1 → left ≡ event ∷ others
    → ((w : World) (initial : List Device) → IsWorld k mid w → WorldStands w initial mid → ItemsPlayedAs (Err stop) w (unreported (event ∷ [])) k2 initial (t1 initial) (boards_told now (t2 initial)))
    → (w : World) (initial : List Device) → IsWorld first old w → WorldStands w initial old → ItemsPlayedAs (Err stop) w (unreported all) k2 initial (t0 initial) (boards_told now (t2 initial))
events_stop stop all given left others event first k k2 old mid now t0 t1 t2 s next played =
    so_far_stops stop (unreported given) (unreported (event ∷ [])) (unreported others) (unreported all) first k k2 old mid now t0 t1 t2 s.so_far played
    (unreported_join given (event ∷ []) others all (ap (λ (xs : List Event). given ++ xs) (sym next) ∙ s.parts))

pub events_all : (all given left : List Event) (first kept : KeptWorld) (old now : List Device) (report_before told : List Device → Told) → EventsSoFar all given left first kept old now report_before told → left ≡ []
    → PlayedSoFar (unreported all) first kept old now report_before told
events_all all given left first kept old now report_before told s none =
    subst (λ (xs : List Event). PlayedSoFar (unreported xs) first kept old now report_before told) (sym (append-nil given) ∙ ap (λ (xs : List Event). given ++ xs) (sym none) ∙ s.parts) s.so_far

-- ---- what a loop over sweeps keeps

pub times_next : (k n : ℕ) (xs : List Event) → k < n → times k xs ++ (xs ++ times (n - k - 1) xs) ≡ times n xs
times_next k n xs h =
    let e : k + (1 + (n - k - 1)) ≡ n = omega arith in
    ap (λ (ys : List Event). times k xs ++ (ys ++ times (n - k - 1) xs)) (sym (times_one xs)) ∙ ap (λ (ys : List Event). times k xs ++ ys) (sym (times_split 1 (n - k - 1) xs)) ∙ sym (times_split k (1 + (n - k - 1)) xs) ∙ ap (λ (m : ℕ). times m xs) e

times_more : (k : ℕ) (xs : List Event) → times (k + 1) xs ≡ times k xs ++ xs
times_more k xs = times_split k 1 xs ∙ ap (λ (ys : List Event). times k xs ++ ys) (times_one xs)

pub times_so_far : (k : ℕ) (events : List Event) (first k1 k2 : KeptWorld) (old mid now : List Device) (t0 t1 t2 : List Device → Told) → PlayedSoFar (unreported (times k events)) first k1 old mid t0 t1
    → ((w : World) → IsWorld k1 mid w → (v : World) × IsWorld k2 now v × (length v.sites ≡ length w.sites))
    → ((w : World) (initial : List Device) → IsWorld k1 mid w → WorldStands w initial mid → ItemsPlayed w (unreported events) k2 initial now (t1 initial) (t2 initial))
    → PlayedSoFar (unreported (times (k + 1) events)) first k2 old now t0 t2
times_so_far k events first k1 k2 old mid now t0 t1 t2 s goes played =
    let e : unreported (times (k + 1) events) ≡ unreported (times k events) ++ unreported events = ap unreported (times_more k events) ∙ unreported-append (times k events) events in
    subst (λ (xs : List Item). PlayedSoFar xs first k2 old now t0 t2) (sym e) (so_far_more (unreported (times k events)) (unreported events) first k1 k2 old mid now t0 t1 t2 s goes played)

pub times_stop : (stop : Stop) (k n : ℕ) (events : List Event) (first k1 k2 : KeptWorld) (old mid now : List Device) (t0 t1 t2 : List Device → Told) → PlayedSoFar (unreported (times k events)) first k1 old mid t0 t1 → k < n
    → ((w : World) (initial : List Device) → IsWorld k1 mid w → WorldStands w initial mid → ItemsPlayedAs (Err stop) w (unreported events) k2 initial (t1 initial) (boards_told now (t2 initial)))
    → (w : World) (initial : List Device) → IsWorld first old w → WorldStands w initial old → ItemsPlayedAs (Err stop) w (unreported (times n events)) k2 initial (t0 initial) (boards_told now (t2 initial))
times_stop stop k n events first k1 k2 old mid now t0 t1 t2 s h played =
    so_far_stops stop (unreported (times k events)) (unreported events) (unreported (times (n - k - 1) events)) (unreported (times n events)) first k1 k2 old mid now t0 t1 t2 s played
    (unreported_join (times k events) events (times (n - k - 1) events) (times n events) (times_next k n events h))

pub times_none : (events : List Event) → unreported (times 0 events) ≡ []
unfolding times
times_none events = refl

pub at_end : (k n : ℕ) (events : List Event) (first kept : KeptWorld) (old now : List Device) (report_before told : List Device → Told) → n ≤ k → k ≤ n → PlayedSoFar (unreported (times k events)) first kept old now report_before told
    → (w : World) (initial : List Device) → IsWorld first old w → WorldStands w initial old → ItemsPlayed w (unreported (times n events)) kept initial now (report_before initial) (told initial)
at_end k n events first kept old now report_before told low high s =
    let e : k ≡ n = omega arith in
    (subst (λ (m : ℕ). PlayedSoFar (unreported (times m events)) first kept old now report_before told) e s).played

-- ---- the rounds of a sweep

-- one call was made
pub so_far_one : (xs : List Item) (first kept : KeptWorld) (old now : List Device) (report_before told : List Device → Told)
    → ((w : World) → IsWorld first old w → (v : World) × IsWorld kept now v × (length v.sites ≡ length w.sites))
    → ((w : World) (initial : List Device) → IsWorld first old w → WorldStands w initial old → ItemsPlayed w xs kept initial now (report_before initial) (told initial))
    → PlayedSoFar xs first kept old now report_before told
so_far_one xs first kept old now report_before told goes played = record { goes = goes; played = played }

-- a call after others
pub so_far_then : (xs ys : List Event) (first k k2 : KeptWorld) (old mid now : List Device) (t0 t1 t2 : List Device → Told) → PlayedSoFar (unreported xs) first k old mid t0 t1
    → ((w : World) → IsWorld k mid w → (v : World) × IsWorld k2 now v × (length v.sites ≡ length w.sites))
    → ((w : World) (initial : List Device) → IsWorld k mid w → WorldStands w initial mid → ItemsPlayed w (unreported ys) k2 initial now (t1 initial) (t2 initial))
    → PlayedSoFar (unreported (xs ++ ys)) first k2 old now t0 t2
so_far_then xs ys first k k2 old mid now t0 t1 t2 s goes played =
    subst (λ (zs : List Item). PlayedSoFar zs first k2 old now t0 t2) (sym (unreported-append xs ys)) (so_far_more (unreported xs) (unreported ys) first k k2 old mid now t0 t1 t2 s goes played)

-- a call after others at which the replay stops
pub so_far_stop : (stop : Stop) (xs ys more all : List Event) (first k k2 : KeptWorld) (old mid now : List Device) (t0 t1 t2 : List Device → Told) → PlayedSoFar (unreported xs) first k old mid t0 t1
    → ((w : World) (initial : List Device) → IsWorld k mid w → WorldStands w initial mid → ItemsPlayedAs (Err stop) w (unreported ys) k2 initial (t1 initial) (boards_told now (t2 initial))) → xs ++ (ys ++ more) ≡ all
    → (w : World) (initial : List Device) → IsWorld first old w → WorldStands w initial old → ItemsPlayedAs (Err stop) w (unreported all) k2 initial (t0 initial) (boards_told now (t2 initial))
so_far_stop stop xs ys more all first k k2 old mid now t0 t1 t2 s played parts =
    so_far_stops stop (unreported xs) (unreported ys) (unreported more) (unreported all) first k k2 old mid now t0 t1 t2 s played (unreported_join xs ys more all parts)

-- the rounds over a link, one in each direction
abbrev pub both : ℕ × ℕ → List Event
both l = round l.0 l.1 ++ round l.1 l.0

sweep_nil : sweep [] ≡ []
unfolding sweep
sweep_nil = refl

pub sweep_none : unreported (sweep []) ≡ []
sweep_none = ap unreported sweep_nil

sweep_first : (l : ℕ × ℕ) (links : List (ℕ × ℕ)) → sweep (l ∷ links) ≡ both l ++ sweep links
unfolding sweep
sweep_first l links = sym (append_assoc (round l.0 l.1) (round l.1 l.0) _)

-- the rounds over the link at a place, and those before it and after it
pub sweep_at : (links : List (ℕ × ℕ)) (i : ℕ) (d : ℕ × ℕ) → i < length links → sweep (take i links) ++ (both (get_or links i d) ++ sweep (drop (i + 1) links)) ≡ sweep links
sweep_at [] i d h = absurd (omega arith)
sweep_at (l ∷ links) zero d h = ap (λ (zs : List Event). zs ++ (both l ++ sweep links)) sweep_nil ∙ sym (sweep_first l links)
sweep_at (l ∷ links) (suc i) d h =
    let rest = both (get_or links i d) ++ sweep (drop (i + 1) links) in
    let e : suc i + 1 ≡ suc (i + 1) = omega arith in
    ap (λ (zs : List Event). zs ++ (both (get_or links i d) ++ sweep (drop (suc i + 1) (l ∷ links)))) (sweep_first l (take i links))
    ∙ ap (λ (k : ℕ). (both l ++ sweep (take i links)) ++ (both (get_or links i d) ++ sweep (drop k (l ∷ links)))) e
    ∙ append_assoc (both l) (sweep (take i links)) rest ∙ ap (λ (zs : List Event). both l ++ zs) (sweep_at links i d (omega arith)) ∙ sym (sweep_first l links)

pub sweep_more : (links : List (ℕ × ℕ)) (i : ℕ) (d : ℕ × ℕ) → i < length links → sweep (take (i + 1) links) ≡ sweep (take i links) ++ both (get_or links i d)
sweep_more [] i d h = absurd (omega arith)
sweep_more (l ∷ links) zero d h = sweep_first l [] ∙ ap (λ (zs : List Event). both l ++ zs) sweep_nil ∙ append-nil (both l) ∙ sym (ap (λ (zs : List Event). zs ++ both l) sweep_nil)
sweep_more (l ∷ links) (suc i) d h =
    let e : suc i + 1 ≡ suc (i + 1) = omega arith in
    ap (λ (k : ℕ). sweep (take k (l ∷ links))) e ∙ sweep_first l (take (i + 1) links) ∙ ap (λ (zs : List Event). both l ++ zs) (sweep_more links i d (omega arith))
    ∙ sym (append_assoc (both l) (sweep (take i links)) (both (get_or links i d))) ∙ ap (λ (zs : List Event). zs ++ both (get_or links i d)) (sym (sweep_first l (take i links)))

-- the link at a place is of the world
pub link_at : (n m : ℕ) (links : List (ℕ × ℕ)) (i : ℕ) (d : ℕ × ℕ) → n ≡ m → i < length links → AllByRecursion (LinkFits m) links → LinkFits n (get_or links i d)
link_at n m links i d e low each = subst (λ (k : ℕ). LinkFits k (get_or links i d)) (sym e) (all_get (LinkFits m) links i d low each)

pub sweep_goes_on : (links : List (ℕ × ℕ)) (i : ℕ) (d : ℕ × ℕ) (first k k2 : KeptWorld) (old mid now : List Device) (t0 t1 t2 : List Device → Told) → i < length links → PlayedSoFar (unreported (sweep (take i links))) first k old mid t0 t1
    → ((w : World) → IsWorld k mid w → (v : World) × IsWorld k2 now v × (length v.sites ≡ length w.sites))
    → ((w : World) (initial : List Device) → IsWorld k mid w → WorldStands w initial mid → ItemsPlayed w (unreported (both (get_or links i d))) k2 initial now (t1 initial) (t2 initial))
    → PlayedSoFar (unreported (sweep (take (i + 1) links))) first k2 old now t0 t2
sweep_goes_on links i d first k k2 old mid now t0 t1 t2 low s goes played =
    subst (λ (xs : List Event). PlayedSoFar (unreported xs) first k2 old now t0 t2) (sym (sweep_more links i d low))
    (so_far_then (sweep (take i links)) (both (get_or links i d)) first k k2 old mid now t0 t1 t2 s goes played)
