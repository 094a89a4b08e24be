-- Boards at which nothing happens keep their very bytes.
use Rattle.std.proofs.Common.{◌≡◌, inl, inr, ⊎_elim, ℕ, Bool, true, ◌+◌, ◌-◌, ◌<◌, List, [], ◌∷◌, ◌++◌, length, get_or, map, take, drop, refl, append_assoc, ap, sym, ◌∙◌, subst, arith}
use Rattle.std.specs.Prelude.{Option, Some, Result, Ok, Err, option_map, slice_get}
use Rattle.std.specs.List.{AllByRecursion}
use Rattle.std.proofs.lemmas.List.{take-append-drop}
use Rattle.std.proofs.lemmas.Option.{slice_get-get_or, slice_get_past, slice_get_cases}
use Rattle.dg_base.specs.declared.events.Event.{Event}
use Rattle.dg_base.specs.declared.events.Step.{Step}
use Rattle.dg_nor.specs.Device.{Device}
use Rattle.dg_object.specs.Object.{Row}
use Rattle.dg_rules.specs.Events.{mote_of}
use Rattle.dg_rules.specs.World.{World}
use Rattle.dg_rounds.specs.Rounds.{times}
use Rattle.dg_script.specs.Items.{Item, Applies, unreported, item_by, place_behind, items_of}
use Rattle.dg_script.specs.Lines.{line_of}
use Rattle.dg_script.specs.Places.{first_place}
use Rattle.dg_script.specs.Script.{Script}
use Rattle.dg_script.specs.declared.fault.LineFault.{LineFault}
use Rattle.dg_script.specs.declared.line.Line.{Line}
use Rattle.dg_script.specs.declared.line.Line.TheVariants.{Happens as EventLine}
use Rattle.dg_script.specs.declared.place.Place.{Place}
use Rattle.dg_world.specs.Applied.{OneBoard, SameBoards}
use Rattle.dg_world.specs.Applying.{ApplyDone, IsOf}
use Rattle.dg_world.specs.Deployments.{Deployment}
use Rattle.dg_world.specs.declared.world.WorldFault.{WorldFault}
use Rattle.dg_world.specs.declared.world.WorldFault.TheVariants.{Memory, Flash, TooMany, NotAVolume, NoImage}
use Rattle.dg_replay.specs.Items.{next_items}
use Rattle.dg_replay.specs.Replayed.{Progress, Untouched, item_played}
use Rattle.dg_replay.specs.Untouched.{IsElsewhere, KeepBytes, FormatsNone, LineKeepsBytes, TextKeepsBytes}
use Rattle.dg_replay.specs.inner.Words.{image_at}
use Rattle.dg_replay.proofs.ItemLemmas.{items_next}
use Rattle.dg_replay.proofs.StepLemmas.{unreported_join, times_next}

front : {A : Type 0} (P : A → Type 0) (xs ys : List A) → AllByRecursion P (xs ++ ys) → AllByRecursion P xs
front P [] ys h = tt
front P (x ∷ xs) ys h = (h.0, front P xs ys h.1)

rest : {A : Type 0} (P : A → Type 0) (xs ys : List A) → AllByRecursion P (xs ++ ys) → AllByRecursion P ys
rest P [] ys h = h
rest P (x ∷ xs) ys h = rest P xs ys h.1

abbrev Away : ℕ → List Item → Type 0
Away m items = AllByRecursion (IsElsewhere m) items

-- ---- boards that were only read, or not used

read_same : (old new : List Device) → SameBoards old new → (m : ℕ) → image_at m new ≡ image_at m old
read_same old new same m =
    let image : Option Device → Option (List ℕ) = option_map (λ (d : Device). d.image) in
    ⊎_elim
    (λ (here : (d : Device) × (m < length old) × (slice_get old m ≡ Some d) × (get_or old m d ≡ d)).
    let there = slice_get-get_or new m here.0 (omega (arith, same.count, here.1)) in
    ap image there ∙ ap (λ (xs : List ℕ). Some xs) (same.images m here.0 (get_or new m here.0) here.2 there) ∙ sym (ap image here.2))
    (λ past. ap image (slice_get_past new m (omega (arith, same.count, past.0)) ∙ sym past.1))
    (slice_get_cases old m).1

pub keep_same : (items : List Item) (old new : List Device) → new ≡ old → KeepBytes items old new
keep_same items old new e = λ m away. ap (image_at m) e

pub keep_read : (items : List Item) (old new : List Device) → SameBoards old new → KeepBytes items old new
keep_read items old new same = λ m away. read_same old new same m

pub keep_then : (items : List Item) (a b c : List Device) → KeepBytes items a b → KeepBytes items b c → KeepBytes items a c
keep_then items a b c first second = λ m away. second m away ∙ first m away

-- more items
pub keep_all : (items : List Item) (old new : List Device) → KeepBytes [] old new → KeepBytes items old new
keep_all items old new kept = λ m away. kept m tt

keep_in : (before items behind all : List Item) (old new : List Device) → all ≡ before ++ (items ++ behind) → KeepBytes items old new → KeepBytes all old new
keep_in before items behind all old new parts kept = λ m away. kept m (front (IsElsewhere m) items behind (rest (IsElsewhere m) before (items ++ behind) (subst (Away m) parts away)))

-- ---- a step

one_board : (x : Step) (board : ℕ) (reported : Bool) (old new : List Device) → board ≡ mote_of x.event → OneBoard board old new → KeepBytes (Applies x reported ∷ []) old new
one_board x board reported old new at one = λ m away. ap (option_map (λ (d : Device). d.image)) (one.others m (λ same. away.0 (sym (same ∙ at))))

pub step_keeps : (r : Result (Unit {0}) WorldFault) (x : Step) (reported : Bool) (a b : Deployment) (w : World) → IsOf a w → ApplyDone r x reported a b → KeepBytes (Applies x reported ∷ []) a.boards b.boards
step_keeps (Ok u) x reported a b w is done = one_board x (mote_of x.event) reported a.boards b.boards refl (done.applied w is).boards
step_keeps (Err Memory) x reported a b w is done = keep_same (Applies x reported ∷ []) a.boards b.boards (done.unchanged (inr refl)).1
step_keeps (Err (Flash board)) x reported a b w is done = let f = done.flash board refl w is in one_board x board reported a.boards b.boards f.at f.boards
step_keeps (Err TooMany) x reported a b w is done = keep_same (Applies x reported ∷ []) a.boards b.boards (done.unchanged (inl refl)).1
step_keeps (Err NotAVolume) x reported a b w is done = absurd (done.a_volume refl)
step_keeps (Err NoImage) x reported a b w is done = one_board x (mote_of x.event) reported a.boards b.boards refl (done.no_image refl w is).boards

-- ---- rounds and sweeps: these events are among all

pub events_keep : (before events behind all : List Event) (a b c : List Device) → before ++ (events ++ behind) ≡ all → KeepBytes (unreported all) a b → KeepBytes (unreported events) b c → KeepBytes (unreported all) a c
events_keep before events behind all a b c parts first second =
    keep_then (unreported all) a b c first (keep_in (unreported before) (unreported events) (unreported behind) (unreported all) b c (unreported_join before events behind all parts) second)

pub event_keeps : (all : List Event) (at : ℕ) (event : Event) (a b c : List Device) → drop at all ≡ event ∷ drop (at + 1) all → KeepBytes (unreported all) a b → KeepBytes (unreported (event ∷ [])) b c → KeepBytes (unreported all) a c
event_keeps all at event a b c next first second =
    events_keep (take at all) (event ∷ []) (drop (at + 1) all) all a b c (ap (λ (xs : List Event). take at all ++ xs) (sym next) ∙ take-append-drop at all) first second

pub sweep_keeps : (k n : ℕ) (events : List Event) (a b c : List Device) → k < n → KeepBytes (unreported (times n events)) a b → KeepBytes (unreported events) b c → KeepBytes (unreported (times n events)) a c
sweep_keeps k n events a b c low first second = events_keep (times k events) events (times (n - k - 1) events) (times n events) a b c (times_next k n events low) first second

-- ---- lines

pub line_keeps : (place : Place) (line form : Line) (items : List Item) (old new : List Device) → line ≡ form → item_by place form ≡ items → KeepBytes items old new → LineKeepsBytes place line old new
line_keeps place line form items old new is has kept = λ none m away. kept m (subst (Away m) (ap (item_by place) is ∙ has) away)

pub quiet_keeps : (place : Place) (line : Line) (old new : List Device) → KeepBytes [] old new → LineKeepsBytes place line old new
quiet_keeps place line old new kept = λ none. keep_all (item_by place line) old new kept

pub golden_keeps : (place : Place) (line form : Line) (old new : List Device) → line ≡ form → (FormatsNone form → ⊥) → LineKeepsBytes place line old new
golden_keeps place line form old new is formats = λ none. absurd (formats (subst FormatsNone is none))

pub event_line_keeps : (place : Place) (line : Line) (event : Event) (x : Step) (old new : List Device) → line ≡ EventLine event → x.event ≡ event → KeepBytes (Applies x true ∷ []) old new → LineKeepsBytes place line old new
event_line_keeps place line event x old new is same kept = λ none m away.
    let own : Away m (item_by place (EventLine event)) = subst (λ (l : Line). Away m (item_by place l)) is away in
    kept m (λ here. own.0 (sym (ap mote_of same) ∙ here), tt)

same_line : (a b : Line) → ◌≡◌ {A = Result Line LineFault} (Ok a) (Ok b) → a ≡ b
same_line a b e = cc

pub text_keeps : (place : Place) (text : List ℕ) (line : Line) (old new : List Device) → line_of place text ≡ Ok line → LineKeepsBytes place line old new → TextKeepsBytes place text old new
text_keeps place text line old new spelled kept = λ other is. subst (λ (l : Line). LineKeepsBytes place l old new) (same_line line other (sym spelled ∙ is)) kept

pub text_same : (place : Place) (text : List ℕ) (old new : List Device) → new ≡ old → TextKeepsBytes place text old new
text_same place text old new same = λ line is none. keep_same (item_by place line) old new same

-- ---- lines that follow one another

pub keeps_next : (place : Place) (done : List Line) (line : Line) (initial old new : List Device) → place ≡ place_behind first_place done → (AllByRecursion FormatsNone done → KeepBytes (items_of done) initial old) → LineKeepsBytes place line old new
    → AllByRecursion FormatsNone (done ++ line ∷ []) → KeepBytes (items_of (done ++ line ∷ [])) initial new
keeps_next place done line initial old new at first second none = λ m away.
    let own : List Item = item_by (place_behind first_place done) line in
    let parts : Away m (items_of done ++ own) = subst (Away m) (items_next done line) away in
    let here : Away m (item_by place line) = subst (λ (p : Place). Away m (item_by p line)) (sym at) (rest (IsElsewhere m) (items_of done) own parts) in
    second (rest FormatsNone done (line ∷ []) none).0 m here ∙ first (front FormatsNone done (line ∷ []) none) m (front (IsElsewhere m) (items_of done) own parts)

-- ---- how far a replay came

abbrev Parted : {table : List Row} {script : Script} → Progress table script → ℕ → Type 0
Parted c m = Away m (items_of c.done ++ (c.begun ++ c.left))

parted : {table : List Row} {script : Script} (c : Progress table script) (m : ℕ) → Away m (map item_played c.played ++ c.left) → Parted c m
parted c m away = subst (Away m) (ap (λ (xs : List Item). xs ++ c.left) c.items ∙ append_assoc (items_of c.done) c.begun c.left) away

-- these lines were done
pub untouched_done : {table : List Row} {script : Script} (c : Progress table script) (initial new : List Device) → (AllByRecursion FormatsNone c.done → KeepBytes (items_of c.done) initial new) → Untouched c initial new
untouched_done c initial new kept = λ none m away.
    kept (front FormatsNone c.done c.rest (subst (AllByRecursion FormatsNone) (sym c.lines) none)) m (front (IsElsewhere m) (items_of c.done) (c.begun ++ c.left) (parted c m away))

-- and the next one was begun
pub untouched_line : {table : List Row} {script : Script} (c : Progress table script) (line : Line) (more : List Line) (place : Place) (initial old new : List Device) → c.rest ≡ line ∷ more → place ≡ place_behind first_place c.done
    → (AllByRecursion FormatsNone c.done → KeepBytes (items_of c.done) initial old) → LineKeepsBytes place line old new → Untouched c initial new
untouched_line c line more place initial old new next at first second = λ none m away.
    let lines : AllByRecursion FormatsNone (c.done ++ c.rest) = subst (AllByRecursion FormatsNone) (sym c.lines) none in
    let behind : AllByRecursion FormatsNone (line ∷ more) = subst (AllByRecursion FormatsNone) next (rest FormatsNone c.done c.rest lines) in
    let items : Parted c m = parted c m away in
    let own : Away m (next_items c.done c.rest) = subst (Away m) (sym c.parts) (rest (IsElsewhere m) (items_of c.done) (c.begun ++ c.left) items) in
    let here : Away m (item_by place line) = subst (λ (p : Place). Away m (item_by p line)) (sym at) (subst (λ (ls : List Line). Away m (next_items c.done ls)) next own) in
    second behind.0 m here ∙ first (front FormatsNone c.done c.rest lines) m (front (IsElsewhere m) (items_of c.done) (c.begun ++ c.left) items)
