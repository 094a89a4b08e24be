-- The ending that the rules give to a script, by how far it was played.
use Rattle.std.proofs.Common.{◌≡◌, ◌⊎◌, inl, inr, ⊎_elim, ℕ, ◌+◌, ◌<◌, ◌≤◌, Bool, true, false, cond, List, [], ◌∷◌, ◌++◌, length, take, drop, refl, append-nil, append_assoc, ap, sym, ◌∙◌, subst, arith}
use Rattle.std.specs.Prelude.{Option, Some, None, nat_lt, if◌then◌else◌}
use Rattle.std.specs.Str.Lines.{lines}
use Rattle.std.proofs.lemmas.List.Sums.{sum_by-cons}
use Rattle.std.proofs.lemmas.List.{take-append-drop}
use Rattle.std.proofs.lemmas.Bool.Decides.{nat_tests}
use Rattle.dg_base.specs.Outside.{Puts}
use Rattle.dg_base.proofs.OutsideLemmas.{Puts-join}
use Rattle.dg_base.specs.declared.answers.Status.{Status}
use Rattle.dg_base.specs.declared.answers.Status.TheVariants as status
use Rattle.dg_nor.specs.Device.{Device}
use Rattle.dg_object.specs.Object.{Row}
use Rattle.dg_rules.specs.Sizes.{most_events}
use Rattle.dg_script.specs.Items.{Item, Applies, place_behind, items_behind, items_of}
use Rattle.dg_replay.specs.Items.{UsesBoards, lacking, lacking_by, motes_in, next_items, is_event, events_among}
use Rattle.dg_script.specs.Places.{first_place, place_after}
use Rattle.dg_script.specs.Script.{Script}
use Rattle.dg_script.specs.declared.fault.LineFault.{LineFault}
use Rattle.dg_world.specs.Boards.{BoardStopped}
use Rattle.dg_replay.specs.Boards.{EventNext, BoardsStand}
use Rattle.dg_replay.specs.Ending.{Ending, Ends, NoBoards, TooManyEvents, FaultAt, Over, events_in, by_fault, by_boards, ending_from, ending_status, used}
use Rattle.dg_replay.specs.inner.Words.{by_events}
use Rattle.dg_replay.specs.Replayed.{Progress, played_text, AtTooMany, IsWholeReport, Wrote, BoardsLeft, IsCaused, IsSettled, DoneIsWhole, RestsOnTaken, EndsNear, ReadsNear, NoVolumeThere, NoImageThere, IsSeen, IsSeenAs}
use Rattle.dg_replay.specs.Replaying.{HasFew, ReadyToEnd, EndsWith, ScriptReplayed}
use Rattle.dg_base.specs.declared.events.Step.{Step}
use Rattle.dg_script.specs.declared.line.Line.{Line}
use Rattle.dg_script.specs.declared.line.Line.TheVariants.{Nothing, Motes, Golden, Boards as BoardsLine, Link, Narrow, Image, Cut, Happens as EventLine, Round, Sweeps}
use Rattle.dg_replay.specs.Shown.{Saw}
use Rattle.dg_replay.specs.Stages.{span, failures}
use Rattle.dg_replay.specs.inner.Words.{bytes_taken}
use Rattle.dg_replay.proofs.ItemLemmas.{items_split, items_first, events_among-append}

wrote_whole : {table : List Row} {script : Script} (e : Ending) (c : Progress table script) (text : List ℕ) → IsWholeReport e c text → Wrote (ending_status e) e c text
wrote_whole Ends c text whole = whole
wrote_whole (NoBoards m b) c text whole = whole
wrote_whole TooManyEvents c text whole = whole
wrote_whole (FaultAt line f) c text whole = whole
wrote_whole Over c text whole = whole

boards_of : {table : List Row} {script : Script} (e : Ending) (c : Progress table script) (initial now : List Device) → BoardsStand c.last initial now → BoardsLeft (ending_status e) c initial now
boards_of Ends c initial now stand = stand
boards_of (NoBoards m b) c initial now stand = stand
boards_of TooManyEvents c initial now stand = stand
boards_of (FaultAt line f) c initial now stand = stand
boards_of Over c initial now stand = stand

caused_by : (e : Ending) (r w b v i : Type 0) → IsCaused (ending_status e) e r w b v i
caused_by Ends r w b v i = refl
caused_by (NoBoards m k) r w b v i = refl
caused_by TooManyEvents r w b v i = refl
caused_by (FaultAt line f) r w b v i = refl
caused_by Over r w b v i = refl

-- no event ended the replay
seen_by : {table : List Row} {script : Script} (e : Ending) (saw : Saw) (c : Progress table script) → IsSeen saw c → IsSeenAs (ending_status e) saw c
seen_by Ends saw c seen = seen
seen_by (NoBoards m b) saw c seen = seen
seen_by TooManyEvents saw c seen = seen
seen_by (FaultAt line f) saw c seen = seen
seen_by Over saw c seen = seen

-- the bytes that were taken settle the ending
enough_by : {table : List Row} {script : Script} (e : Ending) (n : ℕ) (input : List ℕ) (at_end : Type 0) (c : Progress table script) (text : List ℕ) → at_end ⊎ IsSettled n input → RestsOnTaken (ending_status e) n (bytes_taken input at_end) c text
enough_by Ends n input at_end c text settled = settled
enough_by (NoBoards m b) n input at_end c text settled = settled
enough_by TooManyEvents n input at_end c text settled = settled
enough_by (FaultAt line f) n input at_end c text settled = settled
enough_by Over n input at_end c text settled = settled

ends_near : {table : List Row} {script : Script} (e : Ending) (input : List ℕ) (c : Progress table script) (text : List ℕ) → ReadsNear (ending_status e) e input c text → EndsNear e input
ends_near Ends input c text near = near
ends_near (NoBoards m b) input c text near = near
ends_near TooManyEvents input c text near = near
ends_near (FaultAt line f) input c text near = near
ends_near Over input c text near = near

-- the end of the report was written, or a prefix of it, or memory ran out
pub ended : {table : List Row} {S G : Saw} (result : Status) (script : Script) (e : Ending) (piece input : List ℕ) (at_end : Type 0) (initial now : List Device) (before mid after : Option (List ℕ)) (failed reads worse : Type 0) → (failed → worse)
    → (r : ReadyToEnd table script e piece (span initial now before mid S G)) → at_end ⊎ IsSettled (length initial) input → at_end ⊎ DoneIsWhole input r.came.done r.came.rest r.came.begun → ((text : List ℕ) → ReadsNear (ending_status e) e input r.came text)
    → EndsWith result (ending_status e) piece mid after failed → ScriptReplayed table result script e (bytes_taken input at_end) (span initial now before after S G) (failures reads worse)
ended {table} {S = S} {G = G} result script e piece input at_end initial now before mid after failed reads worse spread r settled whole near (inl done) =
    let text : List ℕ = played_text r.came.played ++ piece in
    let all : IsWholeReport e r.came text = record { all = r.all; reported = ap (λ (xs : List ℕ). played_text r.came.played ++ xs) (sym r.line) } in
    let made : ScriptReplayed table (ending_status e) script e (bytes_taken input at_end) (span initial now before after S G) (failures reads worse) = record {
      came = r.came;
      text = text;
      written = Puts-join before mid after _ _ r.reported done.1;
      report = wrote_whole e r.came text all;
      read = enough_by e (length initial) input at_end r.came text settled;
      near = near text;
      limits = r.limits;
      stood = r.stood;
      boards = boards_of e r.came initial now r.boards;
      left = (r.left.0, λ f. seen_by e G r.came (r.left.1 f));
      caused = caused_by e reads worse (BoardStopped (motes_in r.came.done) initial now) (NoVolumeThere r.came initial now) ((UsesBoards r.came.done) × NoImageThere r.came initial now);
    } in
    subst (λ (s : Status). ScriptReplayed table s script e (bytes_taken input at_end) (span initial now before after S G) (failures reads worse)) (sym done.0) made
ended {table} {S = S} {G = G} result script e piece input at_end initial now before mid after failed reads worse spread r settled whole near (inr (inl cut)) =
    let k = cut.1.0 in
    let made : ScriptReplayed table status.WriteFault script e (bytes_taken input at_end) (span initial now before after S G) (failures reads worse) = record {
      came = r.came;
      text = played_text r.came.played ++ take k piece;
      written = Puts-join before mid after _ _ r.reported cut.1.2;
      report = record {
        more = drop k piece;
        front = inr (inl (record {
          all = r.all;
          reported = append_assoc (played_text r.came.played) (take k piece) (drop k piece) ∙ ap (λ (xs : List ℕ). played_text r.came.played ++ xs) (take-append-drop k piece ∙ sym r.line);
        }));
      };
      read = ⊎_elim (λ (x : at_end). inl x) (λ (x : IsSettled (length initial) input). inr (inl x)) settled;
      near = inr (record { all = r.all; more = take k piece; reported = refl; near = ends_near e input r.came [] (near []) });
      limits = r.limits;
      stood = r.stood;
      boards = inl r.boards;
      left = (r.left.0, λ f. inl (r.left.1 f));
      caused = spread cut.2;
    } in
    subst (λ (s : Status). ScriptReplayed table s script e (bytes_taken input at_end) (span initial now before after S G) (failures reads worse)) (sym cut.0) made
ended {table} {S = S} {G = G} result script e piece input at_end initial now before mid after failed reads worse spread r settled whole near (inr (inr memory)) =
    let made : ScriptReplayed table status.Memory script e (bytes_taken input at_end) (span initial now before after S G) (failures reads worse) = record {
      came = r.came;
      text = played_text r.came.played;
      written = subst (λ (o : Option (List ℕ)). Puts before o (played_text r.came.played)) (sym memory.1) r.reported;
      report = record { more = []; front = append-nil (played_text r.came.played) };
      read = whole;
      near = tt;
      limits = r.limits;
      stood = r.stood;
      boards = r.boards;
      left = r.left;
      caused = tt;
    } in
    subst (λ (s : Status). ScriptReplayed table s script e (bytes_taken input at_end) (span initial now before after S G) (failures reads worse)) (sym memory.0) made

-- ---- the ending of a script

pub below_is_false : (n m : ℕ) → m ≤ n → nat_lt n m ≡ false
below_is_false n m h = grind (arith, nat_tests)

pub over_is : (n m : ℕ) → n < m → nat_lt n m ≡ true
over_is n m h = grind (arith, nat_tests)

pub few_events : (n : ℕ) (over : Bool) (script : Script) → lacking n script.lines ≡ None → events_in script.lines ≤ most_events → ending_from n over script ≡ by_fault over script.fault
few_events n over script enough few =
    ap (λ (o : Option ℕ). by_boards o n (by_events over script)) enough
    ∙ ap (λ (b : Bool). if b then TooManyEvents else by_fault over script.fault) (below_is_false most_events (events_in script.lines) few)

-- a script with few events, and with a board where it needs one, ends by its fault or its length
pub few_ending : (over : Bool) (script : Script) (initial : List Device) → HasFew script initial → ending_from (length initial) over script ≡ by_fault over script.fault
few_ending over script initial few = few_events (length initial) over script few.boards_enough few.events

-- a line outside the grammar ends the script
pub fault_ending : (over : Bool) (script : Script) (initial : List Device) (line : ℕ) (fault : LineFault) → HasFew script initial → script.fault ≡ Some (line, fault) → ending_from (length initial) over script ≡ FaultAt line fault
fault_ending over script initial line fault few is = few_ending over script initial few ∙ ap (λ (f : Option (ℕ × LineFault)). by_fault over f) is

lacking_behind : (boards motes : ℕ) (xs more : List Line) → boards < motes → lacking boards xs ≡ None → lacking boards (xs ++ Motes motes ∷ more) ≡ Some motes
unfolding lacking
lacking_behind boards motes [] more short none = ap (λ (b : Bool). if b then Some motes else lacking boards more) (over_is boards motes short)
lacking_behind boards motes (x ∷ xs) more short none = through x (lacking boards xs) (lacking boards (xs ++ Motes motes ∷ more)) none (λ rest. lacking_behind boards motes xs more short rest)
  where
    by_test : (b : Bool) (n : ℕ) (rest later : Option ℕ) → (if b then Some n else rest) ≡ None → (rest ≡ None → later ≡ Some motes) → (if b then Some n else later) ≡ Some motes
    by_test true n rest later e f = cc
    by_test false n rest later e f = f e

    through : (l : Line) (rest later : Option ℕ) → lacking_by boards l rest ≡ None → (rest ≡ None → later ≡ Some motes) → lacking_by boards l later ≡ Some motes
    through Nothing rest later e f = f e
    through (Motes n) rest later e f = by_test (nat_lt boards n) n rest later e f
    through (Golden name used content) rest later e f = f e
    through BoardsLine rest later e f = f e
    through (Link a b) rest later e f = f e
    through (Narrow m) rest later e f = f e
    through (Image image version name content) rest later e f = f e
    through (Cut cut) rest later e f = f e
    through (EventLine event) rest later e f = f e
    through (Round a b) rest later e f = f e
    through (Sweeps n) rest later e f = f e

pub board_ending : (over : Bool) (script : Script) (initial : List Device) (motes : ℕ) (done more : List Line) → length initial < motes → lacking (length initial) done ≡ None → done ++ Motes motes ∷ more ≡ script.lines → ending_from (length initial) over script ≡ NoBoards motes (length initial)
board_ending over script initial motes done more short none lines =
    ap (λ (o : Option ℕ). by_boards o (length initial) (by_events over script)) (ap (lacking (length initial)) (sym lines) ∙ lacking_behind (length initial) motes done more short none)

-- an event after some others is one more
one_more : (before : List Item) (step : Step) (reported : Bool) (more : List Item) → events_among before ≡ most_events → most_events < events_among (before ++ Applies step reported ∷ more)
one_more before step reported more full =
    let parts : events_among (before ++ Applies step reported ∷ more) ≡ events_among before + events_among (Applies step reported ∷ more) = events_among-append before (Applies step reported ∷ more) in
    let last : events_among (Applies step reported ∷ more) ≡ 1 + events_among more = sum_by-cons (λ x. cond (is_event x) 1 0) (Applies step reported) more in
    omega (arith, parts, last, full)

-- the items of a script, where the next of them is an event
items_come : (done rest : List Line) (begun left : List Item) (next : EventNext left) → next_items done rest ≡ begun ++ left → (more : List Item) × (items_of (done ++ rest) ≡ (items_of done ++ begun) ++ Applies next.step next.reported ∷ more)
items_come done [] begun left next parts = absurd (no_items begun left next parts)
  where
    no_items : (xs ys : List Item) → EventNext ys → [] ≡ xs ++ ys → ⊥
    no_items [] ys e none = let f : [] ≡ Applies e.step e.reported ∷ e.more = none ∙ e.is in cc
    no_items (x ∷ xs) ys e none = cc
items_come done (line ∷ rest) begun left next parts =
    let behind : List Item = items_behind (place_after (place_behind first_place done) line) rest in
    let first : items_behind (place_behind first_place done) (line ∷ rest) ≡ (begun ++ left) ++ behind =
    items_first (place_behind first_place done) line rest ∙ ap (λ (xs : List Item). xs ++ behind) parts in
    let here : (begun ++ left) ++ behind ≡ begun ++ (Applies next.step next.reported ∷ (next.more ++ behind)) = append_assoc begun left behind ∙ ap (λ (xs : List Item). begun ++ (xs ++ behind)) next.is in (
      next.more ++ behind,
      items_split done (line ∷ rest) ∙ ap (λ (xs : List Item). items_of done ++ xs) (first ∙ here) ∙ sym (append_assoc (items_of done) begun (Applies next.step next.reported ∷ (next.more ++ behind))),
    )

-- a million events, and one more after them
pub many_ending : {table : List Row} (over : Bool) (script : Script) (initial : List Device) (c : Progress table script) → lacking (length initial) script.lines ≡ None → AtTooMany c.left c.played → ending_from (length initial) over script ≡ TooManyEvents
many_ending over script initial c enough at =
    let come = items_come c.done c.rest c.begun c.left at.next c.parts in
    let full : events_among (items_of c.done ++ c.begun) ≡ most_events = ap events_among (sym c.items) ∙ at.events in
    let many : most_events < events_in (c.done ++ c.rest) = subst (λ (xs : List Item). most_events < events_among xs) (sym come.1) (one_more (items_of c.done ++ c.begun) at.next.step at.next.reported come.0 full) in
    let test : nat_lt most_events (events_in script.lines) ≡ true = ap (λ (ls : List Line). nat_lt most_events (events_in ls)) (sym c.lines) ∙ over_is _ _ many in
    ap (λ (o : Option ℕ). by_boards o (length initial) (by_events over script)) enough ∙ ap (λ (b : Bool). if b then TooManyEvents else by_fault over script.fault) test
