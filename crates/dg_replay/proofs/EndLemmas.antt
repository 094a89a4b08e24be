-- How a replay ends, by the ending that the rules give to its script.
use Rattle.std.proofs.Common.{◌≡◌, ◌⊎◌, inl, inr, ⊎_elim, ℕ, ◌+◌, ◌<◌, ◌≤◌, Bool, true, false, not, List, [], ◌++◌, length, map, take, drop, refl, append-nil, append_assoc, ap, sym, ◌∙◌, subst, arith}
use Rattle.std.specs.Prelude.{⊤, Option, Some, None, is_some, nat_lt, if◌then◌else◌}
use Rattle.std.specs.Str.Lines.{lines}
use Rattle.std.proofs.lemmas.List.{take-append-drop}
use Rattle.std.proofs.lemmas.Bool.Decides.{nat_tests}
use Rattle.dg_base.specs.Outside.{PutsPrefix, Puts}
use Rattle.dg_base.proofs.OutsideLemmas.{Puts-join}
use Rattle.dg_base.specs.declared.answers.Status.{Status}
use Rattle.dg_base.specs.declared.answers.Status.TheVariants as status
use Rattle.dg_nor.specs.Device.{Device}
use Rattle.dg_object.specs.Object.{Row}
use Rattle.dg_rules.specs.Sizes.{most_events}
use Rattle.dg_rules.specs.Changes.{final_lines}
use Rattle.dg_script.specs.Sizes.{most_used_bytes}
use Rattle.dg_script.specs.Items.{Item, items_of}
use Rattle.dg_replay.specs.Items.{UsesBoards, lacking, beginning_of, motes_in, events_among}
use Rattle.dg_world.specs.Worlds.{IsWorld}
use Rattle.dg_replay.specs.Playing.{InWorld, Ready}
use Rattle.dg_script.specs.Places.{first_place, fault_at_end}
use Rattle.dg_script.specs.Script.{Script, script_from, end_fault}
use Rattle.dg_script.specs.inner.Words.{numbered}
use Rattle.dg_script.specs.declared.fault.LineFault.{LineFault}
use Rattle.dg_script.specs.declared.place.Place.{Place}
use Rattle.dg_script.specs.declared.fault.LineFault.TheVariants as line_fault
use Rattle.dg_script.specs.Report.{report_text}
use Rattle.dg_rules.specs.World.{World}
use Rattle.dg_world.specs.Boards.{WorldStands}
use Rattle.dg_replay.specs.Boards.{EventNext, InSome, LacksImage, BoardsStand, StoppedIn}
use Rattle.dg_replay.specs.Ending.{Ending, Ends, NoBoards, TooManyEvents, FaultAt, Over, events_in, InBounds, by_fault, ending_from, ending_line, whole_lines, used, has_unused_bytes, script_of, ending_of, InLimits}
use Rattle.dg_replay.specs.Near.{behind_lines, FewBytesBehind}
use Rattle.dg_replay.specs.Replayed.{Progress, item_played, played_text, ReachesEnding, closing, StopsAt, BoardsLeft, RunsTo, IsSettled, NextIsWhole, DoneIsWhole, BoardsEndIt, Untouched, IsSeenAs, no_volume_line, no_image_line}
use Rattle.dg_world.specs.Mounted.{StandFor}
use Rattle.dg_world.specs.Applied.{SameBoards}
use Rattle.dg_replay.specs.Replaying.{ReportedBefore, StopEnds, IsLeft, Reached, HasFew, StopsAtText, StopsInTaken, ByRules, ReadyToEnd, EndsWith, FinishesWith, ScriptReplayed}
use Rattle.dg_replay.specs.declared.player.Player.{Player}
use Rattle.dg_script.specs.declared.line.Line.{Line}
use Rattle.dg_replay.specs.declared.stop.Stop.{Stop}
use Rattle.dg_replay.specs.Shown.{Saw}
use Rattle.dg_replay.specs.Stages.{span, failures}
use Rattle.dg_replay.specs.inner.Words.{bytes_taken}
use Rattle.dg_replay.specs.declared.stop.Stop.TheVariants.{Memory, BadInput, WriteFault, FlashFault, TooMany, NoBoard, NoImage, NotAVolume}
use Rattle.dg_replay.proofs.NearLemmas.{near_later}
use Rattle.dg_replay.proofs.BytesLemmas.{keep_read, keep_then, untouched_done}
use Rattle.dg_replay.proofs.EndingLemmas.{ended, below_is_false, over_is, few_events, few_ending, fault_ending, board_ending, many_ending}

-- the ending that the rules give where they stop a replay
abbrev pub EndsBy : Stop → Ending → Type 0
EndsBy (BadInput line fault) e = e ≡ FaultAt line fault
EndsBy TooMany e = e ≡ TooManyEvents
EndsBy (NoBoard motes boards) e = e ≡ NoBoards motes boards
EndsBy stop e = Unit {0}

pub stop_ending : {table : List Row} (stop : Stop) (over : Bool) (script : Script) (W : Saw → Progress table script → Type 0) (number : ℕ) (initial now : List Device) (before after : Option (List ℕ)) (failed : Type 0) (S G : Saw)
    → StopsAtText table stop script W number (span initial now before after S G) failed → EndsBy stop (ending_from (length initial) over script)
stop_ending Memory over script W number initial now before after failed S G f = tt
stop_ending (BadInput line fault) over script W number initial now before after failed S G (same, f) = fault_ending over script initial line fault f.there.3 f.there.1
stop_ending WriteFault over script W number initial now before after failed S G f = tt
stop_ending FlashFault over script W number initial now before after failed S G f = tt
stop_ending TooMany over script W number initial now before after failed S G f = many_ending over script initial f.came f.there.2 f.there.0
stop_ending (NoBoard motes boards) over script W number initial now before after failed S G f =
    let same : boards ≡ length initial = f.there.0.0 in
    let short : length initial < motes = subst (λ (n : ℕ). n < motes) same f.there.0.1 in
    board_ending over script initial motes f.came.done f.there.1.0 short f.there.3 (ap (λ (ls : List Line). f.came.done ++ ls) (sym f.there.1.1) ∙ f.came.lines) ∙ ap (λ (n : ℕ). NoBoards motes n) (sym same)
stop_ending NoImage over script W number initial now before after failed S G f = tt
stop_ending NotAVolume over script W number initial now before after failed S G f = tt

-- what is known where a write failed: the boards, and what a watcher saw, which may be the end
abbrev LeftAtCut : {table : List Row} {script : Script} → (S G : Saw) → Progress table script → (initial now : List Device) → Type 0
LeftAtCut S G c initial now = Untouched c initial now × (S.events [] [] → IsSeenAs status.WriteFault G c)

-- boards end the replay, and the last line was not all written
cut_at_end : {table : List Row} {S G : Saw} (result : Status) (script : Script) (over : Bool) (input : List ℕ) (at_end : Type 0) (number : ℕ) (initial now : List Device) (before mid after : Option (List ℕ)) (later reads worse : Type 0) → (later → worse) → FewBytesBehind number input
    → (c : Progress table script) (line : List ℕ) → BoardsEndIt c line → Puts before mid (played_text c.played) → InBounds (length initial) c.done (map item_played c.played) → (UsesBoards c.done → StandFor (motes_in c.done) c.ground.stores initial) → BoardsLeft status.WriteFault c initial now → LeftAtCut S G c initial now
    → ((more : List ℕ) → ReportedBefore number c (played_text c.played ++ more)) → at_end ⊎ NextIsWhole input c.done c.rest → result ≡ status.WriteFault → PutsPrefix mid after line → later → ScriptReplayed table result script (ending_from (length initial) over script) (bytes_taken input at_end) (span initial now before after S G) (failures reads worse)
cut_at_end {table} {S = S} {G = G} result script over input at_end number initial now before mid after later reads worse widen near c line ends told limits stood boards left tells whole same cut rose =
    let k = cut.0 in
    let front = tells (take k line) in
    let made : ScriptReplayed table status.WriteFault script (ending_from (length initial) over script) (bytes_taken input at_end) (span initial now before after S G) (failures reads worse) = record {
      came = c;
      text = played_text c.played ++ take k line;
      written = Puts-join before mid after _ _ told cut.2;
      report = record {
        more = drop k line;
        front = inr (inr (line, ends, append_assoc (played_text c.played) (take k line) (drop k line) ∙ ap (λ (xs : List ℕ). played_text c.played ++ xs) (take-append-drop k line)));
      };
      read = ⊎_elim (λ (x : at_end). inl x) (λ (x : NextIsWhole input c.done c.rest). inr (inr (inr (line, ends, x)))) whole;
      near = inl (record { lines = front.lines; within = front.within; more = front.more; reported = front.reported; near = near_later number (front.lines + 1) input front.behind near });
      limits = limits;
      stood = stood;
      boards = boards;
      left = left;
      caused = widen rose;
    } in
    subst (λ (s : Status). ScriptReplayed table s script (ending_from (length initial) over script) (bytes_taken input at_end) (span initial now before after S G) (failures reads worse)) (sym same) made

-- where a write failed, a watcher saw one of the two
cut_left : {A U F X Y : Type 0} → (A × (U × (F → X))) ⊎ (A × (U × (F → Y))) → A × (U × (F → X ⊎ Y))
cut_left (inl (a, (u, x))) = (a, (u, λ f. inl (x f)))
cut_left (inr (a, (u, y))) = (a, (u, λ f. inr (y f)))

lacks_next : (v : Option World) (left : List Item) (old new : List Device) → InSome v (λ u. LacksImage u left old new) → EventNext left
lacks_next None left old new lacks = absurd lacks
lacks_next (Some u) left old new lacks = lacks.next

-- the end of a replay that stopped
pub stopped_ends : {table : List Row} {S G : Saw} (stop : Stop) (result : Status) (script : Script) (over : Bool) (input : List ℕ) (at_end : Type 0) (number : ℕ) (initial now : List Device) (before mid after : Option (List ℕ)) (failed later reads worse : Type 0)
    → (failed → worse) → (later → worse) → FewBytesBehind number input → ByRules stop (at_end ⊎ IsSettled (length initial) input)
    → StopsInTaken table stop script (bytes_taken input at_end) number (span initial now before mid S G) failed → StopEnds stop result mid after later → ScriptReplayed table result script (ending_from (length initial) over script) (bytes_taken input at_end) (span initial now before after S G) (failures reads worse)
stopped_ends {table} {S = S} {G = G} Memory result script over input at_end number initial now before mid after failed later reads worse spread widen near settled f (same, told) =
    let made : ScriptReplayed table status.Memory script (ending_from (length initial) over script) (bytes_taken input at_end) (span initial now before after S G) (failures reads worse) = record {
      came = f.came;
      text = f.text;
      written = subst (λ (o : Option (List ℕ)). Puts before o f.text) (sym told) f.reported;
      report = record { more = f.more; front = f.whole };
      read = f.there.1.0;
      near = tt;
      limits = f.limits;
      stood = f.stood;
      boards = f.there.0;
      left = f.there.1.1;
      caused = tt;
    } in
    subst (λ (s : Status). ScriptReplayed table s script (ending_from (length initial) over script) (bytes_taken input at_end) (span initial now before after S G) (failures reads worse)) (sym same) made
stopped_ends {table} {S = S} {G = G} (BadInput line fault) result script over input at_end number initial now before mid after failed later reads worse spread widen near settled (numbered, f) done =
    let e = fault_ending over script initial line fault f.there.3 f.there.1 in
    let ready : ReadyToEnd table script (FaultAt line fault) (ending_line (FaultAt line fault)) (span initial now before mid S G) = record { came = f.came; reported = f.reported; boards = f.there.2; left = f.there.4.1; all = f.there.0; line = refl; limits = f.limits; stood = f.stood } in
    let there : FewBytesBehind line input = subst (λ (n : ℕ). FewBytesBehind n input) (sym numbered) near in
    subst (λ (x : Ending). ScriptReplayed table result script x (bytes_taken input at_end) (span initial now before after S G) (failures reads worse)) (sym e)
    (ended result script (FaultAt line fault) _ input at_end initial now before mid after later reads worse widen ready settled f.there.4.0 (λ text. there) done)
stopped_ends {table} {S = S} {G = G} WriteFault result script over input at_end number initial now before mid after failed later reads worse spread widen near settled (rose, f) (same, told) =
    let before_it = f.there.1 in
    let there = cut_left f.there.2 in
    let made : ScriptReplayed table status.WriteFault script (ending_from (length initial) over script) (bytes_taken input at_end) (span initial now before after S G) (failures reads worse) = record {
      came = f.came;
      text = f.text;
      written = subst (λ (o : Option (List ℕ)). Puts before o f.text) (sym told) f.reported;
      report = record { more = f.more; front = inl f.whole };
      read = ⊎_elim (λ (x : at_end). inl x) (λ (x : DoneIsWhole input f.came.done f.came.rest f.came.begun). inr (inr (inl (x, record { more = f.more; front = f.whole })))) there.0;
      near = inl (record { lines = before_it.lines; within = before_it.within; more = before_it.more; reported = before_it.reported; near = near_later number (before_it.lines + 1) input before_it.behind near });
      limits = f.limits;
      stood = f.stood;
      boards = f.there.0;
      left = there.1;
      caused = spread rose;
    } in
    subst (λ (s : Status). ScriptReplayed table s script (ending_from (length initial) over script) (bytes_taken input at_end) (span initial now before after S G) (failures reads worse)) (sym same) made
stopped_ends {table} {S = S} {G = G} FlashFault result script over input at_end number initial now before mid after failed later reads worse spread widen near settled f (same, told) =
    let made : ScriptReplayed table status.FlashFault script (ending_from (length initial) over script) (bytes_taken input at_end) (span initial now before after S G) (failures reads worse) = record {
      came = f.came;
      text = played_text f.came.played;
      written = subst (λ (o : Option (List ℕ)). Puts before o (played_text f.came.played)) (sym told) f.reported;
      report = (refl, subst (λ (ls : List Line). StopsAt (ending_from (length initial) over script) ls) (sym f.there.0.2) f.there.0.3);
      read = f.there.2.0;
      near = tt;
      limits = f.limits;
      stood = f.stood;
      boards = f.there.1;
      left = f.there.2.1;
      caused = f.there.1.stopped;
    } in
    subst (λ (s : Status). ScriptReplayed table s script (ending_from (length initial) over script) (bytes_taken input at_end) (span initial now before after S G) (failures reads worse)) (sym same) made
stopped_ends {table} {S = S} {G = G} TooMany result script over input at_end number initial now before mid after failed later reads worse spread widen near settled f done =
    let e = many_ending over script initial f.came f.there.2 f.there.0 in
    let ready : ReadyToEnd table script TooManyEvents (ending_line TooManyEvents) (span initial now before mid S G) = record { came = f.came; reported = f.reported; boards = f.there.1; left = f.there.3.1; all = f.there.0; line = refl; limits = f.limits; stood = f.stood } in
    subst (λ (x : Ending). ScriptReplayed table result script x (bytes_taken input at_end) (span initial now before after S G) (failures reads worse)) (sym e)
    (ended result script TooManyEvents _ input at_end initial now before mid after later reads worse widen ready settled f.there.3.0 (λ text. tt) done)
stopped_ends {table} {S = S} {G = G} (NoBoard motes boards) result script over input at_end number initial now before mid after failed later reads worse spread widen near settled f done =
    let e = stop_ending (NoBoard motes boards) over script (λ saw c. (at_end ⊎ DoneIsWhole input c.done c.rest c.begun) × IsLeft (span initial now before mid S G) saw c) number initial now before mid failed S G f in
    let ready : ReadyToEnd table script (NoBoards motes boards) (ending_line (NoBoards motes boards)) (span initial now before mid S G) = record { came = f.came; reported = f.reported; boards = f.there.2; left = f.there.4.1; all = f.there.1; line = refl; limits = f.limits; stood = f.stood } in
    subst (λ (x : Ending). ScriptReplayed table result script x (bytes_taken input at_end) (span initial now before after S G) (failures reads worse)) (sym e)
    (ended result script (NoBoards motes boards) _ input at_end initial now before mid after later reads worse widen ready settled f.there.4.0 (λ text. tt) done)
stopped_ends {table} {S = S} {G = G} NoImage result script over input at_end number initial now before mid after failed later reads worse spread widen near settled f (inl (same, put)) =
    let made : ScriptReplayed table status.NoImage script (ending_from (length initial) over script) (bytes_taken input at_end) (span initial now before after S G) (failures reads worse) = record {
      came = f.came;
      text = played_text f.came.played ++ no_image_line;
      written = Puts-join before mid after _ _ f.reported put;
      report = refl;
      read = f.there.4.0;
      near = tt;
      limits = f.limits;
      stood = f.stood;
      boards = f.there.2;
      left = f.there.4.1;
      caused = (f.there.1, f.there.2);
    } in
    subst (λ (s : Status). ScriptReplayed table s script (ending_from (length initial) over script) (bytes_taken input at_end) (span initial now before after S G) (failures reads worse)) (sym same) made
stopped_ends {table} NoImage result script over input at_end number initial now before mid after failed later reads worse spread widen near settled f (inr (same, cut, rose)) =
    cut_at_end result script over input at_end number initial now before mid after later reads worse widen near f.came no_image_line (inr (f.there.1, lacks_next f.came.last f.came.left initial now f.there.2, refl)) f.reported f.limits f.stood (inr (inr (inr (f.there.1, f.there.2)))) (f.there.4.1.0, λ seen. inr (f.there.4.1.1 seen)) f.there.3 f.there.4.0 same cut rose
stopped_ends {table} {S = S} {G = G} NotAVolume result script over input at_end number initial now before mid after failed later reads worse spread widen near settled f (inl (same, put)) =
    let made : ScriptReplayed table status.NotAVolume script (ending_from (length initial) over script) (bytes_taken input at_end) (span initial now before after S G) (failures reads worse) = record {
      came = f.came;
      text = played_text f.came.played ++ no_volume_line;
      written = Puts-join before mid after _ _ f.reported put;
      report = refl;
      read = f.there.2.0;
      near = tt;
      limits = f.limits;
      stood = f.stood;
      boards = f.there.0;
      left = f.there.2.1;
      caused = f.there.0;
    } in
    subst (λ (s : Status). ScriptReplayed table s script (ending_from (length initial) over script) (bytes_taken input at_end) (span initial now before after S G) (failures reads worse)) (sym same) made
stopped_ends {table} NotAVolume result script over input at_end number initial now before mid after failed later reads worse spread widen near settled f (inr (same, cut, rose)) =
    cut_at_end result script over input at_end number initial now before mid after later reads worse widen near f.came no_volume_line (inl (f.there.0.more, f.there.0.next, refl)) f.reported f.limits f.stood (inr (inr (inl f.there.0))) (f.there.2.1.0, λ seen. inl (f.there.2.1.1 seen)) f.there.1 f.there.2.0 same cut rose

-- a script whose lines were all played
lines_done : {table : List Row} {S G : Saw} (ends : Bool) (script : Script) (n : ℕ) (p : Player) (initial now : List Device) (before mid : Option (List ℕ)) → (r : Reached table ends script [] n p (span initial now before mid S G)) → r.done ++ [] ≡ script.lines
unfolding script_from
lines_done ends script n p initial now before mid r = r.lines

fault_done : {table : List Row} {S G : Saw} (ends : Bool) (script : Script) (n : ℕ) (p : Player) (initial now : List Device) (before mid : Option (List ℕ)) → (r : Reached table ends script [] n p (span initial now before mid S G)) → end_fault ends p.place n ≡ script.fault
unfolding script_from
fault_done ends script n p initial now before mid r = r.fault

few_done : {table : List Row} {S G : Saw} (ends : Bool) (script : Script) (n : ℕ) (p : Player) (initial now : List Device) (before mid : Option (List ℕ)) → (r : Reached table ends script [] n p (span initial now before mid S G)) → HasFew script initial
few_done ends script n p initial now before mid r =
    let same : r.done ≡ script.lines = sym (append-nil r.done) ∙ lines_done ends script n p initial now before mid r in
    record { events = subst (λ (ls : List Line). events_in ls ≤ most_events) same r.few; boards_enough = subst (λ (ls : List Line). lacking (length initial) ls ≡ None) same r.boards_enough }

-- a script that was played to its end
abbrev came_to : {table : List Row} {S G : Saw} (ends : Bool) (script : Script) (n : ℕ) (p : Player) (initial now : List Device) (before mid : Option (List ℕ)) (last : Option World) → (r : Reached table ends script [] n p (span initial now before mid S G)) → r.last ≡ last → Progress table script
came_to ends script n p initial now before mid last r is =
    record {
      done = r.done;
      rest = [];
      begun = [];
      left = [];
      played = r.played;
      last = last;
      lines = lines_done ends script n p initial now before mid r;
      parts = refl;
      within = λ e. refl;
      items = r.items ∙ sym (append-nil (items_of r.done));
      ground = r.ground;
      grounded = λ uses. (r.grounded uses).0;
      run = subst (λ (o : Option World). RunsTo (beginning_of r.ground r.done).world r.played o) is r.run;
    }

pub bounds_done : {table : List Row} {S G : Saw} (ends : Bool) (script : Script) (n : ℕ) (p : Player) (initial now : List Device) (before mid : Option (List ℕ)) → (r : Reached table ends script [] n p (span initial now before mid S G)) → InBounds (length initial) r.done (map item_played r.played)
bounds_done ends script n p initial now before mid r = record { boards_enough = r.boards_enough; few_events = subst (λ (xs : List Item). events_among xs ≤ most_events) (sym r.items) r.few }

-- the last line of a report is to be written
abbrev ready_done : {table : List Row} {S G : Saw} (ends : Bool) (script : Script) (e : Ending) (n : ℕ) (p : Player) (initial now : List Device) (before mid : Option (List ℕ)) → (r : Reached table ends script [] n p (span initial now before mid S G)) → ((c : Progress table script) → c.rest ≡ [] → ReachesEnding e c)
    → ((w : Option World) → closing e w ≡ ending_line e) → ReadyToEnd table script e (ending_line e) (span initial now before mid S G)
ready_done ends script e n p initial now before mid r all closes =
    let came = came_to ends script n p initial now before mid r.last r refl in
    record { came = came; reported = r.reported; boards = r.stood.boards; left = (untouched_done came initial now r.untouched, r.seen); all = all came refl; line = closes r.last; limits = bounds_done ends script n p initial now before mid r; stood = λ uses. (r.grounded uses).1 }

-- nothing comes after the last line
nothing_near : (n : ℕ) (input : List ℕ) → behind_lines n input ≡ [] → FewBytesBehind n input
nothing_near n input e = omega (arith, ap length e)

-- an input that is too long
pub over_ends : {table : List Row} {S G : Saw} (result : Status) (script : Script) (input : List ℕ) (at_end : Type 0) (n : ℕ) (p : Player) (initial now : List Device) (before mid after : Option (List ℕ)) (failed reads worse : Type 0) → (failed → worse)
    → IsSettled (length initial) input → ((c : Progress table script) → DoneIsWhole input c.done c.rest c.begun)
    → Reached table false script [] n p (span initial now before mid S G) → EndsWith result status.TooLong (ending_line Over) mid after failed → ScriptReplayed table result script (ending_from (length initial) true script) (bytes_taken input at_end) (span initial now before after S G) (failures reads worse)
over_ends {table} {S = S} {G = G} result script input at_end n p initial now before mid after failed reads worse spread settled whole r done =
    let e : ending_from (length initial) true script ≡ Over =
    few_ending true script initial (few_done false script n p initial now before mid r) ∙ ap (λ (f : Option (ℕ × LineFault)). by_fault true f) (sym (fault_done false script n p initial now before mid r)) in
    let ready = ready_done false script Over n p initial now before mid r (λ c none. none) (λ w. refl) in
    subst (λ (x : Ending). ScriptReplayed table result script x (bytes_taken input at_end) (span initial now before after S G) (failures reads worse)) (sym e)
    (ended result script Over _ input at_end initial now before mid after failed reads worse spread ready (inr settled) (inr (whole ready.came)) (λ text. tt) done)

-- a script that ends before its second line, or after a cut
pub short_ends : {table : List Row} {S G : Saw} (result : Status) (script : Script) (input : List ℕ) (n : ℕ) (fault : LineFault) (p : Player) (initial now : List Device) (before mid after : Option (List ℕ)) (failed reads worse : Type 0) → (failed → worse) → fault_at_end p.place ≡ Some fault → behind_lines n input ≡ []
    → Reached table true script [] n p (span initial now before mid S G) → EndsWith result status.BadInput (ending_line (FaultAt n fault)) mid after failed → ScriptReplayed table result script (ending_from (length initial) false script) (bytes_taken input ⊤) (span initial now before after S G) (failures reads worse)
short_ends {table} {S = S} {G = G} result script input n fault p initial now before mid after failed reads worse spread early behind r done =
    let is : script.fault ≡ Some (n, fault) = sym (fault_done true script n p initial now before mid r) ∙ ap (λ (o : Option LineFault). numbered n o) early in
    let e = fault_ending false script initial n fault (few_done true script n p initial now before mid r) is in
    let ready = ready_done true script (FaultAt n fault) n p initial now before mid r (λ c none. none) (λ w. refl) in
    subst (λ (x : Ending). ScriptReplayed table result script x (bytes_taken input ⊤) (span initial now before after S G) (failures reads worse)) (sym e)
    (ended result script (FaultAt n fault) _ input ⊤ initial now before mid after failed reads worse spread ready (inl tt) (inl tt) (λ text. nothing_near n input behind) done)

-- a player that is after the second line has a world
finish_as : {table : List Row} {S G : Saw} (result : Status) (script : Script) (input : List ℕ) (w : World) (n : ℕ) (p : Player) (initial now new : List Device) (before mid after : Option (List ℕ)) (failed reads worse : Type 0) → (failed → worse)
    → (r : Reached table true script [] n p (span initial now before mid S G)) → SameBoards now new → r.last ≡ Some w → motes_in r.done ≡ length w.sites → FinishesWith result w initial new mid after failed → ScriptReplayed table result script Ends (bytes_taken input ⊤) (span initial new before after S G) (failures reads worse)
finish_as result script input w n p initial now new before mid after failed reads worse spread r read is count (inl (ends, boards)) =
    let came = came_to true script n p initial now before mid (Some w) r is in
    ended result script Ends (report_text (final_lines w)) input ⊤ initial new before mid after failed reads worse spread
    (record { came = came; reported = r.reported; boards = boards; left = (untouched_done came initial new (λ none. keep_then (items_of r.done) initial now new (r.untouched none) (keep_read (items_of r.done) now new read)), r.seen); all = refl; line = refl; limits = bounds_done true script n p initial now before mid r; stood = λ uses. (r.grounded uses).1 }) (inl tt) (inl tt) (λ text. tt) ends
finish_as {table} {S = S} {G = G} result script input w n p initial now new before mid after failed reads worse spread r read is count (inr (same, stopped, kept)) =
    let there : StoppedIn (motes_in r.done) [] [] (Some w) initial new = stopped (motes_in r.done) count in
    let made : ScriptReplayed table status.FlashFault script Ends (bytes_taken input ⊤) (span initial new before after S G) (failures reads worse) = record {
      came = came_to true script n p initial now before mid (Some w) r is;
      left = (untouched_done (came_to true script n p initial now before mid (Some w) r is) initial new (λ none. keep_then (items_of r.done) initial now new (r.untouched none) (keep_read (items_of r.done) now new read)), r.seen);
      text = played_text r.played;
      written = subst (λ (o : Option (List ℕ)). Puts before o (played_text r.played)) (sym kept) r.reported;
      report = (refl, refl);
      read = inl tt;
      near = tt;
      limits = bounds_done true script n p initial now before mid r;
      stood = λ uses. (r.grounded uses).1;
      boards = there;
      caused = there.stopped;
    } in
    subst (λ (s : Status). ScriptReplayed table s script Ends (bytes_taken input ⊤) (span initial new before after S G) (failures reads worse)) (sym same) made

kept_world : (p : Player) (last : Option World) (initial now : List Device) → p.place.ready ≡ true → InWorld p last now → BoardsStand last initial now → (w : World) × (last ≡ Some w) × IsWorld p.world now w × WorldStands w initial now × (length w.sites ≡ p.place.motes)
kept_world p None initial now ready kept stands = absurd (let e : true ≡ false = sym ready ∙ kept in cc)
kept_world p (Some w) initial now ready kept stands = (w, refl, kept.0, stands, kept.1)

-- a script may end where its boards are used
is_ready : (place : Place) → fault_at_end place ≡ None → place.ready ≡ true
is_ready place none = by_test place.ready none
  where
    by_test : (b : Bool) → (if not b then Some line_fault.Place else if is_some place.cut then Some line_fault.Cut else None) ≡ None → b ≡ true
    by_test true e = refl
    by_test false e = absurd (let f : Some line_fault.Place ≡ None = e in cc)

-- the world that is kept there
pub finishes_in : (p : Player) (now : List Device) → fault_at_end p.place ≡ None → Ready p now → (w : World) × IsWorld p.world now w
finishes_in p now none r = from r.world r.kept
  where
    from : (w : Option World) → InWorld p w now → (w : World) × IsWorld p.world now w
    from None k = absurd (let e : true ≡ false = sym (is_ready p.place none) ∙ k in cc)
    from (Some w) k = (w, k.0)

-- a script that ended
pub script_ends : {table : List Row} {S G : Saw} (result : Status) (script : Script) (input : List ℕ) (n : ℕ) (p : Player) (initial now new : List Device) (before mid after : Option (List ℕ)) (failed reads worse : Type 0) → (failed → worse) → fault_at_end p.place ≡ None
    → (r : Reached table true script [] n p (span initial now before mid S G)) → SameBoards now new → ((w : World) → IsWorld p.world now w → WorldStands w initial now → FinishesWith result w initial new mid after failed)
    → ScriptReplayed table result script (ending_from (length initial) false script) (bytes_taken input ⊤) (span initial new before after S G) (failures reads worse)
script_ends {table} {S = S} {G = G} result script input n p initial now new before mid after failed reads worse spread none r read finishes =
    let world = kept_world p r.last initial now (is_ready p.place none) r.stood.world r.stood.boards in
    let w = world.0 in
    let fault : script.fault ≡ None = sym (fault_done true script n p initial now before mid r) ∙ ap (λ (o : Option LineFault). numbered n o) none in
    let e : ending_from (length initial) false script ≡ Ends =
    few_ending false script initial (few_done true script n p initial now before mid r) ∙ ap (λ (f : Option (ℕ × LineFault)). by_fault false f) fault in
    subst (λ (x : Ending). ScriptReplayed table result script x (bytes_taken input ⊤) (span initial new before after S G) (failures reads worse)) (sym e)
    (finish_as result script input w n p initial now new before mid after failed reads worse spread r read world.1 (sym r.stood.motes ∙ sym world.4) (finishes w world.2 world.3))

-- ---- the bytes that are used

pub over_not : (text : List ℕ) → length text ≤ most_used_bytes → has_unused_bytes text ≡ false
over_not text h = below_is_false most_used_bytes (length text) h

pub is_over-true : (text : List ℕ) → most_used_bytes < length text → has_unused_bytes text ≡ true
is_over-true text more = over_is most_used_bytes (length text) more

-- the script of an input that is not too long
pub script_all : (input : List ℕ) → length input ≤ most_used_bytes → script_of input ≡ script_from true first_place 1 (lines input)
unfolding script_of
script_all input few = ap (λ (b : Bool). script_from (not b) first_place 1 (lines (if b then whole_lines (take most_used_bytes input) else input))) (over_not input few)

-- the script of an input that is too long, of which these bytes are used
pub script_over : (input front : List ℕ) → most_used_bytes < length input → used input ≡ front → script_of input ≡ script_from false first_place 1 (lines front)
unfolding script_of
script_over input front more is = ap (λ (xs : List ℕ). script_from (not (has_unused_bytes input)) first_place 1 (lines xs)) is ∙ ap (λ (b : Bool). script_from (not b) first_place 1 (lines front)) (is_over-true input more)

below_true : (n m : ℕ) → nat_lt n m ≡ true → n < m
below_true n m e = grind (arith, nat_tests)

pub over_more : (input : List ℕ) → has_unused_bytes input ≡ true → most_used_bytes < length input
over_more input over = below_true most_used_bytes (length input) over

-- an input in its grammar and limits is played to its end
pub in_limits : (n : ℕ) (input : List ℕ) → InLimits n input → ending_of n input ≡ Ends
in_limits n input limits =
    few_events n (has_unused_bytes input) (script_of input) limits.boards_enough limits.events
    ∙ ap (λ (b : Bool). by_fault b (script_of input).fault) (over_not input limits.bytes)
    ∙ ap (λ (f : Option (ℕ × LineFault)). by_fault false f) limits.grammar
