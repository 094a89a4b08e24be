-- What the top call did.
use Rattle.std.proofs.Common.{◌≡◌, ◌≢◌, ◌⊎◌, inl, inr, ℕ, ◌+◌, ◌<◌, ◌≤◌, Bool, true, false, ◌||◌, List, [], ◌∷◌, ◌++◌, length, append_assoc, refl, ap, sym, ◌∙◌, subst, arith}
use Rattle.std.specs.Prelude.{⊤, Option, Some, None, Err}
use Rattle.dg_base.specs.Outside.{Takes, AtEnd}
use Rattle.dg_base.proofs.OutsideLemmas.{Puts-nil, Takes-nil, Takes-told, Takes-all}
use Rattle.dg_base.specs.declared.answers.Status.{Status}
use Rattle.dg_base.specs.declared.answers.Status.TheVariants.{Done, Memory, Usage, BadInput, ReadFault, WriteFault, FlashFault, NotAVolume, Refused, LinkFault, TooLong, TooMany, NoBoard, NoImage}
use Rattle.dg_words.specs.Counts.{Rose}
use Rattle.dg_nor.specs.Device.{Device}
use Rattle.dg_object.specs.Object.{Row}
use Rattle.dg_script.specs.Sizes.{most_used_bytes}
use Rattle.dg_script.specs.Items.{items_behind, items_of}
use Rattle.dg_script.specs.Script.{Script}
use Rattle.dg_script.specs.declared.line.Line.{Line}
use Rattle.dg_script.specs.declared.line.Line.TheVariants.{Boards}
use Rattle.dg_world.specs.Boards.{BoardStopped}
use Rattle.dg_replay.specs.Boards.{BoardsStand}
use Rattle.dg_replay.specs.Items.{StartState, UsesBoards, is_boards, begin_behind, beginning_of, motes_in, lacking, next_items}
use Rattle.dg_replay.specs.Ending.{Ending, Ends, Over, ending_from, ending_of, ending_line, ending_status, script_of, has_unused_bytes, InBounds, InLimits}
use Rattle.dg_outside.specs.Outside.{Outside}
use Rattle.dg_replay.specs.Promised.{Headline}
use Rattle.dg_replay.specs.Done.{IsUnfailed, ReplaysAll, ReplayDone}
use Rattle.dg_replay.specs.Replayed.{Progress, IsSeen, RunsTo, played_text, Wrote, BoardsLeft, NoVolumeThere, NoImageThere, AreVolumes, IsSettled, AreWhole, AllWhole, NextIsWhole, RestsOnTaken, IsCaused, Replayed}
use Rattle.dg_replay.specs.inner.Words.{IsComplete}
use Rattle.dg_replay.specs.Replaying.{Reached, PlayedUpTo, InputAnswer, StopEnds, EndsWith, IsLeft, ScriptReplayed}
use Rattle.dg_replay.specs.declared.halt.Halt.{Halt}
use Rattle.dg_replay.specs.declared.halt.Halt.TheVariants as halts
use Rattle.dg_replay.specs.declared.stop.Stop.{Stop}
use Rattle.dg_replay.specs.Shown.{Saw}
use Rattle.dg_replay.specs.Stages.{span, failures}
use Rattle.dg_replay.specs.inner.Words.{bytes_taken}
use Rattle.dg_replay.specs.declared.player.Player.{Player}
use Rattle.dg_replay.proofs.EndLemmas.{over_not, is_over-true, over_ends, stopped_ends, in_limits}
use Rattle.dg_replay.proofs.TakenLemmas.{over_settled, over_done, none_whole, stopped_of_script, known_in_script}

-- where an input is at its end, the bytes are enough
at_end_for : {table : List Row} {script : Script} (s : Status) (n : ℕ) (input : List ℕ) (at_end : Type 0) (c : Progress table script) (text : List ℕ) → at_end → RestsOnTaken s n (bytes_taken input ⊤) c text → RestsOnTaken s n (bytes_taken input at_end) c text
at_end_for ReadFault n input at_end c text e enough = enough
at_end_for Memory n input at_end c text e read = inl e
at_end_for WriteFault n input at_end c text e read = inl e
at_end_for FlashFault n input at_end c text e read = inl e
at_end_for Done n input at_end c text e read = inl e
at_end_for Usage n input at_end c text e read = inl e
at_end_for BadInput n input at_end c text e read = inl e
at_end_for NotAVolume n input at_end c text e read = inl e
at_end_for Refused n input at_end c text e read = inl e
at_end_for LinkFault n input at_end c text e read = inl e
at_end_for TooLong n input at_end c text e read = inl e
at_end_for TooMany n input at_end c text e read = inl e
at_end_for NoBoard n input at_end c text e read = inl e
at_end_for NoImage n input at_end c text e read = inl e

caused_too : (s : Status) (e : Ending) (r w b v i : Type 0) → IsCaused s e ⊥ w b v i → IsCaused s e r w b v i
caused_too ReadFault e r w b v i h = absurd h
caused_too Memory e r w b v i h = h
caused_too WriteFault e r w b v i h = h
caused_too FlashFault e r w b v i h = h
caused_too _ e r w b v i h = h

-- a script whose input was read to its end
pub end_replayed : {table : List Row} {S G : Saw} (s : Status) (input : List ℕ) (at_end : Type 0) (old new : List Device) (before after : Option (List ℕ)) (reads writes : Type 0) → at_end → length input ≤ most_used_bytes
    → ScriptReplayed table s (script_of input) (ending_from (length old) false (script_of input)) (bytes_taken input ⊤) (span old new before after S G) (failures ⊥ writes)
    → ScriptReplayed table s (script_of input) (ending_of (length old) input) (bytes_taken input at_end) (span old new before after S G) (failures reads writes)
end_replayed {table} {S = S} {G = G} s input at_end old new before after reads writes ended few r =
    let made : ScriptReplayed table s (script_of input) (ending_from (length old) false (script_of input)) (bytes_taken input at_end) (span old new before after S G) (failures reads writes) = record {
      came = r.came;
      text = r.text;
      written = r.written;
      report = r.report;
      read = at_end_for s (length old) input at_end r.came r.text ended r.read;
      near = r.near;
      limits = r.limits;
      stood = r.stood;
      boards = r.boards;
      left = r.left;
      caused = caused_too s (ending_from (length old) false (script_of input)) reads writes (BoardStopped (motes_in r.came.done) old new) (NoVolumeThere r.came old new) ((UsesBoards r.came.done) × NoImageThere r.came old new) r.caused;
    } in
    subst (λ (b : Bool). ScriptReplayed table s (script_of input) (ending_from (length old) b (script_of input)) (bytes_taken input at_end) (span old new before after S G) (failures reads writes)) (sym (over_not input few)) made

-- an input that is too long
pub over_replayed : {table : List Row} {S G : Saw} (s : Status) (input : List ℕ) (at_end : Type 0) (n : ℕ) (p : Player) (old new : List Device) (before mid after : Option (List ℕ)) (failed reads writes : Type 0) → (failed → writes) → length input ≡ most_used_bytes + 1
    → Reached table false (script_of input) [] n p (span old new before mid S G) → EndsWith s TooLong (ending_line Over) mid after failed
    → ScriptReplayed table s (script_of input) (ending_of (length old) input) (bytes_taken input at_end) (span old new before after S G) (failures reads writes)
over_replayed {table} {S = S} {G = G} s input at_end n p old new before mid after failed reads writes spread long r done =
    let over : has_unused_bytes input ≡ true = is_over-true input (omega (arith, long)) in
    subst (λ (b : Bool). ScriptReplayed table s (script_of input) (ending_from (length old) b (script_of input)) (bytes_taken input at_end) (span old new before after S G) (failures reads writes)) (sym over)
    (over_ends s (script_of input) input at_end n p old new before mid after failed reads writes spread (over_settled (length old) input over)
    (λ c. over_done input c.done c.rest c.begun c.left over c.lines c.parts) r done)

-- a read failed
pub failed_replayed : {table : List Row} {S G : Saw} (input : List ℕ) (at_end : Type 0) (ending : Ending) (old new : List Device) (before after : Option (List ℕ)) (reads writes : Type 0) → reads
    → PlayedUpTo table (script_of input) old before after (λ c. (c.begun ≡ []) × BoardsStand c.last old new × AreWhole input c.done × AllWhole input c.done × IsLeft (span old new before after S G) G c)
    → ScriptReplayed table ReadFault (script_of input) ending (bytes_taken input at_end) (span old new before after S G) (failures reads writes)
failed_replayed input at_end ending old new before after reads writes rose f =
    record { came = f.came; text = played_text f.came.played; written = f.reported; report = (refl, f.there.0); read = (f.there.2, f.there.3); near = tt; limits = f.limits; stood = f.stood; boards = f.there.1; left = f.there.4; caused = rose }

-- ---- how the lines that were played end

-- a read failed
pub halt_failed : {table : List Row} {S G : Saw} (halt : Halt) (input : List ℕ) (at_end reads : Type 0) (old new : List Device) (before after : Option (List ℕ)) (writes worse : Type 0) → halt ≡ halts.ReadFault → InputAnswer table (Err halt) (bytes_taken input at_end) (span old new before after S G) (failures reads writes)
    → (length input ≤ most_used_bytes + 1) × ScriptReplayed table ReadFault (script_of input) (ending_of (length old) input) (bytes_taken input at_end) (span old new before after S G) (failures reads worse)
halt_failed {table} {S = S} {G = G} halt input at_end reads old new before after writes worse is answer =
    let h : InputAnswer table (Err halts.ReadFault) (bytes_taken input at_end) (span old new before after S G) (failures reads writes) = subst (λ (x : Halt). InputAnswer table (Err x) (bytes_taken input at_end) (span old new before after S G) (failures reads writes)) is answer in
    (omega (arith, h.1), failed_replayed input at_end (ending_of (length old) input) old new before after reads worse h.0 h.2)

-- the input is too long
pub halt_over : {table : List Row} {S G : Saw} (halt : Halt) (s : Status) (input : List ℕ) (at_end reads : Type 0) (old new : List Device) (before mid after : Option (List ℕ)) (failed later worse : Type 0) → halt ≡ halts.TooLong → (later → worse) → InputAnswer table (Err halt) (bytes_taken input at_end) (span old new before mid S G) (failures reads failed)
    → EndsWith s TooLong (ending_line Over) mid after later → (length input ≤ most_used_bytes + 1) × ScriptReplayed table s (script_of input) (ending_of (length old) input) (bytes_taken input at_end) (span old new before after S G) (failures reads worse)
halt_over {table} {S = S} {G = G} halt s input at_end reads old new before mid after failed later worse is widen answer done =
    let h : InputAnswer table (Err halts.TooLong) (bytes_taken input at_end) (span old new before mid S G) (failures reads failed) = subst (λ (x : Halt). InputAnswer table (Err x) (bytes_taken input at_end) (span old new before mid S G) (failures reads failed)) is answer in
    (omega (arith, h.0), over_replayed s input at_end h.1.0 h.1.1 old new before mid after later reads worse widen h.0 h.1.2 done)

-- the replay stopped at a line
pub halt_stopped : {table : List Row} {S G : Saw} (halt : Halt) (stop : Stop) (s : Status) (input : List ℕ) (at_end reads : Type 0) (old new : List Device) (before mid after : Option (List ℕ)) (failed later worse : Type 0) → halt ≡ halts.Stopped stop → (failed → worse) → (later → worse)
    → InputAnswer table (Err halt) (bytes_taken input at_end) (span old new before mid S G) (failures reads failed) → StopEnds stop s mid after later
    → (length input ≤ most_used_bytes + 1) × ScriptReplayed table s (script_of input) (ending_of (length old) input) (bytes_taken input at_end) (span old new before after S G) (failures reads worse)
halt_stopped {table} {S = S} {G = G} halt stop s input at_end reads old new before mid after failed later worse is spread widen answer done =
    let h : InputAnswer table (Err (halts.Stopped stop)) (bytes_taken input at_end) (span old new before mid S G) (failures reads failed) = subst (λ (x : Halt). InputAnswer table (Err x) (bytes_taken input at_end) (span old new before mid S G) (failures reads failed)) is answer in
    (omega (arith, h.0), stopped_ends stop s (script_of input) (has_unused_bytes input) input at_end h.2.0 old new before mid after failed later reads worse spread widen h.2.1 h.1 h.2.2 done)

-- what a replay did, where these bytes were taken
abbrev pub replayed_of : {table : List Row} {S G : Saw} (s : Status) (bytes : List ℕ) (a b : Outside) → Takes a.input.left b.input.left bytes → length bytes ≤ most_used_bytes + 1
    → ScriptReplayed table s (script_of bytes) (ending_of (length a.boards) bytes) (bytes_taken bytes (AtEnd b.input.left)) (span a.boards b.boards a.output.written b.output.written S G) (failures (Rose a.input.reads b.input.reads) (Rose a.output.writes b.output.writes))
    → (s ≢ ReadFault → b.input.reads ≡ a.input.reads) → (s ≢ WriteFault → b.output.writes ≡ a.output.writes) → Replayed table s a b
replayed_of s bytes a b taken few r reads writes =
    record {
      input = bytes;
      taken = taken;
      few_bytes = few;
      came = r.came;
      text = r.text;
      written = r.written;
      report = r.report;
      read = r.read;
      near = r.near;
      limits = r.limits;
      stood = r.stood;
      boards = r.boards;
      untouched = r.left.0;
      caused = r.caused;
      read_faults = reads;
      write_faults = writes;
    }

-- before the first line nothing is done
pub none_bound : (boards : ℕ) → InBounds boards [] []
unfolding lacking
none_bound boards = record { boards_enough = refl; few_events = omega arith }

pub no_items : [] ≡ items_of [] ++ []
unfolding items_behind
no_items = refl

pub no_run : (g : StartState) → RunsTo (beginning_of g []).world [] None
unfolding begin_behind
no_run g = (refl, refl)

abbrev pub none_played : {table : List Row} (script : Script) → Progress table script
none_played {table} script = record {
  done = [];
  rest = script.lines;
  begun = [];
  left = next_items [] script.lines;
  played = [];
  last = None;
  lines = refl;
  parts = refl;
  within = λ e. refl;
  items = no_items;
  ground = record { stores = []; table = table };
  grounded = λ uses. absurd (cc);
  run = no_run (record { stores = []; table = table });
}

-- a watcher saw nothing then
pub unread_seen : (table : List Row) (saw : Saw) (script : Script) → saw.events [] [] → IsSeen saw (none_played {table = table} script)
unfolding begin_behind
unread_seen table saw script f = f

-- memory ran out before anything was read
abbrev pub memory_unread : {table : List Row} (a : Outside) → Replayed table Memory a a
memory_unread a =
    record { input = []; taken = Takes-nil a.input.left; few_bytes = omega arith; came = none_played (script_of []); text = []; written = Puts-nil a.output.written; report = record { more = []; front = refl }; read = inr (none_whole []); near = tt; limits = none_bound (length a.boards); stood = λ uses. absurd (cc); boards = refl; untouched = λ none m away. refl; caused = tt; read_faults = λ other. refl; write_faults = λ other. refl }

-- the status of the script's ending
by_status : {table : List Row} (s : Status) (input : List ℕ) (at_end : Type 0) (c : Progress table (script_of input)) (text : List ℕ) (r w b v i uses : Type 0) (n : ℕ) → RestsOnTaken s n (bytes_taken input at_end) c text → IsCaused s (ending_of n input) r w b v i → (r → ⊥) → (w → ⊥)
    → (b → at_end ⊎ NextIsWhole input c.done c.rest → ⊥) → (v → at_end ⊎ NextIsWhole input c.done c.rest → ⊥) → (i → at_end ⊎ NextIsWhole input c.done c.rest → uses) → (at_end ⊎ IsSettled n input → ending_of n input ≡ Ends) → IsComplete uses s
by_status Memory input at_end c text r w b v i uses n enough caused reads writes stops none lacks ends = inr (inl refl)
by_status ReadFault input at_end c text r w b v i uses n enough caused reads writes stops none lacks ends = absurd (reads caused)
by_status WriteFault input at_end c text r w b v i uses n enough caused reads writes stops none lacks ends = absurd (writes caused)
by_status FlashFault input at_end c text r w b v i uses n enough caused reads writes stops none lacks ends = absurd (stops caused enough)
by_status NotAVolume input at_end c text r w b v i uses n enough caused reads writes stops none lacks ends = absurd (none caused enough)
by_status NoImage input at_end c text r w b v i uses n enough caused reads writes stops none lacks ends = inr (inr (refl, lacks caused enough))
by_status Done input at_end c text r w b v i uses n enough caused reads writes stops none lacks ends = inl refl
by_status Usage input at_end c text r w b v i uses n enough caused reads writes stops none lacks ends = inl (caused ∙ ap ending_status (ends enough))
by_status BadInput input at_end c text r w b v i uses n enough caused reads writes stops none lacks ends = inl (caused ∙ ap ending_status (ends enough))
by_status Refused input at_end c text r w b v i uses n enough caused reads writes stops none lacks ends = inl (caused ∙ ap ending_status (ends enough))
by_status LinkFault input at_end c text r w b v i uses n enough caused reads writes stops none lacks ends = inl (caused ∙ ap ending_status (ends enough))
by_status TooLong input at_end c text r w b v i uses n enough caused reads writes stops none lacks ends = inl (caused ∙ ap ending_status (ends enough))
by_status TooMany input at_end c text r w b v i uses n enough caused reads writes stops none lacks ends = inl (caused ∙ ap ending_status (ends enough))
by_status NoBoard input at_end c text r w b v i uses n enough caused reads writes stops none lacks ends = inl (caused ∙ ap ending_status (ends enough))

-- A script in its limits, whose bytes the source exposes, was replayed to its end, unless memory ran out or the outside failed.
told_end : (bytes input : List ℕ) (la : Option (List ℕ)) (n : ℕ) → Takes (Some bytes) la input → InLimits n bytes → AtEnd la ⊎ IsSettled n input → ending_of n input ≡ Ends
told_end bytes input la n taken limits (inl at_end) = subst (λ (xs : List ℕ). ending_of n xs ≡ Ends) (Takes-all bytes input la taken at_end) (in_limits n bytes limits)
told_end bytes input la n taken limits (inr settled) =
    let told = Takes-told bytes input la taken in
    sym (settled told.0) ∙ ap (λ (xs : List ℕ). ending_of n xs) (sym told.1) ∙ in_limits n bytes limits

-- the board that stopped is one of the script's
told_stop : (bytes input : List ℕ) (la : Option (List ℕ)) (done rest : List Line) (old new : List Device) → Takes (Some bytes) la input → done ++ rest ≡ (script_of input).lines → BoardStopped (motes_in done) old new → AtEnd la ⊎ NextIsWhole input done rest
    → BoardStopped (motes_in (script_of bytes).lines) old new
told_stop bytes input la done rest old new taken front s (inl at_end) =
    subst (λ (xs : List ℕ). BoardStopped (motes_in (script_of xs).lines) old new) (sym (Takes-all bytes input la taken at_end)) (stopped_of_script input done rest old new front s)
told_stop bytes input la done [] old new taken front s (inr whole) = absurd whole
told_stop bytes input la done (line ∷ rest) old new taken front s (inr whole) =
    let told = Takes-told bytes input la taken in
    let more = whole told.0 in
    subst (λ (xs : List ℕ). BoardStopped (motes_in (script_of xs).lines) old new) (sym told.1)
    (stopped_of_script (input ++ told.0) done (line ∷ more.0) old new (sym (append_assoc done (line ∷ []) more.0) ∙ more.1) s)

-- The first lines of the script that was read are those of the input, with the next one where it is read.
uses_front : (xs ys : List Line) → UsesBoards xs → UsesBoards (xs ++ ys)
uses_front [] ys uses = absurd (cc)
uses_front (x ∷ xs) ys uses = by_first (is_boards x) uses (uses_front xs ys)
  where
    by_first : (b : Bool) {y z : Bool} → (b || y) ≡ true → (y ≡ true → z ≡ true) → (b || z) ≡ true
    by_first true e f = refl
    by_first false e f = f e

uses_next : (xs ys : List Line) → UsesBoards (xs ++ Boards ∷ ys)
uses_next [] ys = refl
uses_next (x ∷ xs) ys = by_first (is_boards x) (uses_next xs ys)
  where
    by_first : (b : Bool) {z : Bool} → z ≡ true → (b || z) ≡ true
    by_first true e = refl
    by_first false e = e

told_uses : (bytes input : List ℕ) (la : Option (List ℕ)) (done rest : List Line) → Takes (Some bytes) la input → done ++ rest ≡ (script_of input).lines → UsesBoards done → AtEnd la ⊎ NextIsWhole input done rest → UsesBoards (script_of bytes).lines
told_uses bytes input la done rest taken front uses (inl at_end) =
    subst (λ (xs : List ℕ). UsesBoards (script_of xs).lines) (sym (Takes-all bytes input la taken at_end)) (subst UsesBoards front (uses_front done rest uses))
told_uses bytes input la done [] taken front uses (inr whole) = absurd whole
told_uses bytes input la done (line ∷ rest) taken front uses (inr whole) =
    let told = Takes-told bytes input la taken in
    let more = whole told.0 in
    subst (λ (xs : List ℕ). UsesBoards (script_of xs).lines) (sym told.1) (subst UsesBoards more.1 (uses_front (done ++ line ∷ []) more.0 (uses_front done (line ∷ []) uses)))

told_boards : (bytes input : List ℕ) (la : Option (List ℕ)) (done rest more : List Line) → Takes (Some bytes) la input → done ++ rest ≡ (script_of input).lines → rest ≡ Boards ∷ more → AtEnd la ⊎ NextIsWhole input done rest → UsesBoards (script_of bytes).lines
told_boards bytes input la done rest more taken front next (inl at_end) =
    subst (λ (xs : List ℕ). UsesBoards (script_of xs).lines) (sym (Takes-all bytes input la taken at_end)) (subst UsesBoards (ap (λ (ls : List Line). done ++ ls) (sym next) ∙ front) (uses_next done more))
told_boards bytes input la done [] more taken front next (inr whole) = absurd whole
told_boards bytes input la done (line ∷ rest) more taken front next (inr whole) =
    let told = Takes-told bytes input la taken in
    let behind = whole told.0 in
    let is : line ≡ Boards = first_is line Boards rest more next in
    let uses : UsesBoards ((done ++ line ∷ []) ++ behind.0) = uses_front (done ++ line ∷ []) behind.0 (subst (λ (l : Line). UsesBoards (done ++ l ∷ [])) (sym is) (uses_next done [])) in
    subst (λ (xs : List ℕ). UsesBoards (script_of xs).lines) (sym told.1) (subst UsesBoards behind.1 uses)
  where
    first_is : (x y : Line) (xs ys : List Line) → x ∷ xs ≡ y ∷ ys → x ≡ y
    first_is x y xs ys e = cc

-- the board that is not a volume is one of the script's
told_known : (bytes input : List ℕ) (la : Option (List ℕ)) (done rest : List Line) (board : ℕ) → Takes (Some bytes) la input → done ++ rest ≡ (script_of input).lines → board < motes_in done → AtEnd la ⊎ NextIsWhole input done rest → board < motes_in (script_of bytes).lines
told_known bytes input la done rest board taken front known (inl at_end) =
    subst (λ (xs : List ℕ). board < motes_in (script_of xs).lines) (sym (Takes-all bytes input la taken at_end)) (known_in_script input done rest board front known)
told_known bytes input la done [] board taken front known (inr whole) = absurd whole
told_known bytes input la done (line ∷ rest) board taken front known (inr whole) =
    let told = Takes-told bytes input la taken in
    let more = whole told.0 in
    subst (λ (xs : List ℕ). board < motes_in (script_of xs).lines) (sym told.1)
    (known_in_script (input ++ told.0) done (line ∷ more.0) board (sym (append_assoc done (line ∷ []) more.0) ∙ more.1) known)

-- The boards of a script's motes are volumes, if it uses them as they are.
completed : {table : List Row} (s : Status) (bytes : List ℕ) (a b : Outside) → IsUnfailed bytes a b → (UsesBoards (script_of bytes).lines → AreVolumes (motes_in (script_of bytes).lines) a.boards)
    → Replayed table s a b → IsComplete (UsesBoards (script_of bytes).lines) s
completed s bytes a b all volumes x =
    let old = a.boards in
    let taken : Takes (Some bytes) b.input.left x.input = subst (λ (o : Option (List ℕ)). Takes o b.input.left x.input) all.told x.taken in
    by_status s x.input (AtEnd b.input.left) x.came x.text (Rose a.input.reads b.input.reads) (Rose a.output.writes b.output.writes) (BoardStopped (motes_in x.came.done) old b.boards) (NoVolumeThere x.came old b.boards) ((UsesBoards x.came.done) × NoImageThere x.came old b.boards) (UsesBoards (script_of bytes).lines) (length old) x.read x.caused all.reads all.writes
    (λ stop enough. all.boards (told_stop bytes x.input b.input.left x.came.done x.came.rest old b.boards taken x.came.lines stop enough))
    (λ v enough.
    let at = v.there.at in
    let volume = volumes (told_boards bytes x.input b.input.left x.came.done x.came.rest v.more taken x.came.lines v.next enough) v.there.board at.before (told_known bytes x.input b.input.left x.came.done x.came.rest v.there.board taken x.came.lines at.known enough) at.was in at.no_volume volume.0 volume.1)
    (λ i enough. told_uses bytes x.input b.input.left x.came.done x.came.rest taken x.came.lines i.0 enough)
    (λ enough. told_end bytes x.input b.input.left (length old) taken all.limits enough)

-- if the boards are not used as they are, no start lacks an image
completed_golden : (uses : Type 0) (s : Status) → (uses → ⊥) → IsComplete uses s → (s ≡ Done) ⊎ (s ≡ Memory)
completed_golden uses s alone (inl done) = inl done
completed_golden uses s alone (inr (inl memory)) = inr memory
completed_golden uses s alone (inr (inr lacks)) = absurd (alone lacks.1)

replays_all : {table : List Row} (s : Status) (a b : Outside) → Replayed table s a b → ReplaysAll s a b
replays_all s a b x = record {
  golden = λ bytes all alone. completed_golden (UsesBoards (script_of bytes).lines) s alone (completed s bytes a b all (λ uses. absurd (alone uses)) x);
  boards = λ bytes all volumes. completed s bytes a b all (λ uses. volumes) x;
}

-- statuses that a replay never has
abbrev pub IsNever : Status → Type 0
IsNever s = (s ≢ Usage) × (s ≢ Refused) × (s ≢ LinkFault)

replayed_never : {table : List Row} (s : Status) (a b : Outside) → Replayed table s a b → IsNever s
replayed_never s a b x =
    let P : Status → Type 0 = λ t. Wrote t (ending_of (length a.boards) x.input) x.came x.text in
    (λ is. subst P is x.report, λ is. subst P is x.report, λ is. subst P is x.report)

-- a script with golden has volumes, and golden starts if nothing else does
golden_never : {table : List Row} (s : Status) (a b : Outside) → (x : Replayed table s a b) → (UsesBoards (script_of x.input).lines → ⊥) → (s ≢ NotAVolume) × (s ≢ NoImage)
golden_never s a b x alone =
    let P : Status → Type 0 = λ t. BoardsLeft t x.came a.boards b.boards in
    let Q : Status → Type 0 = λ t. IsCaused t (ending_of (length a.boards) x.input) (Rose a.input.reads b.input.reads) (Rose a.output.writes b.output.writes) (BoardStopped (motes_in x.came.done) a.boards b.boards) (NoVolumeThere x.came a.boards b.boards) ((UsesBoards x.came.done) × NoImageThere x.came a.boards b.boards) in (
      λ is. let lacking = subst P is x.boards in alone (subst UsesBoards (ap (λ (ls : List Line). x.came.done ++ ls) (sym lacking.next) ∙ x.came.lines) (uses_next x.came.done lacking.more)),
      λ is. let lacks = subst Q is x.caused in alone (subst UsesBoards x.came.lines (uses_front x.came.done x.came.rest lacks.0)),
    )

abbrev pub HeadlineLaw : Type 0
HeadlineLaw = (table : List Row) (input : List ℕ) (c : Progress table (script_of input)) → Headline c

pub replay_done : (s : Status) (a b : Outside) → HeadlineLaw → ((table : List Row) → Replayed table s a b) → ReplayDone s a b
replay_done s a b law replayed = record {
  replayed = replayed;
  headline = λ table x. law table x.input x.came;
  complete = replays_all s a b (replayed []);
  golden = λ table x alone. golden_never s a b x alone;
  never = replayed_never s a b (replayed []);
}
