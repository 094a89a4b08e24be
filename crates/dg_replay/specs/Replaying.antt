-- What the steps of a replay do, text by text (docs/ARCHITECTURE.md, "The way of a script line").
use Rattle.std.specs.Prelude.{◌≡◌, ◌≢◌, ◌⊎◌, ℕ, ◌+◌, ◌<◌, ◌≤◌, Bool, true, false, List, [], ◌∷◌, ◌++◌, length, map, Option, Some}
use Rattle.std.specs.Prelude.{None, Result, Ok, Err}
use Rattle.std.specs.List.{AllByRecursion}
use Rattle.dg_base.specs.Outside.{Puts, PutsPrefix}
use Rattle.dg_nor.specs.Device.{Device}
use Rattle.dg_script.specs.Fitting.{StandsAt, FitsLine, IsPlayed, UsesBoard}
use Rattle.dg_script.specs.declared.place.Place.{Place}
use Rattle.dg_script.specs.Lines.{line_of}
use Rattle.dg_script.specs.Places.{place_after}
use Rattle.dg_script.specs.Sizes.{most_used_bytes}
use Rattle.dg_script.specs.Script.{Script, script_from}
use Rattle.dg_script.specs.declared.fault.LineFault.{LineFault}
use Rattle.dg_script.specs.declared.fault.LineFault.TheVariants as line_fault
use Rattle.dg_script.specs.Report.{report_text}
use Rattle.dg_base.specs.declared.answers.Status.{Status}
use Rattle.dg_base.specs.declared.answers.Status.TheVariants as status
use Rattle.dg_rules.specs.Sizes.{most_events}
use Rattle.dg_rules.specs.World.{World}
use Rattle.dg_rules.specs.Changes.{final_lines}
use Rattle.dg_rules.specs.Runs.{Played}
use Rattle.dg_script.specs.Items.{Item, items_of}
use Rattle.dg_world.specs.Boards.{BoardStopped}
use Rattle.dg_replay.specs.Boards.{BoardsStand, StoppedIn, InSome, NoVolumeIn, LacksImage}
use Rattle.dg_replay.specs.Items.{StartState, UsesBoards, beginning_of, motes_in, lacking}
use Rattle.dg_replay.specs.Ending.{Ending, NoBoards, TooManyEvents, FaultAt, script_of, events_in, InBounds, ending_line}
use Rattle.dg_replay.specs.Near.{behind_lines, FewBytesBehind}
use Rattle.dg_replay.specs.Untouched.{KeepBytes, FormatsNone}
use Rattle.dg_replay.specs.Replayed.{Progress, ReachesEnding, AtTooMany, closing, Wrote, BoardsLeft, BoardStoppedThere, IsCaused}
use Rattle.dg_replay.specs.Replayed.{Untouched, IsSeen, IsSeenAs}
use Rattle.dg_replay.specs.Replayed.{RunsTo, item_played, played_text, IsSettled, AreWhole, AllWhole}
use Rattle.dg_replay.specs.inner.Words.{report_of_lines}
use Rattle.dg_replay.specs.Replayed.{NextIsWhole}
use Rattle.dg_replay.specs.Replayed.{DoneIsWhole, RestsOnTaken, ReadsNear, NoVolumeThere, NoImageThere, no_volume_line}
use Rattle.dg_replay.specs.Replayed.{no_image_line}
use Rattle.dg_replay.specs.Shown.{Saw, StaysSeen, going_on, ended_saw, stores_in, events_played}
use Rattle.dg_replay.specs.Stages.{Baseline, DoneSoFar, ReplayState, LineRead, Span, BytesTaken, Failures, told_so_far}
use Rattle.dg_replay.specs.Stages.{boards_told, span_between}
use Rattle.dg_replay.specs.Playing.{Stood, PlayedLine, LineBegun, IsOneTooMany, LacksBoards, Grounded}
use Rattle.dg_replay.specs.declared.player.Player.{Player}
use Rattle.dg_script.specs.declared.line.Line.{Line}
use Rattle.dg_script.specs.declared.line.Line.TheVariants.{Motes, Boards}
use Rattle.dg_object.specs.Object.{Row}
use Rattle.dg_world.specs.Mounted.{StandFor}
use Rattle.dg_replay.specs.declared.halt.Halt.{Halt}
use Rattle.dg_replay.specs.declared.halt.Halt.TheVariants.{ReadFault, TooLong, Stopped}
use Rattle.dg_replay.specs.declared.stop.Stop.{Stop}
use Rattle.dg_replay.specs.declared.stop.Stop.TheVariants.{Memory, BadInput, WriteFault, FlashFault, TooMany, NoBoard, NoImage}
use Rattle.dg_replay.specs.declared.stop.Stop.TheVariants.{NotAVolume}

-- The line that a text spells was played, from a player and boards that stand for the world after some lines.
pub record TextPlayed (basis : Baseline) (text : List ℕ) (so_far : DoneSoFar) (a b : ReplayState) : Type 0 where
  pub line : Line
  pub spelled : line_of a.player.place text ≡ Ok line
  pub reported : List ℕ
  pub to : PlayedLine basis b.player so_far line (told_so_far [] a.saw) (boards_told b.boards (told_so_far reported b.saw))
  pub behind : b.player.place ≡ place_after a.player.place line

-- the same, and what is reported of the line was written
pub record TextReported (basis : Baseline) (text : List ℕ) (behind : DoneSoFar) (a b : ReplayState) : Type 0 where
  pub played : TextPlayed basis text behind a b
  pub written : Puts a.written b.written played.reported

-- the same, and a prefix of what is reported of the line was written
pub record TextCut (basis : Baseline) (text : List ℕ) (behind : DoneSoFar) (a b : ReplayState) : Type 0 where
  pub played : TextPlayed basis text behind a b
  pub written : PutsPrefix a.written b.written played.reported

-- nothing was done
pub record NothingDone (a b : ReplayState) : Type 0 where
  pub boards : b.boards ≡ a.boards
  pub written : b.written ≡ a.written
  pub seen : StaysSeen a.saw b.saw

-- a line was read, and P holds of it
pub record TextRead (text : List ℕ) (p : Player) (P : Line → Type 0) : Type 0 where
  pub line : Line
  pub spelled : line_of p.place text ≡ Ok line
  pub there : P line

-- why a replay ends at a line that was not read
pub record StopsAtLine (stop : Stop) (line : ℕ) (fault : LineFault) : Type 0 where
  pub memory : fault ≡ line_fault.Memory → stop ≡ Memory
  pub other : fault ≢ line_fault.Memory → stop ≡ BadInput line fault

-- A text spells a line that may stand at this place.
pub record LineFound (place : Place) (text : List ℕ) (line : Line) : Type 0 where
  pub spelled : line_of place text ≡ Ok line
  pub stands : StandsAt place line
  pub fits : FitsLine place.motes line
  pub played : IsPlayed line

-- no line was found: out of memory, or the text does not spell one
abbrev pub NotFound : Place → (text : List ℕ) → ℕ → Stop → Type 0
NotFound place text number stop =
    (stop ≡ Memory) ⊎ ((fault : LineFault) × (stop ≡ BadInput number fault) × (line_of place text ≡ Err fault))

-- a board stopped within a line of which these items are left, and what is reported of the others is not empty, and was not all
-- written
abbrev pub CutAtStop : (done : List Line) → Line → Option World → (left : List Item) → (text : List ℕ) → Span → Type 0
CutAtStop done line v left text s =
    (text ≢ []) × StoppedIn (motes_in done) (line ∷ []) left v s.initial s.now × PutsPrefix s.before s.after text

-- the same for an event that was not played, since there were a million before it
abbrev pub CutAtTooMany : Option World → (left : List Item) → (text : List ℕ) → Span → Type 0
CutAtTooMany v left text s =
    InSome v (λ u. IsOneTooMany u left) × BoardsStand v s.initial s.now × PutsPrefix s.before s.after text

-- the same for an event that found no image to start, which never happens in a script with golden
abbrev pub CutAtImage : Option World → (left : List Item) → (text : List ℕ) → Span → Type 0
CutAtImage v left text s =
    (text ≢ []) × InSome v (λ u. LacksImage u left s.initial s.now) × PutsPrefix s.before s.after text

-- all of the text was written, or a prefix of it
abbrev pub BegunWrittenOr : Stop → Stop → (text : List ℕ) → (before after : Option (List ℕ)) → (write_failed : Type 0) → Type 0
BegunWrittenOr stop result text before after failed =
    ((result ≡ stop) × Puts before after text) ⊎ ((result ≡ WriteFault) × failed × (text ≢ []) × PutsPrefix before after text)

-- the outcome of writing what is reported of a line that the replay did not complete, and why the replay stops then
abbrev pub BegunWritten : Stop → Stop → (text : List ℕ) → (before after : Option (List ℕ)) → (write_failed : Type 0) → Type 0
BegunWritten TooMany result text before after failed = BegunWrittenOr TooMany result text before after failed
BegunWritten FlashFault result text before after failed = BegunWrittenOr FlashFault result text before after failed
BegunWritten NoImage result text before after failed = BegunWrittenOr NoImage result text before after failed
BegunWritten stop result text before after failed = (result ≡ stop) × (after ≡ before)

-- items of a line after others were played, and what is reported of them was not all written, since a write failed
abbrev pub BegunAndCut : (initial : List Device) → (behind : DoneSoFar) → (a b : ReplayState) → Line → Type 0
BegunAndCut initial behind a b line =
    LineBegun behind.lines line behind.world a.saw (going_on b.saw)
    (λ v left t. CutAtStop behind.lines line v left t (span_between initial a b)
    ⊎ CutAtTooMany v left t (span_between initial a b))
    ⊎ LineBegun behind.lines line behind.world a.saw (ended_saw b.saw)
    (λ v left t. CutAtImage v left t (span_between initial a b))

-- The result of playing the text of a line after some lines. The player, the boards and what was written are a before it, and b
-- after it.
abbrev pub TextAnswer : Baseline → Result (Unit {0}) Stop → LineRead → (behind : DoneSoFar) → (a b : ReplayState)
    → (write_failed : Type 0) → Type 0
TextAnswer basis (Ok u) read behind a b failed = TextReported basis read.text behind a b
TextAnswer basis (Err Memory) read behind a b failed = NothingDone a b
    ⊎ (TextRead read.text a.player (λ line. LineBegun behind.lines line behind.world a.saw (going_on b.saw)
    (λ v left t. BoardsStand v basis.boards b.boards)) × (b.written ≡ a.written))
TextAnswer basis (Err (BadInput line fault)) read behind a b failed = (line ≡ read.number)
    × (line_of a.player.place read.text ≡ Err fault) × NothingDone a b
TextAnswer basis (Err WriteFault) read behind a b failed = failed × (TextCut basis read.text behind a b
    ⊎ TextRead read.text a.player (BegunAndCut basis.boards behind a b))
TextAnswer basis (Err FlashFault) read behind a b failed = TextRead read.text a.player (λ line. UsesBoard line
    × LineBegun behind.lines line behind.world a.saw (going_on b.saw) (λ v left t.
    StoppedIn (motes_in behind.lines) (line ∷ []) left v basis.boards b.boards × Puts a.written b.written t))
TextAnswer basis (Err TooMany) read behind a b failed = TextRead read.text a.player (λ line.
    LineBegun behind.lines line behind.world a.saw (going_on b.saw) (λ v left t. InSome v (λ u. IsOneTooMany u left)
    × BoardsStand v basis.boards b.boards × Puts a.written b.written t))
TextAnswer basis (Err (NoBoard motes boards)) read behind a b failed =
    TextRead read.text a.player (λ line. LacksBoards line motes boards basis.boards a.boards b.boards)
    × (b.written ≡ a.written) × StaysSeen a.saw b.saw
TextAnswer basis (Err NoImage) read behind a b failed = TextRead read.text a.player (λ line.
    LineBegun behind.lines line behind.world a.saw (ended_saw b.saw) (λ v left t.
    InSome v (λ u. LacksImage u left basis.boards b.boards) × Puts a.written b.written t))
TextAnswer basis (Err NotAVolume) read behind a b failed =
    TextRead read.text a.player (λ line. (line ≡ Boards) × NoVolumeIn (motes_in behind.lines) basis.boards b.boards)
    × (b.written ≡ a.written) × StaysSeen a.saw b.saw

-- These texts are left of a script, and what comes before them was played.
pub record Reached (table : List Row) (ends : Bool) (script : Script) (texts : List (List ℕ)) (number : ℕ) (p : Player)
    (s : Span) : Type 0 where
  pub done : List Line
  pub played : List Played
  pub last : Option World
  pub lines : done ++ (script_from ends p.place number texts).lines ≡ script.lines
  pub fault : (script_from ends p.place number texts).fault ≡ script.fault
  pub numbered : number ≡ length done + 1
  pub items : map item_played played ≡ items_of done
  pub ground : StartState
  pub run : RunsTo (beginning_of ground done).world played last
  pub grounded : Grounded table s.initial ground done
  pub reported : Puts s.before s.after (played_text played)
  pub seen : s.first.events [] [] → s.saw.events (stores_in (beginning_of ground done).world) (events_played played)
  pub stood : Stood p done last s.initial s.now
  pub few : events_in done ≤ most_events
  pub untouched : AllByRecursion FormatsNone done → KeepBytes (items_of done) s.initial s.now
  -- there are boards for the motes of every line that was done
  pub boards_enough : lacking (length s.initial) done ≡ None

-- what a watcher saw that was shown the events of a run from its beginning, and no event that found no image to start
abbrev pub seen_of : (from : Option World) → (played : List Played) → Saw
seen_of from played = record {
  events = λ stores events. (stores ≡ stores_in from) × (events ≡ events_played played);
  ended = λ stores events world step. ⊥;
}

-- A script was played so far, what was written is a prefix of what is reported of that, and P holds of how far it was played and
-- of what was written.
pub record PlayedPrefix (table : List Row) (script : Script) (initial : List Device) (before after : Option (List ℕ))
    (P : Progress table script → List ℕ → Type 0) : Type 0 where
  pub came : Progress table script
  pub text : List ℕ
  pub more : List ℕ
  pub reported : Puts before after text
  pub whole : text ++ more ≡ played_text came.played
  pub limits : InBounds (length initial) came.done (map item_played came.played)
  pub stood : UsesBoards came.done → StandFor (motes_in came.done) came.ground.stores initial
  pub there : P came text

-- A script was played so far, and all that is reported of that was written.
pub record PlayedUpTo (table : List Row) (script : Script) (initial : List Device) (before after : Option (List ℕ))
    (P : Progress table script → Type 0) : Type 0 where
  pub came : Progress table script
  pub reported : Puts before after (played_text came.played)
  pub limits : InBounds (length initial) came.done (map item_played came.played)
  pub stood : UsesBoards came.done → StandFor (motes_in came.done) came.ground.stores initial
  pub there : P came

-- a script has no more than a million events, and there are boards for its motes
pub record HasFew (script : Script) (initial : List Device) : Type 0 where
  pub events : events_in script.lines ≤ most_events
  pub boards_enough : lacking (length initial) script.lines ≡ None

-- All that is reported of the lines before this one was written.
pub record ReportedBefore {table : List Row} {script : Script} (line : ℕ) (c : Progress table script)
    (text : List ℕ) : Type 0 where
  pub lines : ℕ
  pub within : lines ≤ length c.done
  pub behind : line ≤ lines + 1
  pub more : List ℕ
  pub reported : text ≡ report_of_lines lines c ++ more

-- Why playing a script stops at the line of this number, and how far it came: W holds of that, and of what a watcher saw of what
-- was played.
abbrev pub StopsAtText : (table : List Row) → Stop → (script : Script) → (W : Saw → Progress table script → Type 0)
    → (number : ℕ) → Span → (write_failed : Type 0) → Type 0
StopsAtText table Memory script W number s failed =
    PlayedPrefix table script s.initial s.before s.after (λ c text. BoardsStand c.last s.initial s.now × W s.saw c)
StopsAtText table (BadInput line fault) script W number s failed = (line ≡ number)
    × PlayedUpTo table script s.initial s.before s.after (λ c. (c.rest ≡ []) × (script.fault ≡ Some (line, fault))
    × BoardsStand c.last s.initial s.now × HasFew script s.initial × W s.saw c)
StopsAtText table WriteFault script W number s failed = failed
    × PlayedPrefix table script s.initial s.before s.after (λ c text. BoardsLeft status.WriteFault c s.initial s.now
    × ReportedBefore number c text × (W s.saw c ⊎ W (ended_saw s.saw c.last c.left) c))
StopsAtText table FlashFault script W number s failed =
    PlayedUpTo table script s.initial s.before s.after
    (λ c. ((line : Line) × (more : List Line) × (c.rest ≡ line ∷ more) × UsesBoard line)
    × BoardStoppedThere c s.initial s.now × W s.saw c)
StopsAtText table TooMany script W number s failed =
    PlayedUpTo table script s.initial s.before s.after (λ c. AtTooMany c.left c.played × BoardsStand c.last s.initial s.now
    × (lacking (length s.initial) script.lines ≡ None) × W s.saw c)
StopsAtText table (NoBoard motes boards) script W number s failed =
    PlayedUpTo table script s.initial s.before s.after
    (λ c. ((boards ≡ length s.initial) × (boards < motes)) × ((more : List Line) × (c.rest ≡ Motes motes ∷ more))
    × BoardsStand c.last s.initial s.now × (lacking (length s.initial) c.done ≡ None) × W s.saw c)
StopsAtText table NoImage script W number s failed =
    PlayedUpTo table script s.initial s.before s.after (λ c. ((line : Line) × (more : List Line) × (c.rest ≡ line ∷ more))
    × UsesBoards c.done × NoImageThere c s.initial s.now
    × ((more : List ℕ) → ReportedBefore number c (played_text c.played ++ more)) × W (ended_saw s.saw c.last c.left) c)
StopsAtText table NotAVolume script W number s failed =
    PlayedUpTo table script s.initial s.before s.after (λ c. NoVolumeThere c s.initial s.now
    × ((more : List ℕ) → ReportedBefore number c (played_text c.played ++ more)) × W s.saw c)

-- what the boards keep, and that a watcher saw the events that were played
abbrev pub IsLeft : {table : List Row} {script : Script} → Span → Saw → Progress table script → Type 0
IsLeft s saw c = Untouched c s.initial s.now × (s.first.events [] [] → IsSeen saw c)

-- the same with this condition
abbrev pub StopsThere : (table : List Row) → Stop → (script : Script) → (number : ℕ) → Span → (write_failed : Type 0) → Type 0
StopsThere table stop script number s failed = StopsAtText table stop script (λ saw c. IsLeft s saw c) number s failed

-- Each line of which something was done is whole among these bytes. The one at which the boards end the replay is whole too.
abbrev pub IsWholeAt : Stop → (input : List ℕ) → (done rest : List Line) → (begun : List Item) → Type 0
IsWholeAt FlashFault input done rest begun = NextIsWhole input done rest
IsWholeAt NoImage input done rest begun = NextIsWhole input done rest
IsWholeAt NotAVolume input done rest begun = NextIsWhole input done rest
IsWholeAt stop input done rest begun = DoneIsWhole input done rest begun

-- the same if these bytes were taken; what was done depends on them alone
abbrev pub StopsInTaken : (table : List Row) → Stop → (script : Script) → BytesTaken → (number : ℕ) → Span
    → (write_failed : Type 0) → Type 0
StopsInTaken table stop script taken number s failed =
    StopsAtText table stop script
    (λ saw c. (taken.at_end ⊎ IsWholeAt stop taken.bytes c.done c.rest c.begun) × IsLeft s saw c) number s failed

-- if the rules end the script there, S holds
abbrev pub ByRules : Stop → Type 0 → Type 0
ByRules (BadInput line fault) S = S
ByRules TooMany S = S
ByRules (NoBoard motes boards) S = S
ByRules stop S = Unit {0}

-- The result of playing the lines of an input as they are read, if these bytes were taken.
abbrev pub InputAnswer : (table : List Row) → Result (Player × ℕ) Halt → BytesTaken → Span → Failures → Type 0
InputAnswer table (Ok reached) taken s failed =
    taken.at_end × (length taken.bytes ≤ most_used_bytes) × (behind_lines reached.1 taken.bytes ≡ [])
    × Reached table true (script_of taken.bytes) [] reached.1 reached.0 s
InputAnswer table (Err ReadFault) taken s failed = failed.read × (length taken.bytes ≤ most_used_bytes)
    × PlayedUpTo table (script_of taken.bytes) s.initial s.before s.after (λ c. (c.begun ≡ [])
    × BoardsStand c.last s.initial s.now × AreWhole taken.bytes c.done × AllWhole taken.bytes c.done × IsLeft s s.saw c)
InputAnswer table (Err TooLong) taken s failed = (length taken.bytes ≡ most_used_bytes + 1)
    × ((number : ℕ) × (p : Player) × Reached table false (script_of taken.bytes) [] number p s)
InputAnswer table (Err (Stopped stop)) taken s failed =
    (length taken.bytes ≤ most_used_bytes) × ByRules stop (taken.at_end ⊎ IsSettled (length s.initial) taken.bytes)
    × ((number : ℕ) × FewBytesBehind number taken.bytes
    × StopsInTaken table stop (script_of taken.bytes) taken number s failed.write)

-- A script came to its ending, and the end of its report, which is this piece, is not written yet.
pub record ReadyToEnd (table : List Row) (script : Script) (ending : Ending) (piece : List ℕ) (s : Span) : Type 0 where
  pub came : Progress table script
  pub reported : Puts s.before s.after (played_text came.played)
  pub boards : BoardsStand came.last s.initial s.now
  pub left : IsLeft s s.saw came
  pub all : ReachesEnding ending came
  pub line : closing ending came.last ≡ piece
  pub limits : InBounds (length s.initial) came.done (map item_played came.played)
  pub stood : UsesBoards came.done → StandFor (motes_in came.done) came.ground.stores s.initial

-- how writing the end of a report ends
abbrev pub EndsWith : Status → Status → List ℕ → (before after : Option (List ℕ)) → (write_failed : Type 0) → Type 0
EndsWith result wanted piece before after failed =
    ((result ≡ wanted) × Puts before after piece)
    ⊎ ((result ≡ status.WriteFault) × PutsPrefix before after piece × failed)
    ⊎ ((result ≡ status.Memory) × (after ≡ before))

-- the same if writing needs no memory
abbrev pub EndsWritten : Status → Status → List ℕ → (before after : Option (List ℕ)) → (write_failed : Type 0) → Type 0
EndsWritten result wanted piece before after failed =
    ((result ≡ wanted) × Puts before after piece) ⊎ ((result ≡ status.WriteFault) × PutsPrefix before after piece × failed)

-- how a replay that stopped ends
abbrev pub StopEnds : Stop → Status → (before after : Option (List ℕ)) → (write_failed : Type 0) → Type 0
StopEnds Memory result before after failed = (result ≡ status.Memory) × (after ≡ before)
StopEnds (BadInput line fault) result before after failed =
    EndsWith result status.BadInput (ending_line (FaultAt line fault)) before after failed
StopEnds WriteFault result before after failed = (result ≡ status.WriteFault) × (after ≡ before)
StopEnds FlashFault result before after failed = (result ≡ status.FlashFault) × (after ≡ before)
StopEnds TooMany result before after failed = EndsWith result status.TooMany (ending_line TooManyEvents) before after failed
StopEnds (NoBoard motes boards) result before after failed =
    EndsWith result status.NoBoard (ending_line (NoBoards motes boards)) before after failed
StopEnds NoImage result before after failed = EndsWritten result status.NoImage no_image_line before after failed
StopEnds NotAVolume result before after failed = EndsWritten result status.NotAVolume no_volume_line before after failed

-- how the end of a report that reads its boards ends
abbrev pub FinishesWith : Status → World → (initial now : List Device) → (before after : Option (List ℕ))
    → (write_failed : Type 0) → Type 0
FinishesWith result w initial now before after failed =
    (EndsWith result status.Done (report_text (final_lines w)) before after failed × BoardsStand (Some w) initial now)
    ⊎ ((result ≡ status.FlashFault) × ((motes : ℕ) → motes ≡ length w.sites → StoppedIn motes [] [] (Some w) initial now)
    × (after ≡ before))

-- A script was replayed, as its ending and the status say, and these bytes were taken for it.
pub record ScriptReplayed (table : List Row) (status : Status) (script : Script) (ending : Ending) (taken : BytesTaken)
    (s : Span) (failed : Failures) : Type 0 where
  pub came : Progress table script
  pub text : List ℕ
  pub written : Puts s.before s.after text
  pub report : Wrote status ending came text
  pub read : RestsOnTaken status (length s.initial) taken came text
  pub near : ReadsNear status ending taken.bytes came text
  pub limits : InBounds (length s.initial) came.done (map item_played came.played)
  pub stood : UsesBoards came.done → StandFor (motes_in came.done) came.ground.stores s.initial
  pub boards : BoardsLeft status came s.initial s.now
  pub left : Untouched came s.initial s.now × (s.first.events [] [] → IsSeenAs status s.saw came)
  pub caused : IsCaused status ending failed.read failed.write (BoardStopped (motes_in came.done) s.initial s.now)
      (NoVolumeThere came s.initial s.now) ((UsesBoards came.done) × NoImageThere came s.initial s.now)
