-- What a replay did: the items that it played, what it wrote, and how it left the boards (docs/PROMISES.md, "The report and
-- what it tells").
use Rattle.std.specs.Prelude.{◌≡◌, ◌≢◌, ◌⊎◌, ℕ, ◌+◌, ◌<◌, ◌≤◌, false, List, [], ◌∷◌, ◌++◌, length, map, take, codes, slice_get}
use Rattle.std.specs.Prelude.{Option, Some, None}
use Rattle.std.specs.Str.Lines.{lines}
use Rattle.std.specs.List.{AllByRecursion, flat_map}
use Rattle.dg_words.specs.Counts.{Rose}
use Rattle.dg_base.specs.Outside.{Takes, Puts, AtEnd}
use Rattle.dg_base.specs.declared.answers.Status.{Status}
use Rattle.dg_base.specs.declared.answers.Status.TheVariants.{Memory, BadInput, ReadFault, WriteFault, FlashFault}
use Rattle.dg_base.specs.declared.answers.Status.TheVariants.{Usage, Refused, LinkFault}
use Rattle.dg_base.specs.declared.answers.Status.TheVariants.{NotAVolume, NoImage}
use Rattle.dg_nor.specs.Device.{Device}
use Rattle.dg_script.specs.Report.{report_text}
use Rattle.dg_script.specs.Fitting.{UsesBoard}
use Rattle.dg_script.specs.Sizes.{most_used_bytes}
use Rattle.dg_script.specs.Places.{first_place}
use Rattle.dg_script.specs.Script.{Script, script_from}
use Rattle.dg_script.specs.declared.line.Line.{Line}
use Rattle.dg_script.specs.declared.line.Line.TheVariants.{Motes, Boards}
use Rattle.dg_object.specs.Object.{Row}
use Rattle.dg_rules.specs.Sizes.{most_events}
use Rattle.dg_rules.specs.World.{World}
use Rattle.dg_rules.specs.Changes.{final_lines}
use Rattle.dg_rules.specs.Runs.{Played, Plays}
use Rattle.dg_rules.specs.Begins.{AreShaped}
use Rattle.dg_script.specs.Items.{Item, items_of}
use Rattle.dg_replay.specs.Near.{FewBytesBehind}
use Rattle.dg_replay.specs.Untouched.{KeepBytes, FormatsNone}
use Rattle.dg_volume.specs.Stands.{IsVolume}
use Rattle.dg_world.specs.Mounted.{StandFor}
use Rattle.dg_world.specs.Boards.{BoardStopped}
use Rattle.dg_replay.specs.Boards.{BoardsStand, StoppedIn, EventNext, InSome, NoVolumeIn, LacksImage}
use Rattle.dg_replay.specs.Items.{StartState, UsesBoards, beginning_of, motes_in, next_items, events_among}
use Rattle.dg_outside.specs.Outside.{Outside}
use Rattle.dg_replay.specs.Shown.{Saw, ended_saw, stores_in, events_played}
use Rattle.dg_replay.specs.Stages.{BytesTaken}
use Rattle.dg_replay.specs.Ending.{Ending, Ends, NoBoards, TooManyEvents, FaultAt, InBounds, whole_lines, ending_of}
use Rattle.dg_replay.specs.Ending.{ending_line, ending_status, script_of}

abbrev pub item_played : Played → Item
item_played p = p.item

-- the report lines of what was played
abbrev pub played_text : List Played → List ℕ
played_text ps = flat_map (λ p. report_text p.reports) ps

-- a run of the rules from the world in which it begins; before there is a world, nothing is played
abbrev pub RunsTo : Option World → List Played → Option World → Type 0
RunsTo None played last = (played ≡ []) × (last ≡ None)
RunsTo (Some w) played last = (v : World) × (last ≡ Some v) × Plays w played v

-- what the boards of this many motes stand for if they are used as they are, checked against this table: a store for each, in its
-- shape
pub record IsGround (g : StartState) (table : List Row) (motes : ℕ) : Type 0 where
  pub held : g.table ≡ table
  pub count : length g.stores ≡ motes
  pub shaped : AreShaped g.stores

-- How far a replay came in a script. If the script uses the boards as they are, all of it is checked against a table.
pub record Progress (table : List Row) (script : Script) : Type 0 where
  -- what the script does not say; it matters only if the boards are used as they are
  pub ground : StartState
  -- the lines that were done, and those after them
  pub done : List Line
  pub rest : List Line
  -- the items of the next line: those that were played, if the replay stopped within it, and the others
  pub begun : List Item
  pub left : List Item
  -- a run of the rules over all that was played, and the world that it leads to, None before the boards are used
  pub played : List Played
  pub last : Option World
  pub lines : done ++ rest ≡ script.lines
  pub parts : next_items done rest ≡ begun ++ left
  -- a line with no item left does not count as begun
  pub within : left ≡ [] → begun ≡ []
  pub items : map item_played played ≡ items_of done ++ begun
  pub run : RunsTo (beginning_of ground done).world played last
  pub grounded : UsesBoards done → IsGround ground table (motes_in done)

-- a watcher saw the events that were played, from where the run begins
abbrev pub IsSeen : {table : List Row} {script : Script} → Saw → Progress table script → Type 0
IsSeen saw c = saw.events (stores_in (beginning_of c.ground c.done).world) (events_played c.played)

-- the same if the next event found no image to start, which the watcher saw to end the replay
abbrev pub IsEndSeen : {table : List Row} {script : Script} → Saw → Progress table script → Type 0
IsEndSeen saw c = IsSeen (ended_saw saw c.last c.left) c

-- What it saw, by the status with which the replay ended. After a write that failed it may have been either.
abbrev pub IsSeenAs : {table : List Row} {script : Script} → Status → Saw → Progress table script → Type 0
IsSeenAs NoImage saw c = IsEndSeen saw c
IsSeenAs WriteFault saw c = IsSeen saw c ⊎ IsEndSeen saw c
IsSeenAs status saw c = IsSeen saw c

-- the end of a report
abbrev pub closing : Ending → Option World → List ℕ
closing Ends (Some w) = report_text (final_lines w)
closing Ends None = []
closing ending w = ending_line ending

-- a million events were played, and the next item is an event
pub record AtTooMany (left : List Item) (played : List Played) : Type 0 where
  pub events : events_among (map item_played played) ≡ most_events
  pub next : EventNext left

-- What comes before the ending was played: everything, or all up to the `motes` line if boards are missing, or a million events
-- if there are more.
abbrev pub ReachesEnding : {table : List Row} {script : Script} → Ending → Progress table script → Type 0
ReachesEnding (NoBoards motes boards) c = (more : List Line) × (c.rest ≡ Motes motes ∷ more)
ReachesEnding TooManyEvents c = AtTooMany c.left c.played
ReachesEnding ending c = c.rest ≡ []

-- the report of the script, up to its end
pub record IsWholeReport {table : List Row} {script : Script} (ending : Ending) (c : Progress table script)
    (text : List ℕ) : Type 0 where
  pub all : ReachesEnding ending c
  pub reported : text ≡ played_text c.played ++ closing ending c.last

-- a prefix of the lines that are reported before the end
pub record IsPrefixOfLines (played : List Played) (text : List ℕ) : Type 0 where
  pub more : List ℕ
  pub front : text ++ more ≡ played_text played

-- the last lines of replays that the boards end; no ending has them
abbrev pub no_volume_line : List ℕ
no_volume_line = codes "notavolume" ++ 10 ∷ []

abbrev pub no_image_line : List ℕ
no_image_line = codes "noimage" ++ 10 ∷ []

-- Boards that are used as they are end the replay there with this line: the next line uses them,
-- or the next item is an event after such a line.
abbrev pub BoardsEndIt : {table : List Row} {script : Script} → Progress table script → List ℕ → Type 0
BoardsEndIt c line = ((more : List Line) × (c.rest ≡ Boards ∷ more) × (line ≡ no_volume_line))
    ⊎ (UsesBoards c.done × EventNext c.left × (line ≡ no_image_line))

-- a prefix of the report, whose end may have begun
pub record IsPrefixOfReport {table : List Row} {script : Script} (ending : Ending) (c : Progress table script)
    (text : List ℕ) : Type 0 where
  pub more : List ℕ
  pub front : ((text ++ more) ≡ played_text c.played)
      ⊎ (IsWholeReport ending c (text ++ more) ⊎ ((line : List ℕ) × BoardsEndIt c line
      × ((text ++ more) ≡ played_text c.played ++ line)))

-- A board is used by the next line, or is read for the end of the report.
abbrev pub StopsAt : Ending → List Line → Type 0
StopsAt ending [] = ending ≡ Ends
StopsAt ending (line ∷ rest) = UsesBoard line

-- what was written, by the status
abbrev pub Wrote : {table : List Row} {script : Script} → Status → Ending → Progress table script → List ℕ → Type 0
Wrote Memory ending c text = IsPrefixOfLines c.played text
Wrote WriteFault ending c text = IsPrefixOfReport ending c text
Wrote FlashFault ending c text = (text ≡ played_text c.played) × StopsAt ending c.rest
Wrote ReadFault ending c text = (text ≡ played_text c.played) × (c.begun ≡ [])
Wrote NotAVolume ending c text = text ≡ played_text c.played ++ no_volume_line
Wrote NoImage ending c text = text ≡ played_text c.played ++ no_image_line
Wrote Usage ending c text = ⊥
Wrote Refused ending c text = ⊥
Wrote LinkFault ending c text = ⊥
Wrote status ending c text = IsWholeReport ending c text

-- a board stopped at the point to which the replay came
abbrev pub BoardStoppedThere : {table : List Row} {script : Script} → Progress table script → (old new : List Device) → Type 0
BoardStoppedThere c old new = StoppedIn (motes_in c.done) c.rest c.left c.last old new

-- The next line uses the boards as they are, and one of them is not a volume.
pub record NoVolumeThere {table : List Row} {script : Script} (c : Progress table script) (old new : List Device) : Type 0 where
  pub more : List Line
  pub next : c.rest ≡ Boards ∷ more
  pub there : NoVolumeIn (motes_in c.done) old new

-- The next item is an event, which finds no image to start.
abbrev pub NoImageThere : {table : List Row} {script : Script} → Progress table script → (old new : List Device) → Type 0
NoImageThere c old new = InSome c.last (λ w. LacksImage w c.left old new)

-- How the boards are left. If a board stops within a round or sweeps, writing what is reported of the events before it may fail.
-- If boards that are used as they are end the replay, writing the last line may fail.
abbrev pub BoardsLeft : {table : List Row} {script : Script} → Status → Progress table script → (old new : List Device) → Type 0
BoardsLeft FlashFault c old new = BoardStoppedThere c old new
BoardsLeft WriteFault c old new = BoardsStand c.last old new
    ⊎ (((c.begun ≢ []) × BoardStoppedThere c old new) ⊎ (NoVolumeThere c old new ⊎ (UsesBoards c.done × NoImageThere c old new)))
BoardsLeft NotAVolume c old new = NoVolumeThere c old new
BoardsLeft NoImage c old new = NoImageThere c old new
BoardsLeft _ c old new = BoardsStand c.last old new

-- No line of the script may format the boards; a script that uses them as they are meets this. A board then keeps its bytes
-- unless an event was played at its mote, or one is left of the line that was begun.
abbrev pub Untouched : {table : List Row} {script : Script} → Progress table script → (old new : List Device) → Type 0
Untouched {script = script} c old new =
    AllByRecursion FormatsNone script.lines → KeepBytes (map item_played c.played ++ c.left) old new

-- The status is the one that the rules give to the input. Only Memory may be returned at any time, and a fault from outside has
-- raised its count.
abbrev pub IsCaused : Status → Ending → (reads_failed writes_failed board_stopped no_volume no_image : Type 0) → Type 0
IsCaused Memory ending r w b n i = Unit {0}
IsCaused ReadFault ending r w b n i = r
IsCaused WriteFault ending r w b n i = w
IsCaused FlashFault ending r w b n i = b
IsCaused NotAVolume ending r w b n i = n
IsCaused NoImage ending r w b n i = i
IsCaused status ending r w b n i = status ≡ ending_status ending

-- the boards of this many motes are volumes
abbrev pub AreVolumes : ℕ → List Device → Type 0
AreVolumes motes boards = (m : ℕ) (d : Device) → m < motes → slice_get boards m ≡ Some d → IsVolume d.image

-- The ending of these bytes is that of every input that begins with them.
abbrev pub IsSettled : ℕ → List ℕ → Type 0
IsSettled boards input = (more : List ℕ) → ending_of boards (input ++ more) ≡ ending_of boards input

-- Every input that begins with these bytes begins with these lines, so that each ends within the bytes.
abbrev pub AreWhole : List ℕ → List Line → Type 0
AreWhole input done = (more : List ℕ) → (rest : List Line) × (done ++ rest ≡ (script_of (input ++ more)).lines)

-- the same with the next line
abbrev pub NextIsWhole : List ℕ → (done rest : List Line) → Type 0
NextIsWhole input done [] = ⊥
NextIsWhole input done (line ∷ rest) = AreWhole input (done ++ line ∷ [])

-- each line of which something was done ends within the bytes
abbrev pub DoneIsWhole : List ℕ → (done rest : List Line) → (begun : List Item) → Type 0
DoneIsWhole input done rest [] = AreWhole input done
DoneIsWhole input done rest (item ∷ begun) = NextIsWhole input done rest

-- These are the lines of these texts, each of which spells one.
pub record AllRead (texts : List (List ℕ)) (done : List Line) : Type 0 where
  pub lines : done ≡ (script_from false first_place 1 texts).lines
  pub fault : (script_from false first_place 1 texts).fault ≡ None

-- These are the lines of all whole lines among the bytes.
abbrev pub AllWhole : List ℕ → List Line → Type 0
AllWhole input done = AllRead (lines (whole_lines input)) done

-- What was done depends only on what was taken of the input. A status of the rules is that of every input that begins with these
-- bytes, or the input is at its end. After a read that failed all whole lines are done. After another fault, or out of memory,
-- only whole lines are done and begun, or the input is at its end. The line in which a board stopped is whole too.
abbrev pub RestsOnTaken : {table : List Row} {script : Script} → Status → (boards : ℕ) → BytesTaken → Progress table script
    → (text : List ℕ) → Type 0
RestsOnTaken Memory boards taken c text = taken.at_end ⊎ DoneIsWhole taken.bytes c.done c.rest c.begun
RestsOnTaken ReadFault boards taken c text = AreWhole taken.bytes c.done × AllWhole taken.bytes c.done
RestsOnTaken WriteFault boards taken c text = taken.at_end ⊎ (IsSettled boards taken.bytes
    ⊎ ((DoneIsWhole taken.bytes c.done c.rest c.begun × IsPrefixOfLines c.played text)
    ⊎ ((line : List ℕ) × BoardsEndIt c line × NextIsWhole taken.bytes c.done c.rest)))
RestsOnTaken FlashFault boards taken c text = taken.at_end ⊎ NextIsWhole taken.bytes c.done c.rest
RestsOnTaken NotAVolume boards taken c text = taken.at_end ⊎ NextIsWhole taken.bytes c.done c.rest
RestsOnTaken NoImage boards taken c text = taken.at_end ⊎ NextIsWhole taken.bytes c.done c.rest
RestsOnTaken status boards taken c text = taken.at_end ⊎ IsSettled boards taken.bytes

-- All that is reported of some first lines was written, and what was taken of the input ends near the line after them.
pub record ReportedAndNear {table : List Row} {script : Script} (input : List ℕ) (c : Progress table script)
    (text : List ℕ) : Type 0 where
  pub lines : ℕ
  pub within : lines ≤ length c.done
  pub more : List ℕ
  pub reported : text ≡ played_text (take (length (items_of (take lines c.done))) c.played) ++ more
  pub near : FewBytesBehind (lines + 1) input

-- what was taken ends near the line whose fault is the ending
abbrev pub EndsNear : Ending → (input : List ℕ) → Type 0
EndsNear (FaultAt line fault) input = FewBytesBehind line input
EndsNear ending input = Unit {0}

-- All of the report before its end was written, and the end was begun.
pub record EndBegun {table : List Row} {script : Script} (ending : Ending) (input : List ℕ) (c : Progress table script)
    (text : List ℕ) : Type 0 where
  pub all : ReachesEnding ending c
  pub more : List ℕ
  pub reported : text ≡ played_text c.played ++ more
  pub near : EndsNear ending input

-- Not much more was taken than the lines that were needed: no more than 300,002 bytes after a line with a fault, and after the
-- first line whose report was not completely written.
abbrev pub ReadsNear : {table : List Row} {script : Script} → Status → Ending → (input : List ℕ) → Progress table script
    → (text : List ℕ) → Type 0
ReadsNear BadInput (FaultAt line fault) input c text = FewBytesBehind line input
ReadsNear WriteFault ending input c text = ReportedAndNear input c text ⊎ EndBegun ending input c text
ReadsNear _ ending input c text = Unit {0}

-- What a replay did. Some bytes were taken from the source: the bytes left before it and after it, if the source exposes them,
-- say which. The same holds of what was written and the sink.
pub record Replayed (table : List Row) (status : Status) (a b : Outside) : Type 0 where
  -- what was taken of the input, whatever the outcome: no more than one byte past those that are used
  pub input : List ℕ
  pub taken : Takes a.input.left b.input.left input
  pub few_bytes : length input ≤ most_used_bytes + 1
  -- how far its script was played
  pub came : Progress table (script_of input)
  -- what was written is the report of that run, or a prefix of it
  pub text : List ℕ
  pub written : Puts a.output.written b.output.written text
  pub report : Wrote status (ending_of (length a.boards) input) came text
  pub read : RestsOnTaken status (length a.boards) (record { bytes = input; at_end = AtEnd b.input.left }) came text
  pub near : ReadsNear status (ending_of (length a.boards) input) input came text
  -- nothing after the ending was done
  pub limits : InBounds (length a.boards) came.done (map item_played came.played)
  -- where the boards were used as they are, none was stopped, and they stood for the stores from which the run begins
  pub stood : UsesBoards came.done → StandFor (motes_in came.done) came.ground.stores a.boards
  -- the boards of the motes, except one that is stopped, stand for that world's stores, and all other boards are as before
  pub boards : BoardsLeft status came a.boards b.boards
  -- boards at which nothing happens keep their very bytes, also at a `boards` line and in the reading at the end
  pub untouched : Untouched came a.boards b.boards
  -- the status is the one that the rules give to the input, except for out of memory and faults from outside
  pub caused : IsCaused status (ending_of (length a.boards) input) (Rose a.input.reads b.input.reads)
      (Rose a.output.writes b.output.writes) (BoardStopped (motes_in came.done) a.boards b.boards)
      (NoVolumeThere came a.boards b.boards) (UsesBoards came.done × NoImageThere came a.boards b.boards)
  -- a read or a write that fails is always reported: its count rises only with its own status
  pub read_faults : status ≢ ReadFault → b.input.reads ≡ a.input.reads
  pub write_faults : status ≢ WriteFault → b.output.writes ≡ a.output.writes
