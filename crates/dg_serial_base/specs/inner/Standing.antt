-- Where the code of a base mote stands, and how its calls go on from there (docs/COMMANDS.md, "Base").
use Rattle.std.specs.Prelude.{◌≡◌, ◌⊎◌, ℕ, ◌+◌, ◌*◌, ◌<◌, ◌≤◌, true, List, [], ◌∷◌, ◌++◌, length, take, map, Option, Some, None}
use Rattle.std.specs.Prelude.{Result, Ok, Err}
use Rattle.std.specs.List.{AllByRecursion, flat_map}
use Rattle.dg_words.specs.Counts.{Rose}
use Rattle.dg_base.specs.Outside.{Takes, Puts, PutsPrefix, AtEnd}
use Rattle.dg_base.specs.Sizes.{most_input}
use Rattle.dg_nor.specs.Device.{Device}
use Rattle.dg_nor.specs.Trail.{last}
use Rattle.dg_volume.specs.Store.{Store}
use Rattle.dg_volume.specs.Stands.{Stands}
use Rattle.dg_volume.specs.Acts.{Stops}
use Rattle.dg_frame.specs.Spelling.{frame_of}
use Rattle.dg_mote.specs.Model.{MoteState}
use Rattle.dg_mote.specs.Effects.{Effect}
use Rattle.dg_mote.specs.Motes.{IsMote}
use Rattle.dg_mote.specs.Timely.{Timely}
use Rattle.dg_mote.specs.declared.mote.Mote.{Mote}
use Rattle.dg_node.specs.Nodes.{node_mote}
use Rattle.dg_seed.specs.Draws.{generator_of, generator_after}
use Rattle.dg_serial.specs.Line.{SerialItem, IsOnLine}
use Rattle.dg_serial.specs.Reading.{FrameReading, reading_behind}
use Rattle.dg_serial_base.specs.BaseEvents.{Base, At, BaseEvent, base_events_of_item, base_events_of, powered, power_effect}
use Rattle.dg_serial_base.specs.BaseEvents.{effect_of, BaseEventsRun, line_sent}
use Rattle.dg_serial_base.specs.inner.Words.{IsPrefixOfInput}
use Rattle.dg_serial_base.specs.declared.timeline.Timeline.{Timeline}
use Rattle.dg_serial_base.specs.declared.running.Running.{Running}
use Rattle.dg_end.specs.declared.ends.End.{End}
use Rattle.dg_end.specs.declared.ends.End.TheVariants as ends

-- what items of a line give
abbrev pub base_events_of_items : List SerialItem → List BaseEvent
base_events_of_items xs = flat_map base_events_of_item xs

-- ---- chips

-- a chip that did not stop
pub record Calm (old new : Device) : Type 0 where
  pub faults : new.faults ≡ old.faults
  pub stopped : new.stopped ≡ old.stopped

-- why a chip is stopped
abbrev pub WhyStopped : (old new : Device) → Type 0
WhyStopped old new = (old.stopped ≡ true) ⊎ Rose old.faults new.faults

-- a chip stops only with the answer that says so
abbrev pub CountsBy : End → (old new : Device) → Type 0
CountsBy ends.FlashFault old new = WhyStopped old new
CountsBy end old new = Calm old new

abbrev pub Counts : {T : Type 0} → Result T End → (old new : Device) → Type 0
Counts (Ok x) old new = Calm old new
Counts (Err why) old new = CountsBy why old new

-- ---- where the code stands

-- where a line begins: the base mote, what its chip stood for as it powered on, and what was written by then
pub record Outset : Type 0 where
  pub base : Base
  pub store : Store
  pub written : Option (List ℕ)

-- what is written by now, and the code's mote over its chip
pub record CodeAt : Type 0 where
  pub written : Option (List ℕ)
  pub mote : Running
  pub chip : Device

abbrev pub code_at : (written : Option (List ℕ)) → (mote : Running) → (chip : Device) → CodeAt
code_at written mote chip = record { written = written; mote = mote; chip = chip }

-- the same on a line, of which this was read
pub record LineAt : Type 0 where
  pub code : CodeAt
  pub reading : FrameReading

abbrev pub code_on_line : (written : Option (List ℕ)) → (mote : Running) → (reading : FrameReading) → (chip : Device) → LineAt
code_on_line written mote reading chip = record { code = code_at written mote chip; reading = reading }

-- what an event leaves: the code's mote over its chip, and the frame that is to be written, if there is one
pub record BaseEventLeft : Type 0 where
  pub mote : Running
  pub chip : Device
  pub frame : Option (List ℕ)

abbrev pub base_event_left : (mote : Running) → (chip : Device) → (frame : Option (List ℕ)) → BaseEventLeft
base_event_left mote chip frame = record { mote = mote; chip = chip; frame = frame }

-- ---- one event at the mote

-- the mote that an effect leaves
pub record IsLeft (e : Effect) (c : List ℕ) (v : Mote) (now : ℕ) : Type 0 where
  pub state : MoteState
  pub on : e.mote ≡ Some state
  pub mote : IsMote c v state (last e.trail)
  pub timely : Timely state now

-- there was no image to start
pub record LeavesNone (e : Effect) (c : List ℕ) : Type 0 where
  pub none : e.mote ≡ None
  pub silent : e.sent ≡ None
  pub stands : Stands c (last e.trail)

-- the chip stopped on the trail of an effect, perhaps after some reads
pub record StopsOn (s : Store) (e : Effect) (new : Device) : Type 0 where
  pub between : Device
  pub stands : Stands between.image s
  pub stops : Stops e.trail between new

-- how an event with this effect failed at a chip that stood for s
abbrev pub FailedBy : End → (s : Store) → Effect → Device → Type 0
FailedBy ends.FlashFault s e new = StopsOn s e new
FailedBy ends.NoImage s e new = LeavesNone e new.image
FailedBy end s e new = ⊥

abbrev pub EffectEnds : {T : Type 0} → Result T End → (s : Store) → Effect → (now : ℕ) → Device → Mote → Type 0
EffectEnds (Ok x) s e now new v = IsLeft e new.image v now
EffectEnds (Err why) s e now new v = FailedBy why s e new

-- ---- the mote after its events

-- the time and the draws of this many events
pub record IsTime (t : Timeline) (b : Base) (events : ℕ) : Type 0 where
  pub step : t.step ≡ b.step
  pub moment : t.moment ≡ b.step * events
  pub draws : generator_of t.draws ≡ generator_after b.seed events

-- These events were done, and the code's mote over a chip of these bytes is the mote then.
pub record Stood (b : Base) (s : Store) (done : List BaseEvent) (v : Running) (c : List ℕ) (there : At) : Type 0 where
  pub state : MoteState
  pub run : BaseEventsRun b (powered b s) done there
  pub on : there.mote ≡ Some state
  pub mote : IsMote c (node_mote v.node) state there.store
  pub timely : Timely state v.timeline.moment
  pub time : IsTime v.timeline b there.events

abbrev pub IsStood : Running → List ℕ → Type 0
IsStood v c = (b : Base) × (s : Store) × (done : List BaseEvent) × (there : At) × Stood b s done v c there

-- what power-on does
abbrev pub PowerEnds : Result Running End → (b : Base) (s : Store) → Device → Type 0
PowerEnds (Ok v) b s new = Stood b s [] v new.image (powered b s) × ((powered b s).sent ≡ [])
PowerEnds (Err why) b s new = FailedBy why s (power_effect b s) new × ((powered b s).sent ≡ [])

-- a frame, if there is one
abbrev pub one_if : Option (List ℕ) → List (List ℕ)
one_if None = []
one_if (Some frame) = frame ∷ []

-- One more event was done, in which this frame was sent, if any.
pub record DoneOne (b : Base) (s : Store) (done : List BaseEvent) (d : BaseEvent) (before : At) (left : BaseEventLeft)
    : Type 0 where
  pub there : At
  pub stood : Stood b s (done ++ d ∷ []) left.mote left.chip.image there
  pub sent : map frame_of there.sent ≡ map frame_of before.sent ++ one_if left.frame

-- An event found no image to start.
pub record LacksIn (b : Base) (s : Store) (done : List BaseEvent) (d : BaseEvent) (before : At) (c : List ℕ) : Type 0 where
  pub there : At
  pub run : BaseEventsRun b (powered b s) (done ++ d ∷ []) there
  pub none : there.mote ≡ None
  pub sent : there.sent ≡ before.sent
  pub stands : Stands c there.store

-- The chip stopped in an event.
pub record StopsInBaseEvent (b : Base) (d : BaseEvent) (before : At) (new : Device) : Type 0 where
  pub state : MoteState
  pub on : before.mote ≡ Some state
  pub stops : StopsOn before.store (effect_of b state before d) new

abbrev pub BaseEventFails : End → (b : Base) (s : Store) (done : List BaseEvent) (d : BaseEvent) (before : At) → Device → Type 0
BaseEventFails ends.FlashFault b s done d before new = StopsInBaseEvent b d before new
BaseEventFails ends.NoImage b s done d before new = LacksIn b s done d before new.image
BaseEventFails end b s done d before new = ⊥

abbrev pub BaseEventEnds : Result (Unit {0}) End → (b : Base) (s : Store) (done : List BaseEvent) (d : BaseEvent) (before : At)
    → BaseEventLeft
    → Type 0
BaseEventEnds (Ok x) b s done d before left = DoneOne b s done d before left
BaseEventEnds (Err why) b s done d before left = BaseEventFails why b s done d before left.chip

-- ---- writing

-- a frame was written, or a prefix of it
abbrev pub SendFails : End → (text : List ℕ) (before now : Option (List ℕ)) → Type 0
SendFails ends.WriteFault text before now = PutsPrefix before now text
SendFails ends.Memory text before now = now ≡ before
SendFails end text before now = ⊥

abbrev pub SendEnds : {T : Type 0} → Result T End → (text : List ℕ) (before now : Option (List ℕ)) → Type 0
SendEnds (Ok x) text before now = Puts before now text
SendEnds (Err why) text before now = SendFails why text before now

-- a write fails only with the answer that says so, and so does a read
abbrev pub WritesBy : End → (old new : ℕ) → Type 0
WritesBy ends.WriteFault old new = Rose old new × (old ≤ new)
WritesBy end old new = new ≡ old

abbrev pub WriteCounts : {T : Type 0} → Result T End → (old new : ℕ) → Type 0
WriteCounts (Ok x) old new = new ≡ old
WriteCounts (Err why) old new = WritesBy why old new

abbrev pub ReadsBy : End → (old new : ℕ) → Type 0
ReadsBy ends.ReadFault old new = Rose old new × (old ≤ new)
ReadsBy end old new = new ≡ old

abbrev pub ReadCounts : {T : Type 0} → Result T End → (old new : ℕ) → Type 0
ReadCounts (Ok x) old new = new ≡ old
ReadCounts (Err why) old new = ReadsBy why old new

-- why the mote stops, and what was written by then
abbrev pub StoppedBy : End → (b : Base) (there : At) (rest : List BaseEvent) (first now : Option (List ℕ)) → Device → Type 0
StoppedBy ends.Memory b there rest first now new =
    (text : List ℕ) × Puts first now text × IsPrefixOfInput text (line_sent there) × Stands new.image there.store
StoppedBy ends.WriteFault b there rest first now new =
    (text : List ℕ) × Puts first now text × IsPrefixOfInput text (line_sent there) × Stands new.image there.store
StoppedBy ends.NoImage b there rest first now new =
    (there.mote ≡ None) × Puts first now (line_sent there) × Stands new.image there.store
StoppedBy ends.FlashFault b there rest first now new =
    (m : MoteState) × (d : BaseEvent) × (more : List BaseEvent) × (there.mote ≡ Some m) × (rest ≡ d ∷ more)
    × Puts first now (line_sent there) × StopsOn there.store (effect_of b m there d) new
StoppedBy end b there rest first now new = ⊥

-- each frame that was sent is one that fits the line
abbrev pub AreOnLine : At → Type 0
AreOnLine there = AllByRecursion IsOnLine (map frame_of there.sent)

-- Some of these events were done, and then the mote stopped.
pub record BaseEventsHalted (why : End) (a : Outset) (all : List BaseEvent) (now : Option (List ℕ)) (new : Device) : Type 0 where
  pub done : List BaseEvent
  pub rest : List BaseEvent
  pub parts : done ++ rest ≡ all
  pub there : At
  pub run : BaseEventsRun a.base (powered a.base a.store) done there
  pub fits : AreOnLine there
  pub by : StoppedBy why a.base there rest a.written now new

-- These events were done, and what was sent is written.
pub record CompletedOn (a : Outset) (all : List BaseEvent) (now : CodeAt) : Type 0 where
  pub there : At
  pub stood : Stood a.base a.store all now.mote now.chip.image there
  pub put : Puts a.written now.written (line_sent there)
  pub fits : AreOnLine there

abbrev pub ContinueEnds : {T : Type 0} → Result T End → Outset → (all : List BaseEvent) → CodeAt → Type 0
ContinueEnds (Ok x) a all now = CompletedOn a all now
ContinueEnds (Err why) a all now = BaseEventsHalted why a all now.written now.chip

-- ---- the line

-- The bytes of the line were played.
pub record StreamPlayed (a : Outset) (stream : List ℕ) (now : LineAt) : Type 0 where
  pub line : now.reading ≡ reading_behind stream
  pub went : CompletedOn a (base_events_of stream) now.code

abbrev pub StreamEnds : {T : Type 0} → Result T End → Outset → (stream : List ℕ) → LineAt → Type 0
StreamEnds (Ok x) a stream now = StreamPlayed a stream now
StreamEnds (Err why) a stream now = BaseEventsHalted why a (base_events_of stream) now.code.written now.code.chip

-- ---- the input

-- A piece was read and played after a stream.
pub record PieceRead (a : Outset) (stream : List ℕ) (most count : ℕ)
    (left_old left_now : Option (List ℕ)) (now : LineAt) : Type 0 where
  pub more : List ℕ
  pub taken : Takes left_old left_now more
  pub few : length more ≤ most
  pub counted : length more ≡ count
  pub played : StreamPlayed a (stream ++ more) now
  pub ended : count ≡ 0 → AtEnd left_now

-- The mote halted in a piece.
pub record PieceHalted (why : End) (a : Outset) (stream : List ℕ) (most : ℕ)
    (left_old left_now : Option (List ℕ)) (now : CodeAt) : Type 0 where
  pub more : List ℕ
  pub taken : Takes left_old left_now more
  pub few : length more ≤ most
  pub halted : BaseEventsHalted why a (base_events_of (stream ++ more)) now.written now.chip

abbrev pub PieceFails : End → Outset → (stream : List ℕ) (most : ℕ) (left_old left_now : Option (List ℕ)) → LineAt → Type 0
PieceFails ends.ReadFault a stream most left_old left_now now = Takes left_old left_now [] × StreamPlayed a stream now
PieceFails why a stream most left_old left_now now = PieceHalted why a stream most left_old left_now now.code

abbrev pub PieceEnds : Result ℕ End → Outset → (stream : List ℕ) (most : ℕ) (left_old left_now : Option (List ℕ)) → LineAt
    → Type 0
PieceEnds (Ok count) a stream most left_old left_now now = PieceRead a stream most count left_old left_now now
PieceEnds (Err why) a stream most left_old left_now now = PieceFails why a stream most left_old left_now now

-- this many bytes were taken and played
pub record Consumed (a : Outset) (used : ℕ) (left_old left_now : Option (List ℕ)) (now : LineAt) : Type 0 where
  pub stream : List ℕ
  pub counted : length stream ≡ used
  pub taken : Takes left_old left_now stream
  pub played : StreamPlayed a stream now

-- It was checked whether bytes follow those that are used.
abbrev pub LastEnds : Result (Unit {0}) End → (left_old left_now : Option (List ℕ)) → Type 0
LastEnds (Ok x) left_old left_now = Takes left_old left_now [] × AtEnd left_now
LastEnds (Err ends.TooLong) left_old left_now = (byte : ℕ) × Takes left_old left_now (byte ∷ [])
LastEnds (Err ends.ReadFault) left_old left_now = Takes left_old left_now []
LastEnds (Err end) left_old left_now = ⊥

-- how the input ended, after these bytes of it were taken
abbrev pub InputBy : Result (Unit {0}) End → Outset → (input : List ℕ) (left : Option (List ℕ)) → LineAt → Type 0
InputBy (Ok x) a input left now = StreamPlayed a (take most_input input) now × AtEnd left × (length input ≤ most_input)
InputBy (Err ends.ReadFault) a input left now = StreamPlayed a (take most_input input) now × (length input ≤ most_input)
InputBy (Err ends.TooLong) a input left now = StreamPlayed a (take most_input input) now × (most_input < length input)
InputBy (Err why) a input left now = BaseEventsHalted why a
    (base_events_of (take most_input input)) now.code.written now.code.chip

pub record InputEnds (r : Result (Unit {0}) End) (a : Outset) (left_old left_now : Option (List ℕ)) (now : LineAt) : Type 0 where
  pub input : List ℕ
  pub taken : Takes left_old left_now input
  pub few : length input ≤ most_input + 1
  pub by : InputBy r a input left_now now
