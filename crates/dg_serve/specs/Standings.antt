-- Where the code of a service stands, and how its calls go on from there (docs/COMMANDS.md, "Serve").
use Rattle.std.specs.Prelude.{◌≡◌, ◌≢◌, ◌⊎◌, ℕ, ◌+◌, ◌-◌, ◌*◌, ◌^◌, ◌<◌, ◌≤◌, true, List, [], ◌∷◌, ◌++◌, length, take, slice_get}
use Rattle.std.specs.Prelude.{slice_index_or, slice_set, option_map, Option, Some, None, Result, Ok, Err}
use Rattle.std.specs.List.{AllByRecursion}
use Rattle.dg_words.specs.Counts.{Rose}
use Rattle.dg_base.specs.Clock.{Answers}
use Rattle.dg_base.specs.Outside.{Puts}
use Rattle.dg_base.specs.declared.events.Event.{Event}
use Rattle.dg_base.specs.declared.events.Event.TheVariants.{Tick, Hear, Last, Reset, Inject, Order, Frame}
use Rattle.dg_base.specs.declared.clock.Clock.{Ghosts as ClockTells}
use Rattle.dg_base.specs.declared.outside.Sink.{Ghosts as SinkTells}
use Rattle.dg_link.specs.declared.link.Link.{Ghosts as LinkTells}
use Rattle.dg_link.specs.Inboxes.{Inboxes, TakesFrame, IsEmptyAt}
use Rattle.dg_nor.specs.Device.{Device, Endures}
use Rattle.dg_nor.specs.Fuse.{beneath_of}
use Rattle.dg_volume.specs.Stands.{Stands, IsVolume, IsNoVolume}
use Rattle.dg_mote.specs.declared.outbox.Outbox.{Outbox}
use Rattle.dg_script.specs.Ranges.{IsFrame}
use Rattle.dg_script.specs.Fitting.{FitsLine}
use Rattle.dg_script.specs.declared.line.Line.TheVariants.{Happens as EventLine}
use Rattle.dg_script.specs.Places.{none_narrow}
use Rattle.dg_rules.specs.World.{World, site, wide_at, store_at}
use Rattle.dg_rules.specs.Events.{mote_of, dt_of}
use Rattle.dg_rules.specs.Premises.{WorldTimely}
use Rattle.dg_world.specs.Worlds.{SiteStands, MayRun}
use Rattle.dg_world.specs.Alone.{IsAlone, IsReset, PlaysAlone, Powers}
use Rattle.dg_world.specs.declared.outcome.Fault.{Fault}
use Rattle.dg_world.specs.declared.outcome.Fault.TheVariants as fault
use Rattle.dg_node.specs.declared.node.Node.{Node}
use Rattle.dg_seed.specs.Draws.{generator_of}
use Rattle.dg_serve.specs.Services.{Part, Begins, Looks, Ticks, Moment, PartsDone, Steps, handed_to}
use Rattle.dg_serve.specs.inner.Stretches.{course, neighbours_by}
use Rattle.dg_serve.specs.Traces.{UnwrittenLast}
use Rattle.dg_serve.specs.inner.Runs.{event_lines}
use Rattle.dg_serve.specs.Endings.{ServedBoardsStand, EventEnds, HandedToFirst, StopLeaves}
use Rattle.dg_serve.specs.inner.Stretches.{remains}
use Rattle.dg_serve.specs.declared.service.Service.{Service}
use Rattle.dg_serve.specs.declared.stop.Stop.{Stop}
use Rattle.dg_serve.specs.declared.stop.Stop.TheVariants as stop

-- the service, and all that stands outside of it
pub record Standing : Type 0 where
  pub service : Service
  pub boards : List Device
  pub inboxes : Option Inboxes
  pub addressees : ℕ
  pub failures : ℕ
  pub port : Option ℕ
  pub clock : Option Answers
  pub reached : ℕ
  pub written : Option (List ℕ)
  pub faults : ℕ

-- a service with these boards, with what its sink and its link expose, and what a clock exposes and has reached
abbrev pub standing_with : {K L : Type 0} → Service × List Device → SinkTells K × K → LinkTells L × L → Option Answers × ℕ
    → Standing
standing_with x sink link clock = record {
  service = x.0;
  boards = x.1;
  inboxes = link.0.inboxes link.1;
  addressees = link.0.mote_count link.1;
  failures = link.0.faults link.1;
  port = link.0.first_port link.1;
  clock = clock.0;
  reached = clock.1;
  written = sink.0.written sink.1;
  faults = sink.0.faults sink.1;
}

-- the same with what its clock exposes
abbrev pub service_standing : {K L C : Type 0} → Service × List Device → SinkTells K × K → LinkTells L × L → ClockTells C × C
    → Standing
service_standing x sink link clock = standing_with x sink link (clock.0.told clock.1, clock.0.reached clock.1)

-- The code stands for a moment of a service whose boards were these when it began. The first `begun` motes powered on, and the
-- code's time is ahead of the rules' by `ahead`.
pub record StandsFor (motes begun : ℕ) (links : List (ℕ × ℕ)) (ahead : ℕ) (first : List Device) (s : Moment)
    (p : Standing) : Type 0 where
  pub moment : p.service.timeline.moment ≡ s.world.moment + ahead
  pub reading : p.service.timeline.reading ≡ s.reading
  pub draws : generator_of p.service.timeline.draws ≡ s.draws
  pub clock : p.clock ≡ s.clock
  pub inboxes : p.inboxes ≡ s.inboxes
  pub linked : s.world.links ≡ links
  pub wide : s.world.narrow ≡ none_narrow
  pub sites : length s.world.sites ≡ motes
  pub count : length p.boards ≡ length first
  pub timely : WorldTimely s.world
  pub on : (m : ℕ) (a b : Device) → m < begun → slice_get first m ≡ Some a → slice_get p.boards m ≡ Some b
      → IsVolume a.image × SiteStands b (slice_index_or p.service.motes.items m None) (site s.world m)
  pub off : (m : ℕ) (a b : Device) → begun ≤ m → m < motes → slice_get first m ≡ Some a → slice_get p.boards m ≡ Some b
      → (b.image ≡ a.image) × ((site s.world m).runs ≡ None) × (Stands a.image (store_at s.world m) ⊎ IsNoVolume a.image)

-- What holds of it whatever it stands for.
pub record StandsReady (motes begun : ℕ) (p : Standing) : Type 0 where
  pub motes_are : length p.service.motes.items ≡ motes
  pub boards : motes ≤ length p.boards
  pub addressees : p.addressees ≡ motes
  pub reading : p.service.timeline.reading ≤ p.reached
  pub off : (m : ℕ) → begun ≤ m → slice_index_or p.service.motes.items m None ≡ None

-- ---- boards

-- a board's count did not fall, and it is stopped only if it was before, or if its count rose
abbrev pub BoardEndures : Option Device → Option Device → Type 0
BoardEndures None new = new ≡ None
BoardEndures (Some a) None = ⊥
BoardEndures (Some a) (Some b) = Endures (beneath_of a) (beneath_of b)

-- its count does not change
abbrev pub BoardIsCalm : Option Device → Option Device → Type 0
BoardIsCalm None new = new ≡ None
BoardIsCalm (Some a) None = ⊥
BoardIsCalm (Some a) (Some b) = b.faults ≡ a.faults

-- the boards were used, and none but those of the motes
pub record BoardsAreUsed (motes : ℕ) (old new : List Device) : Type 0 where
  pub count : length new ≡ length old
  pub others : (m : ℕ) → motes ≤ m → slice_get new m ≡ slice_get old m
  pub endures : (m : ℕ) → BoardEndures (slice_get old m) (slice_get new m)

abbrev pub BoardsAreCalm : List Device → List Device → Type 0
BoardsAreCalm old new = (m : ℕ) → BoardIsCalm (slice_get old m) (slice_get new m)

-- ---- parts

-- the event is at one of the first motes
abbrev pub IsBelow : ℕ → Event → Type 0
IsBelow on event = mote_of event < on

-- the event is at this mote
abbrev pub IsEventAt : ℕ → Event → Type 0
IsEventAt mote event = mote_of event ≡ mote

-- the part is at this mote
abbrev pub IsPartAt : ℕ → Part → Type 0
IsPartAt mote (Begins m) = m ≡ mote
IsPartAt mote (Looks m) = m ≡ mote
IsPartAt mote (Ticks m) = m ≡ mote

-- These parts were done. Then the first `on` motes have powered on.
pub record ServedParts (motes begun on : ℕ) (links : List (ℕ × ℕ)) (parts : List Part) (p q : Standing) : Type 0 where
  pub events : List Event
  pub put : Puts p.written q.written (event_lines events)
  pub run : (first : List Device) (s : Moment) → StandsFor motes begun links 0 first s p
      → (t : Moment) × PartsDone motes s parts events t × StandsFor motes on links 0 first t q
  pub ready : StandsReady motes on q
  pub volumes : (m : ℕ) (a : Device) → begun ≤ m → m < on → slice_get p.boards m ≡ Some a → IsVolume a.image
  pub boards : BoardsAreUsed on p.boards q.boards
  pub calm : BoardsAreCalm p.boards q.boards
  -- each event was at a mote that had begun
  pub below : AllByRecursion (IsBelow on) events
  -- where all parts were those of one mote, so are the events
  pub own : (mote : ℕ) → AllByRecursion (IsPartAt mote) parts → AllByRecursion (IsEventAt mote) events
  pub rises : begun ≤ on
  pub moved : q.service.timeline.moment ≤ p.service.timeline.moment + length parts * (2 ^ 32 - 1)
  pub port : q.port ≡ p.port
  pub failures : q.failures ≡ p.failures
  pub faults : q.faults ≡ p.faults
  pub reached : p.reached ≤ q.reached

-- the counts of the sink and of the link, by why a service stopped
pub record CountsBy (why : Stop) (p q : Standing) : Type 0 where
  pub wrote : why ≡ stop.Write → Rose p.faults q.faults
  pub faults : why ≢ stop.Write → q.faults ≡ p.faults
  pub faults_rise : p.faults ≤ q.faults
  pub sent : why ≡ stop.Link → Rose p.failures q.failures
  pub failures : why ≢ stop.Link → q.failures ≡ p.failures
  pub failures_rise : p.failures ≤ q.failures
  pub reached : p.reached ≤ q.reached

-- Some of these parts were done, and then the service stopped.
pub record PartsHalted (why : Stop) (motes begun : ℕ) (links : List (ℕ × ℕ)) (parts : List Part) (p q : Standing) : Type 0 where
  pub events : List Event
  pub done : List Part
  pub left : List Part
  pub all : done ++ left ≡ parts
  pub text : List ℕ
  pub put : Puts p.written q.written text
  pub front : why ≡ stop.Write → UnwrittenLast [] events text
  pub whole : why ≢ stop.Write → text ≡ event_lines events
  pub run : (first : List Device) (s : Moment) → StandsFor motes begun links 0 first s p
      → (t : Moment) × PartsDone motes s done events t
      × StopLeaves why motes s (course done events left) t first (remains q.boards q.inboxes q.clock)
  -- the first `on` motes powered on
  pub on : ℕ
  pub volumes : (m : ℕ) (a : Device) → begun ≤ m → m < on → slice_get p.boards m ≡ Some a → IsVolume a.image
  pub below : AllByRecursion (IsBelow on) events
  pub own : (mote : ℕ) → AllByRecursion (IsPartAt mote) done → AllByRecursion (IsEventAt mote) events
  pub rises : begun ≤ on
  pub port : q.port ≡ p.port
  pub boards : BoardsAreUsed motes p.boards q.boards
  pub calm : why ≢ stop.Flash → BoardsAreCalm p.boards q.boards
  pub counts : CountsBy why p q

-- parts that are to be done: before them the first `begun` motes have powered on, and after them the first `on`
pub record Stretch : Type 0 where
  pub begun : ℕ
  pub on : ℕ
  pub parts : List Part

abbrev pub stretch : (begun on : ℕ) (parts : List Part) → Stretch
stretch begun on parts = record { begun = begun; on = on; parts = parts }

-- how a call that does these parts ends
abbrev pub PartsGoOn : Result (Unit {0}) Stop → (motes : ℕ) → List (ℕ × ℕ) → Stretch → Standing → Standing → Type 0
PartsGoOn (Ok u) motes links x p q = ServedParts motes x.begun x.on links x.parts p q
PartsGoOn (Err why) motes links x p q = PartsHalted why motes x.begun links x.parts p q

-- it stands for some moment
abbrev pub StandsForSome : (motes begun : ℕ) → List (ℕ × ℕ) → Standing → Type 0
StandsForSome motes begun links p = (first : List Device) × (s : Moment) × StandsFor motes begun links 0 first s p

-- Each mote began, the time of the service is below this, and it stands for some moment.
pub record IsUnderWay (motes : ℕ) (links : List (ℕ × ℕ)) (limit : ℕ) (p : Standing) : Type 0 where
  pub ready : StandsReady motes motes p
  pub early : p.service.timeline.moment < limit
  pub some : StandsForSome motes motes links p

-- ---- one event

-- how many motes have powered on before an event and after it, if it is a reset; else all have
abbrev pub begun_before : ℕ → Event → ℕ
begun_before motes (Tick mote dt word) = motes
begun_before motes (Hear mote dt word frame) = motes
begun_before motes (Last from to dt word) = motes
begun_before motes (Reset mote dt word) = mote
begun_before motes (Inject mote image version dt word) = motes
begun_before motes (Order mote number image version dt word) = motes
begun_before motes (Frame mote dt word bytes) = motes

abbrev pub begun_behind : ℕ → Event → ℕ
begun_behind motes (Tick mote dt word) = motes
begun_behind motes (Hear mote dt word frame) = motes
begun_behind motes (Last from to dt word) = motes
begun_behind motes (Reset mote dt word) = mote + 1
begun_behind motes (Inject mote image version dt word) = motes
begun_behind motes (Order mote number image version dt word) = motes
begun_behind motes (Frame mote dt word bytes) = motes

-- What an event at a mote requires: its mote may run, and is off before a reset. For any other event the service stands for
-- some moment.
pub record EventAsks (motes mote : ℕ) (links : List (ℕ × ℕ)) (event : Event) (p : Standing) : Type 0 where
  pub fits : FitsLine motes (EventLine event)
  pub alone : IsAlone event
  pub at : mote_of event ≡ mote
  pub known : mote < motes
  pub motes_are : length p.service.motes.items ≡ motes
  pub boards : motes ≤ length p.boards
  pub addressees : p.addressees ≡ motes
  pub moment : p.service.timeline.moment < 2 ^ 62
  pub may : (a : Device) → slice_get p.boards mote ≡ Some a
      → MayRun a.image p.service.timeline.moment (slice_index_or p.service.motes.items mote None)
  pub off : IsReset event → slice_index_or p.service.motes.items mote None ≡ None
  pub some : IsReset event ⊎ ((first : List Device) × (s : Moment)
      × StandsFor motes (begun_before motes event) links (dt_of event) first s p)

-- what a mote runs, and the boards
pub record AtMote : Type 0 where
  pub runs : Option Node
  pub boards : List Device

abbrev pub at_mote : (runs : Option Node) (boards : List Device) → AtMote
at_mote runs boards = record { runs = runs; boards = boards }

-- An event at the board of a mote, which ran this before and after it.
pub record PlayedAt (r : Result Outbox Fault) (event : Event) (mote now : ℕ) (x y : AtMote) : Type 0 where
  pub before : Device
  pub after : Device
  pub was : slice_get x.boards mote ≡ Some before
  pub put : y.boards ≡ slice_set x.boards mote after
  pub plays : (w : World) → SiteStands before x.runs (site w mote) → mote < length w.sites → now ≡ w.moment + dt_of event
      → wide_at w mote ≡ true → PlaysAlone r w event y.runs before after
  pub powers : IsReset event → Powers r before after

-- The event was applied, its line was written, and what it sent was forwarded.
pub record AppliedAt (motes : ℕ) (links : List (ℕ × ℕ)) (event : Event) (p q : Standing) : Type 0 where
  pub put : Puts p.written q.written (event_lines (event ∷ []))
  pub run : (first : List Device) (s : Moment) → StandsFor motes (begun_before motes event) links (dt_of event) first s p
      → (t : Moment) × Steps motes s event t × StandsFor motes (begun_behind motes event) links 0 first t q
  pub ready : StandsReady motes (begun_before motes event) p → StandsReady motes (begun_behind motes event) q
  pub volumes : (a : Device) → IsReset event → slice_get p.boards (mote_of event) ≡ Some a → IsVolume a.image
  pub boards : BoardsAreUsed (begun_behind motes event) p.boards q.boards
  pub calm : BoardsAreCalm p.boards q.boards
  pub timeline : q.service.timeline ≡ p.service.timeline
  pub port : q.port ≡ p.port
  pub failures : q.failures ≡ p.failures
  pub faults : q.faults ≡ p.faults

-- The event was not applied.
pub record NotApplied (why : Stop) (motes : ℕ) (links : List (ℕ × ℕ)) (event : Event) (p q : Standing) : Type 0 where
  pub untold : q.written ≡ p.written
  pub link : q.inboxes ≡ p.inboxes
  pub port : q.port ≡ p.port
  pub run : (first : List Device) (s : Moment) → StandsFor motes (begun_before motes event) links (dt_of event) first s p
      → EventEnds why s.world event first q.boards
  pub boards : BoardsAreUsed motes p.boards q.boards
  pub calm : why ≢ stop.Flash → BoardsAreCalm p.boards q.boards
  pub failures : q.failures ≡ p.failures
  pub faults : q.faults ≡ p.faults

-- what was forwarded of an event that was applied, by why the service stopped: nothing before its line is written
abbrev pub HandedThen : Stop → (motes : ℕ) → (w v : World) → (before after : Option Inboxes) → Type 0
HandedThen stop.Link motes w v before after = HandedToFirst motes w v before after
HandedThen why motes w v before after = after ≡ before

-- The event was applied, but its line was not written, or what it sent was not forwarded to all.
pub record AppliedPartly (why : Stop) (motes : ℕ) (links : List (ℕ × ℕ)) (event : Event) (p q : Standing) : Type 0 where
  pub text : List ℕ
  pub put : Puts p.written q.written text
  pub front : (n : ℕ) × (text ≡ take n (event_lines (event ∷ [])))
  pub whole : why ≢ stop.Write → text ≡ event_lines (event ∷ [])
  pub run : (first : List Device) (s : Moment) → StandsFor motes (begun_before motes event) links (dt_of event) first s p
      → (t : Moment) × Steps motes s event t × ServedBoardsStand t.world first q.boards
      × HandedThen why motes s.world t.world p.inboxes q.inboxes
  pub volumes : (a : Device) → IsReset event → slice_get p.boards (mote_of event) ≡ Some a → IsVolume a.image
  pub port : q.port ≡ p.port
  pub boards : BoardsAreUsed motes p.boards q.boards
  pub calm : BoardsAreCalm p.boards q.boards
  pub counts : CountsBy why p q

abbrev pub ApplyEnds : Result (Unit {0}) Stop → (motes : ℕ) → List (ℕ × ℕ) → Event → Standing → Standing → Type 0
ApplyEnds (Ok u) motes links event p q = AppliedAt motes links event p q
ApplyEnds (Err stop.Memory) motes links event p q = NotApplied stop.Memory motes links event p q
ApplyEnds (Err stop.Write) motes links event p q = AppliedPartly stop.Write motes links event p q
ApplyEnds (Err stop.Link) motes links event p q = AppliedPartly stop.Link motes links event p q
ApplyEnds (Err stop.Flash) motes links event p q = NotApplied stop.Flash motes links event p q
ApplyEnds (Err stop.NotAVolume) motes links event p q = NotApplied stop.NotAVolume motes links event p q
ApplyEnds (Err stop.NoImage) motes links event p q = NotApplied stop.NoImage motes links event p q

-- ---- frames

-- what was received at a mote, if anything
abbrev pub ReceivedAt : Result (Option (List ℕ)) Stop → ℕ → Option Inboxes → Option Inboxes → Type 0
ReceivedAt (Ok None) mote before after = IsEmptyAt mote before × (after ≡ before)
ReceivedAt (Ok (Some bytes)) mote before after = TakesFrame mote bytes before after × IsFrame bytes
ReceivedAt (Err stop.Memory) mote before after = (bytes : List ℕ) × TakesFrame mote bytes before after
ReceivedAt (Err stop.Write) mote before after = ⊥
ReceivedAt (Err stop.Link) mote before after = after ≡ before
ReceivedAt (Err stop.Flash) mote before after = ⊥
ReceivedAt (Err stop.NotAVolume) mote before after = ⊥
ReceivedAt (Err stop.NoImage) mote before after = ⊥

-- the count of the link's faults rose if it failed, and did not change if it did not
abbrev pub FailuresBy : {T : Type 0} → Result T Stop → (before after : ℕ) → Type 0
FailuresBy (Ok x) before after = after ≡ before
FailuresBy (Err stop.Memory) before after = after ≡ before
FailuresBy (Err stop.Write) before after = ⊥
FailuresBy (Err stop.Link) before after = Rose before after × (before ≤ after)
FailuresBy (Err stop.Flash) before after = ⊥
FailuresBy (Err stop.NotAVolume) before after = ⊥
FailuresBy (Err stop.NoImage) before after = ⊥

-- a frame, if there is one, was forwarded to all neighbours of the mote that sent it
abbrev pub handed_by : List (ℕ × ℕ) → (motes mote : ℕ) → Option (List ℕ) → Inboxes → Inboxes
handed_by links motes mote None boxes = boxes
handed_by links motes mote (Some bytes) boxes = handed_to (neighbours_by links motes mote) bytes boxes

-- there was one, and it was forwarded to the first k of them
abbrev pub HandedToSome : List (ℕ × ℕ) → (motes mote : ℕ) → Option (List ℕ) → Option Inboxes → Option Inboxes → Type 0
HandedToSome links motes mote None before after = ⊥
HandedToSome links motes mote (Some bytes) before after =
    (k : ℕ) × (after ≡ option_map (handed_to (take k (neighbours_by links motes mote)) bytes) before)

-- why a service ends in an event that was not done
abbrev pub stop_by : Fault → Stop
stop_by fault.Stopped = stop.Flash
stop_by fault.NotAVolume = stop.NotAVolume
stop_by fault.NoImage = stop.NoImage

abbrev pub stops_by : {T : Type 0} → Result T Fault → Result T Stop
stops_by (Ok x) = Ok x
stops_by (Err f) = Err (stop_by f)
