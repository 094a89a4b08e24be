-- What a service did: the events that were applied, what it wrote, and how it left the boards, the link and the clock
-- (docs/COMMANDS.md, "Serve").
use Rattle.std.specs.Prelude.{◌≡◌, ◌≢◌, ◌⊎◌, ℕ, ◌≤◌, List, [], ◌++◌, slice_get, Option, Some, None, option_map, Result, Ok, Err}
use Rattle.std.specs.Prelude.{IfErr}
use Rattle.std.specs.Option.{MatchOption}
use Rattle.std.specs.List.{AllByRecursion}
use Rattle.dg_words.specs.Counts.{Rose}
use Rattle.dg_base.specs.Clock.{Answers, Answered}
use Rattle.dg_base.specs.Outside.{Puts, PutsPrefix}
use Rattle.dg_base.specs.declared.answers.Status.{Status}
use Rattle.dg_base.specs.declared.answers.Status.TheVariants as status
use Rattle.dg_base.specs.declared.events.Event.{Event}
use Rattle.dg_link.specs.Inboxes.{emptied}
use Rattle.dg_netcfg.specs.declared.profile.NetProfile.{NetProfile}
use Rattle.dg_nor.specs.Device.{Device}
use Rattle.dg_object.specs.Object.{Row}
use Rattle.dg_volume.specs.Store.{Store}
use Rattle.dg_volume.specs.Stands.{IsVolume}
use Rattle.dg_rules.specs.Events.{mote_of}
use Rattle.dg_world.specs.Boards.{BoardsEndure}
use Rattle.dg_world.specs.Counts.{NoneRose}
use Rattle.dg_outside.specs.Outside.{Outside, OutputState, LinkState}
use Rattle.dg_end.specs.Lines.{HasFixedLine}
use Rattle.dg_end.specs.Writes.{WritesEnd}
use Rattle.dg_end.specs.declared.ends.End.{End}
use Rattle.dg_serve.specs.Services.{Part, Moment, PartsDone, Course, plan}
use Rattle.dg_serve.specs.Endings.{StoresOf, begins, ServedBoardsStand, end_of_stop, StopLeaves}
use Rattle.dg_serve.specs.Traces.{UnwrittenLast, trace, lines_text, head_lines}
use Rattle.dg_serve.specs.declared.stop.Stop.{Stop}
use Rattle.dg_serve.specs.declared.stop.Stop.TheVariants as stop

-- ---- the link

-- it is to be opened at the profile's port: it has that port, if it exposes its port
abbrev pub AtPort : NetProfile → (a b : LinkState) → Type 0
AtPort profile a b = b.port ≡ option_map (λ port. profile.port) a.port

-- it was to be opened: it has this many motes, whose inboxes are empty
abbrev pub LinkHas : (motes : ℕ) → NetProfile → (a b : LinkState) → Type 0
LinkHas motes profile a b =
    (b.inboxes ≡ option_map (emptied motes) a.inboxes) × (b.port ≡ option_map (λ port. profile.port) a.port)

-- ---- how far it came

-- From this moment on the service came as far as this.
pub record Came (why : Option Stop) (motes : ℕ) (s : Moment) (c : Course) (first : List Device) (b : Outside) : Type 0 where
  pub last : Moment
  pub serves : PartsDone motes s c.done c.events last
  pub ends : MatchOption why
      (ServedBoardsStand last.world first b.boards × (b.link.inboxes ≡ last.inboxes) × (b.clock ≡ last.clock))
      (λ stop. StopLeaves stop motes s c last first (record { boards = b.boards; inboxes = b.link.inboxes; clock = b.clock }))

-- What was written of the trace of these events. Where a line of it could not be written, it is that of the last event.
abbrev pub WroteTrace : Option Stop → NetProfile → List Event → (a b : OutputState) → Type 0
WroteTrace (Some stop.Write) profile events a b =
    (text : List ℕ) × Puts a.written b.written text × UnwrittenLast (lines_text (head_lines profile)) events text
WroteTrace why profile events a b = Puts a.written b.written (trace profile events)

-- No board but those of the motes was used, and all endure.
pub record MotesEndure (motes : ℕ) (old new : List Device) : Type 0 where
  pub all : BoardsEndure old new
  pub others : (m : ℕ) → motes ≤ m → slice_get new m ≡ slice_get old m

-- A count of faults rises only for the fault that the service ended by.
pub record CountedBy (why : Option Stop) (a b : Outside) : Type 0 where
  pub wrote : why ≡ Some stop.Write → Rose a.output.writes b.output.writes
  pub writes : why ≢ Some stop.Write → b.output.writes ≡ a.output.writes
  pub sent : why ≡ Some stop.Link → Rose a.link.failures b.link.failures
  pub sends : why ≢ Some stop.Link → b.link.failures ≡ a.link.failures
  pub calm : why ≢ Some stop.Flash → NoneRose a.boards b.boards

-- The service began: its link was opened, and its clock read. It came as far as this before its last line.
pub record ServiceRan (why : Option Stop) (profile : NetProfile) (seed turns : ℕ) (a b : Outside) : Type 0 where
  pub origin : ℕ
  pub clock : Option Answers
  pub first : Answered a.clock clock origin
  -- the events that were applied, the parts that gave them, and those that are left
  pub events : List Event
  pub done : List Part
  pub left : List Part
  pub parts : done ++ left ≡ plan profile.motes turns
  pub all : why ≡ None → left ≡ []
  -- whatever the boards stand for, and whatever the table of images is: the rules of a service do not look at it
  pub came : (table : List Row) (stores : List Store) → StoresOf profile.motes a.boards stores
      → Came why profile.motes (begins table profile.links stores origin clock seed
      (option_map (emptied profile.motes) a.link.inboxes))
      (record { done = done; events = events; left = left }) a.boards b
  -- none of the events was at a board that is not a volume
  pub volumes : AllByRecursion (λ e. (d : Device) → slice_get a.boards (mote_of e) ≡ Some d → IsVolume d.image) events
  pub wrote : WroteTrace why profile events a.output b.output
  pub boards : MotesEndure profile.motes a.boards b.boards
  pub port : b.link.port ≡ option_map (λ port. profile.port) a.link.port
  pub counts : CountedBy why a b

-- ---- how it ended

-- all turns were played, or it stopped
abbrev pub service_end : Option Stop → Result (Unit {0}) End
service_end None = Ok tt
service_end (Some why) = Err (end_of_stop why)

-- The service began, and ended so: its last line, if there is one, was written after its trace.
pub record Began (answer : Status) (profile : NetProfile) (seed turns : ℕ) (a b : Outside) : Type 0 where
  pub why : Option Stop
  pub traced : OutputState
  pub ran : ServiceRan why profile seed turns a (record b { output = traced })
  pub ended : WritesEnd answer (service_end why) traced b.output
  -- no memory is needed for a last line that has neither a number nor a cause in it
  pub room : IfErr (service_end why) (λ end. HasFixedLine end → answer ≢ status.Memory)

-- Why a service did not begin, where the head of its trace could not be written, or the link could not be opened. Memory may run
-- out before the link is to be opened, or then.
abbrev pub Hindered : Status → NetProfile → (a b : Outside) → Type 0
Hindered status.Memory profile a b =
    PutsPrefix a.output.written b.output.written (lines_text (head_lines profile)) × (b.output.writes ≡ a.output.writes)
    × ((b.link ≡ a.link) ⊎ (LinkHas 0 profile a.link b.link × (b.link.failures ≡ a.link.failures)))
Hindered status.WriteFault profile a b =
    PutsPrefix a.output.written b.output.written (lines_text (head_lines profile)) × Rose a.output.writes b.output.writes
    × (b.link ≡ a.link)
Hindered status.LinkFault profile a b =
    Puts a.output.written b.output.written (lines_text (head_lines profile)) × (b.output.writes ≡ a.output.writes)
    × LinkHas 0 profile a.link b.link × Rose a.link.failures b.link.failures
Hindered answer profile a b = ⊥

-- The service did not begin. No board was used, and the clock was not read.
pub record DidNotBegin (answer : Status) (profile : NetProfile) (a b : Outside) : Type 0 where
  pub hindered : Hindered answer profile a b
  pub boards : b.boards ≡ a.boards
  pub clock : b.clock ≡ a.clock
