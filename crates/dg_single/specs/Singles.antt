-- What a service of one mote did: the events that were applied at its mote, what it wrote, and how it left its board, the link
-- and the clock. What is outside of it has a board for each mote, of which it has its own alone (docs/COMMANDS.md, "One mote a
-- process").
use Rattle.std.specs.Prelude.{◌≡◌, ◌≢◌, ◌⊎◌, ℕ, ◌<◌, ◌≤◌, Bool, List, [], ◌++◌, length, slice_get, Option, Some, None, option_map}
use Rattle.std.specs.Prelude.{IfErr}
use Rattle.std.specs.List.{AllByRecursion}
use Rattle.dg_base.specs.Clock.{Answers, Answered}
use Rattle.dg_base.specs.declared.answers.Status.{Status}
use Rattle.dg_base.specs.declared.answers.Status.TheVariants as status
use Rattle.dg_base.specs.declared.events.Event.{Event}
use Rattle.dg_link.specs.Inboxes.{emptied}
use Rattle.dg_netcfg.specs.declared.profile.NetProfile.{NetProfile}
use Rattle.dg_nor.specs.Device.{Device}
use Rattle.dg_object.specs.Object.{Row}
use Rattle.dg_volume.specs.Store.{Store}
use Rattle.dg_volume.specs.Stands.{IsVolume}
use Rattle.dg_world.specs.Boards.{BoardsEndure}
use Rattle.dg_outside.specs.Outside.{Outside, OutputState}
use Rattle.dg_end.specs.Lines.{HasFixedLine}
use Rattle.dg_end.specs.Writes.{WritesEnd}
use Rattle.dg_rules.specs.Events.{mote_of}
use Rattle.dg_serve.specs.Services.{Part, Moment, Course}
use Rattle.dg_serve.specs.Endings.{StoresOf, begins}
use Rattle.dg_serve.specs.Standings.{IsEventAt}
use Rattle.dg_serve.specs.Served.{Came, WroteTrace, AtPort, CountedBy, service_end, DidNotBegin}
use Rattle.dg_serve.specs.declared.stop.Stop.{Stop}
use Rattle.dg_single.specs.Overs.{latest_moment}
use Rattle.dg_single.specs.Plans.{plan_of}

-- the boards of the other motes are volumes, whatever they hold
abbrev pub OthersAreVolumes : (motes mote : ℕ) → List Device → Type 0
OthersAreVolumes motes mote boards = (m : ℕ) (a : Device) → m < motes → m ≢ mote → slice_get boards m ≡ Some a → IsVolume a.image

-- From this moment on the service came as far as this. If it did not stop, all turns were played, unless it is late.
pub record MoteCame (why : Option Stop) (motes : ℕ) (s : Moment) (c : Course) (first : List Device) (b : Outside)
    (all : Type 0) : Type 0 where
  pub came : Came why motes s c first b
  pub whole : why ≡ None → all ⊎ (latest_moment ≤ came.last.world.moment)

-- The service began: its link was opened, and its clock read. It came as far as this before its last line.
pub record MoteRun (why : Option Stop) (profile : NetProfile) (mote seed turns : ℕ) (a b : Outside) : Type 0 where
  pub origin : ℕ
  pub clock : Option Answers
  pub first : Answered a.clock clock origin
  -- the events that were applied, in which turns the mote was to tick, the parts that were done, and those that are left
  pub events : List Event
  pub ticks : List Bool
  pub done : List Part
  pub left : List Part
  pub parts : done ++ left ≡ plan_of mote ticks
  pub few : length ticks ≤ turns
  pub all : why ≡ None → left ≡ []
  -- whatever the boards stand for, and whatever the table of images is: the rules of a service do not look at it
  pub came : (table : List Row) (stores : List Store) → StoresOf profile.motes a.boards stores
      → OthersAreVolumes profile.motes mote a.boards
      → MoteCame why profile.motes (begins table profile.links stores origin clock seed
      (option_map (emptied profile.motes) a.link.inboxes))
      (record { done = done; events = events; left = left }) a.boards b (length ticks ≡ turns)
  -- each event was at the mote, and there was no event if its board is not a volume
  pub own : AllByRecursion (IsEventAt mote) events
  pub volumes : AllByRecursion (λ e. (d : Device) → slice_get a.boards (mote_of e) ≡ Some d → IsVolume d.image) events
  pub wrote : WroteTrace why profile events a.output b.output
  pub boards : BoardsEndure a.boards b.boards
  pub port : AtPort profile a.link b.link
  pub counts : CountedBy why a b

-- The service began, and ended so: its last line, if there is one, was written after its trace.
pub record MoteBegan (answer : Status) (profile : NetProfile) (mote seed turns : ℕ) (a b : Outside) : Type 0 where
  pub why : Option Stop
  pub traced : OutputState
  pub run : MoteRun why profile mote seed turns a (record b { output = traced })
  pub ended : WritesEnd answer (service_end why) traced b.output
  -- no memory is needed for a last line that has neither a number nor a cause in it
  pub room : IfErr (service_end why) (λ end. HasFixedLine end → answer ≢ status.Memory)

abbrev pub MoteServed : Status → NetProfile → (mote seed turns : ℕ) → (a b : Outside) → Type 0
MoteServed answer profile mote seed turns a b =
    DidNotBegin answer profile a b ⊎ MoteBegan answer profile mote seed turns a b
