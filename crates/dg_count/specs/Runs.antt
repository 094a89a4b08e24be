-- The counts of a whole run.
use Rattle.std.specs.Prelude.{◌≡◌, ℕ, ◌+◌, ◌<◌, ◌≤◌, Bool, false, List, ◌∷◌, ◌++◌, [], length, slice_get, Some}
use Rattle.dg_volume.specs.Store.{Store}
use Rattle.dg_object.specs.Object.{Row}
use Rattle.dg_rules.specs.Sizes.{most_motes, most_events}
use Rattle.dg_rules.specs.Runs.{Played}
use Rattle.dg_rules.specs.World.{World}
use Rattle.dg_base.specs.declared.answers.Status.{Status}
use Rattle.dg_base.specs.declared.events.Event.{Event}
use Rattle.dg_base.specs.declared.events.Step.{Step}
use Rattle.dg_script.specs.Script.{Script}
use Rattle.dg_script.specs.declared.report.Report.{Report}
use Rattle.dg_replay.specs.Items.{beginning_of}
use Rattle.dg_replay.specs.Shown.{Saw, stores_in, events_played}
use Rattle.dg_replay.specs.Replayed.{Progress}
use Rattle.dg_events.specs.Noted.{IsEventPlayed}
use Rattle.dg_events.specs.Told.{Happened}
use Rattle.dg_events.specs.Uptimes.{IsBefore, HasTimed}
use Rattle.dg_events.specs.Counts.{count_at, count_all}
use Rattle.dg_events.specs.Counters.{as_u64, told_count, HasCounted}
use Rattle.dg_events.specs.FrameCounters.{HasFrames}
use Rattle.dg_events.specs.declared.event_counter.EventCounter.{EventCounter}
use Rattle.dg_events.specs.declared.frame_counter.FrameCounter.{FrameCounter}
use Rattle.dg_events.specs.declared.uptime.Uptimes.{Uptimes}
use Rattle.dg_cost_text.specs.declared.moment.Moment.{Moment}
use Rattle.dg_nor.specs.Device.{Device, PartsRise}
use Rattle.dg_rules.specs.Events.{mote_of}
use Rattle.dg_moments.specs.Looking.{ReadsBoards}
use Rattle.dg_moments.specs.Wholes.{HasWholes}
use Rattle.dg_moments.specs.Telling.{BringsWholes, LinesTell}
use Rattle.dg_moments.specs.declared.wholes.Wholes.{Wholes}
use Rattle.dg_count.specs.declared.counter.Counter.{Counter}
use Rattle.dg_events.specs.Made.{operations_at}
use Rattle.dg_count.specs.Chips.{counts_by, AreTallies, Placement, HaveMade, HaveEnded, IsEndNoted, made_at_end}

-- this event, of which these lines are reported, was counted after those that were played before it
abbrev pub CountsEvent : (before after : EventCounter) → Event → List Report → Type 0
CountsEvent before after e lines =
    (past : List Played) (p : Played) → IsEventPlayed e lines p → HasCounted before past → HasCounted after (past ++ p ∷ [])

-- this event, of which these lines are reported, was timed after those before it
abbrev pub TimesEvent : (before after : Counter) → Event → List Report → Type 0
TimesEvent before after e lines =
    (past : List Played) (p : Played) → IsEventPlayed e lines p → IsBefore before.placed past p.before
    → HasTimed before.times past → HasTimed after.times (past ++ p ∷ [])

-- the moment that a counter has come to
abbrev pub now_of : Counter → Moment
now_of c = record { event = c.events.all; ms = c.times.ms }

-- what became whole in this event, of which these lines are reported, was noted, after what was noted before it
abbrev pub NotesWholes : (before after : Counter) → List Device → Event → List Report → Type 0
NotesWholes before after boards e lines =
    BringsWholes before.wholes after.wholes before.placed (mote_of e) boards lines (now_of after)

-- These events were counted and timed, their frames counted, and noted what became whole, at this many motes, whose chips began
-- with these stores.
pub record IsSeenBy (counts : EventCounter) (times : Uptimes) (frames : FrameCounter) (wholes : Wholes) (placed : ℕ)
    (stores : List Store) (events : List Played) : Type 0 where
  pub counted : HasCounted counts events
  pub timed : HasTimed times events
  pub framed : HasFrames frames events
  pub noted : HasWholes wholes stores events
  pub told : LinesTell
  pub motes : placed ≡ length stores
  pub few : length stores ≤ most_motes

-- what methods of a counter keep that note an event
abbrev pub placement_of : Counter → Placement
placement_of c = record { motes = c.placed; formatted = c.formatted; ended = c.ended }

-- The counter has counted these events, at motes whose chips began with these stores, and no event has ended the replay. What it
-- was given of the boards with which the replay began is what they kept. The boards as they are now show the operations of these
-- events.
abbrev pub HasSeen : Counter → (initial now : List Device) → (stores : List Store) → (events : List Played) → Type 0
HasSeen c initial now stores events = ReadsBoards c.wholes.given.items initial
    × IsSeenBy c.events c.times c.frames c.wholes c.placed stores events
    × HaveMade (placement_of c) (length stores) now events

-- It has counted these events, and noted the one after them, a step that found no image to start in this world and ended the
-- replay. The boards show the operations of both.
abbrev pub HasSeenEnd : Counter → (initial now : List Device) → (stores : List Store) → (events : List Played) → World → Step
    → Type 0
HasSeenEnd c initial now stores events w step = ReadsBoards c.wholes.given.items initial
    × IsSeenBy c.events c.times c.frames c.wholes c.placed stores events
    × HaveEnded (placement_of c) (length stores) now events w step

-- what a counter saw
abbrev pub sight_of : Counter → (initial now : List Device) → Saw
sight_of c initial now = record {
  events = λ stores events. HasSeen c initial now stores events;
  ended = λ stores events w step. HasSeenEnd c initial now stores events w step;
}

-- Each event that was played was counted once, and no count wrapped.
pub record CountedRun (c : EventCounter) (played : List Played) : Type 0 where
  pub counted : HasCounted c played
  pub few : (m : ℕ) (test : Happened → Bool) → count_at m test played ≤ most_events
  pub few_all : count_all played ≤ most_events
  pub exact : (m : ℕ) (test : Happened → Bool) → told_count m test played ≡ count_at m test played
  pub exact_all : as_u64 (count_all played) ≡ count_all played

-- Since the boards were placed, the operations of what was played were made on the chips of the motes, by the tallies of then
-- and of now, and those of the event that ended the replay, if one is noted. Nothing is said of a board that is stopped.
pub record CountsOperations {table : List Row} {script : Script} (c : Counter) (boards : List Device)
    (came : Progress table script) : Type 0 where
  pub shown : AreTallies c.settled boards
  pub made : (m : ℕ) (b : Device) → m < c.placed → slice_get boards m ≡ Some b → b.stopped ≡ false
      → PartsRise (operations_at m (events_played came.played) + made_at_end c.ended came m) (counts_by c.formatted m)
      (counts_by c.settled m)

-- Each event that a replay played was counted, at as many motes as there are where its run begins, none before their boards are
-- used. An event that found no image to start was noted. The replay left these boards.
pub record CountedReplay {table : List Row} {script : Script} (ran : Status) (c : Counter) (boards : List Device)
    (came : Progress table script) : Type 0 where
  pub events : CountedRun c.events came.played
  pub times : HasTimed c.times (events_played came.played)
  pub frames : HasFrames c.frames (events_played came.played)
  pub wholes : HasWholes c.wholes (stores_in (beginning_of came.ground came.done).world) (events_played came.played)
  pub motes : c.placed ≡ length (stores_in (beginning_of came.ground came.done).world)
  pub few : c.placed ≤ most_motes
  pub ended : IsEndNoted ran came c.ended
  pub chips : CountsOperations c boards came
