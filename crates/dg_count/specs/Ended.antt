-- The event that found no image to start and ended the run, and the counts with it.
use Rattle.std.specs.Prelude.{ℕ, ◌+◌, ◌-◌, ◌^◌, ◌==◌, min, if◌then◌else◌, slice_index_or, Option, Some, None}
use Rattle.dg_base.specs.declared.events.Event.{Event}
use Rattle.dg_rules.specs.Events.{mote_of, dt_of}
use Rattle.dg_events.specs.Kinds.{event_number}
use Rattle.dg_events.specs.Uptimes.{with_end}
use Rattle.dg_events.specs.declared.uptime.Uptimes.{Uptimes}
use Rattle.dg_events.specs.Counters.{no_counts}
use Rattle.dg_events.specs.Noted.{up_at}
use Rattle.dg_events.specs.declared.event_counts.EventCounts.{EventCounts}
use Rattle.dg_events.specs.declared.event_counter.EventCounter.{EventCounter}
use Rattle.dg_count.specs.declared.place.EventPlace.{EventPlace}

-- the mote, the time step and the kind of an event
abbrev pub event_place : Event → EventPlace
event_place e = record { mote = mote_of e; dt = dt_of e; kind = event_number e }

-- ---- the counts

-- the event that found no image to start is counted by its kind at its mote
abbrev pub with_ended : Option EventPlace → ℕ → EventCounts → EventCounts
with_ended None mote c = c
with_ended (Some place) mote c = if place.mote == mote then record c { events = up_at place.kind c.events } else c

-- what was counted of the events at a mote
abbrev pub counts_at : Option EventPlace → EventCounter → ℕ → EventCounts
counts_at ended c mote = with_ended ended mote (slice_index_or c.motes mote no_counts)

-- how many events there were, with that one
abbrev pub all_until : Option EventPlace → (all : ℕ) → ℕ
all_until None all = all
all_until (Some place) all = min (all + 1) (2 ^ 64 - 1)

-- how long each mote was on, with that one
abbrev pub times_until : Option EventPlace → Uptimes → Uptimes
times_until None t = t
times_until (Some place) t = with_end t place.mote place.dt
