-- The rows of times in the counts of a run (docs/COMMANDS.md, "What a script costs").
use Rattle.std.specs.Prelude.{ℕ, ◌+◌, ◌-◌, ◌==◌, if◌then◌else◌, Bool, false, List, [], ◌∷◌, codes, Option, Some, None}
use Rattle.dg_rules.specs.Runs.{Played}
use Rattle.dg_events.specs.Counts.{count_all}
use Rattle.dg_events.specs.Uptimes.{ms_of, on_ms_of, ends_on, up_until}
use Rattle.dg_events.specs.declared.uptime.Uptime.{Uptime}
use Rattle.dg_count.specs.declared.place.EventPlace.{EventPlace}

abbrev pub rows_of_times : (on off : ℕ) → (is_on : Bool) → List (List ℕ × ℕ)
rows_of_times on off is_on =
    (codes "on.ms", on) ∷ (codes "off.ms", off) ∷ (codes "off.end", if is_on then 0 else 1) ∷ []

abbrev pub rows_of_power : Uptime → (ms : ℕ) → List (List ℕ × ℕ)
rows_of_power u ms = rows_of_times (up_until u ms) (ms - up_until u ms) u.on

abbrev pub rows_of_moment : (events ms : ℕ) → List (List ℕ × ℕ)
rows_of_moment events ms = (codes "run.events", events) ∷ (codes "run.ms", ms) ∷ []

-- ---- with the event that found no image to start and ended the run, if there is one

-- how many events there were
abbrev pub events_until : Option EventPlace → List Played → ℕ
events_until None events = count_all events
events_until (Some place) events = count_all events + 1

-- how many milliseconds they took
abbrev pub ms_until : Option EventPlace → List Played → ℕ
ms_until None events = ms_of events
ms_until (Some place) events = ms_of events + place.dt

-- of these, those in which a mote was on: it was on before the event at their end
abbrev pub on_ms_until : Option EventPlace → (mote : ℕ) → List Played → ℕ
on_ms_until None mote events = on_ms_of mote events
on_ms_until (Some place) mote events = on_ms_of mote events + (if ends_on mote events then place.dt else 0)

-- whether a mote is on at the end: the event left its mote off
abbrev pub on_until : Option EventPlace → (mote : ℕ) → List Played → Bool
on_until None mote events = ends_on mote events
on_until (Some place) mote events = if place.mote == mote then false else ends_on mote events

-- for how many milliseconds a mote was on and off, and whether it is off at the end
abbrev pub time_rows : Option EventPlace → (mote : ℕ) → List Played → List (List ℕ × ℕ)
time_rows ended mote events =
    let on = on_ms_until ended mote events in rows_of_times on (ms_until ended events - on) (on_until ended mote events)

-- how many events there were, and the moment of the last
abbrev pub moment_rows : Option EventPlace → List Played → List (List ℕ × ℕ)
moment_rows ended events = rows_of_moment (events_until ended events) (ms_until ended events)
