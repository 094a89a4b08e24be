-- How long motes are on (docs/COMMANDS.md, "What a script costs"), and what a clock of that has counted (the type `Uptimes`).
use Rattle.std.specs.Prelude.{◌≡◌, ℕ, ◌+◌, ◌-◌, ◌*◌, ◌^◌, ◌<◌, ◌≤◌, min, nat_lt, cond, Bool, true, false, if◌then◌else◌}
use Rattle.std.specs.Prelude.{List, [], ◌∷◌, length, slice_get, slice_set, slice_index_or, Some, is_some}
use Rattle.std.specs.List.{sum_by}
use Rattle.dg_rules.specs.World.{World, site}
use Rattle.dg_rules.specs.Events.{dt_of}
use Rattle.dg_rules.specs.Runs.{Played}
use Rattle.dg_rules.specs.Sizes.{most_motes, most_events}
use Rattle.dg_script.specs.Items.{Item, Declares, Applies}
use Rattle.dg_events.specs.Counts.{has_started}
use Rattle.dg_events.specs.Counters.{as_u64}
use Rattle.dg_events.specs.declared.told.Told.{Told}
use Rattle.dg_events.specs.declared.uptime.Uptime.{Uptime}
use Rattle.dg_events.specs.declared.uptime.Uptimes.{Uptimes}

-- ---- of a run

abbrev pub is_on : World → (mote : ℕ) → Bool
is_on w mote = is_some (site w mote).runs

-- the milliseconds from the event before to this one: a declaration takes none
abbrev pub ms_before : Item → ℕ
ms_before (Declares row) = 0
ms_before (Applies step reported) = dt_of step.event

-- the milliseconds of what was played
abbrev pub ms_of : List Played → ℕ
ms_of played = sum_by (λ (p : Played). ms_before p.item) played

-- of these, those in which a mote was on: it was on before the event at their end
abbrev pub ms_on : (mote : ℕ) → Played → ℕ
ms_on mote p = cond (is_on p.before mote) (ms_before p.item) 0

abbrev pub on_ms_of : (mote : ℕ) → List Played → ℕ
on_ms_of mote played = sum_by (ms_on mote) played

-- whether a mote is on after what was played: at first it is as told
abbrev pub on_from : (first : Bool) → (mote : ℕ) → List Played → Bool
on_from first mote [] = first
on_from first mote (p ∷ ps) = on_from (is_on p.after mote) mote ps

-- all motes are off at first
abbrev pub ends_on : (mote : ℕ) → List Played → Bool
ends_on mote played = on_from false mote played

-- ---- of the clock

abbrev pub never_on : Uptime
never_on = record { on = false; since = 0; before = 0 }

abbrev pub up_until : Uptime → (ms : ℕ) → ℕ
up_until u ms = if u.on then min (u.before + (ms - u.since)) (2 ^ 64 - 1) else u.before

abbrev pub with_start : Uptime → (ms : ℕ) → Uptime
with_start u ms = if u.on then u else record u { on = true; since = ms }

abbrev pub with_stop : Uptime → (ms : ℕ) → Uptime
with_stop u ms = record { on = false; since = u.since; before = up_until u ms }

-- after an event with this outcome
abbrev pub with_outcome : Told → Uptime → (ms : ℕ) → Uptime
with_outcome told u ms = if told.off then with_stop u ms else if has_started told.started then with_start u ms else u

-- the same among all motes
abbrev pub with_outcome_at : Told → (mote : ℕ) → List Uptime → (ms : ℕ) → List Uptime
with_outcome_at told mote motes ms = slice_set motes mote (with_outcome told (slice_index_or motes mote never_on) ms)

-- an event at one of this many motes, which came `dt` milliseconds later
abbrev pub with_time : Uptimes → (count mote dt : ℕ) → Told → Uptimes
with_time t count mote dt told = record {
  ms = as_u64 (t.ms + dt);
  motes = if nat_lt mote count then with_outcome_at told mote t.motes (as_u64 (t.ms + dt)) else t.motes;
}

-- after an event that came `dt` milliseconds later and left this mote off
abbrev pub with_end : Uptimes → (mote dt : ℕ) → Uptimes
with_end t mote dt =
    let ms = min (t.ms + dt) (2 ^ 64 - 1) in
    record { ms = ms; motes = slice_set t.motes mote (with_stop (slice_index_or t.motes mote never_on) ms) }

-- The mote is on at the end of what was played, or off, and was on for so long.
pub record IsUptime (mote ms : ℕ) (played : List Played) (u : Uptime) : Type 0 where
  pub on : u.on ≡ ends_on mote played
  pub since : u.since ≤ ms
  pub before : u.before ≤ cond u.on u.since ms
  pub until : up_until u ms ≡ on_ms_of mote played

-- The world before an event, at one of this many motes, after these events.
pub record IsBefore (count : ℕ) (past : List Played) (w : World) : Type 0 where
  pub on : (m : ℕ) → is_on w m ≡ ends_on m past
  pub motes : length w.sites ≡ count
  pub few_motes : count ≤ most_motes
  pub few : length past < most_events

-- The clock has counted what was played.
pub record HasTimed (t : Uptimes) (played : List Played) : Type 0 where
  pub few : length played ≤ most_events
  pub early : ms_of played ≤ length played * (2 ^ 32 - 1)
  pub ms : t.ms ≡ ms_of played
  pub motes : length t.motes ≡ most_motes
  pub each : (m : ℕ) (u : Uptime) → slice_get t.motes m ≡ Some u → IsUptime m t.ms played u
