-- One more event in the counts of its mote (the type `EventCounts`).
use Rattle.std.specs.Prelude.{◌≡◌, ℕ, ◌+◌, Bool, true, false, ◌&&◌, List, slice_index, slice_set}
use Rattle.std.specs.Prelude.{Option, Some, None}
use Rattle.dg_rules.specs.Runs.{Played, ItemStep}
use Rattle.dg_base.specs.declared.events.Event.{Event}
use Rattle.dg_base.specs.declared.events.Cut.{Cut}
use Rattle.dg_script.specs.Items.{Applies}
use Rattle.dg_script.specs.declared.report.Cause.{Cause}
use Rattle.dg_script.specs.declared.report.Report.{Report}
use Rattle.dg_events.specs.Kinds.{event_number, cause_number}
use Rattle.dg_events.specs.Told.{Happened, happening}
use Rattle.dg_events.specs.Counts.{is_reset, is_tick, has_started}
use Rattle.dg_events.specs.Counters.{as_u64}
use Rattle.dg_events.specs.declared.told.Told.{Told}
use Rattle.dg_events.specs.declared.event_counts.EventCounts.{EventCounts}

-- one more
abbrev pub up : ℕ → ℕ
up n = as_u64 (n + 1)

abbrev pub up_if : Bool → ℕ → ℕ
up_if true n = up n
up_if false n = n

abbrev pub up_at : ℕ → List ℕ → List ℕ
up_at k counts = slice_set counts k (up (slice_index counts k))

abbrev pub up_for : Option ℕ → List ℕ → List ℕ
up_for None counts = counts
up_for (Some k) counts = up_at k counts

abbrev pub up_by_cause : Option Cause → List ℕ → List ℕ
up_by_cause None counts = counts
up_by_cause (Some cause) counts = up_at (cause_number cause) counts

-- the counts after an event with this outcome
abbrev pub with_event : EventCounts → Event → Told → EventCounts
with_event c event told = record {
  events = up_at (event_number event) c.events;
  refused = up_by_cause told.refused c.refused;
  cuts = up_if told.off c.cuts;
  by_power = up_if (is_reset event && has_started told.started) c.by_power;
  by_order = up_if (is_tick event && has_started told.started) c.by_order;
  cut_by_power = up_if (is_reset event && told.off) c.cut_by_power;
  of_image = up_for told.started c.of_image;
}

-- This event was played, with these lines reported of it.
pub record IsEventPlayed (e : Event) (lines : List Report) (p : Played) : Type 0 where
  pub cut : Option Cut
  pub reported : Bool
  pub item : p.item ≡ Applies (record { event = e; cut = cut }) reported
  pub step : ItemStep p.before p.item p.after p.reports
  pub told : p.reports ≡ lines

-- This event was played, with this outcome.
pub record IsOutcome (e : Event) (t : Told) (p : Played) : Type 0 where
  pub x : Happened
  pub is : happening p.item p.before ≡ Some x
  pub event : x.event ≡ e
  pub told : x.told ≡ t
