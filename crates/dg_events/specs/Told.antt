-- The outcome of an event by the rules, and by the lines that are reported of it (docs/SCRIPTS.md, "The report").
use Rattle.std.specs.Prelude.{ℕ, Bool, true, false, List, Option, Some, None, option_map, fold}
use Rattle.dg_volume.specs.Start.{Runs}
use Rattle.dg_rules.specs.World.{World, wide_at}
use Rattle.dg_rules.specs.Events.{Does, Refuses, Goes, does, mote_of}
use Rattle.dg_rules.specs.Steps.{blows}
use Rattle.dg_rules.specs.Past.{started_unless, brought}
use Rattle.dg_script.specs.Items.{Item, Declares, Applies}
use Rattle.dg_base.specs.declared.events.Cut.{Cut}
use Rattle.dg_base.specs.declared.events.Event.{Event}
use Rattle.dg_base.specs.declared.events.Step.{Step}
use Rattle.dg_script.specs.declared.report.Report.{Report}
use Rattle.dg_script.specs.declared.report.Report.TheVariants.{Order, Lost, Have, Start, Off, SentAdvert, SentRequest, SentData}
use Rattle.dg_script.specs.declared.report.Report.TheVariants.{Refused, Taken, End, MoteOn, MoteOff, Kept}
use Rattle.dg_events.specs.declared.told.Told.{Told}

-- ---- by the rules

-- A cut fired in the event, or it started this image, if any.
abbrev pub came_by : Bool → Option Runs → Told
came_by fired started = record {
  refused = None;
  off = fired;
  started = option_map (λ (r : Runs). r.image) (started_unless fired started);
}

-- the same, or it is refused by this cause
abbrev pub came_of : Does → Option Cut → Told
came_of (Refuses why) cut = record { refused = Some why; off = false; started = None }
came_of (Goes d) cut = came_by (blows cut d.trail) d.started

-- An event that was played, with its outcome, the frame that it brought to its mote, if any, and whether that mote is wide.
pub record Happened : Type 0 where
  pub event : Event
  pub told : Told
  pub brought : Option (List ℕ)
  pub wide : Bool

abbrev pub happened : World → Step → Happened
happened w step = record {
  event = step.event;
  told = came_of (does w step.event) step.cut;
  brought = brought w step.event;
  wide = wide_at w (mote_of step.event);
}

-- the event of an item, if it is one: a declaration is not an event
abbrev pub happening : Item → World → Option Happened
happening (Declares row) w = None
happening (Applies step reported) w = Some (happened w step)

-- ---- by the report

abbrev pub nothing_told : Told
nothing_told = record { refused = None; off = false; started = None }

-- the outcome so far, with what one more line says
abbrev pub and_line : Told → Report → Told
and_line told (Refused mote cause) = record told { refused = Some cause }
and_line told (Off mote) = record told { off = true }
and_line told (Start mote image version length crc) = record told { started = Some image }
and_line told (Order mote number image version) = told
and_line told (Lost mote image) = told
and_line told (Have mote image version pages) = told
and_line told (SentAdvert mote) = told
and_line told (SentRequest mote to image version page count) = told
and_line told (SentData mote image version page packet) = told
and_line told (Taken image version) = told
and_line told (End events) = told
and_line told (MoteOn mote image version) = told
and_line told (MoteOff mote) = told
and_line told (Kept mote image version pages) = told

-- the outcome of an event, by the lines that are reported of it
abbrev pub told_by : List Report → Told
told_by reports = fold and_line nothing_told reports
