-- How many events of a run there were at a mote, by their outcomes (docs/COMMANDS.md, "What a script costs").
use Rattle.std.specs.Prelude.{ℕ, ◌==◌, ◌&&◌, Bool, true, false, List, Option, Some, None, is_some, count_by}
use Rattle.dg_rules.specs.Events.{mote_of}
use Rattle.dg_rules.specs.Runs.{Played}
use Rattle.dg_base.specs.declared.events.Event.{Event}
use Rattle.dg_base.specs.declared.events.Event.TheVariants.{Tick, Hear, Last, Reset, Inject, Order as OrderEvent, Frame}
use Rattle.dg_script.specs.declared.report.Cause.{Cause}
use Rattle.dg_events.specs.Kinds.{event_number, cause_number}
use Rattle.dg_events.specs.Told.{Happened, happening}

-- an event that passes a test
abbrev pub passes : (Happened → Bool) → Option Happened → Bool
passes test None = false
passes test (Some x) = test x

-- an event at this mote that passes a test
abbrev pub at : (mote : ℕ) → (Happened → Bool) → Happened → Bool
at mote test x = (mote_of x.event == mote) && test x

-- how many events at a mote pass a test
abbrev pub count_at : (mote : ℕ) → (Happened → Bool) → List Played → ℕ
count_at mote test played = count_by (λ (p : Played). passes (at mote test) (happening p.item p.before)) played

-- how many events there are, refused ones included
abbrev pub count_all : List Played → ℕ
count_all played = count_by (λ (p : Played). is_some (happening p.item p.before)) played

-- ---- tests

-- an event of a kind, refused or not
abbrev pub has_kind : (kind : ℕ) → Happened → Bool
has_kind kind x = event_number x.event == kind

abbrev pub is_cause : (number : ℕ) → Option Cause → Bool
is_cause number None = false
is_cause number (Some cause) = cause_number cause == number

-- an event that is refused by a cause
abbrev pub is_refused : (cause : ℕ) → Happened → Bool
is_refused number x = is_cause number x.told.refused

-- an event in which a cut fired
abbrev pub is_cut : Happened → Bool
is_cut x = x.told.off

abbrev pub is_reset : Event → Bool
is_reset (Reset mote dt word) = true
is_reset (Tick mote dt word) = false
is_reset (Hear mote dt word frame) = false
is_reset (Last from to dt word) = false
is_reset (Inject mote image version dt word) = false
is_reset (OrderEvent mote number image version dt word) = false
is_reset (Frame mote dt word bytes) = false

abbrev pub is_tick : Event → Bool
is_tick (Tick mote dt word) = true
is_tick (Reset mote dt word) = false
is_tick (Hear mote dt word frame) = false
is_tick (Last from to dt word) = false
is_tick (Inject mote image version dt word) = false
is_tick (OrderEvent mote number image version dt word) = false
is_tick (Frame mote dt word bytes) = false

abbrev pub has_started : Option ℕ → Bool
has_started None = false
has_started (Some image) = true

-- a successful start of a Reset
abbrev pub is_start_by_power : Happened → Bool
is_start_by_power x = is_reset x.event && has_started x.told.started

-- a successful restart in a Tick
abbrev pub is_start_by_order : Happened → Bool
is_start_by_order x = is_tick x.event && has_started x.told.started

-- the start of a Reset in which a cut fired
abbrev pub is_cut_start_by_power : Happened → Bool
is_cut_start_by_power x = is_reset x.event && x.told.off

abbrev pub is_image : (number : ℕ) → Option ℕ → Bool
is_image number None = false
is_image number (Some image) = image == number

-- a successful start after which this image runs
abbrev pub is_start_of : (image : ℕ) → Happened → Bool
is_start_of number x = is_image number x.told.started
