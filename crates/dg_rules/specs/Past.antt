-- The past of a step: the frames that were brought to motes, and the starts (docs/PROMISES.md, "The report and what it tells").
use Rattle.std.specs.Prelude.{ℕ, Bool, true, false, List, [], ◌∷◌, Option, Some, None, option_map}
use Rattle.dg_volume.specs.Start.{Runs}
use Rattle.dg_rules.specs.World.{World, Sent, frame_at, last_frame}
use Rattle.dg_rules.specs.Events.{Does, Refuses, Goes, does, mote_of}
use Rattle.dg_rules.specs.Steps.{blows}
use Rattle.dg_rules.specs.Legal.{Past, Begins, Came, Started}
use Rattle.dg_script.specs.Items.{Item, Declares, Applies}
use Rattle.dg_rules.specs.Runs.{Played}
use Rattle.dg_base.specs.declared.events.Event.{Event}
use Rattle.dg_base.specs.declared.events.Event.TheVariants.{Hear, Last, Frame}
use Rattle.dg_base.specs.declared.events.Step.{Step}

-- the frame that an event brings to its mote
abbrev pub brought : World → Event → Option (List ℕ)
brought w (Hear mote dt word frame) = option_map (λ (f : Sent). f.bytes) (frame_at w frame)
brought w (Last from to dt word) = option_map (λ (f : Sent). f.bytes) (last_frame w from)
brought w (Frame mote dt word bytes) = Some bytes
brought w event = None

-- ---- the past of what was played

abbrev pub came_then : Option (List ℕ) → ℕ → Past → Past
came_then None m past = past
came_then (Some bytes) m past = Came m bytes past

abbrev pub started_then : Option Runs → ℕ → Past → Past
started_then None m past = past
started_then (Some r) m past = Started m past

-- a start whose power was cut does not count
abbrev pub started_unless : Bool → Option Runs → Option Runs
started_unless true started = None
started_unless false started = started

-- what a step adds to it: nothing if its event is refused, and otherwise the frame that it brings and the start that it makes
abbrev pub past_by : Does → World → Step → Past → Past
past_by (Refuses why) w x past = past
past_by (Goes d) w x past =
    started_then (started_unless (blows x.cut d.trail) d.started)
    (mote_of x.event) (came_then (brought w x.event) (mote_of x.event) past)

abbrev pub past_item : Item → World → Past → Past
past_item (Declares row) w past = past
past_item (Applies step reported) w past = past_by (does w step.event) w step past

-- of what was played, the newest first
unfoldable pub past_of : List Played → Past
past_of [] = Begins
past_of (p ∷ ps) = past_item p.item p.before (past_of ps)
