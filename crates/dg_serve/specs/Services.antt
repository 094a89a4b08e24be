-- A service by the rules: motes over a link, by a clock, with the draws of a seed (docs/COMMANDS.md, "Serve").
use Rattle.std.specs.Prelude.{◌≡◌, ◌⊎◌, ℕ, ◌-◌, ◌^◌, ◌≤◌, min, if◌then◌else◌, List, [], ◌∷◌, ◌++◌, length, drop, Option}
use Rattle.std.specs.Prelude.{option_map}
use Rattle.rand_pcg.specs.Lcg.{Lcg}
use Rattle.rand_pcg.specs.Pcg.{pcg32}
use Rattle.dg_base.specs.Clock.{Answers, Answered}
use Rattle.dg_base.specs.declared.events.Event.{Event}
use Rattle.dg_base.specs.declared.events.Event.TheVariants.{Tick, Reset, Frame}
use Rattle.dg_link.specs.Inboxes.{Inboxes, TakesFrame, IsEmptyAt, delivered}
use Rattle.dg_rules.specs.World.{World, Sent}
use Rattle.dg_rules.specs.Steps.{WorldStep}
use Rattle.dg_script.specs.Ranges.{IsFrame}
use Rattle.dg_script.specs.Fitting.{IsTimed}
use Rattle.dg_script.specs.Places.{is_linked}
use Rattle.dg_script.specs.declared.report.Report.{Report}
use Rattle.dg_world.specs.Alone.{uncut}
use Rattle.dg_serve.specs.Each.{each}

-- ---- what is to be done

-- a mote powers on; it looks whether a frame came; it ticks
pub data Part : Type 0 where
  Begins : (mote : ℕ) → Part
  Looks : (mote : ℕ) → Part
  Ticks : (mote : ℕ) → Part

-- each mote begins, and then each looks and ticks once per turn, in ascending order
abbrev pub plan : (motes turns : ℕ) → List Part
plan motes turns =
    each motes (λ mote. Begins mote ∷ []) ++ each turns (λ turn. each motes (λ mote. Looks mote ∷ Ticks mote ∷ []))

-- ---- where a service is

pub record Moment : Type 0 where
  pub world : World
  -- the last answer of the clock, and its answers to come, where they are known
  pub reading : ℕ
  pub clock : Option Answers
  -- the draws to come
  pub draws : Lcg
  -- the frames that wait, if the link exposes them
  pub inboxes : Option Inboxes

-- Before an event the clock is read and a word is taken. Nothing else changes.
pub record ReadsClock (s : Moment) (dt word : ℕ) (t : Moment) : Type 0 where
  pub answer : ℕ
  pub rises : s.reading ≤ answer
  pub told : Answered s.clock t.clock answer
  pub dt_is : dt ≡ min (answer - s.reading) (2 ^ 32 - 1)
  pub draw_is : (word, t.draws) ≡ pcg32 s.draws
  pub fits : IsTimed dt word
  pub same : t ≡ record s { reading = answer; clock = t.clock; draws = t.draws }

-- ---- frames over the link

-- the neighbours of a mote, in ascending order
abbrev pub neighbours : World → (motes mote : ℕ) → List ℕ
neighbours w motes mote = each motes (λ other. if is_linked w.links mote other then other ∷ [] else [])

-- a frame is forwarded to these motes, one after the other
abbrev pub handed_to : List ℕ → List ℕ → Inboxes → Inboxes
handed_to [] bytes boxes = boxes
handed_to (m ∷ ms) bytes boxes = handed_to ms bytes (delivered m bytes boxes)

-- the frames that a step added, at most one
abbrev pub new_frames : (before after : World) → List Sent
new_frames before after = drop (length before.sent) after.sent

-- the inboxes after frames were forwarded, each to all neighbours of its mote, in ascending order
abbrev pub handed : World → ℕ → List Sent → Inboxes → Inboxes
handed w motes [] boxes = boxes
handed w motes (f ∷ fs) boxes = handed w motes fs (handed_to (neighbours w motes f.by) f.bytes boxes)

-- ---- one event

-- The event was applied at this moment, and what it sent was forwarded. The clock was not read, and no word was taken.
pub record Steps (motes : ℕ) (s : Moment) (event : Event) (t : Moment) : Type 0 where
  pub reports : List Report
  pub step : WorldStep s.world (uncut event) t.world reports
  pub same_reading : t.reading ≡ s.reading
  pub same_clock : t.clock ≡ s.clock
  pub same_draws : t.draws ≡ s.draws
  pub inboxes : t.inboxes ≡ option_map (handed t.world motes (new_frames s.world t.world)) s.inboxes

-- The clock was read, and the event of this time and word was applied.
pub record EventApplied (motes : ℕ) (s : Moment) (event : (dt word : ℕ) → Event) (done : List Event) (t : Moment) : Type 0 where
  pub dt : ℕ
  pub word : ℕ
  pub between : Moment
  pub reads : ReadsClock s dt word between
  pub one : done ≡ event dt word ∷ []
  pub steps : Steps motes between (event dt word) t

-- a frame of at most 64 bytes had come, the oldest that waits where that is known, and is heard
pub record OneCame (motes mote : ℕ) (s : Moment) (done : List Event) (t : Moment) : Type 0 where
  pub bytes : List ℕ
  pub fits : IsFrame bytes
  pub taken : Option Inboxes
  pub takes : TakesFrame mote bytes s.inboxes taken
  pub heard : EventApplied motes (record s { inboxes = taken }) (λ dt word. Frame mote dt word bytes) done t

-- A frame that came is heard. If none had come, nothing happens: the clock is not read, and no word is taken.
abbrev pub PartDone : (motes : ℕ) → Part → Moment → List Event → Moment → Type 0
PartDone motes (Begins m) s done t = EventApplied motes s (λ dt word. Reset m dt word) done t
PartDone motes (Looks m) s done t = (IsEmptyAt m s.inboxes × (done ≡ []) × (t ≡ s)) ⊎ OneCame motes m s done t
PartDone motes (Ticks m) s done t = EventApplied motes s (λ dt word. Tick m dt word) done t

-- these parts were done, one after the other, and gave these events
unfoldable pub PartsDone : (motes : ℕ) → Moment → List Part → List Event → Moment → Type 0
PartsDone motes s [] events t = (events ≡ []) × (t ≡ s)
PartsDone motes s (part ∷ parts) events t =
    (between : Moment) × (first : List Event) × (rest : List Event) × PartDone motes part s first between
    × (events ≡ first ++ rest) × PartsDone motes between parts rest t

-- how far a service got: the parts that were done, the events that they gave, and the parts that are left
pub record Course : Type 0 where
  pub done : List Part
  pub events : List Event
  pub left : List Part
