-- What a watcher of a replay is shown (docs/PROMISES.md, "The report and what it tells").
use Rattle.std.specs.Prelude.{◌≡◌, ℕ, ◌<◌, ◌≤◌, Bool, false, List, [], ◌∷◌, ◌++◌, length, map, replicate, slice_get, Option}
use Rattle.std.specs.Prelude.{Some, None, Ok}
use Rattle.std.specs.List.{filter}
use Rattle.dg_nor.specs.Device.{Device, MadeMore}
use Rattle.dg_base.specs.declared.events.Cut.{Cut as PowerCut}
use Rattle.dg_base.specs.declared.events.Event.{Event}
use Rattle.dg_base.specs.declared.events.Step.{Step}
use Rattle.dg_object.specs.Object.{Row}
use Rattle.dg_volume.specs.Shaped.{IsShaped}
use Rattle.dg_volume.specs.Stands.{Stands}
use Rattle.dg_volume.specs.Store.{Store, fresh}
use Rattle.dg_script.specs.Items.{Item, Applies}
use Rattle.dg_rules.specs.Begins.{store_of}
use Rattle.dg_rules.specs.Events.{mote_of}
use Rattle.dg_rules.specs.Made.{made_in}
use Rattle.dg_rules.specs.Runs.{Played, Plays, ItemStep}
use Rattle.dg_rules.specs.Sizes.{most_motes, most_events}
use Rattle.dg_rules.specs.Steps.{EndsRun}
use Rattle.dg_rules.specs.World.{World, first_world, store_at}
use Rattle.dg_world.specs.Applied.{SameBoards, OneBoard, MadeOn}
use Rattle.dg_world.specs.Applying.{ApplyDone, IsOf, step_of}
use Rattle.dg_world.specs.Counts.{AreAwake, AreSteady}
use Rattle.dg_world.specs.Deployments.{Deployment}
use Rattle.dg_world.specs.Mounted.{StandFor}
use Rattle.dg_replay.specs.Items.{is_event}

-- What a watcher saw.
pub record Saw : Type 1 where
  -- the motes' chips began with these stores, none before the boards are used, these are the events since then, and no event has
  -- ended the replay
  pub events : (stores : List Store) → (events : List Played) → Type 0
  -- after these events, in this world, this step found no image to start, which ended the replay
  pub ended : (stores : List Store) → (events : List Played) → (world : World) → (step : Step) → Type 0

-- nothing is said of what a watcher saw
abbrev pub unseen : Saw
unseen = record { events = λ stores events. Unit {0}; ended = λ stores events world step. Unit {0} }

-- the events among what was played
abbrev pub events_played : List Played → List Played
events_played played = filter (λ p. is_event p.item) played

-- the stores of the motes of a world, none before there is one
abbrev pub stores_in : Option World → List Store
stores_in None = []
stores_in (Some w) = map (λ x. x.store) w.sites

-- ---- the boards

-- The boards of this many motes are used from now on. They are not stopped, and stand for these stores, each in its shape. If
-- they were formatted with this many commits counted as spent, they are fresh. If they are used as they are, the boards with
-- which the replay began were only read.
pub record IsPlaced (motes : ℕ) (used : Option ℕ) (initial boards : List Device) (stores : List Store) : Type 0 where
  pub some : 1 ≤ motes
  pub few : motes ≤ most_motes
  pub enough : motes ≤ length boards
  pub stand : StandFor motes stores boards
  pub formatted : (n : ℕ) → used ≡ Some n → (name : List ℕ) × (content : List ℕ)
      × (stores ≡ replicate motes (fresh name content n))
  pub shaped : used ≡ None → (m : ℕ) → m < motes → IsShaped (store_of stores m)
  pub same : used ≡ None → SameBoards initial boards

-- Nothing was made on the boards of this many motes since, except on one that is stopped.
pub record HaveRested (motes : ℕ) (old new : List Device) : Type 0 where
  pub count : length new ≡ length old
  pub rests : (m : ℕ) (a b : Device) → m < motes → slice_get old m ≡ Some a → slice_get new m ≡ Some b → b.stopped ≡ false
      → (a.stopped ≡ false) × MadeMore 0 a.made b.made

-- ---- events

-- These are the events of a run that leads from these stores to a world.
pub record LeadTo (stores : List Store) (events : List Played) (w : World) : Type 0 where
  pub table : List Row
  pub links : List (ℕ × ℕ)
  pub narrow : List Bool
  pub played : List Played
  pub run : Plays (first_world table links narrow stores) played w
  pub are : events ≡ events_played played
  pub motes : length w.sites ≡ length stores
  pub counted : w.events ≡ length events

-- An event was applied, which left this world with its boards, none of which is stopped, and these lines are reported of it.
pub record IsApplied (p : Played) (event : Event) (reported : Bool) (after : Deployment) : Type 0 where
  pub cut : Option PowerCut
  pub item : p.item ≡ Applies (step_of event cut) reported
  pub told : p.reports ≡ after.reported
  pub step : ItemStep p.before p.item p.after p.reports
  pub few : p.after.events ≤ most_events
  pub before : Deployment
  pub was : IsOf before p.before
  pub none : before.reported ≡ []
  pub stands : IsOf after p.after
  pub awake : AreAwake (length p.after.sites) after.boards
  -- everything else that is promised of applying it
  pub done : ApplyDone (Ok tt) (step_of event cut) reported before after

-- An event found no image to start. The boards stand for the world in which the run ends, and none is stopped. No board but that
-- of the event's mote was used, and the operations of the event's trail were made on it.
pub record IsEnding (w : World) (event : Event) (boards : List Device) : Type 0 where
  pub few : w.events < most_events
  pub cut : Option PowerCut
  pub after : World
  pub ends : EndsRun w (step_of event cut) after
  pub stand : (m : ℕ) (d : Device) → m < length after.sites → slice_get boards m ≡ Some d → Stands d.image (store_at after m)
  pub awake : AreAwake (length after.sites) boards
  -- the boards before it
  pub before : List Device
  pub one : OneBoard (mote_of event) before boards
  pub calm : AreSteady before boards
  pub made : MadeOn (mote_of event) (made_in w (step_of event cut)) before boards

-- ---- runs that continue

-- what was seen before is what is seen after
abbrev pub StaysSeen : (before after : Saw) → Type 0
StaysSeen before after = (stores : List Store) (events : List Played) → before.events stores events
    → after.events stores events

-- a watcher that was shown nothing since the motes' chips began was shown nothing still
abbrev pub StaysUnshown : (before after : Saw) → Type 0
StaysUnshown before after = before.events [] [] → after.events [] []

-- a watcher was shown what was played from this world on
abbrev pub Shows : (before after : Saw) → World → List Played → Type 0
Shows before after w played = (stores : List Store) (events : List Played) → LeadTo stores events w
    → before.events stores events → after.events stores (events ++ events_played played)

-- what a watcher saw while a replay goes on, wherever in a line it is
abbrev pub going_on : Saw → (last : Option World) → (left : List Item) → Saw
going_on saw last left = saw

-- what a watcher saw of the events before the end, where the replay ended in this world since the first of these items, an event,
-- found no image to start
abbrev pub ended_saw : Saw → (last : Option World) → (left : List Item) → Saw
ended_saw saw (Some w) (Applies step reported ∷ left) =
    record { events = λ stores events. saw.ended stores events w step; ended = λ stores events world step. ⊥ }
ended_saw saw last left = record { events = λ stores events. ⊥; ended = λ stores events world step. ⊥ }

-- if what was played from the beginning of one run was seen, what was played from the beginning of another is seen too
abbrev pub GoesOnSeen : (before after : Saw) → (from : Option World) → (played : List Played) → (on : Option World)
    → (now : List Played) → Type 0
GoesOnSeen before after from played on now = before.events (stores_in from) (events_played played)
    → after.events (stores_in on) (events_played now)
