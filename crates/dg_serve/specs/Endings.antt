-- How a service leaves its boards, its link and its clock, where it ends (docs/COMMANDS.md, "Serve").
use Rattle.std.specs.Prelude.{◌≡◌, ◌⊎◌, ℕ, ◌<◌, ◌≤◌, true, List, [], ◌∷◌, ◌++◌, length, take, slice_get, slice_index_or, Option}
use Rattle.std.specs.Prelude.{Some, option_map}
use Rattle.dg_base.specs.Clock.{Answers}
use Rattle.dg_base.specs.declared.events.Event.{Event}
use Rattle.dg_base.specs.declared.events.Event.TheVariants.{Tick, Reset, Frame}
use Rattle.dg_link.specs.Inboxes.{Inboxes, TakesFrame}
use Rattle.dg_nor.specs.Device.{Device}
use Rattle.dg_nor.specs.Trail.{operations, MayLeave}
use Rattle.dg_object.specs.Object.{Row}
use Rattle.dg_volume.specs.Store.{Store, IsNear}
use Rattle.dg_volume.specs.Stands.{Stands, IsVolume, IsNoVolume}
use Rattle.dg_script.specs.Places.{none_narrow}
use Rattle.dg_end.specs.declared.ends.End.{End}
use Rattle.dg_end.specs.declared.ends.End.TheVariants as ends
use Rattle.dg_rules.specs.World.{World, Sent, first_world, store_at, no_site}
use Rattle.dg_rules.specs.Events.{does, mote_of, trail_of}
use Rattle.dg_rules.specs.Steps.{EndsRun}
use Rattle.dg_script.specs.Ranges.{IsFrame}
use Rattle.dg_world.specs.Alone.{uncut, IsReset}
use Rattle.dg_seed.specs.Draws.{first_generator}
use Rattle.dg_serve.specs.Services.{Part, Begins, Looks, Ticks, Moment, ReadsClock, PartDone, PartsDone, Course, new_frames}
use Rattle.dg_serve.specs.Services.{handed_to, neighbours}
use Rattle.dg_serve.specs.declared.stop.Stop.{Stop}
use Rattle.dg_serve.specs.declared.stop.Stop.TheVariants.{Memory, Write, Link, Flash, NotAVolume, NoImage}

-- ---- where a service begins

-- What the boards stand for, one for each mote. A board that is not a volume stands for any store.
pub record StoresOf (motes : ℕ) (boards : List Device) (stores : List Store) : Type 0 where
  pub count : length stores ≡ motes
  pub stands : (m : ℕ) (d : Device) → m < motes → slice_get boards m ≡ Some d
      → Stands d.image (slice_index_or stores m no_site.store) ⊎ IsNoVolume d.image

-- wide motes begin from these stores, at this first answer of the clock
abbrev pub begins : List Row → List (ℕ × ℕ) → List Store → (origin : ℕ) → Option Answers → (seed : ℕ) → Option Inboxes → Moment
begins table links stores origin clock seed inboxes =
    let w = first_world table links none_narrow stores in
    record { world = w; reading = origin; clock = clock; draws = first_generator seed; inboxes = inboxes }

-- ---- boards

-- Each board stands so, except those for which P holds.
abbrev pub BoardsStandBut : (ℕ → Type 0) → World → (old new : List Device) → Type 0
BoardsStandBut P w old new = (m : ℕ) (a b : Device) → m < length w.sites → (P m → ⊥) → slice_get old m ≡ Some a
    → slice_get new m ≡ Some b → (IsVolume a.image → Stands b.image (store_at w m)) × (IsNoVolume a.image → b.image ≡ a.image)

-- All boards stand so.
abbrev pub ServedBoardsStand : World → (old new : List Device) → Type 0
ServedBoardsStand w old new = BoardsStandBut (λ m. ⊥) w old new

-- A board stopped in an event, and stands for a store that the event's trail leaves after `made` operations. One that was not
-- a volume has its bytes unchanged.
pub record StopsInEvent (w : World) (event : Event) (old new : List Device) : Type 0 where
  pub before : Device
  pub after : Device
  pub was : slice_get old (mote_of event) ≡ Some before
  pub is : slice_get new (mote_of event) ≡ Some after
  pub stopped : after.stopped ≡ true
  pub leaves : IsVolume before.image → (made : ℕ) × (made ≤ operations (trail_of (does w event) (store_at w (mote_of event))))
      × MayLeave Stands IsNear (trail_of (does w event) (store_at w (mote_of event))) made after.image
  pub same : IsNoVolume before.image → after.image ≡ before.image
  pub others : BoardsStandBut (λ m. m ≡ mote_of event) w old new

-- The board of a mote that was to begin is not a volume.
pub record FindsNoVolume (w : World) (event : Event) (old new : List Device) : Type 0 where
  pub reset : IsReset event
  pub board : Device
  pub was : slice_get old (mote_of event) ≡ Some board
  pub no_volume : IsNoVolume board.image
  pub boards : ServedBoardsStand w old new

-- A start found no image: the board has the last store of the start's trail.
pub record FindsNoImage (w : World) (event : Event) (old new : List Device) : Type 0 where
  pub world : World
  pub ends : EndsRun w (uncut event) world
  pub boards : ServedBoardsStand world old new

-- how an event that was not applied leaves the boards
abbrev pub EventEnds : Stop → World → Event → (old new : List Device) → Type 0
EventEnds Memory w event old new = ServedBoardsStand w old new
EventEnds Flash w event old new = StopsInEvent w event old new
EventEnds NotAVolume w event old new = FindsNoVolume w event old new
EventEnds NoImage w event old new = FindsNoImage w event old new
EventEnds stop w event old new = ⊥

-- the event of a part at these numbers, where a frame of these bytes came
abbrev pub event_of : Part → (dt word : ℕ) → List ℕ → Event
event_of (Begins m) dt word bytes = Reset m dt word
event_of (Looks m) dt word bytes = Frame m dt word bytes
event_of (Ticks m) dt word bytes = Tick m dt word

-- ---- what is left

-- the boards, the frames that wait, if the link exposes them, and the answers of the clock to come
pub record Remains : Type 0 where
  pub boards : List Device
  pub inboxes : Option Inboxes
  pub clock : Option Answers

-- what an event takes from the link before it is applied: the frame that is heard, and else nothing
abbrev pub TakesFor : Event → Option Inboxes → Option Inboxes → Type 0
TakesFor (Frame mote dt word bytes) before after = TakesFrame mote bytes before after
TakesFor event before after = after ≡ before

-- The event in which the service ended was not applied. It is that of the next part: the clock was read and a word was taken
-- for it, and it has the bytes of the frame that was received, if one was.
pub record EndsInNext (stop : Stop) (s : Moment) (left : List Part) (old : List Device) (new : Remains) : Type 0 where
  pub part : Part
  pub rest : List Part
  pub is : left ≡ part ∷ rest
  pub bytes : List ℕ
  pub fits : IsFrame bytes
  pub dt : ℕ
  pub word : ℕ
  pub after : Moment
  pub reads : ReadsClock s dt word after
  pub takes : TakesFor (event_of part dt word bytes) s.inboxes new.inboxes
  pub clock : new.clock ≡ after.clock
  pub ends : EventEnds stop s.world (event_of part dt word bytes) old new.boards

-- A mote received a frame for which there was no memory. The clock was not read, and nothing else was done.
pub record LosesFrame (s : Moment) (left : List Part) (old : List Device) (new : Remains) : Type 0 where
  pub mote : ℕ
  pub rest : List Part
  pub is : left ≡ Looks mote ∷ rest
  pub bytes : List ℕ
  pub takes : TakesFrame mote bytes s.inboxes new.inboxes
  pub clock : new.clock ≡ s.clock
  pub boards : ServedBoardsStand s.world old new.boards

-- The last event found the link like this: all that the events before it sent was forwarded, and the frame that it hears is
-- taken.
pub record FoundBy (motes : ℕ) (s : Moment) (done : List Part) (events : List Event) (last : Moment)
    (found : Option Inboxes) : Type 0 where
  pub earlier : List Part
  pub part : Part
  pub parts_are : done ≡ earlier ++ part ∷ []
  pub written : List Event
  pub event : Event
  pub events_are : events ≡ written ++ event ∷ []
  pub before : Moment
  pub serves : PartsDone motes s earlier written before
  pub applied : PartDone motes part before (event ∷ []) last
  pub takes : TakesFor event before.inboxes found

-- The frame of the event between these worlds was forwarded to the first k neighbours only.
pub record HandedToFirst (motes : ℕ) (before after : World) (old new : Option Inboxes) : Type 0 where
  pub frame : Sent
  pub sent : new_frames before after ≡ frame ∷ []
  pub k : ℕ
  pub some : new ≡ option_map (handed_to (take k (neighbours after motes frame.by)) frame.bytes) old

-- The frame of the last event was forwarded to the first k neighbours only.
pub record PartlyHanded (motes : ℕ) (s : Moment) (done : List Part) (events : List Event) (last : Moment)
    (after : Option Inboxes) : Type 0 where
  pub found : Option Inboxes
  pub by : FoundBy motes s done events last found
  pub first : HandedToFirst motes by.before.world last.world found after

-- how a service that stopped ends
abbrev pub end_of_stop : Stop → End
end_of_stop Memory = ends.Memory
end_of_stop Write = ends.WriteFault
end_of_stop Link = ends.LinkFault
end_of_stop Flash = ends.FlashFault
end_of_stop NotAVolume = ends.NotAVolume
end_of_stop NoImage = ends.NoImage

-- What a stop leaves after these parts were done from this moment on, and gave these events. Where a line could not be
-- written, nothing of its event was forwarded. Where no image or no volume was found, no frame was taken.
abbrev pub StopLeaves : Stop → (motes : ℕ) → Moment → Course → (last : Moment) → (old : List Device) → (new : Remains) → Type 0
StopLeaves Memory motes s c last old new = LosesFrame last c.left old new ⊎ EndsInNext Memory last c.left old new
StopLeaves Write motes s c last old new =
    ServedBoardsStand last.world old new.boards × FoundBy motes s c.done c.events last new.inboxes × (new.clock ≡ last.clock)
StopLeaves Link motes s c last old new = ServedBoardsStand last.world old new.boards
    × ((new.inboxes ≡ last.inboxes) ⊎ PartlyHanded motes s c.done c.events last new.inboxes) × (new.clock ≡ last.clock)
StopLeaves Flash motes s c last old new = EndsInNext Flash last c.left old new
StopLeaves NotAVolume motes s c last old new = EndsInNext NotAVolume last c.left old new × (new.inboxes ≡ last.inboxes)
StopLeaves NoImage motes s c last old new = EndsInNext NoImage last c.left old new × (new.inboxes ≡ last.inboxes)
