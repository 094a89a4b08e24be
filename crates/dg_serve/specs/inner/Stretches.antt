-- Words of the parts of a service, for private contracts and proofs.
use Rattle.std.specs.Prelude.{ℕ, ◌-◌, ◌^◌, min, if◌then◌else◌, List, [], ◌∷◌, Option}
use Rattle.std.specs.Option.{MatchOption}
use Rattle.rand_pcg.specs.Lcg.{Lcg}
use Rattle.dg_base.specs.Clock.{Answers}
use Rattle.dg_base.specs.declared.events.Event.{Event}
use Rattle.dg_script.specs.Places.{is_linked}
use Rattle.dg_serve.specs.Each.{each}
use Rattle.dg_serve.specs.Services.{Part, Moment, Course, Begins, Looks, Ticks}
use Rattle.std.specs.Prelude.{◌≡◌}
use Rattle.dg_link.specs.Inboxes.{Inboxes}
use Rattle.dg_nor.specs.Device.{Device}
use Rattle.dg_volume.specs.Stands.{Stands, IsVolume, IsNoVolume}
use Rattle.dg_rules.specs.World.{World, store_at}
use Rattle.dg_serve.specs.Endings.{Remains}
use Rattle.std.specs.Prelude.{slice_get, Some}
use Rattle.dg_rules.specs.Events.{mote_of}
use Rattle.dg_outside.specs.Outside.{Outside}
use Rattle.dg_serve.specs.Endings.{ServedBoardsStand, StopLeaves}
use Rattle.dg_serve.specs.declared.stop.Stop.{Stop}

-- each mote powers on
abbrev pub beginning : ℕ → List Part
beginning motes = each motes (λ mote. Begins mote ∷ [])

-- each mote looks, and ticks
abbrev pub turn_of_all : ℕ → List Part
turn_of_all motes = each motes (λ mote. Looks mote ∷ Ticks mote ∷ [])

-- how much later an answer of the clock is, up to the most that an event can hold
abbrev pub later : (before after : ℕ) → ℕ
later before after = min (after - before) (2 ^ 32 - 1)

-- the clock answered this, which is not below its answer before
abbrev pub at_reading : Moment → ℕ → Option Answers → Lcg → Moment
at_reading s answer clock draws = record s { reading = answer; clock = clock; draws = draws }

-- the neighbours of a mote, in ascending order
abbrev pub neighbours_by : List (ℕ × ℕ) → (motes mote : ℕ) → List ℕ
neighbours_by links motes mote = each motes (λ other. if is_linked links mote other then other ∷ [] else [])

abbrev pub course : (done : List Part) (events : List Event) (left : List Part) → Course
course done events left = record { done = done; events = events; left = left }

-- A board stands for its store in the world. One that was not a volume has its bytes unchanged.
abbrev pub BoardStands : World → ℕ → (old new : Device) → Type 0
BoardStands w m a b = (IsVolume a.image → Stands b.image (store_at w m)) × (IsNoVolume a.image → b.image ≡ a.image)

abbrev pub remains : (boards : List Device) (inboxes : Option Inboxes) (clock : Option Answers) → Remains
remains boards inboxes clock = record { boards = boards; inboxes = inboxes; clock = clock }

-- the board of an event is a volume
abbrev pub IsAtVolume : List Device → Event → Type 0
IsAtVolume boards event = (board : Device) → slice_get boards (mote_of event) ≡ Some board → IsVolume board.image

-- how the boards, the link and the clock are left, by why the service ended before its turns were over, if it did
abbrev pub BoardsAfter : Option Stop → (motes : ℕ) → Moment → Course → (last : Moment) → List Device → Outside → Type 0
BoardsAfter why motes s c last first b =
    MatchOption why (ServedBoardsStand last.world first b.boards × (b.link.inboxes ≡ last.inboxes) × (b.clock ≡ last.clock))
    (λ stop. StopLeaves stop motes s c last first (remains b.boards b.link.inboxes b.clock))
