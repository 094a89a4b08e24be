-- A service of one mote over boards of which it has one: what the others are is left open (docs/COMMANDS.md, "One mote a
-- process").
use Rattle.std.specs.Prelude.{◌≡◌, ◌⊎◌, ℕ, ◌+◌, ◌^◌, ◌≤◌, Bool, List, [], ◌∷◌, length, slice_get, slice_set, Some, Result}
use Rattle.std.specs.Prelude.{Ok, Err}
use Rattle.dg_nor.specs.Device.{Device}
use Rattle.dg_serve.specs.Standings.{Standing, Stretch, StandsReady, IsUnderWay, PartsGoOn, stretch, ServedParts, PartsHalted}
use Rattle.dg_serve.specs.declared.stop.Stop.{Stop}
use Rattle.dg_serve.specs.Services.{Begins}
use Rattle.dg_single.specs.Plans.{turn_of, turns_of}

-- of these boards one is the mote's, and there is one for each mote
pub record Owns (motes mote : ℕ) (own : Device) (boards : List Device) : Type 0 where
  pub is : slice_get boards mote ≡ Some own
  pub enough : motes ≤ length boards

-- the same service over these boards
abbrev pub over : Standing → List Device → Standing
over p boards = record p { boards = boards }

-- a mote of a profile, and the links
pub record Seat : Type 0 where
  pub motes : ℕ
  pub mote : ℕ
  pub links : List (ℕ × ℕ)

abbrev pub seat : (motes mote : ℕ) → List (ℕ × ℕ) → Seat
seat motes mote links = record { motes = motes; mote = mote; links = links }

-- what a call does whatever the other boards are: the mote's board was `old` and is `new`
abbrev pub GoesOver : Result (Unit {0}) Stop → Seat → Stretch → (old new : Device) → Standing → Standing → Type 0
GoesOver r x parts old new p q = (boards : List Device) → Owns x.motes x.mote old boards
    → PartsGoOn r x.motes x.links parts (over p boards) (over q (slice_set boards x.mote new))

-- There are other boards over which it is under way: each mote began, though no other one runs.
pub record IsUnderWayOver (x : Seat) (limit : ℕ) (own : Device) (p : Standing) : Type 0 where
  pub boards : List Device
  pub owns : Owns x.motes x.mote own boards
  pub way : IsUnderWay x.motes x.links limit (over p boards)

-- what an answer says about the outcome
abbrev pub went_so : {T : Type 0} → Result T Stop → Result (Unit {0}) Stop
went_so (Ok x) = Ok tt
went_so (Err why) = Err why

-- a turn was played, in which the mote ticked or did not
abbrev pub TurnGoes : Result (Unit {0}) Stop → Seat → (old new : Device) → Standing → Standing → Type 0
TurnGoes r x old new p q = (boards : List Device) → Owns x.motes x.mote old boards
    → (ticked : Bool) × PartsGoOn r x.motes x.links (stretch x.motes x.motes (turn_of x.mote ticked)) (over p boards)
    (over q (slice_set boards x.mote new))

-- from this moment on no turn begins
abbrev pub latest_moment : ℕ
latest_moment = 2 ^ 58

-- It is ready, whatever the other boards are: the first motes powered on.
abbrev pub ReadyOver : Seat → (begun : ℕ) → (own : Device) → Standing → Type 0
ReadyOver x begun own p = (boards : List Device) → Owns x.motes x.mote own boards → StandsReady x.motes begun (over p boards)

-- Some of this many turns were played: all of them, if none stopped, unless it is late.
abbrev pub AllPlayed : Result (Unit {0}) Stop → (ticks : List Bool) → (turns moment : ℕ) → Type 0
AllPlayed (Ok u) ticks turns moment = (length ticks ≡ turns) ⊎ (latest_moment ≤ moment)
AllPlayed (Err why) ticks turns moment = Unit {0}

pub record TurnsGo (r : Result (Unit {0}) Stop) (x : Seat) (turns : ℕ) (p q : Standing) : Type 0 where
  pub ticks : List Bool
  pub few : length ticks ≤ turns
  pub goes : PartsGoOn r x.motes x.links (stretch x.motes x.motes (turns_of x.mote ticks)) p q
  pub all : AllPlayed r ticks turns q.service.timeline.moment

-- The mote powered on, and then this many turns were played.
pub record BeganAndGoes (r : Result (Unit {0}) Stop) (x : Seat) (turns : ℕ) (p q : Standing) : Type 0 where
  pub between : Standing
  pub begins : ServedParts x.motes x.mote (x.mote + 1) x.links (Begins x.mote ∷ []) p between
  pub turns_go : TurnsGo r x turns between q

-- or a stop came first
abbrev pub RunGoes : Result (Unit {0}) Stop → Seat → (turns : ℕ) → Standing → Standing → Type 0
RunGoes (Ok u) x turns p q = BeganAndGoes (Ok u) x turns p q
RunGoes (Err why) x turns p q =
    PartsHalted why x.motes x.mote x.links (Begins x.mote ∷ []) p q ⊎ BeganAndGoes (Err why) x turns p q
