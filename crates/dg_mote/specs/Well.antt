-- Motes that agree with a table and are timely, and what keeps them so (docs/PROMISES.md, "The report and what it tells").
use Rattle.std.specs.Prelude.{◌≡◌, ℕ, List, length, Option, Ok, IfSome, IsSomeAnd}
use Rattle.dg_nor.specs.Trail.{last}
use Rattle.dg_nor.specs.Through.{Through}
use Rattle.dg_object.specs.Object.{Row}
use Rattle.dg_volume.specs.Sizes.{images}
use Rattle.dg_volume.specs.Store.{Store}
use Rattle.dg_volume.specs.Start.{app_of}
use Rattle.dg_volume.specs.Agreement.{HoldsRow, Agrees}
use Rattle.dg_frame.specs.declared.Message.{Message}
use Rattle.dg_mote.specs.Model.{MoteState, MoteStep}
use Rattle.dg_mote.specs.Effects.{Effect}
use Rattle.dg_mote.specs.Timely.{Timely}
use Rattle.dg_mote.specs.Agreement.{ModeAgrees, HonestMessage}

-- the store has a slot for each image, and agrees
pub record StoreIsWell (table : List Row) (s : Store) : Type 0 where
  pub count : length s.kept ≡ images
  pub agrees : Agrees table s

-- a mote over its store
pub record IsWell (table : List Row) (m : MoteState) (s : Store) (now : ℕ) : Type 0 where
  pub store : StoreIsWell table s
  pub mode : ModeAgrees table s m.mode
  pub timely : Timely m now

-- what is sent, if anything, is honest
abbrev pub SendsHonest : List Row → Option Message → Type 0
SendsHonest table sent = IfSome sent (λ message. HonestMessage table (Ok message))

-- A step goes through such stores, and leaves such a mote.
pub record TurnIsWell {A : Type 0} (table : List Row) (step : MoteStep A) (now : ℕ) : Type 0 where
  pub way : Through (StoreIsWell table) step.trail
  pub mote : IsWell table step.mote (last step.trail) now
  pub sent : SendsHonest table step.sent

-- An event does the same. If it starts the chip, there is an image to start, and it is a row of the table.
pub record EffectIsWell (table : List Row) (e : Effect) (now : ℕ) : Type 0 where
  pub way : Through (StoreIsWell table) e.trail
  pub mote : IsSomeAnd e.mote (λ m. IsWell table m (last e.trail) now)
  pub started : IfSome e.started (λ r. HoldsRow table (app_of r))
  pub sent : SendsHonest table e.sent
