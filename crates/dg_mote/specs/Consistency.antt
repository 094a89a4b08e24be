-- Motes over consistent stores, whatever frames they hear (docs/PROMISES.md, "The report and what it tells").
use Rattle.std.specs.Prelude.{◌≡◌, ℕ, ◌<◌, ◌≤◌, List, length}
use Rattle.dg_nor.specs.Through.{Through}
use Rattle.dg_object.specs.Object.{Row}
use Rattle.dg_volume.specs.Sizes.{images}
use Rattle.dg_volume.specs.Store.{Store}
use Rattle.dg_volume.specs.Stands.{Stands}
use Rattle.dg_volume.specs.Consistent.{Consistent}
use Rattle.dg_mote.specs.Model.{MoteState, Mode, Maintain, Receive, Transmit, MoteStep}
use Rattle.dg_mote.specs.Motes.{IsMote}
use Rattle.dg_mote.specs.declared.mote.Mote.{Mote}

-- a mote asks for an image that a chip can keep, and not for golden
abbrev pub AsksForKnown : Mode → Type 0
AsksForKnown (Maintain timer) = Unit {0}
AsksForKnown (Receive r) = (1 ≤ r.image) × (r.image < images)
AsksForKnown (Transmit t) = Unit {0}

-- the store has a slot for each image, and is consistent
pub record StoreIsConsistent (golden : Row) (s : Store) : Type 0 where
  pub count : length s.kept ≡ images
  pub consistent : Consistent golden s

-- A step goes through such stores, and the mote then asks for a known image, if any.
pub record TurnIsConsistent {A : Type 0} (golden : Row) (step : MoteStep A) : Type 0 where
  pub way : Through (StoreIsConsistent golden) step.trail
  pub asks : AsksForKnown step.mote.mode

-- ---- a mote over the bytes of its chip

-- a chip of these bytes is consistent
pub record ChipIsConsistent (golden : Row) (c : List ℕ) : Type 0 where
  pub store : Store
  pub stands : Stands c store
  pub consistent : StoreIsConsistent golden store

-- a mote over such a chip, which asks for a known image, if any
pub record MoteIsConsistent (golden : Row) (c : List ℕ) (v : Mote) : Type 0 where
  pub state : MoteState
  pub store : Store
  pub stands : IsMote c v state store
  pub consistent : StoreIsConsistent golden store
  pub asks : AsksForKnown state.mode
