-- What the call of a base mote did over one chip (docs/COMMANDS.md, "Base").
use Rattle.std.specs.Prelude.{List, take}
use Rattle.std.specs.List.{AllByRecursion}
use Rattle.dg_base.specs.Sizes.{most_input}
use Rattle.dg_base.specs.declared.answers.Status.{Status}
use Rattle.dg_nor.specs.Device.{Device}
use Rattle.dg_object.specs.Object.{Row, IsRow}
use Rattle.dg_volume.specs.Store.{Store}
use Rattle.dg_volume.specs.Stands.{Stands, IsNoVolume}
use Rattle.dg_volume.specs.Table.{IsTable}
use Rattle.dg_mote.specs.Well.{StoreIsWell}
use Rattle.dg_mote.specs.Consistency.{StoreIsConsistent}
use Rattle.dg_outside.specs.Outside.{Outside}
use Rattle.dg_serial_base.specs.BaseEvents.{Base, base_events_of}
use Rattle.dg_serial_base.specs.Based.{Based, Refused, BaseCauses}
use Rattle.dg_serial_base.specs.Agreeing.{HonestBaseEvent}
use Rattle.dg_serial_base.specs.Consistency.{BaseStaysConsistent}

-- a base mote played its line over one chip
pub record BasedOn (b : Base) (status : Status) (old new : Device) (x y : Outside) : Type 0 where
  -- from a chip that is a volume, by the rules
  pub based : (s : Store) → Stands old.image s → Based status b s old new x y
  -- one that is not a volume is left unchanged
  pub refused : IsNoVolume old.image → Refused status old new x y
  pub causes : BaseCauses status old new x y
  -- with honest frames a chip that agrees with a table of images agrees with it after the line, however it ended
  pub agrees : (s : Store) (table : List Row) (z : Based status b s old new x y) → IsTable table → StoreIsWell table s
      → AllByRecursion (HonestBaseEvent table) (base_events_of (take most_input z.line.input))
      → (t : Store) × Stands new.image t × StoreIsWell table t
  -- whatever bytes came as frames, a consistent chip stays so, however the line ended; no start lacks an image,
  -- and what starts is sound
  pub consistent : (s : Store) (golden : Row) (z : Based status b s old new x y) → IsRow golden → StoreIsConsistent golden s
      → BaseStaysConsistent golden status b s z.line.input new.image
