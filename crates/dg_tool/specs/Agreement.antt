-- A first board that agrees with a table of images, and how a verb leaves it (docs/COMMANDS.md, "Over one chip").
use Rattle.std.specs.Prelude.{◌≡◌, List, Some, None}
use Rattle.dg_nor.specs.Device.{Device}
use Rattle.dg_object.specs.Object.{Row}
use Rattle.dg_volume.specs.Agreement.{Agrees}
use Rattle.dg_volume.specs.Changes.{inject_refusal}
use Rattle.dg_volume.specs.Stands.{Stands}
use Rattle.dg_volume.specs.Store.{Store}
use Rattle.dg_volume.specs.Table.{row_at}
use Rattle.dg_tool.specs.Done.{AtFirst}

-- an injection's row is in the table, unless the rules refuse the injection
abbrev pub HasNewRow : Row → List Row → Store → Type 0
HasNewRow row table s = inject_refusal s row ≡ None → row_at table row.image row.version ≡ Some row

-- If the first board agrees with a table that suits what a verb brings, it agrees with it afterwards, however the verb ends. This
-- holds also if it is refused, if memory ran out or the write failed, and if the board stopped, in any of its operations.
abbrev pub KeepsAgreement : (suits : List Row → Store → Type 0) → (old new : List Device) → Type 0
KeepsAgreement suits old new = AtFirst (λ a b. (table : List Row) (s : Store) → Stands a.image s → Agrees table s → suits table s
    → (t : Store) × Stands b.image t × Agrees table t) old new
