-- Worlds whose stores are consistent, whatever frames were brought (docs/PROMISES.md, "The report and what it tells").
use Rattle.std.specs.Prelude.{ℕ, ◌<◌, length, IfSome}
use Rattle.std.specs.List.{AllByRecursion}
use Rattle.dg_nor.specs.Trail.{Leaves}
use Rattle.dg_object.specs.Object.{Row}
use Rattle.dg_volume.specs.Store.{Store, IsNear}
use Rattle.dg_volume.specs.Start.{app_of}
use Rattle.dg_volume.specs.Consistent.{IsSoundApp, Consistent}
use Rattle.dg_mote.specs.Consistency.{AsksForKnown, StoreIsConsistent}
use Rattle.dg_base.specs.declared.events.Event.{Event}
use Rattle.dg_rules.specs.Events.{Does, Refuses, Goes, mote_of, trail_of, does}
use Rattle.dg_script.specs.Ranges.{IsDeclared}
use Rattle.dg_script.specs.Items.{Item, Declares, Applies}
use Rattle.dg_rules.specs.Runs.{Played}
use Rattle.dg_rules.specs.World.{World, Site, site, store_at}

-- the store of a mote is consistent, and if the mote asks for an image, then for one that it can keep
pub record SiteConsistent (golden : Row) (x : Site) : Type 0 where
  pub store : StoreIsConsistent golden x.store
  pub asks : IfSome x.runs (λ r. AsksForKnown r.mote.mode)

-- every store is consistent, and what is declared may be injected
pub record WorldConsistent (golden : Row) (w : World) : Type 0 where
  pub rows : AllByRecursion IsDeclared w.declared
  pub sites : (m : ℕ) → m < length w.sites → SiteConsistent golden (site w m)

abbrev pub LeavesConsistent : Row → Played → Type 0
LeavesConsistent golden p = WorldConsistent golden p.after

-- ---- what starts

-- what starts is golden byte for byte, or an object whose every data page has the CRC in its descriptor
abbrev pub StartsSoundDoes : Row → Does → Type 0
StartsSoundDoes golden (Refuses why) = Unit {0}
StartsSoundDoes golden (Goes d) = IfSome d.started (λ r. IsSoundApp golden (app_of r))

abbrev pub StartsSoundItem : Row → Item → World → Type 0
StartsSoundItem golden (Declares row) w = Unit {0}
StartsSoundItem golden (Applies step reported) w = StartsSoundDoes golden (does w step.event)

abbrev pub StartsSound : Row → Played → Type 0
StartsSound golden p = StartsSoundItem golden p.item p.before

-- ---- where an event is stopped

-- wherever a stop comes in the event, the store that the chip may then stand for is consistent
abbrev pub StopsConsistent : Row → World → Event → Type 0
StopsConsistent golden w e =
    (k : ℕ) (s : Store) → Leaves IsNear (trail_of (does w e) (store_at w (mote_of e))) k s → Consistent golden s
