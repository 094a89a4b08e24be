-- The small state: the table and page counts, without pages, moments or flash (docs/PROMISES.md, "The report and what it
-- tells").
use Rattle.std.specs.Prelude.{ℕ, List, length, map, slice_index_or, Option, None, option_map}
use Rattle.dg_object.specs.Object.{Row, pages_for}
use Rattle.dg_control.specs.declared.snapshot.Order.{Order}
use Rattle.dg_slot.specs.Kept.{Held}
use Rattle.dg_volume.specs.Store.{App}
use Rattle.dg_rules.specs.World.{World, Running, Site, no_site}
use Rattle.dg_base.specs.declared.events.ImageVersion.{ImageVersion}

pub record Holding : Type 0 where
  pub version : ℕ
  pub pages : ℕ

-- of a mote: what it keeps of each image, what program memory is Set to, the kept order, and what runs
pub record SmallMote : Type 0 where
  pub holdings : List (Option Holding)
  pub app : Option ImageVersion
  pub order : Order
  pub runs : Option ImageVersion

pub record Small : Type 0 where
  pub table : List Row
  pub motes : List SmallMote

abbrev pub holding : Held → Holding
holding h = record { version = h.version; pages = length h.complete }

abbrev pub app_image_version : App → ImageVersion
app_image_version app = record { image = app.image; version = app.version }

abbrev pub running_image_version : Option Running → Option ImageVersion
running_image_version r = option_map (λ (x : Running). x.image_version) r

abbrev pub small_mote : Site → SmallMote
small_mote x =
    record {
      holdings = map (option_map holding) x.store.kept;
      app = option_map app_image_version x.store.app;
      order = x.store.order;
      runs = running_image_version x.runs;
    }

abbrev pub small : World → Small
small w = record { table = w.table; motes = map small_mote w.sites }

abbrev pub small_mote_at : Small → ℕ → SmallMote
small_mote_at s m = slice_index_or s.motes m (small_mote no_site)

abbrev pub holds : SmallMote → ℕ → Option Holding
holds x i = slice_index_or x.holdings i None

abbrev pub whole : Row → Holding
whole row = record { version = row.version; pages = pages_for (length row.bytes) }
