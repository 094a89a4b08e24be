-- How the code's world and the boards stand for a world by the rules (docs/ARCHITECTURE.md, "The way of a script line").
use Rattle.std.specs.Prelude.{◌≡◌, ℕ, ◌-◌, ◌*◌, ◌^◌, ◌<◌, ◌≤◌, true, List, length, slice_get, slice_index_or, Option, Some, None}
use Rattle.std.specs.Prelude.{IfSome}
use Rattle.dg_nor.specs.Device.{Device}
use Rattle.dg_volume.specs.Store.{Store}
use Rattle.dg_volume.specs.Stands.{Stands}
use Rattle.dg_mote.specs.Model.{MoteState}
use Rattle.dg_mote.specs.Timely.{Timely}
use Rattle.dg_mote.specs.Motes.{IsMote}
use Rattle.dg_rules.specs.Sizes.{most_events, most_motes}
use Rattle.dg_rules.specs.World.{World as RuleWorld, Running, Site, site}
use Rattle.dg_rules.specs.Premises.{WorldTimely}
use Rattle.dg_control.specs.Store.{IsOrderlyChip}
use Rattle.dg_shared.specs.Shareds.{IsShared}
use Rattle.dg_world.specs.Known.{known_of}
use Rattle.dg_world.specs.declared.world.World.{World}
use Rattle.dg_node.specs.declared.node.Node.{Node}

-- ---- one site

-- what the code keeps of a mote over these bytes is what the mote is
abbrev pub MoteStands : List ℕ → Option Node → Store → Option Running → Type 0
MoteStands c None s None = Unit {0}
MoteStands c (Some v) s (Some r) = (v.image_version ≡ r.image_version) × IsMote c v.mote r.mote s
MoteStands c None s (Some r) = ⊥
MoteStands c (Some v) s None = ⊥

pub record SiteStands (d : Device) (v : Option Node) (x : Site) : Type 0 where
  pub stands : Stands d.image x.store
  pub mote : MoteStands d.image v x.store x.runs

-- the code's mote is some mote over these bytes, and in time
abbrev pub IsTimelyMote : List ℕ → ℕ → Node → Type 0
IsTimelyMote c now v = (m : MoteState) × (s : Store) × IsMote c v.mote m s × Timely m now

-- so is the mote that runs, if one does
abbrev pub MayRun : List ℕ → ℕ → Option Node → Type 0
MayRun c now v = IfSome v (IsTimelyMote c now)

-- ---- the world

pub record IsWorld (v : World) (boards : List Device) (w : RuleWorld) : Type 0 where
  pub moment : v.moment ≡ w.moment
  pub events : v.events ≡ w.events
  pub shared : IsShared v.shared w
  pub motes : length w.sites ≡ length v.motes.items
  pub few_motes : length w.sites ≤ most_motes
  pub boards_enough : length w.sites ≤ length boards
  pub few_events : w.events ≤ most_events
  -- each event adds at most this many milliseconds, so that every moment is below 2 ^ 62
  pub early : w.moment ≤ w.events * (2 ^ 32 - 1)
  -- no moment of a mote is later than the world's
  pub timely : WorldTimely w
  pub sites : (m : ℕ) (d : Device) → m < length w.sites → slice_get boards m ≡ Some d
      → SiteStands d (slice_index_or v.motes.items m None) (site w m)
  -- a known board is orderly
  pub orderly : (m : ℕ) (d : Device) → m < length w.sites → slice_get boards m ≡ Some d → known_of v m ≡ true
      → IsOrderlyChip d.image
