-- How the code's node stands for a mote by the rules, and the image that it runs.
use Rattle.std.specs.Prelude.{◌≡◌, ℕ, Bool, true, List, Option, Some, None}
use Rattle.dg_volume.specs.Store.{Store}
use Rattle.dg_volume.specs.Start.{Runs}
use Rattle.dg_base.specs.declared.events.ImageVersion.{ImageVersion}
use Rattle.dg_mote.specs.Model.{MoteState}
use Rattle.dg_mote.specs.Motes.{IsMote, wide_told}
use Rattle.dg_mote.specs.Effects.{Effect}
use Rattle.dg_mote.specs.Timely.{Timely}
use Rattle.dg_nor.specs.Trail.{resting}
use Rattle.dg_mote.specs.declared.mote.Mote.{Mote}
use Rattle.dg_node.specs.declared.node.Node.{Node}

-- a mote that is on, and the image that it runs
pub record NodeRunning : Type 0 where
  pub image_version : ImageVersion
  pub mote : MoteState

abbrev pub node_image : Node → ImageVersion
node_image v = v.image_version

abbrev pub node_mote : Node → Mote
node_mote v = v.mote

-- the code's node stands for this node over these bytes, and is None if the node is off
abbrev pub NodeStands : List ℕ → Option Node → Store → Option NodeRunning → Type 0
NodeStands c None s None = Unit {0}
NodeStands c (Some v) s (Some r) = (v.image_version ≡ r.image_version) × IsMote c v.mote r.mote s
NodeStands c None s (Some r) = ⊥
NodeStands c (Some v) s None = ⊥

-- the code's node stands for some mote over these bytes, which is timely
abbrev pub IsTimelyNode : List ℕ → Node → ℕ → Type 0
IsTimelyNode c v now = (m : MoteState) × (s : Store) × IsMote c v.mote m s × Timely m now

abbrev pub image_version_run : Runs → ImageVersion
image_version_run r = record { image = r.image; version = r.version }

-- what runs after an effect: what was started, or what ran before
abbrev pub node_runs : Option MoteState → Option Runs → Option ImageVersion → Option NodeRunning
node_runs None started before = None
node_runs (Some m) (Some r) before = Some (record { image_version = image_version_run r; mote = m })
node_runs (Some m) None (Some version) = Some (record { image_version = version; mote = m })
node_runs (Some m) None None = None

-- the mote of a node that is on
abbrev pub running_mote : Option NodeRunning → Option MoteState
running_mote None = None
running_mote (Some r) = Some r.mote

-- the width of the radio of a node that is on
abbrev pub node_is_wide : Option Node → Bool
node_is_wide None = true
node_is_wide (Some v) = wide_told v.mote

-- nothing changes, and nothing is sent
abbrev pub rest_effect : MoteState → Store → Effect
rest_effect m s = record { mote = Some m; trail = resting s 0; started = None; sent = None }
