-- What the code keeps of a network (docs/SCRIPTS.md, "Scripts of nodes").
use Rattle.std.specs.Prelude.{◌≡◌, ℕ, ◌+◌, ◌<◌, Bool, List, length, slice_index_or, Option, Some, All, if◌then◌else◌, ◌++◌, ◌∷◌}
use Rattle.std.specs.Prelude.{[]}
use Rattle.dg_drip.specs.Sizes.{key_count}
use Rattle.dg_drip.specs.declared.events.DripEvent.{DripEvent}
use Rattle.dg_drip.specs.declared.events.DripEvent.TheVariants.{Set, Tick, Hear, Last}
use Rattle.dg_drip.specs.Network.{Network, applied, heard, are_drip_neighbours}
use Rattle.dg_drip.specs.Nodes.{Node, new_node, cell_of}
use Rattle.dg_drip.specs.declared.frame.Said.{Said}
use Rattle.dg_drip_replay.specs.Reports.{report_of_event, got}
use Rattle.dg_drip_replay.specs.declared.network.DripNetwork.{DripNetwork}
use Rattle.dg_drip_replay.specs.declared.report.DripReport.{DripReport}

-- the node with this number
abbrev pub node_at : List Node → ℕ → Node
node_at nodes m = slice_index_or nodes m (new_node 0 0 0)

-- Its nodes keep what those of the network keep, and each has its position as its number.
pub record NetworkStands (d : DripNetwork) (w : Network) : Type 0 where
  pub moment : d.moment ≡ w.moment
  pub links : d.links.items ≡ w.links
  pub sent : d.sent.items ≡ w.sent
  pub long : (m : ℕ) → m < length d.nodes.items → length (node_at d.nodes.items m).cells ≡ key_count
  pub ids : (m : ℕ) → m < length d.nodes.items → (node_at d.nodes.items m).id ≡ m
  pub cells : (m k : ℕ) → m < length d.nodes.items → k < key_count → cell_of (node_at d.nodes.items m) k ≡ w.cells m k

-- an event is at some of this many nodes, and of a key
abbrev pub FitsDripEvent : (nodes : ℕ) → DripEvent → Type 0
FitsDripEvent nodes (Set node key value dt word) = (node < nodes) × (key < key_count)
FitsDripEvent nodes (Tick node key dt word) = (node < nodes) × (key < key_count)
FitsDripEvent nodes (Hear node dt word frame) = node < nodes
FitsDripEvent nodes (Last from to key) = (from < nodes) × (to < nodes) × (key < key_count)

-- frames that were sent are of keys
abbrev pub AreKeyed : List Said → Type 0
AreKeyed sent = All (λ s. s.key < key_count) sent

-- an event was applied in the network, and this is reported of it
pub record DripDoes (d : DripNetwork) (w : Network) (reported : Bool) (event : DripEvent) (report : Option DripReport)
    : Type 0 where
  pub after : NetworkStands d (applied w event)
  pub report_is : report ≡ report_of_event w reported event

-- The clock went on by dt, and there are as many nodes as before.
pub record TimePasses (old new : DripNetwork) (dt : ℕ) : Type 0 where
  pub moment : new.moment ≡ old.moment + dt
  pub nodes : length new.nodes.items ≡ length old.nodes.items
  pub keyed : AreKeyed new.sent.items

-- A node heard the contents of a frame, at the moment of the network.
pub record Hears (d : DripNetwork) (w : Network) (node word : ℕ) (s : Said) (report : Option DripReport) : Type 0 where
  pub after : NetworkStands d (heard w node w.moment word (Some s))
  pub report_is : report ≡ got w (heard w node w.moment word (Some s)) node s.key

-- how long it is since the event before
abbrev pub time_of : DripEvent → ℕ
time_of (Set node key value dt word) = dt
time_of (Tick node key dt word) = dt
time_of (Hear node dt word frame) = dt
time_of (Last from to key) = 0

-- two nodes are neighbours, unless they are already
abbrev pub with_neighbours : Network → ℕ → ℕ → Network
with_neighbours w a b = if are_drip_neighbours w.links a b then w else record w { links = w.links ++ (a, b) ∷ [] }
