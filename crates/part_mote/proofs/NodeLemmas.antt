-- A node stays in time, by what its events did.
use Rattle.std.proofs.Common.{ℕ, ◌≤◌, List}
use Rattle.std.specs.Prelude.{Option, Some, None, IfSome, Ok}
use Rattle.dg_base.specs.declared.events.ImageVersion.{ImageVersion}
use Rattle.dg_nor.specs.Device.{Device}
use Rattle.dg_nor.specs.Trail.{last}
use Rattle.dg_volume.specs.Store.{Store}
use Rattle.dg_volume.specs.Start.{Runs}
use Rattle.dg_mote.specs.Model.{MoteState}
use Rattle.dg_mote.specs.Effects.{Effect}
use Rattle.dg_mote.specs.Motes.{IsMote}
use Rattle.dg_mote.specs.Timely.{Timely}
use Rattle.dg_node.specs.declared.node.Node.{Node}
use Rattle.dg_node.specs.declared.answers.Ticked.{Ticked}
use Rattle.dg_node.specs.declared.answers.Ticked.TheVariants as ticked
use Rattle.dg_node.specs.Hosts.{host}
use Rattle.dg_node.specs.Nodes.{NodeStands, node_runs, IsTimelyNode}
use Rattle.dg_node.specs.Ends.{NodeDone, EffectDone, tick_end}

left_by : (o : Option MoteState) (r : Option Runs) (w : Option ImageVersion) (c : List ℕ) (u : Node) (s : Store) (now : ℕ) → NodeStands c (Some u) s (node_runs o r w) → IfSome o (λ m. Timely m now) → IsTimelyNode c u now
left_by None r w c u s now stands timely = absurd stands
left_by (Some m) (Some r) w c u s now stands timely = (m, s, stands.1, timely)
left_by (Some m) None (Some w) c u s now stands timely = (m, s, stands.1, timely)
left_by (Some m) None None c u s now stands timely = absurd stands

-- an effect that was done leaves a node in time
pub leaves_timely : (e : Effect) (frame : Option (List ℕ)) (x : Option Node) (a b : Device) (u : Node) (now : ℕ) → EffectDone e frame (host a x) (host b (Some u)) → IfSome e.mote (λ m. Timely m now) → IsTimelyNode b.image u now
leaves_timely e frame x a b u now went timely = left_by e.mote e.started _ b.image u (last e.trail) now went.runs timely

pub tick_leaves : (t : Ticked) (e : Effect) (frame : Option (List ℕ)) (x : Option Node) (a b : Device) (u : Node) (now : ℕ) → NodeDone (tick_end (Ok t)) frame e (host a x) (host b (Some u)) → IfSome e.mote (λ m. Timely m now) → IsTimelyNode b.image u now
tick_leaves ticked.Idle e frame x a b u now done timely = leaves_timely e frame x a b u now done.0 timely
tick_leaves ticked.Sent e frame x a b u now done timely = leaves_timely e frame x a b u now done.0 timely
tick_leaves (ticked.Restarted image) e frame x a b u now done timely = leaves_timely e frame x a b u now done.0 timely

-- it stays so
pub timely_later : ((m : MoteState) (now then : ℕ) → now ≤ then → Timely m now → Timely m then) → (c : List ℕ) (u : Node) (now then : ℕ) → now ≤ then → IsTimelyNode c u now → IsTimelyNode c u then
timely_later law c u now then le x = (x.0, x.1, x.2, law x.0 now then le x.3)
