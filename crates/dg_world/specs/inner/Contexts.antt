-- The context of an event (docs/ARCHITECTURE.md, "The way of a script line").
use Rattle.std.specs.Prelude.{◌≡◌, ◌+◌, IsTrue, Option}
use Rattle.dg_nor.specs.Device.{Device}
use Rattle.dg_rules.specs.World.{World as RuleWorld, site}
use Rattle.dg_rules.specs.Events.{mote_of, dt_of}
use Rattle.dg_base.specs.declared.events.Event.{Event}
use Rattle.dg_node.specs.Known.{IsKnownChip}
use Rattle.dg_shared.specs.EventKinds.{IsEventKind}
use Rattle.dg_shared.specs.Shareds.{IsShared}
use Rattle.dg_world.specs.Worlds.{SiteStands, MayRun}
use Rattle.dg_shared.specs.declared.context.EventContext.{EventContext}
use Rattle.dg_node.specs.declared.node.Node.{Node}

-- The event may be applied in this context: the kind and the mote are its own, what runs there is in time, and a board that
-- is known is one that may be mounted again by binary search.
pub record MayApply (o : EventContext) (event : Event) (board : Device) (runs : Option Node) : Type 0 where
  pub kind : IsEventKind o.kind event
  pub here : o.mote ≡ mote_of event
  pub mote : MayRun board.image o.moment runs
  pub known : IsTrue o.known → IsKnownChip board.image

-- it is applied in this context in world w
pub record AppliesIn (o : EventContext) (w : RuleWorld) (event : Event) (board : Device) (runs : Option Node) : Type 0 where
  pub shared : IsShared o.shared.now w
  pub stands : SiteStands board runs (site w (mote_of event))
  pub moment : o.moment ≡ w.moment + dt_of event
