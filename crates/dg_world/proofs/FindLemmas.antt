-- A mote that is on hears the frame that was found for an event.
use Rattle.std.proofs.Common.{◌≡◌, ℕ, List, refl, sym, ap, subst, ◌∙◌}
use Rattle.std.specs.Prelude.{Option, Some, None, Result}
use Rattle.dg_nor.specs.Device.{Device}
use Rattle.dg_rules.specs.World.{World as RuleWorld, Running, site, store_at}
use Rattle.dg_rules.specs.Events.{Does, hear_by, unless_off}
use Rattle.dg_node.specs.Hosts.{host}
use Rattle.dg_node.specs.declared.node.Node.{Node}
use Rattle.dg_shared.specs.Unseen.{RefusesUnseen}
use Rattle.dg_world.specs.inner.OutcomeEndings.{OutcomeEnds}
use Rattle.dg_world.specs.inner.EventOutcomes.{EventOutcome, Halt}

module _ (w : RuleWorld) (m now word : ℕ) (bytes : List ℕ) (d : Does) (e : d ≡ hear_by w (store_at w m) (site w m).runs now word bytes) where
  -- who is off refuses what is heard
  heard_on : (o : Option Running) → unless_off o (hear_by w (store_at w m) o now word bytes) ≡ hear_by w (store_at w m) o now word bytes
  heard_on None = refl
  heard_on (Some r) = refl

  heard_does : unless_off (site w m).runs d ≡ hear_by w (store_at w m) (site w m).runs now word bytes
  heard_does = ap (unless_off (site w m).runs) e ∙ heard_on (site w m).runs

  pub heard_ends : (r : Result EventOutcome Halt) (v u : Option Node) (a b : Device) → OutcomeEnds r w m (hear_by w (store_at w m) (site w m).runs now word bytes) (host a v) (host b u)
      → OutcomeEnds r w m (unless_off (site w m).runs d) (host a v) (host b u)
  heard_ends r v u a b ends = subst (λ (x : Does). OutcomeEnds r w m x (host a v) (host b u)) (sym heard_does) ends

  pub heard_unseen : RefusesUnseen (unless_off (site w m).runs d) → RefusesUnseen (hear_by w (store_at w m) (site w m).runs now word bytes)
  heard_unseen unseen = subst RefusesUnseen heard_does unseen
