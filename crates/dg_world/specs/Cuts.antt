-- How an event ends at a board whose power may be cut (docs/ARCHITECTURE.md, "The way of a script line").
use Rattle.std.specs.Prelude.{◌≡◌, ℕ, ◌-◌, ◌≤◌, true, false, List, Option, None, IfSome}
use Rattle.dg_nor.specs.Device.{Device}
use Rattle.dg_nor.specs.Trail.{operations, last, MayLeave}
use Rattle.dg_volume.specs.Store.{IsNear}
use Rattle.dg_volume.specs.Stands.{Stands}
use Rattle.dg_rules.specs.World.{World as RuleWorld, store_at}
use Rattle.dg_rules.specs.Events.{EventEffect, Does, Goes, trail_of}
use Rattle.dg_rules.specs.Steps.{blows}
use Rattle.dg_base.specs.declared.events.Cut.{Cut as PowerCut}

-- the board stopped on its own, and the cut did not fire before
pub record IsStopped (w : RuleWorld) (m : ℕ) (does : Does) (cut : Option PowerCut) (new : Device) : Type 0 where
  pub stopped : new.stopped ≡ true
  pub done : ℕ
  pub within : done ≤ operations (trail_of does (store_at w m))
  pub uncut : IfSome cut (λ c. done ≤ c.after - 1)
  pub leaves : MayLeave Stands IsNear (trail_of does (store_at w m)) done new.image

-- a start found no image
pub record StepFoundNoImage (does : Does) (cut : Option PowerCut) (image : List ℕ) : Type 0 where
  pub effect : EventEffect
  pub goes : does ≡ Goes effect
  pub none : effect.runs ≡ None
  pub whole : blows cut effect.trail ≡ false
  pub stands : Stands image (last effect.trail)
