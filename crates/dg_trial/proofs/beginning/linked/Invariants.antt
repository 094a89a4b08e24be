use Rattle.std.proofs.Common.{◌≡◌, ℕ, ◌<◌, ◌≤◌, List, [], ◌∷◌, length, replicate, take}
use Rattle.std.specs.Prelude.{Some, slice_get}
use Rattle.dg_nor.specs.Device.{Device}
use Rattle.dg_volume.specs.Stands.{Stands}
use Rattle.dg_script.specs.Places.{none_narrow}
use Rattle.dg_rules.specs.World.{first_world}
use Rattle.dg_world.specs.Worlds.{IsWorld}
use Rattle.dg_trial.specs.Playing.{golden, chip}
use Rattle.dg_trial.proofs.beginning.linked.Given as goal

-- this many links are made
abbrev pub invariant-loop-link : goal.invariant-loop-link
invariant-loop-link l = (boards : List Device) → l.fn.motes ≤ length boards → ((m : ℕ) (d : Device) → m < l.fn.motes → slice_get boards m ≡ Some d → Stands d.image chip)
    → IsWorld l.world boards (first_world (golden ∷ []) (take l.link-index l.links) none_narrow (replicate l.fn.motes chip))
