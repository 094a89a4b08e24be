use Rattle.std.proofs.Common.{◌≡◌, ℕ, ◌<◌, ◌≤◌, List, length, take}
use Rattle.std.specs.Prelude.{Some, slice_get}
use Rattle.dg_nor.specs.Device.{Device}
use Rattle.dg_volume.specs.Stands.{Stands}
use Rattle.dg_world.specs.Worlds.{IsWorld}
use Rattle.dg_rehearse.specs.Rehearsed.{base_chip}
use Rattle.dg_rehearse.proofs.BeginLemmas.{with_links}
use Rattle.dg_rehearse.proofs.beginning.network_of.Given as goal

-- this many links are made
abbrev pub invariant-loop-link : goal.invariant-loop-link
invariant-loop-link l = (boards : List Device) → l.profile.motes ≤ length boards → ((m : ℕ) (d : Device) → m < l.profile.motes → slice_get boards m ≡ Some d → Stands d.image base_chip)
    → IsWorld l.world boards (with_links l.profile (take l.link-index l.link-items))
