use Rattle.std.proofs.Common.{◌≡◌, length}
use Rattle.dg_netcfg.specs.Profile.{has_repeat}
use Rattle.dg_netcfg.proofs.links.has_repeat.Given as goal

abbrev pub invariant-loop-link : goal.invariant-loop-link
invariant-loop-link l = has_repeat l.links ≡ has_repeat l.rest

abbrev pub decreases-loop-link : goal.decreases-loop-link
decreases-loop-link l = length l.rest
