use Rattle.std.proofs.Common.{◌≡◌, map, take, Some}
use Rattle.toml.specs.View.{view}
use Rattle.dg_netcfg.specs.Profile.{profile_link}
use Rattle.dg_netcfg.proofs.links.links_in.Given as goal

abbrev pub invariant-loop-entry : goal.invariant-loop-entry
invariant-loop-entry l = map Some l.links.items ≡ map (λ v. profile_link l.motes (view v)) (take l.entry-index l.entries)
