use Rattle.std.proofs.Common.{◌≡◌, ◌++◌}
use Rattle.std.specs.List.{flat_map, range_with_len}
use Rattle.dg_drip.specs.Network.{Network}
use Rattle.dg_drip_replay.specs.Standing.{NetworkStands}
use Rattle.dg_drip_script.specs.Reports.{node_text}
use Rattle.dg_drip_run.proofs.finish.push_nodes.Given as goal

-- what the nodes below this one keep was reported
abbrev pub invariant-loop-node : goal.invariant-loop-node
invariant-loop-node l = (w : Network) → NetworkStands l.network w → l.text.items ≡ l.fn.text.items ++ flat_map (node_text w) (range_with_len 0 l.node)
