use Rattle.std.proofs.Common.{◌≡◌, ◌++◌}
use Rattle.std.specs.List.{flat_map, range_with_len}
use Rattle.dg_drip.specs.Network.{Network, entry_at}
use Rattle.dg_drip_replay.specs.Standing.{NetworkStands}
use Rattle.dg_drip_script.specs.Reports.{value_text}
use Rattle.dg_drip_run.proofs.finish.push_node.Given as goal

-- what is kept of the keys below this one was reported
abbrev pub invariant-loop-key : goal.invariant-loop-key
invariant-loop-key l = (w : Network) → NetworkStands l.network w → l.text.items ≡ l.fn.text.items ++ flat_map (λ key. value_text l.node key (entry_at w l.node key)) (range_with_len 0 l.key)
