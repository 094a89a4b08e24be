use Rattle.std.proofs.Common.{◌≡◌, ◌≤◌, length, take}
use Rattle.dg_drip.specs.Network.{last_said}
use Rattle.dg_drip_replay.proofs.network.last_of.Given as goal

-- no such frame comes after the first `left`
abbrev pub invariant-loop-left : goal.invariant-loop-left
invariant-loop-left l = record { within : l.left ≤ length l.sent; rest : last_said (take l.left l.sent) l.node l.key ≡ last_said l.sent l.node l.key }

abbrev pub decreases-loop-left : goal.decreases-loop-left
decreases-loop-left l = l.left
