use Rattle.std.proofs.Common.{◌≡◌, ◌-◌}
use Rattle.dg_xmss.specs.Wots.{wots_chain}
use Rattle.dg_xmss.proofs.chains.walk.Given as goal

abbrev pub invariant-loop-hash : goal.invariant-loop-hash
invariant-loop-hash l = l.node ≡ wots_chain l.prf.seed.now l.leaf l.number l.initial.node l.digit (l.hash - l.digit)
