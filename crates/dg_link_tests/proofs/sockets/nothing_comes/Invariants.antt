use Rattle.std.proofs.Common.{◌≡◌}
use Rattle.dg_link_tests.proofs.sockets.nothing_comes.Given as goal

abbrev pub invariant-loop : goal.invariant-loop
invariant-loop g l = g.L.Link.mote_count l.link ≡ l.motes

abbrev pub invariant-loop-mote : goal.invariant-loop-mote
invariant-loop-mote g l = g.L.Link.mote_count l.link ≡ l.motes
