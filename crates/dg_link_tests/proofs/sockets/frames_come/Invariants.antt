use Rattle.std.proofs.Common.{◌≡◌}
use Rattle.dg_link_tests.proofs.sockets.frames_come.Given as goal

abbrev pub invariant-loop : goal.invariant-loop
invariant-loop g l = g.L.Link.mote_count l.link ≡ 1
