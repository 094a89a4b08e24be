use Rattle.std.proofs.Common.{◌≡◌, length}
use Rattle.dg_net.proofs.udp.open_sockets.Given as goal

abbrev pub invariant-loop-mote : goal.invariant-loop-mote
invariant-loop-mote g l = length l.sockets.items ≡ l.mote
