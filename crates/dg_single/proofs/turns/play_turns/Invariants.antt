use Rattle.std.proofs.Common.{[]}
use Rattle.dg_serve.specs.Standings.{service_standing}
use Rattle.dg_single.specs.Overs.{seat}
use Rattle.dg_single.proofs.TurnOver.{TurnedOver}
use Rattle.dg_single.proofs.turns.play_turns.Given as goal

abbrev pub invariant-loop-turn : goal.invariant-loop-turn
invariant-loop-turn g l =
    TurnedOver (seat l.profile.motes l.mote l.profile.links) l._turn (g.N.Nor.device l.initial.board) (g.N.Nor.device l.board)
    (service_standing (l.initial.service, []) (g.K.Sink, l.initial.out) (g.L.Link, l.initial.link) (g.C.Clock, l.initial.clock))
    (service_standing (l.service, []) (g.K.Sink, l.out) (g.L.Link, l.link) (g.C.Clock, l.clock))
