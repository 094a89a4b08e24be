use Rattle.std.proofs.Common.{map}
use Rattle.dg_serve.specs.Each.{each}
use Rattle.dg_serve.specs.Standings.{ServedParts, service_standing}
use Rattle.dg_serve.proofs.LoopLemmas.{step_of}
use Rattle.dg_serve.proofs.service.Service.run.Given as goal

abbrev pub invariant-loop-step : goal.invariant-loop-step
invariant-loop-step g l =
    ServedParts l.profile.motes l.profile.motes l.profile.motes l.profile.links (each l.step (step_of l.motes))
    (service_standing (l.initial.self, map g.N.Nor.device l.initial.boards) (g.K.Sink, l.initial.out) (g.L.Link, l.initial.link) (g.C.Clock, l.initial.clock))
    (service_standing (l.self, map g.N.Nor.device l.boards) (g.K.Sink, l.out) (g.L.Link, l.link) (g.C.Clock, l.clock))
