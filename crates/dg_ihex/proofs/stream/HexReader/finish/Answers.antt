use Rattle.dg_ihex.proofs.StreamLemmas.{fault_whole, fed_fault, fed_going}
use Rattle.dg_ihex.proofs.stream.HexReader.finish.Goals as goal

pub returns-in-Some-clause-read : goal.returns-in-Some-clause-read
returns-in-Some-clause-read c input h few =
    let f = fed_fault _ c.in-Some.fault _ input c.in-Some.is h.stands in
    λ other. fault_whole c.in-Some.fault input f.1

pub returns-in-Some-clause-memory : goal.returns-in-Some-clause-memory
returns-in-Some-clause-memory c input h few =
    let f = fed_fault _ c.in-Some.fault _ input c.in-Some.is h.stands in
    λ e. absurd (f.0 e)

pub returns-in-None-clause-read : goal.returns-in-None-clause-read
returns-in-None-clause-read c input h few = c.finish.ensures.read input (fed_going _ _ input c.in-None.is h.stands) few

pub returns-in-None-clause-memory : goal.returns-in-None-clause-memory
returns-in-None-clause-memory c input h few = c.finish.ensures.memory input (fed_going _ _ input c.in-None.is h.stands) few
