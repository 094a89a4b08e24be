use Rattle.dg_object.proofs.HeadLemmas.{one_head}
use Rattle.dg_object.specs.Records.{details_of}
use Rattle.dg_object.proofs.descriptor.Descriptor.head.Goals as goal

pub returns-in-Some-clause-found : goal.returns-in-Some-clause-found
returns-in-Some-clause-found c = λ d is. one_head c.args.head.now (details_of c.in-Some.descriptor) d c.in-Some.ensures.some is

pub returns-in-Some-clause-range : goal.returns-in-Some-clause-range
returns-in-Some-clause-range c =
    (λ e. absurd (cc), λ no. absurd (no.1 (details_of c.in-Some.descriptor) c.in-Some.ensures.some))
