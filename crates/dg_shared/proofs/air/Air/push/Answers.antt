use Rattle.std.proofs.Common.{ap, arith}
use Rattle.std.specs.Prelude.{slice_set}
use Rattle.dg_shared.proofs.AirLemmas.{pushed}
use Rattle.dg_shared.proofs.air.Air.push.Goals as goal

pub returns : goal.returns
returns c before carries =
    pushed c.args.self.now _ c.args.by c.len.result c.args.message.now before _ _ c.push_reserved.ensures.items (omega (arith, c.len.ensures, c.push_reserved.type_inv)) (ap (λ i. slice_set c.args.self.now.last i c.len.result) c.from.ensures) carries
