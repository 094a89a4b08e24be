use Rattle.std.proofs.Common.{ap, sym, ◌∙◌}
use Rattle.std.specs.FinSet as set
use Rattle.dg_bits.proofs.SetLaws.{below_none, below_more}
use Rattle.dg_bits.proofs.PageBits.all.Goals as goal

pub loop-n-init : goal.loop-n-init
loop-n-init g c = c.none-every.ensures ∙ sym below_none

pub loop-n-preserved : goal.loop-n-preserved
loop-n-preserved g c = c.set.ensures ∙ ap (λ s. set.insert s c.loop-n.n) c.loop-n.invariant ∙ below_more c.loop-n.n
