use Rattle.std.proofs.Common.{◌∙◌}
use Rattle.dg_bits.specs.Sets.{are_same_sets}
use Rattle.dg_bits.proofs.ByteFormLaws.{same-packed}
use Rattle.dg_bits.proofs.PageBitsPartialEq.eq.Goals as goal

pub returns : goal.returns
returns g c =
    c.eq.ensures
    ∙ same-packed g.row.N c.self.inside.bytes c.other.inside.bytes c.self.invariant c.other.invariant
    ∙ (λ i. are_same_sets (c.self.view_is i) (c.other.view_is i))
