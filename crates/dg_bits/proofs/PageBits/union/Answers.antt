use Rattle.std.specs.FinSet as set
use Rattle.std.proofs.Common.{◌∙◌}
use Rattle.dg_bits.proofs.ByteChangeLaws.{JoinsBytes, numbers_of-joined, IsPacked-joined}
use Rattle.dg_bits.proofs.PageBits.union.Goals as goal
use Rattle.dg_bits.proofs.PageBits.union.Goals.{After-join}

joins : (g : _) (c : After-join g) → JoinsBytes c.self.inside.bytes c.other.inside.bytes c.join.new.bytes
joins g c = record { joined = c.join.ensures.joined }

pub invariant_of-self : goal.invariant_of-self
invariant_of-self g c =
    IsPacked-joined g.row.N _ _ _ c.self.invariant c.other.invariant (joins g c) c.join.ensures.width

pub returns : goal.returns
returns g c =
    numbers_of-joined _ _ _ (joins g c) ∙ (λ i. set.union (c.self.view_is i) (c.other.view_is i))
