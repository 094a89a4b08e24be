use Rattle.std.proofs.Common.{ap, ◌∙◌, arith}
use Rattle.std.specs.FinSet as set
use Rattle.dg_bits.proofs.ByteChangeLaws.{ChangesBit, IsPacked-changed, numbers_of-cleared}
use Rattle.dg_bits.proofs.PageBits.clear.Goals as goal
use Rattle.dg_bits.proofs.PageBits.clear.Goals.{After-without_bit}

-- the byte that is written changes only the number's bit
changes : (g : _) (c : After-without_bit g) → ChangesBit c.self.inside.bytes c.args.n 0 c.without_bit.result
changes g c = record { here = c.without_bit.ensures.cleared; others = c.without_bit.ensures.others }

pub invariant_of-self : goal.invariant_of-self
invariant_of-self g c =
    IsPacked-changed g.row.N c.self.inside.bytes c.args.n 0 c.without_bit.result c.self.invariant c.requires c.without_bit.type_inv (changes g c)

pub returns : goal.returns
returns g c =
    numbers_of-cleared c.self.inside.bytes c.args.n c.without_bit.result (omega (arith, c.self.invariant.not_over)) (changes g c)
    ∙ ap (λ s. set.remove s c.args.n) c.self.view_is
