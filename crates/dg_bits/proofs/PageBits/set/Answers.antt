use Rattle.std.proofs.Common.{ap, ◌∙◌, arith}
use Rattle.std.specs.FinSet as set
use Rattle.dg_bits.proofs.ByteChangeLaws.{ChangesBit, IsPacked-changed, numbers_of-marked}
use Rattle.dg_bits.proofs.PageBits.set.Goals as goal
use Rattle.dg_bits.proofs.PageBits.set.Goals.{After-with_bit}

-- the byte that is written changes only the number's bit
changes : (g : _) (c : After-with_bit g) → ChangesBit c.self.inside.bytes c.args.n 1 c.with_bit.result
changes g c = record { here = c.with_bit.ensures.set; others = c.with_bit.ensures.others }

pub invariant_of-self : goal.invariant_of-self
invariant_of-self g c =
    IsPacked-changed g.row.N c.self.inside.bytes c.args.n 1 c.with_bit.result c.self.invariant c.requires c.with_bit.type_inv (changes g c)

pub returns : goal.returns
returns g c =
    numbers_of-marked c.self.inside.bytes c.args.n c.with_bit.result (omega (arith, c.self.invariant.not_over)) (changes g c)
    ∙ ap (λ s. set.insert s c.args.n) c.self.view_is
