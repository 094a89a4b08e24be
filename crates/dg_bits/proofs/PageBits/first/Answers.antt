use Rattle.std.proofs.Common.{◌≡◌, ◌+◌, ◌*◌, ◌/◌, ap, sym, ◌∙◌, arith}
use Rattle.std.specs.FinSet as set
use Rattle.dg_bits.specs.Sets.{IsLeast, least}
use Rattle.dg_bits.proofs.SetLaws.{least_is, least-none}
use Rattle.dg_bits.proofs.ByteFormLaws.{IsLeast-first_bit, unmarked_zero, empty_unmarked, AllBelow-packed}
use Rattle.dg_bits.proofs.PageBits.first.Goals as goal
use Rattle.dg_bits.proofs.PageBits.first.Goals.{After-first_bit, After-loop-k}

found : (g : _) (c : After-first_bit g) → IsLeast c.args.self.now (8 * c.loop-k.k + c.first_bit.result)
found g c =
    IsLeast-first_bit c.self.inside.bytes c.args.self.now c.loop-k.k c.first_bit.result c.self.view_is c.loop-k.invariant
    (record { below = c.first_bit.ensures.below; here = c.first_bit.ensures.here; before = c.first_bit.ensures.before })

pub returns-then-byte-ne0-clause-value : goal.returns-then-byte-ne0-clause-value
returns-then-byte-ne0-clause-value g c = sym (least_is c.args.self.now _ (found g c))

pub returns-then-byte-ne0-clause-cases : goal.returns-then-byte-ne0-clause-cases
returns-then-byte-ne0-clause-cases g c = found g c

pub returns-then-byte-ne0-clause-within : goal.returns-then-byte-ne0-clause-within
returns-then-byte-ne0-clause-within g c = AllBelow-packed g.row.N c.self.inside.bytes c.args.self.now c.self.view_is c.self.invariant.within

nothing : (g : _) (c : After-loop-k g) → c.args.self.now ≡ set.empty
nothing g c =
    empty_unmarked g.row.N c.self.inside.bytes c.args.self.now c.self.view_is (λ q lt. unmarked_zero c.self.inside.bytes q (c.loop-k.invariant (q / 8) (omega arith))) c.self.invariant.within

pub returns-clause-value : goal.returns-clause-value
returns-clause-value g c = sym (ap least (nothing g c) ∙ least-none)

pub returns-clause-cases : goal.returns-clause-cases
returns-clause-cases g c = nothing g c

pub returns-clause-within : goal.returns-clause-within
returns-clause-within g c = AllBelow-packed g.row.N c.self.inside.bytes c.args.self.now c.self.view_is c.self.invariant.within
