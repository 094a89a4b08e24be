use Rattle.std.proofs.Common.{ap, sym, ◌∙◌}
use Rattle.std.specs.FinSet as set
use Rattle.dg_bits.proofs.ByteFormLaws.{contains-numbers_of, AllBelow-packed}
use Rattle.dg_bits.proofs.PageBits.has.Goals as goal

pub returns-clause-value : goal.returns-clause-value
returns-clause-value g c =
    c.is_set.ensures
    ∙ sym (contains-numbers_of c.self.inside.bytes c.args.n)
    ∙ ap (λ s. set.contains s c.args.n) c.self.view_is

pub returns-clause-within : goal.returns-clause-within
returns-clause-within g c = AllBelow-packed g.row.N c.self.inside.bytes c.args.self.now c.self.view_is c.self.invariant.within
