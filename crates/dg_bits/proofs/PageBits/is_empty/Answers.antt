use Rattle.std.proofs.Common.{sym, ◌∙◌}
use Rattle.dg_bits.proofs.ByteFormLaws.{empty_zeros}
use Rattle.dg_bits.proofs.PageBits.is_empty.Goals as goal

pub returns : goal.returns
returns g c =
    let decides = empty_zeros g.row.N c.self.inside.bytes c.args.self.now c.self.invariant c.self.view_is in
    (λ is. decides.0 (sym c.eq.ensures ∙ is), λ none. c.eq.ensures ∙ decides.1 none)
