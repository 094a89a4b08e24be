use Rattle.std.proofs.Common.{◌≡◌, ◌+◌, ◌-◌, ◌*◌, min, length, arith}
use Rattle.dg_object.proofs.RestLemmas.{rest_checked, rest_filled}
use Rattle.dg_object.proofs.descriptor.Descriptor.rest_fits.Goals as goal

pub returns : goal.returns
returns c =
    let from : c.min-checked_from.result ≡ min (28 + 2 * (c.args.self.now.pages - 1) - c.args.at) (length c.args.piece.now) = omega arith in (
      λ yes. rest_checked c.args.self.now.pages c.args.at c.min-checked_from.result c.args.piece.now from (c.is_filling.ensures.0 yes),
      λ fits. c.is_filling.ensures.1 (rest_filled c.args.self.now.pages c.args.at c.min-checked_from.result c.args.piece.now from fits),
    )
