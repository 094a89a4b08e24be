use Rattle.std.proofs.Common.{◌≡◌, IfSome, length, subst, arith}
use Rattle.dg_nor.specs.Sizes.{chip_size}
use Rattle.dg_nor.specs.Backing.{mirrored_bytes}
use Rattle.dg_nor.proofs.backing.Backing.save_in_file.Goals as goal

pub write_range-requires-clause-within : goal.write_range-requires-clause-within
write_range-requires-clause-within c =
    let whole = subst (λ b. IfSome (mirrored_bytes b) (λ bytes. length bytes ≡ chip_size)) c.in-Mirrored.is c.requires.whole in
    omega arith
