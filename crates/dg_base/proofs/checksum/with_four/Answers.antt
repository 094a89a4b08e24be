use Rattle.std.proofs.Common.{◌<◌, ◌^◌, ◌+◌, ℕ, bit_xor, drop, get_or, sym, ap, ap₂, ◌∙◌, arith}
use Rattle.dg_base.specs.Crc.{crc_more}
use Rattle.dg_base.proofs.CrcLemmas.{crc_more-four, drop_four}
use Rattle.dg_base.proofs.checksum.with_four.Goals as goal

pub returns : goal.returns
returns c =
    let at = c.args.at in
    let bytes = c.args.bytes.now in
    let g = λ (n : ℕ). get_or bytes n 0 in
    let fits : (n : ℕ) → g n < 2 ^ 8 = λ n. omega (arith, c.type_inv.bytes n) in
    let x = bit_xor in
    ap (λ t. crc_more t (drop (at + 4) bytes)) (ap₂ x (ap₂ x c.after_2.ensures c.after_1.ensures) (ap₂ x c.after_4.ensures c.after_3.ensures))
    ∙ crc_more-four c.args.crc (g at) (g (at + 1)) (g (at + 2)) (g (at + 3)) (drop (at + 4) bytes) (omega arith) (fits at) (fits (at + 1)) (fits (at + 2)) (fits (at + 3))
    ∙ ap (crc_more c.args.crc) (sym (drop_four bytes at c.requires))
