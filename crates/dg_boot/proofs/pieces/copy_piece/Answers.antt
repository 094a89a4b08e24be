use Rattle.std.proofs.Common.{◌≡◌, ◌-◌, ◌≤◌, ℕ, min, length, ◌∙◌, ap, arith, rules}
use Rattle.dg_words.specs.Cells.{part}
use Rattle.dg_base.specs.Crc.{crc_more}
use Rattle.dg_nor.specs.Chip.{sector}
use Rattle.dg_boot.specs.Sizes.{copy_piece_size}
use Rattle.dg_boot.proofs.PageLemmas.{crc_front}
use Rattle.dg_boot.proofs.pieces.copy_piece.Goals as goal

pub returns-clause-crc : goal.returns-clause-crc
returns-clause-crc g c =
    let n = c.min-summed.result in
    let cells = sector (g.N.Nor.device c.args.nor.now).image c.args.from in
    let within : n ≤ copy_piece_size = omega (arith, c.min-summed.ensures) in
    let count : n ≡ min (c.args.count - c.args.at) copy_piece_size = omega (arith, c.min-summed.ensures, c.saturating_sub.ensures) in
    let long : length c.args.piece.now ≡ copy_piece_size = search rules in
    let bytes = c.in_ok-read_in.ensures.bytes ∙ ap (λ (m : ℕ). part cells c.args.at m) long in
    crc_front cells c.read_in.new.into c.args.at n copy_piece_size c.args.before _ c.crc16_more.ensures bytes within
    ∙ ap (λ m. crc_more c.args.before (part cells c.args.at m)) count
