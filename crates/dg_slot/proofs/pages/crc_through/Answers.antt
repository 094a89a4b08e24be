use Rattle.std.proofs.Common.{◌≡◌, refl, sym, ◌∙◌, ◌+◌, length, take, ap, arith, rules}
use Rattle.dg_nor.specs.Sizes.{sector_size}
use Rattle.dg_nor.specs.Chip.{sector}
use Rattle.dg_nor.proofs.ChipLemmas.{length-sector}
use Rattle.dg_nor.proofs.ReadLemmas.{Looked-none, Looked_then}
use Rattle.dg_slot.proofs.PageLemmas.{crc_none, crc_piece}
use Rattle.dg_slot.proofs.pages.crc_through.Goals as goal

pub loop-at-init : goal.loop-at-init
loop-at-init g c = record { within = omega arith; summed = crc_none _ 0 c.args.before; awake = λ some. absurd (omega arith); looked = Looked-none _ }

pub loop-at-preserved : goal.loop-at-preserved
loop-at-preserved g c =
    let at = c.loop-at.at in
    let n = c.min-len.result in
    let chip = g.met.N.Nor.is_chip c.args.nor.now in
    let cells = sector (g.N.Nor.device c.args.nor.now).image c.args.index in
    let whole : length cells ≡ sector_size = length-sector (g.N.Nor.device c.args.nor.now).image c.args.index chip.cells c.requires.in_chip in
    let long : length (take n c.loop-at.piece) ≡ n = search rules in
    record {
      within = omega (arith, c.min-len.ensures);
      summed = crc_piece cells _ 0 c.args.before c.loop-at.crc c.in_ok-crc.crc at n _ at (at + n) c.loop-at.invariant.summed c.in_ok-crc.ensures.crc
          (ap (λ image. sector image c.args.index) c.loop-at.invariant.looked.same_image) long (omega arith) refl (omega (arith, c.min-len.ensures, c.requires.in_page));
      awake = λ some. sym c.loop-at.invariant.looked.ran.stopped ∙ c.in_ok-crc.ensures.awake;
      looked = Looked_then c.loop-at.invariant.looked c.in_ok-crc.ensures.ends;
    }
