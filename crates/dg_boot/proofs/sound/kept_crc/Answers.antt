use Rattle.std.proofs.Common.{◌≡◌, ap, ◌∙◌, arith}
use Rattle.dg_object.specs.Descriptor.{crc_in}
use Rattle.dg_words.specs.Cells.{part}
use Rattle.dg_nor.specs.Chip.{sector}
use Rattle.dg_slot.specs.Layout.{page_size, page_sector}
use Rattle.dg_slot.proofs.PageLemmas.{crc_two}
use Rattle.dg_boot.proofs.sound.kept_crc.Goals as goal

pub returns-clause-crc : goal.returns-clause-crc
returns-clause-crc g c =
    let image = (g.N.Nor.device c.args.nor.now).image in
    let index : c.page_sector.result ≡ page_sector c.args.image 0 = omega (arith, c.page_sector.ensures) in
    c.from_be_bytes.ensures ∙ crc_two (sector image c.page_sector.result) c.read_in.new.into c.args.page _ c.requires.data_page c.requires.known_page (omega arith) c.in_ok-read_in.ensures.bytes
    ∙ ap (λ k. crc_in (part (sector image k) 0 page_size) c.args.page) index
