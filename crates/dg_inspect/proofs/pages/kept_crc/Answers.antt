use Rattle.std.proofs.Common.{arith, ◌∙◌}
use Rattle.dg_nor.specs.Chip.{sector}
use Rattle.dg_slot.proofs.PageLemmas.{crc_two}
use Rattle.dg_inspect.proofs.pages.kept_crc.Goals as goal

pub returns-clause-crc : goal.returns-clause-crc
returns-clause-crc g c =
    let image = (g.N.Nor.device c.args.nor.now).image in
    c.from_be_bytes.ensures ∙ crc_two (sector image c.args.first) c.read_in.new.into c.args.page _ c.requires.data_page c.requires.known_page (omega arith) c.in_ok-read_in.ensures.bytes
