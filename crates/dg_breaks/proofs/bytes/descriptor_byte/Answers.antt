use Rattle.std.proofs.Common.{rules}
use Rattle.dg_nor.proofs.ReadLemmas.{read_after}
use Rattle.dg_breaks.proofs.ByteLemmas.{descriptor_at}
use Rattle.dg_breaks.proofs.bytes.descriptor_byte.Goals as goal

pub returns-in_default-clause-breaks : goal.returns-in_default-clause-breaks
returns-in_default-clause-breaks g c = absurd (c.requires.broken (search rules))

pub returns-in-None-clause-breaks : goal.returns-in-None-clause-breaks
returns-in-None-clause-breaks g c = absurd (c.requires.broken (search rules))

pub returns-in-Some-clause-breaks : goal.returns-in-Some-clause-breaks
returns-in-Some-clause-breaks g c =
    let found = rw c.in-Some.is at c.in_ok-see_header.ensures.fits in
    descriptor_at (g.N.Nor.device c.args.nor.now).image (g.N.Nor.device c.see_header.new.nor).image c.args.image c.in-Live.version c.in-Some.seen.pages c.in-Some.seen.crc c.in-Some.seen.done c.args.slot c.page_byte.result c.in-Live.is
    c.in_ok-see_header.ensures.ends.same_image found c.page_byte.ensures.breaks

pub returns-in-Some-clause-ends : goal.returns-in-Some-clause-ends
returns-in-Some-clause-ends g c =
    read_after c.page_byte.result (g.N.Nor.device c.args.nor.now) (g.N.Nor.device c.see_header.new.nor) (g.N.Nor.device c.page_byte.new.nor) c.in_ok-see_header.ensures.ends c.page_byte.ensures.ends
