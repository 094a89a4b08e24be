use Rattle.std.proofs.Common.{rules, arith}
use Rattle.dg_breaks.proofs.ByteLemmas.{page_breaks, page_described}
use Rattle.dg_breaks.proofs.bytes.page_byte.Goals as goal

pub returns-then-fit-lt-PAGE_SIZE-clause-breaks : goal.returns-then-fit-lt-PAGE_SIZE-clause-breaks
returns-then-fit-lt-PAGE_SIZE-clause-breaks g c = page_breaks _ _ c.args.image c.args.version c.args.pages c.descriptor_bytes-fit.result (search rules) c.descriptor_bytes-fit.ensures.fit (omega arith)

pub returns-else-fit-lt-PAGE_SIZE-clause-breaks : goal.returns-else-fit-lt-PAGE_SIZE-clause-breaks
returns-else-fit-lt-PAGE_SIZE-clause-breaks g c =
    let within = c.descriptor_bytes-fit.ensures.fit.within in
    page_described _ _ c.args.image c.args.version c.args.pages (search rules) (c.descriptor_bytes-fit.ensures.whole (omega (arith, within)))
