use Rattle.std.proofs.Common.{rules}
use Rattle.dg_object.specs.Records.{details_of}
use Rattle.dg_tool.proofs.PageLemmas.{first_tells, first_described}
use Rattle.dg_tool.proofs.pages.read_first.Goals as goal

-- page 0 is complete, so it is a descriptor
pub returns-in_default-clause-ends : goal.returns-in_default-clause-ends
returns-in_default-clause-ends g c =
    let h = c.requires.kept in
    let d = first_described (g.N.Nor.device c.args.nor.now).image c.args.image c.page_sector.result h.0 c.page_sector.ensures h.1 h.2 in
    absurd (c.in_ok-first.ensures.none (search rules) d.0 d.1)

pub returns-clause-told : goal.returns-clause-told
returns-clause-told g c = λ h keeps some.
    let found = rw c.in-Some.is at c.in_ok-first.ensures.descriptor in
    first_tells (g.N.Nor.device c.args.nor.now).image c.args.image c.page_sector.result h (details_of c.in-Some.first.descriptor) c.page_sector.ensures found.0 keeps some

pub returns-clause-some : goal.returns-clause-some
returns-clause-some g c = let found = rw c.in-Some.is at c.in_ok-first.ensures.descriptor in found.0.head.range.some

pub returns-clause-fits : goal.returns-clause-fits
returns-clause-fits g c = let found = rw c.in-Some.is at c.in_ok-first.ensures.descriptor in found.0.head.range.fits
