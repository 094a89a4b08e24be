use Rattle.std.proofs.Common.{arith}
use Rattle.dg_breaks.proofs.BreakLemmas.{nothing_described, described_by}
use Rattle.dg_nor.proofs.ReadLemmas.{read_after}
use Rattle.dg_breaks.proofs.breaks.holds_descriptor.Goals as goal

pub returns-then-seen-eq0-clause-holds : goal.returns-then-seen-eq0-clause-holds
returns-then-seen-eq0-clause-holds g c =
    let found = rw c.in-Some.is at c.in_ok-seen.ensures.fits in
    nothing_described (g.N.Nor.device c.args.nor.now).image c.args.image c.in-Live.version c.args.slot c.in-Some.seen.pages c.in-Some.seen.crc c.in-Some.seen.done c.in-Live.is found (omega (arith, c.if-seen-eq0.true))

pub returns-clause-holds : goal.returns-clause-holds
returns-clause-holds g c =
    let found = rw c.in-Some.is at c.in_ok-seen.ensures.fits in
    described_by (g.N.Nor.device c.args.nor.now).image (g.N.Nor.device c.see_header.new.nor).image c.args.image c.in-Live.version c.args.slot c.in-Some.seen.pages c.in-Some.seen.crc c.in-Some.seen.done c.is_described.result c.in-Live.is found
    (omega (arith, c.if-seen-eq0.false)) c.in_ok-seen.ensures.ends.same_image c.is_described.ensures.fits

pub returns-clause-ends : goal.returns-clause-ends
returns-clause-ends g c = read_after c.is_described.result _ _ _ c.in_ok-seen.ensures.ends c.is_described.ensures.ends
