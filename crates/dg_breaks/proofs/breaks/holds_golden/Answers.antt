use Rattle.std.proofs.Common.{rules}
use Rattle.dg_breaks.proofs.BreakLemmas.{golden_holds}
use Rattle.dg_breaks.proofs.breaks.holds_golden.Goals as goal

pub returns-in-Some-clause-holds : goal.returns-in-Some-clause-holds
returns-in-Some-clause-holds g c =
    let found = rw c.in-Some.is at c.in_ok-see_header.ensures.fits in
    golden_holds (g.N.Nor.device c.args.nor.now).image c.args.slot c.in-Some.seen.pages c.in-Some.seen.crc c.in-Some.seen.done (search rules) found
