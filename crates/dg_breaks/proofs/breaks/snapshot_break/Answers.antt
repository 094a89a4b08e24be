use Rattle.std.proofs.Common.{◌≡◌, arith}
use Rattle.std.specs.Prelude.{◌+◌}
use Rattle.dg_control.specs.Store.{current}
use Rattle.dg_breaks.proofs.BreakLemmas.{snapshot_breaks}
use Rattle.dg_breaks.proofs.breaks.snapshot_break.Goals as goal

pub returns-clause-breaks : goal.returns-clause-breaks
returns-clause-breaks g c =
    let place : 1 + c.from-sector.result ≡ current c.args.count = omega (arith, c.from-sector.ensures) in
    snapshot_breaks (g.N.Nor.device c.args.nor.now).image c.args.count (1 + c.from-sector.result) _ place c.requires.count c.requires.none c.in_ok-place_byte.ensures.breaks
