use Rattle.std.proofs.Common.{◌≡◌, sym, subst}
use Rattle.dg_control.specs.declared.snapshot.SlotState.{SlotState}
use Rattle.dg_breaks.specs.Breaks.{HoldsHeader}
use Rattle.dg_breaks.proofs.ByteLemmas.{no_header, header_at}
use Rattle.dg_breaks.proofs.bytes.header_byte.Goals as goal

pub returns-in-Dirty-clause-breaks : goal.returns-in-Dirty-clause-breaks
returns-in-Dirty-clause-breaks g c = absurd (c.requires.broken (subst (HoldsHeader (g.N.Nor.device c.args.nor.now).image c.args.image) (sym c.in-Dirty.is) tt))

pub header_break-requires-clause-none : goal.header_break-requires-clause-none
header_break-requires-clause-none g c =
    let image = (g.N.Nor.device c.args.nor.now).image in
    no_header image c.in_ok-cells.cells.first c.in_ok-cells.cells.gates c.args.image c.in-Live.version c.in_ok-cells.ensures.first c.in_ok-cells.ensures.gates
    (λ header. c.requires.broken (subst (HoldsHeader image c.args.image) (sym c.in-Live.is) header))

pub returns-in-Live-clause-breaks : goal.returns-in-Live-clause-breaks
returns-in-Live-clause-breaks g c =
    header_at (g.N.Nor.device c.args.nor.now).image c.in_ok-cells.cells.first c.in_ok-cells.cells.gates c.args.image c.in-Live.version c.args.slot c.header_break.result c.in-Live.is c.in_ok-cells.ensures.first c.in_ok-cells.ensures.gates c.header_break.ensures
