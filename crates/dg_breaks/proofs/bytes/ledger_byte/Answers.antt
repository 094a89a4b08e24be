use Rattle.std.proofs.Common.{rules}
use Rattle.dg_breaks.proofs.ByteLemmas.{ledger_at, no_ledger}
use Rattle.dg_nor.proofs.ReadLemmas.{Looked_then}
use Rattle.dg_breaks.proofs.bytes.ledger_byte.Goals as goal

pub ledger_break-requires : goal.ledger_break-requires
ledger_break-requires g c = no_ledger (g.N.Nor.device c.args.nor.now).image (g.N.Nor.device c.read_in.new.nor).image _ _ c.in_ok-read_in.ensures.bytes c.in_ok-read_in-2.ensures.bytes (search rules) c.requires

pub returns-clause-breaks : goal.returns-clause-breaks
returns-clause-breaks g c = ledger_at (g.N.Nor.device c.args.nor.now).image (g.N.Nor.device c.read_in.new.nor).image _ _ c.ledger_break.result c.in_ok-read_in.ensures.bytes c.in_ok-read_in-2.ensures.bytes (search rules) c.ledger_break.ensures

pub returns-clause-ends : goal.returns-clause-ends
returns-clause-ends g c =
    Looked_then (record { same_image = c.in_ok-read_in.ensures.same_image; ran = c.in_ok-read_in.ensures.ran })
    (record { same_image = c.in_ok-read_in-2.ensures.same_image; ran = c.in_ok-read_in-2.ensures.ran })
