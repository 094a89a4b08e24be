use Rattle.std.proofs.Common.{arith}
use Rattle.dg_slot.proofs.MountLemmas.{all_found, none_found}
use Rattle.dg_slot.proofs.states.OpenSlot.find.Goals as goal

pub returns-clause-open : goal.returns-clause-open
returns-clause-open g c = all_found c.mount_header.result (g.N.Nor.device c.args.nor.now).image c.args.image c.args.version (omega arith) c.mount_header.ensures.told c.mount_header.ensures.fits

pub returns-clause-none : goal.returns-clause-none
returns-clause-none g c = none_found c.mount_header.result (g.N.Nor.device c.args.nor.now).image c.args.image c.args.version c.mount_header.ensures.no_fit
