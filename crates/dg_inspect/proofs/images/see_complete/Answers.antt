use Rattle.std.proofs.Common.{arith}
use Rattle.dg_inspect.proofs.ImageLemmas.{complete_shown}
use Rattle.dg_inspect.proofs.images.see_complete.Goals as goal

pub returns-clause-complete : goal.returns-clause-complete
returns-clause-complete g c =
    complete_shown c.see_pages.result (g.N.Nor.device c.args.nor.now).image c.args.image c.page_sector.result c.args.kept.now c.page_sector.ensures (omega arith) c.see_pages.ensures.shows
