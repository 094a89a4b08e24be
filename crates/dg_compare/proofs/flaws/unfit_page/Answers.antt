use Rattle.dg_compare.proofs.FlawLemmas.{unfit_by}
use Rattle.dg_compare.proofs.flaws.unfit_page.Goals as goal

pub returns : goal.returns
returns c ps shown = unfit_by c.first.result c.args.pages.now.unsound ps c.first.ensures.cases shown.unsound
