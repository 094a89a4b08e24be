use Rattle.dg_compare.proofs.FlawLemmas.{program_flaw_pages}
use Rattle.dg_compare.proofs.flaws.program_flaw.Goals as goal

pub returns-in-Some : goal.returns-in-Some
returns-in-Some c c' o holds shown = program_flaw_pages c' o c.args.seen.now c.in-Some.seen c.unfit_page.result c.in-Some.is holds shown c.unfit_page.ensures
