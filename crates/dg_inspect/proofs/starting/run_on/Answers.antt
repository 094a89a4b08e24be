use Rattle.std.proofs.Common.{sym, ◌∙◌}
use Rattle.dg_inspect.proofs.StartingLemmas.{kept_none, kept_some, told_blank, told_set}
use Rattle.dg_inspect.proofs.starting.run_on.Goals as goal

pub returns-in-Blank-clause-runs : goal.returns-in-Blank-clause-runs
returns-in-Blank-clause-runs c t three facts =
    c.golden_start.ensures t three facts ∙ sym (kept_none t three (told_blank t.app (sym facts.program ∙ c.in-Blank.is)))

pub returns-in-Set-clause-runs : goal.returns-in-Set-clause-runs
returns-in-Set-clause-runs c t three facts =
    let set = told_set t.app c.in-Set.image c.in-Set.version (sym facts.program ∙ c.in-Set.is) in
    set.2 ∙ sym (kept_some t set.0 three set.1)
