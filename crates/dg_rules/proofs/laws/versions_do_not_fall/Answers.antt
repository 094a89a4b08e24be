use Rattle.dg_rules.proofs.KeepLemmas.{keeps_all, golden_stays}
use Rattle.dg_rules.proofs.laws.versions_do_not_fall.Goals as goal

pub returns-clause-versions : goal.returns-clause-versions
returns-clause-versions c past p legal = keeps_all past p legal

pub returns-clause-golden : goal.returns-clause-golden
returns-clause-golden c past p legal = golden_stays past p legal
