use Rattle.std.proofs.Common.{◌∷◌, ◌++◌, []}
use Rattle.dg_count.proofs.costs.Costs.note_told_cost.Goals as goal

pub returns : goal.returns
returns g c past p shown has = c.note_all-done.ensures (past ++ p ∷ []) (c.count_heard-heard.ensures past p shown has)
