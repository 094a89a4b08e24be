use Rattle.dg_compare.proofs.AlikeLemmas.{alike_then}
use Rattle.dg_compare.proofs.kept.is_kept_alike.Goals as goal

pub returns-then-is_equal : goal.returns-then-is_equal
returns-then-is_equal c a b shown other shares =
    alike_then a b c.args.one.now c.args.other.now c.in-Some.one c.in-Some-other.other c.args.shared c.is_equal.result c.is_one_state.result c.in-Some.is c.in-Some-other.is shown other shares c.is_equal.ensures c.if-is_equal.true c.is_one_state.ensures
