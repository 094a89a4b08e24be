use Rattle.std.proofs.Common.{◌+◌, sym, ap, ◌∙◌, arith, is_some, inl, inr}
use Rattle.std.proofs.lemmas.Bool.{both_ways, cases_order}
use Rattle.dg_moments.proofs.changes.next_time.Goals as goal

pub returns-then-not-contains_key : goal.returns-then-not-contains_key
returns-then-not-contains_key c n room all none =
    elim (cases_order c.loop-times.times (n + 1)) [
      | inl same ↦ same
      | inr (inl below) ↦ absurd (both_ways _ (sym c.contains_key.ensures ∙ c.if-not-contains_key.true)
          (all c.loop-times.times c.loop-times.auto.times (omega (arith, below))))
      | inr (inr above) ↦ absurd (both_ways _ (ap is_some none) (c.loop-times.invariant (n + 1) (omega arith) above))
    ]

pub returns : goal.returns
returns c n room all none =
    absurd (both_ways _ (ap is_some none) (c.loop-times.invariant (n + 1) (omega arith) (omega (arith, room, c.loop-times-test.false))))
