use Rattle.std.proofs.Common.{◌≡◌, ℕ, inl, inr, sym, ap, subst, ◌∙◌, arith}
use Rattle.std.proofs.lemmas.Bool.{cases_lt}
use Rattle.dg_rehearse.specs.Ended.{TellsOf}
use Rattle.dg_rehearse.specs.Turns.{all_motes, tells_of}
use Rattle.dg_rehearse.proofs.NoteLemmas.{all_more, all_none, not_all}
use Rattle.dg_rehearse.proofs.telling.all_have.Goals as goal

pub loop-mote-init : goal.loop-mote-init
loop-mote-init c = record { each = λ m h. absurd (omega (arith, h)); value = all_none (tells_of c.args.plan.now c.args.reports.now) }

pub loop-mote-preserved : goal.loop-mote-preserved
loop-mote-preserved c = record {
  each = λ m h.
      elim (cases_lt m c.loop-mote.mote) [
        | inl low ↦ c.loop-mote.invariant.each m low
        | inr high ↦
            let is : c.loop-mote.mote ≡ m = omega (arith, h, high) in
            subst (λ (k : ℕ). TellsOf c.args.plan.now k c.args.reports.now) is (c.has.ensures.tells c.if-not-has.false)
      ];
  value = all_more (tells_of c.args.plan.now c.args.reports.now) c.loop-mote.mote c.loop-mote.invariant.value (sym c.has.ensures.value ∙ c.if-not-has.false);
}

pub returns-then-not-has-clause-value : goal.returns-then-not-has-clause-value
returns-then-not-has-clause-value c = sym (not_all (tells_of c.args.plan.now c.args.reports.now) c.loop-mote.mote c.args.motes (sym c.has.ensures.value ∙ c.if-not-has.true) c.loop-mote-test.true)

pub returns-clause-each : goal.returns-clause-each
returns-clause-each c = λ _ m h. c.loop-mote.invariant.each m (omega (arith, h, c.loop-mote-test.false))

pub returns-clause-value : goal.returns-clause-value
returns-clause-value c =
    let all : c.loop-mote.mote ≡ c.args.motes = omega (arith, c.loop-mote-test.false, c.loop-mote.auto.mote-end) in
    sym c.loop-mote.invariant.value ∙ ap (λ (k : ℕ). all_motes (tells_of c.args.plan.now c.args.reports.now) k) all
