use Rattle.std.proofs.Common.{⊎_elim, refl, ap, ◌∙◌}
use Rattle.dg_nor.proofs.ReadLemmas.{Looked-none, Looked_then}
use Rattle.dg_plan.specs.Plans.{plan_device}
use Rattle.dg_plan.proofs.PlanLemmas.{lists_lent, chip_lent}
use Rattle.dg_plan.proofs.SealLemmas.{sealed_before, bad_before, unfit_before, stopped_before}
use Rattle.dg_plan.proofs.seals.seal.Goals as goal

pub returns-then-name-clause-looked : goal.returns-then-name-clause-looked
returns-then-name-clause-looked c = λ e r nu ns. Looked-none (plan_device c.args.plan.now)

-- ---- the chip is not mounted

pub returns-in-Err-clause-out_of_range : goal.returns-in-Err-clause-out_of_range
returns-in-Err-clause-out_of_range c = λ r. ⊎_elim (λ w. absurd cc) (λ w. absurd cc) (c.in-Err.ensures.only c.in-Err.fault refl)

pub returns-in-Err-clause-not_kept : goal.returns-in-Err-clause-not_kept
returns-in-Err-clause-not_kept c = λ r. ⊎_elim (λ w. absurd cc) (λ w. absurd cc) (c.in-Err.ensures.only c.in-Err.fault refl)

pub returns-in-Err-clause-not_next : goal.returns-in-Err-clause-not_next
returns-in-Err-clause-not_next c = λ next r. ⊎_elim (λ w. absurd cc) (λ w. absurd cc) (c.in-Err.ensures.only c.in-Err.fault refl)

pub returns-in-Err-clause-bad : goal.returns-in-Err-clause-bad
returns-in-Err-clause-bad c = λ kept found r. ⊎_elim (λ w. absurd cc) (λ w. absurd cc) (c.in-Err.ensures.only c.in-Err.fault refl)

pub returns-in-Err-clause-unfit : goal.returns-in-Err-clause-unfit
returns-in-Err-clause-unfit c = λ r. ⊎_elim (λ w. absurd cc) (λ w. absurd cc) (c.in-Err.ensures.only c.in-Err.fault refl)

pub returns-in-Err-clause-stopped : goal.returns-in-Err-clause-stopped
returns-in-Err-clause-stopped c = λ r. ⊎_elim (λ w. absurd cc) (λ w. absurd cc) (c.in-Err.ensures.only c.in-Err.fault refl)

pub returns-in-Err-clause-unread : goal.returns-in-Err-clause-unread
returns-in-Err-clause-unread c = λ r. c.in-Err.ensures.unread (cc r)

pub returns-in-Err-clause-no_volume : goal.returns-in-Err-clause-no_volume
returns-in-Err-clause-no_volume c = λ r. (c.in-Err.ensures.no_volume (cc r)).0

pub returns-in-Err-clause-looked : goal.returns-in-Err-clause-looked
returns-in-Err-clause-looked c = λ e r nu ns. ⊎_elim (λ w. absurd (nu cc)) (λ w. (c.in-Err.ensures.no_volume (ap Rattle.std.specs.Prelude.Err w)).1) (c.in-Err.ensures.only c.in-Err.fault refl)

-- ---- the act

pub returns-in-Ok-seal_next-clause-planned : goal.returns-in-Ok-seal_next-clause-planned
returns-in-Ok-seal_next-clause-planned c = λ s st.
    let looked = c.in-Ok.ensures.looked in
    let x = c.in-Ok-seal_next.ensures.sealed s (c.in-Ok.ensures.mounted s st) in
    sealed_before c.args.plan.now c.mount.new.plan c.seal_next.new.nor c.args.name s looked x

pub returns-in-Ok-seal_next-clause-same_lists : goal.returns-in-Ok-seal_next-clause-same_lists
returns-in-Ok-seal_next-clause-same_lists c = lists_lent c.seal_next.new.nor c.mount.new.plan c.seal_next.ensures.same_reference ∙ c.mount.ensures.same_lists

pub returns-in-Ok-seal_next-clause-same_chip : goal.returns-in-Ok-seal_next-clause-same_chip
returns-in-Ok-seal_next-clause-same_chip c = chip_lent c.seal_next.new.nor c.mount.new.plan c.seal_next.ensures.same_reference ∙ c.mount.ensures.same_chip

pub returns-in-Err-seal_next-clause-same_lists : goal.returns-in-Err-seal_next-clause-same_lists
returns-in-Err-seal_next-clause-same_lists c = lists_lent c.seal_next.new.nor c.mount.new.plan c.seal_next.ensures.same_reference ∙ c.mount.ensures.same_lists

pub returns-in-Err-seal_next-clause-same_chip : goal.returns-in-Err-seal_next-clause-same_chip
returns-in-Err-seal_next-clause-same_chip c = chip_lent c.seal_next.new.nor c.mount.new.plan c.seal_next.ensures.same_reference ∙ c.mount.ensures.same_chip

pub returns-in-Err-seal_next-clause-not_kept : goal.returns-in-Err-seal_next-clause-not_kept
returns-in-Err-seal_next-clause-not_kept c = λ r s h st here. c.in-Err-seal_next.ensures.not_kept (cc r) s h (c.in-Ok.ensures.mounted s st) here

pub returns-in-Err-seal_next-clause-not_next : goal.returns-in-Err-seal_next-clause-not_next
returns-in-Err-seal_next-clause-not_next c = λ next r s h st here. c.in-Err-seal_next.ensures.not_next next (cc r) s h (c.in-Ok.ensures.mounted s st) here

pub returns-in-Err-seal_next-clause-bad : goal.returns-in-Err-seal_next-clause-bad
returns-in-Err-seal_next-clause-bad c = λ kept found r s h st here.
    bad_before c.args.plan.now c.mount.new.plan c.args.name h kept found c.in-Ok.ensures.looked (c.in-Err-seal_next.ensures.bad kept found (cc r) s h (c.in-Ok.ensures.mounted s st) here)

pub returns-in-Err-seal_next-clause-unfit : goal.returns-in-Err-seal_next-clause-unfit
returns-in-Err-seal_next-clause-unfit c = λ r s h st here.
    unfit_before c.args.plan.now c.mount.new.plan c.args.name h c.in-Ok.ensures.looked (c.in-Err-seal_next.ensures.unfit (cc r) s h (c.in-Ok.ensures.mounted s st) here)

pub returns-in-Err-seal_next-clause-looked : goal.returns-in-Err-seal_next-clause-looked
returns-in-Err-seal_next-clause-looked c = λ e r nu ns. Looked_then c.in-Ok.ensures.looked (c.in-Err-seal_next.ensures.looked c.in-Err-seal_next.fault refl (λ w. ns cc))

pub returns-in-Err-seal_next-clause-stopped : goal.returns-in-Err-seal_next-clause-stopped
returns-in-Err-seal_next-clause-stopped c = λ r s h st here.
    stopped_before c.args.plan.now c.mount.new.plan c.seal_next.new.nor c.args.name s h c.in-Ok.ensures.looked (c.in-Err-seal_next.ensures.stopped (cc r) s h (c.in-Ok.ensures.mounted s st) here)
