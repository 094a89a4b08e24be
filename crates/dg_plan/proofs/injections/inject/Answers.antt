use Rattle.std.proofs.Common.{◌≡◌, ⊎_elim, refl, ap, ◌∙◌}
use Rattle.dg_nor.proofs.ReadLemmas.{Looked-none}
use Rattle.dg_object.specs.Object.{row_of}
use Rattle.dg_volume.specs.Trails.{inject_trail}
use Rattle.dg_volume.specs.declared.volume.InjectFault.TheVariants.{Stopped}
use Rattle.dg_plan.proofs.InjectLemmas.{refused_by}
use Rattle.dg_plan.specs.Plans.{plan_device}
use Rattle.dg_plan.proofs.PlanLemmas.{lists_lent, chip_lent, looked_halted, plan_of_act}
use Rattle.dg_plan.proofs.injections.inject.Goals as goal

pub returns-then-image-clause-looked : goal.returns-then-image-clause-looked
returns-then-image-clause-looked c = λ e r nu ns. Looked-none (plan_device c.args.plan.now)

pub returns-then-version-eq0-clause-looked : goal.returns-then-version-eq0-clause-looked
returns-then-version-eq0-clause-looked c = λ e r nu ns. Looked-none (plan_device c.args.plan.now)

pub returns-then-not-is_name-clause-looked : goal.returns-then-not-is_name-clause-looked
returns-then-not-is_name-clause-looked c = λ e r nu ns. Looked-none (plan_device c.args.plan.now)

-- ---- the chip is not mounted

pub returns-in-Err-clause-out_of_range : goal.returns-in-Err-clause-out_of_range
returns-in-Err-clause-out_of_range c = λ r. ⊎_elim (λ w. absurd cc) (λ w. absurd cc) (c.in-Err.ensures.only c.in-Err.fault refl)

pub returns-in-Err-clause-unread : goal.returns-in-Err-clause-unread
returns-in-Err-clause-unread c = λ r. c.in-Err.ensures.unread (cc r)

pub returns-in-Err-clause-no_volume : goal.returns-in-Err-clause-no_volume
returns-in-Err-clause-no_volume c = λ r. (c.in-Err.ensures.no_volume (cc r)).0

pub returns-in-Err-clause-refused : goal.returns-in-Err-clause-refused
returns-in-Err-clause-refused c = λ e r ne. ⊎_elim (λ w. absurd cc) (λ w. absurd cc) (c.in-Err.ensures.only c.in-Err.fault refl)

pub returns-in-Err-clause-looked : goal.returns-in-Err-clause-looked
returns-in-Err-clause-looked c = λ e r nu ns. ⊎_elim (λ w. absurd (nu cc)) (λ w. (c.in-Err.ensures.no_volume (ap Rattle.std.specs.Prelude.Err w)).1) (c.in-Err.ensures.only c.in-Err.fault refl)

pub returns-in-Err-clause-stopped : goal.returns-in-Err-clause-stopped
returns-in-Err-clause-stopped c = λ r. ⊎_elim (λ w. absurd cc) (λ w. absurd cc) (c.in-Err.ensures.only c.in-Err.fault refl)

-- ---- the act

pub returns-in-Ok-inject-clause-planned : goal.returns-in-Ok-inject-clause-planned
returns-in-Ok-inject-clause-planned c = λ s st.
    plan_of_act (inject_trail s (row_of c.args.image c.args.version c.args.name.now c.args.bytes.now)) c.args.plan.now c.mount.new.plan c.inject.new.nor c.inject.new.self c.in-Ok.ensures.looked ((c.in-Ok-inject.ensures.ends s (c.in-Ok.ensures.mounted s st)).acted)

pub returns-in-Ok-inject-clause-same_lists : goal.returns-in-Ok-inject-clause-same_lists
returns-in-Ok-inject-clause-same_lists c = lists_lent c.inject.new.nor c.mount.new.plan c.inject.ensures.same_reference ∙ c.mount.ensures.same_lists

pub returns-in-Ok-inject-clause-same_chip : goal.returns-in-Ok-inject-clause-same_chip
returns-in-Ok-inject-clause-same_chip c = chip_lent c.inject.new.nor c.mount.new.plan c.inject.ensures.same_reference ∙ c.mount.ensures.same_chip

pub returns-in-Err-inject-clause-same_lists : goal.returns-in-Err-inject-clause-same_lists
returns-in-Err-inject-clause-same_lists c = lists_lent c.inject.new.nor c.mount.new.plan c.inject.ensures.same_reference ∙ c.mount.ensures.same_lists

pub returns-in-Err-inject-clause-same_chip : goal.returns-in-Err-inject-clause-same_chip
returns-in-Err-inject-clause-same_chip c = chip_lent c.inject.new.nor c.mount.new.plan c.inject.ensures.same_reference ∙ c.mount.ensures.same_chip

pub returns-in-Err-inject-clause-refused : goal.returns-in-Err-inject-clause-refused
returns-in-Err-inject-clause-refused c = λ e r ne s st. (c.in-Err-inject.ensures.ends s (c.in-Ok.ensures.mounted s st)).refused e (cc r) ne

pub returns-in-Err-inject-clause-looked : goal.returns-in-Err-inject-clause-looked
returns-in-Err-inject-clause-looked c = λ e r nu ns.
    let looked = c.in-Ok.ensures.looked in
    let ne : c.in-Err-inject.fault ≡ Stopped → ⊥ = λ w. ns cc in
    refused_by c.in-Err-inject.fault _ _ _ looked ne (λ nt. (c.in-Err-inject.ensures.unchanged c.in-Err-inject.fault refl ne nt).0) (λ t. (c.in-Err-inject.ensures.taken (ap Rattle.std.specs.Prelude.Err t)).0)

pub returns-in-Err-inject-clause-stopped : goal.returns-in-Err-inject-clause-stopped
returns-in-Err-inject-clause-stopped c = λ r s st. looked_halted c.in-Ok.ensures.looked ((c.in-Err-inject.ensures.ends s (c.in-Ok.ensures.mounted s st)).stopped (cc r))
