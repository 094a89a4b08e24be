use Rattle.std.proofs.Common.{◌≡◌, Err, refl, ap, ◌∙◌, arith}
use Rattle.dg_control.specs.declared.faults.CommitFault.{CommitFault}
use Rattle.dg_control.specs.declared.faults.CommitFault.TheVariants.{Stopped, Worn}
use Rattle.dg_volume.specs.Changes.{advanced}
use Rattle.dg_boot.proofs.CommitLemmas.{commit_went}
use Rattle.dg_boot.proofs.committing.commit.Goals as goal

pub returns-in-Ok-clause-goes : goal.returns-in-Ok-clause-goes
returns-in-Ok-clause-goes g c s app mounted told holds = commit_went s (advanced s app c.args.gesture c.args.waived) _ _ _ (c.in-Ok.ensures.acted s app mounted told holds)

stop_alone : (fault : CommitFault) → (fault ≡ Worn → ⊥) → fault ≡ Stopped
stop_alone Stopped none = refl
stop_alone Worn none = absurd (none refl)

pub returns-in-Err-clause-goes : goal.returns-in-Err-clause-goes
returns-in-Err-clause-goes g c s app mounted told holds =
    let x = c.in-Err in
    let stopped = stop_alone x.field-0 (λ worn. let full = c.advance.ensures.worn.0 (x.is ∙ ap Err worn) in omega (arith, full, c.requires.room)) in
    c.advance.ensures.stopped (x.is ∙ ap Err stopped) s app mounted told holds
