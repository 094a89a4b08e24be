use Rattle.std.proofs.Common.{None, refl, sym, subst, ap, ◌∙◌}
use Rattle.dg_nor.specs.Trail.{Trail}
use Rattle.dg_volume.specs.Store.{Store}
use Rattle.dg_boot.specs.Ends.{TrailWent, Goes}
use Rattle.dg_boot.proofs.CommitLemmas.{went_none, advance_told, app_none, app_some, blank_none, blank_some}
use Rattle.dg_boot.proofs.committing.blank.Goals as goal

pub returns-in-Blank-clause-goes : goal.returns-in-Blank-clause-goes
returns-in-Blank-clause-goes g c s mounted =
    let says = mounted.tells.says in
    let none = app_none s.app (sym c.in-Blank.is ∙ ap (λ p. p.program) c.snapshot-now.ensures ∙ says.program) in
    let P : Trail Store → Type 0 = λ t. TrailWent t (g.N.Nor.device c.args.nor.now) (g.N.Nor.device c.args.nor.now) c.args.volume.now in
    subst P (sym (blank_none s none)) (went_none s _ c.args.volume.now mounted)

pub returns-in-Set-clause-goes : goal.returns-in-Set-clause-goes
returns-in-Set-clause-goes g c s mounted =
    let says = mounted.tells.says in
    let now = c.snapshot-now.ensures in
    let app = app_some s.app c.in-Set.image c.in-Set.version (sym c.in-Set.is ∙ ap (λ p. p.program) now ∙ says.program) in
    let P : Trail Store → Type 0 = λ t. Goes c.commit.result t (g.N.Nor.device c.args.nor.now) (g.N.Nor.device c.commit.new.nor) c.commit.new.volume in
    let same = advance_told s None c.snapshot-now.result.gesture s.gesture c.snapshot-now.result.waived s.waived (ap (λ p. p.gesture) now ∙ says.gesture) (ap (λ p. p.waived) now ∙ says.waived) in
    subst P (same ∙ sym (blank_some s app.app app.is)) (c.commit.ensures.goes s None mounted refl tt)
