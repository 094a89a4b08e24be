use Rattle.std.proofs.Common.{Some, refl, sym, subst, ap, ◌∙◌}
use Rattle.dg_nor.specs.Trail.{Trail}
use Rattle.dg_volume.specs.Sizes.{golden_version}
use Rattle.dg_volume.specs.Store.{Store}
use Rattle.dg_volume.specs.Start.{app_of}
use Rattle.dg_boot.specs.Ends.{TrailWent, Goes}
use Rattle.dg_boot.proofs.CommitLemmas.{went_none, set_told, finished, not_finished, done_three, done_kept}
use Rattle.dg_boot.proofs.committing.finish.Goals as goal

pub returns-then-not-finishes-clause-goes : goal.returns-then-not-finishes-clause-goes
returns-then-not-finishes-clause-goes g c s r mounted is holds =
    let P : Trail Store → Type 0 = λ t. TrailWent t (g.N.Nor.device c.args.nor.now) (g.N.Nor.device c.args.nor.now) c.args.volume.now in
    subst P (sym (not_finished s r c.args.three (sym (c.finishes.ensures s mounted.tells) ∙ c.if-not-finishes.true))) (went_none s _ c.args.volume.now mounted)

pub commit-requires-clause-holds : goal.commit-requires-clause-holds
commit-requires-clause-holds g c = let h = c.requires.holds in (Some h.0, set_told h.0 0 golden_version h.1, h.2)

pub commit-requires-else-three-clause-holds : goal.commit-requires-else-three-clause-holds
commit-requires-else-three-clause-holds g c = let h = c.requires.holds in (Some h.0, set_told h.0 0 golden_version h.1, h.2)

pub returns-then-three-clause-goes : goal.returns-then-three-clause-goes
returns-then-three-clause-goes g c s r mounted is holds =
    let says = mounted.tells.says in
    let number = ap (λ p. p.order.number) c.snapshot-now.ensures ∙ ap (λ o. o.number) says.order in
    let P : Trail Store → Type 0 = λ t. Goes c.commit.result t (g.N.Nor.device c.args.nor.now) (g.N.Nor.device c.commit.new.nor) c.commit.new.volume in
    let all = finished s r c.args.three (sym (c.finishes.ensures s mounted.tells) ∙ c.if-not-finishes.false) in
    subst P (done_three s r c.args.three _ c.snapshot-now.result.order.number c.if-three.true number refl ∙ sym all) (c.commit.ensures.goes s (Some (app_of r)) mounted (set_told (app_of r) 0 golden_version is) holds)

pub returns-else-three-clause-goes : goal.returns-else-three-clause-goes
returns-else-three-clause-goes g c s r mounted is holds =
    let says = mounted.tells.says in
    let now = c.snapshot-now.ensures in
    let P : Trail Store → Type 0 = λ t. Goes c.commit-else-three.result t (g.N.Nor.device c.args.nor.now) (g.N.Nor.device c.commit-else-three.new.nor) c.commit-else-three.new.volume in
    let all = finished s r c.args.three (sym (c.finishes.ensures s mounted.tells) ∙ c.if-not-finishes.false) in
    subst P (done_kept s r c.args.three c.snapshot-now.result.waived c.snapshot-now.result.gesture c.if-three.false (ap (λ p. p.gesture) now ∙ says.gesture) (ap (λ p. p.waived) now ∙ says.waived) ∙ sym all)
    (c.commit-else-three.ensures.goes s (Some (app_of r)) mounted (set_told (app_of r) 0 golden_version is) holds)
