use Rattle.std.proofs.Common.{Result, Ok, Err, OnOk, sym, subst, ◌∙◌}
use Rattle.dg_control.specs.Store.{HasForm}
use Rattle.dg_volume.specs.Stands.{form_of}
use Rattle.dg_volume.specs.Changes.{spent}
use Rattle.dg_volume.proofs.CommitLemmas.{commit_acted, commit_stops}
use Rattle.dg_volume.proofs.AdvanceLemmas.{migrate_commits, migrate_acted, migrate_stops, is_migrated, rested}
use Rattle.dg_volume.proofs.volume.Volume.migrate.Goals as goal

-- from four clauses on `Ok`
on_ok_four : {T E A B C D R : Type 0} (r : Result T E) → OnOk r A → OnOk r B → OnOk r C → OnOk r D → (A → B → C → D → R) → OnOk r R
on_ok_four (Ok x) a b c d f = f a b c d
on_ok_four (Err e) a b c d f = tt

pub returns-then-form-ne-OLD_FORM-clause-acted : goal.returns-then-form-ne-OLD_FORM-clause-acted
returns-then-form-ne-OLD_FORM-clause-acted g c s mounted =
    rested (form_of c.args.self.now) s _ c.args.self.now (sym c.form.ensures ∙ is_migrated c.form.result (c.a_chip_has_one_form.ensures.two (g.N.Nor.device c.args.nor.now).image c.form.result
    (subst (HasForm (g.N.Nor.device c.args.nor.now).image) (sym c.form.ensures) (c.a_chip_has_one_form.ensures.told (g.N.Nor.device c.args.nor.now).image c.args.self.now.control c.requires.mounted.1.control))) c.if-form-ne-OLD_FORM.true) mounted

pub returns-clause-acted : goal.returns-clause-acted
returns-clause-acted g c =
    on_ok_four c.commit.result c.commit.ensures.ok c.commit.ensures.now c.commit.ensures.room c.commit.ensures.ran
    (λ ok next room ran s mounted.
    let commits = migrate_commits (g.N.Nor.device c.args.nor.now).image c.args.self.now s c.now-snapshot.result mounted.stands mounted.tells c.now-snapshot.ensures in
    migrate_acted (form_of c.args.self.now) s _ _ _ (sym c.form.ensures ∙ c.if-form-ne-OLD_FORM.false)
    (commit_acted c.args.self.now _ c.now-snapshot.result s (spent s) _ _ commits c.commit.ensures.touches ok next room (λ i known. mounted.tells.kept i known (λ h. h)) ran))

pub returns-clause-stopped : goal.returns-clause-stopped
returns-clause-stopped g c is s mounted =
    let commits = migrate_commits (g.N.Nor.device c.args.nor.now).image c.args.self.now s c.now-snapshot.result mounted.stands mounted.tells c.now-snapshot.ensures in
    migrate_stops (form_of c.args.self.now) s _ _ (sym c.form.ensures ∙ c.if-form-ne-OLD_FORM.false)
    (commit_stops c.args.self.now.control c.now-snapshot.result s (spent s) _ _ commits c.commit.ensures.touches (c.commit.ensures.stopped is))

pub returns-clause-either : goal.returns-clause-either
returns-clause-either g c is =
    let left = (c.commit.ensures.stopped is).leaves.leaves in
    c.a_chip_has_one_form.ensures.known _ left.store.snapshot left.store.room left.stands_for
