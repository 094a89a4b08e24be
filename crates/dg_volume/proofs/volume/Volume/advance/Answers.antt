use Rattle.std.proofs.Common.{Result, Ok, Err, OnOk, ap, ◌∙◌}
use Rattle.dg_volume.specs.Changes.{advanced}
use Rattle.dg_volume.proofs.CommitLemmas.{commit_acted, commit_stops}
use Rattle.dg_volume.proofs.AdvanceLemmas.{advance_commits}
use Rattle.dg_volume.proofs.volume.Volume.advance.Goals as goal

-- from four clauses on `Ok`
on_ok_four : {T E A B C D R : Type 0} (r : Result T E) → OnOk r A → OnOk r B → OnOk r C → OnOk r D → (A → B → C → D → R) → OnOk r R
on_ok_four (Ok x) a b c d f = f a b c d
on_ok_four (Err e) a b c d f = tt

pub returns-clause-acted : goal.returns-clause-acted
returns-clause-acted g c =
    on_ok_four c.commit.result c.commit.ensures.ok c.commit.ensures.now c.commit.ensures.room c.commit.ensures.ran
    (λ ok next room ran s app mounted told holds.
    let says = c.with_start-next.ensures in
    let now = c.now.ensures in
    let commits = advance_commits (g.N.Nor.device c.args.nor.now).image c.args.self.now s c.with_start-next.result c.args.program c.args.gesture c.args.waived app mounted.stands mounted.tells told holds
    (record { program = says.program; gesture = says.gesture; waived = says.waived; slots = says.slots ∙ ap (λ p. p.slots) now; order = says.order ∙ ap (λ p. p.order) now }) in
    commit_acted c.args.self.now _ c.with_start-next.result s (advanced s app c.args.gesture c.args.waived) _ _ commits c.commit.ensures.touches ok next room (λ i known. mounted.tells.kept i known (λ h. h)) ran)

pub returns-clause-stopped : goal.returns-clause-stopped
returns-clause-stopped g c is s app mounted told holds =
    let says = c.with_start-next.ensures in
    let now = c.now.ensures in
    let commits = advance_commits (g.N.Nor.device c.args.nor.now).image c.args.self.now s c.with_start-next.result c.args.program c.args.gesture c.args.waived app mounted.stands mounted.tells told holds
    (record { program = says.program; gesture = says.gesture; waived = says.waived; slots = says.slots ∙ ap (λ p. p.slots) now; order = says.order ∙ ap (λ p. p.order) now }) in
    commit_stops c.args.self.now.control c.with_start-next.result s (advanced s app c.args.gesture c.args.waived) _ _ commits c.commit.ensures.touches (c.commit.ensures.stopped is)
