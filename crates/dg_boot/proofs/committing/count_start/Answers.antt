use Rattle.std.proofs.Common.{◌+◌, sym, subst, ap, ◌∙◌, arith}
use Rattle.dg_nor.specs.Trail.{Trail}
use Rattle.dg_volume.specs.Store.{Store}
use Rattle.dg_boot.specs.Ends.{TrailWent, Goes}
use Rattle.dg_boot.proofs.CommitLemmas.{went_none, advance_told, counted, not_counted, counts_room}
use Rattle.dg_boot.proofs.committing.count_start.Goals as goal

pub returns-then-not-counts-clause-goes : goal.returns-then-not-counts-clause-goes
returns-then-not-counts-clause-goes g c s mounted =
    let says = mounted.tells.says in
    let test = c.counts.ensures s (ap (λ p. p.gesture) c.snapshot-now.ensures ∙ says.gesture) (c.room.ensures ∙ mounted.tells.room) in
    let P : Trail Store → Type 0 = λ t. TrailWent t (g.N.Nor.device c.args.nor.now) (g.N.Nor.device c.args.nor.now) c.args.volume.now in
    subst P (sym (not_counted c.args.cause s (sym test ∙ c.if-not-counts.true))) (went_none s _ c.args.volume.now mounted)

pub commit-requires-clause-room : goal.commit-requires-clause-room
commit-requires-clause-room g c =
    let s = c.requires.mounted.0 in
    let m = c.requires.mounted.1 in
    let test = c.counts.ensures s (ap (λ p. p.gesture) c.snapshot-now.ensures ∙ m.tells.says.gesture) (c.room.ensures ∙ m.tells.room) in
    let h = counts_room c.args.cause s (sym test ∙ c.if-not-counts.false) in
    omega (arith, h.room, m.tells.room)

pub commit-requires-clause-gesture : goal.commit-requires-clause-gesture
commit-requires-clause-gesture g c =
    let s = c.requires.mounted.0 in
    let m = c.requires.mounted.1 in
    let same = ap (λ p. p.gesture) c.snapshot-now.ensures ∙ m.tells.says.gesture in
    let test = c.counts.ensures s same (c.room.ensures ∙ m.tells.room) in
    let h = counts_room c.args.cause s (sym test ∙ c.if-not-counts.false) in
    omega (arith, h.few, same)

pub returns-clause-goes : goal.returns-clause-goes
returns-clause-goes g c s mounted =
    let says = mounted.tells.says in
    let now = c.snapshot-now.ensures in
    let same = ap (λ p. p.gesture) now ∙ says.gesture in
    let test = c.counts.ensures s same (c.room.ensures ∙ mounted.tells.room) in
    let P : Trail Store → Type 0 = λ t. Goes c.commit.result t (g.N.Nor.device c.args.nor.now) (g.N.Nor.device c.commit.new.nor) c.commit.new.volume in
    let told = advance_told s s.app (c.snapshot-now.result.gesture + 1) (s.gesture + 1) c.snapshot-now.result.waived s.waived (ap (λ n. n + 1) same) (ap (λ p. p.waived) now ∙ says.waived) in
    subst P (told ∙ sym (counted c.args.cause s (sym test ∙ c.if-not-counts.false))) (c.commit.ensures.goes s s.app mounted (ap (λ p. p.program) now ∙ says.program) mounted.stands.contains.app)
