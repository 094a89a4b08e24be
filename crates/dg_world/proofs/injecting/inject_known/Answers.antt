use Rattle.dg_nor.proofs.ReadLemmas.{Looked-none}
use Rattle.dg_rules.specs.World.{wide_at}
use Rattle.dg_rules.specs.Events.{knows, injects}
use Rattle.dg_world.specs.inner.Outcomes.{as_outcome}
use Rattle.dg_world.proofs.OutcomeLemmas.{told_as, is_refused}
use Rattle.dg_world.proofs.DispatchLemmas.{known_ends, unknown_ends}
use Rattle.dg_world.proofs.UnseenLemmas.{known_unseen}
use Rattle.dg_world.proofs.injecting.inject_known.Goals as goal

pub returns-then-not-knows-clause-ends : goal.returns-then-not-knows-clause-ends
returns-then-not-knows-clause-ends g c = λ w is stands.
    let m = c.args.context.now.mote in
    let image_version = c.args.image_version in
    told_as w m _ _ _ _ _ _ _ (is_refused _ _ _ _ _ c.requires.nothing.sent)
    (unknown_ends (injects w m image_version.image image_version.version c.args.context.now.moment c.args.word) w m c.args.runs.now _ (knows (wide_at w m) image_version.image) c.knows.result (c.knows.ensures w is) c.if-not-knows.true (Looked-none _))

pub returns-clause-ends : goal.returns-clause-ends
returns-clause-ends g c = λ w is stands.
    let m = c.args.context.now.mote in
    let image_version = c.args.image_version in
    known_ends (injects w m image_version.image image_version.version c.args.context.now.moment c.args.word) (as_outcome c.inject.result c.inject.new.outcome) w m c.args.runs.now c.inject.new.runs _ _ (knows (wide_at w m) image_version.image) c.knows.result
    (c.knows.ensures w is) c.if-not-knows.false (c.inject.ensures.ends w m is.declared stands)

pub returns-clause-unseen : goal.returns-clause-unseen
returns-clause-unseen g c = λ w is unseen.
    let m = c.args.context.now.mote in
    let image_version = c.args.image_version in
    c.inject.ensures.unseen w m is.declared
    (known_unseen (injects w m image_version.image image_version.version c.args.context.now.moment c.args.word) (knows (wide_at w m) image_version.image) c.knows.result (c.knows.ensures w is) c.if-not-knows.false unseen)
