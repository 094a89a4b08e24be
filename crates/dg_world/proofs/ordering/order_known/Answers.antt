use Rattle.dg_control.specs.declared.snapshot.Order.{Order}
use Rattle.dg_nor.proofs.ReadLemmas.{Looked-none}
use Rattle.dg_rules.specs.World.{wide_at}
use Rattle.dg_rules.specs.Events.{knows, orders}
use Rattle.dg_world.specs.inner.Outcomes.{as_outcome}
use Rattle.dg_world.proofs.OutcomeLemmas.{told_as, is_refused}
use Rattle.dg_world.proofs.DispatchLemmas.{known_ends, unknown_ends}
use Rattle.dg_shared.proofs.UnseenLemmas.{order_seen}
use Rattle.dg_world.proofs.UnseenLemmas.{known_unseen}
use Rattle.std.proofs.Common.{refl}
use Rattle.dg_nor.proofs.TakenLemmas.{Took-same}
use Rattle.dg_world.proofs.KnownLemmas.{mount_reads}
use Rattle.dg_world.proofs.ordering.order_known.Goals as goal

pub returns-then-not-knows-clause-ends : goal.returns-then-not-knows-clause-ends
returns-then-not-knows-clause-ends g c = λ w is stands.
    let m = c.args.context.now.mote in
    let image_version = c.args.image_version in
    let o : Order = record { number = c.args.number; image = image_version.image; version = image_version.version } in
    told_as w m _ _ _ _ _ _ _ (is_refused _ _ _ _ _ c.requires.nothing.sent)
    (unknown_ends (orders w m o c.args.context.now.moment c.args.word) w m c.args.runs.now _ (knows (wide_at w m) image_version.image) c.knows.result (c.knows.ensures w is) c.if-not-knows.true (Looked-none _))

pub returns-clause-ends : goal.returns-clause-ends
returns-clause-ends g c = λ w is stands.
    let m = c.args.context.now.mote in
    let image_version = c.args.image_version in
    let o : Order = record { number = c.args.number; image = image_version.image; version = image_version.version } in
    known_ends (orders w m o c.args.context.now.moment c.args.word) (as_outcome c.order.result c.order.new.outcome) w m c.args.runs.now c.order.new.runs _ _ (knows (wide_at w m) image_version.image) c.knows.result
    (c.knows.ensures w is) c.if-not-knows.false (c.order.ensures.ends w m stands)

pub returns-clause-unseen : goal.returns-clause-unseen
returns-clause-unseen g c = λ w is unseen.
    let m = c.args.context.now.mote in
    let image_version = c.args.image_version in
    let o : Order = record { number = c.args.number; image = image_version.image; version = image_version.version } in
    order_seen w m c.args.context.now.moment c.args.word o
    (known_unseen (orders w m o c.args.context.now.moment c.args.word) (knows (wide_at w m) image_version.image) c.knows.result (c.knows.ensures w is) c.if-not-knows.false unseen)

pub returns-then-not-knows-clause-reads : goal.returns-then-not-knows-clause-reads
returns-then-not-knows-clause-reads g c = mount_reads c.args.context.now.known _ _ c.a_volume_bounds_a_remount.ensures.one (λ is n remount. Took-same n refl) refl
