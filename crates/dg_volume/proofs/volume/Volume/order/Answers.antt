use Rattle.std.proofs.Common.{ap, ◌∙◌, arith}
use Rattle.dg_control.specs.Mounted.{control_snapshot, control_room}
use Rattle.dg_control.specs.declared.snapshot.Order.{Order}
use Rattle.dg_volume.specs.Changes.{ordered}
use Rattle.dg_volume.proofs.CommitLemmas.{commit_acted, commit_stops, controls_of}
use Rattle.dg_volume.proofs.OrderLemmas.{order_commits, order_old, order_worn, order_allowed}
use Rattle.dg_volume.proofs.RemountLemmas.{more_bytes, same_bytes, stays_orderly, stopped_slots}
use Rattle.dg_volume.proofs.volume.Volume.order.Goals as goal

pub returns-then-number-kept-clause-refused : goal.returns-then-number-kept-clause-refused
returns-then-number-kept-clause-refused g c e is _ s mounted =
    let o : Order = record { number = c.args.number; image = c.args.image; version = c.args.version } in
    let same = ap (λ p. p.order.number) c.now-snapshot.ensures ∙ ap (λ (o : Order). o.number) mounted.tells.says.order in
    order_old s o _ e same (omega (arith, c.if-number-kept.true)) cc

pub returns-then-room-lt-COMMITS-clause-refused : goal.returns-then-room-lt-COMMITS-clause-refused
returns-then-room-lt-COMMITS-clause-refused g c e is _ s mounted =
    let o : Order = record { number = c.args.number; image = c.args.image; version = c.args.version } in
    let same = ap (λ p. p.order.number) c.now-snapshot.ensures ∙ ap (λ (o : Order). o.number) mounted.tells.says.order in
    order_worn s o c.room-room.result e (omega (arith, c.if-number-kept.false, same)) (c.room-room.ensures ∙ mounted.tells.room) c.if-room-lt-COMMITS.true cc

pub returns-in-Ok-clause-allowed : goal.returns-in-Ok-clause-allowed
returns-in-Ok-clause-allowed g c s mounted =
    let o : Order = record { number = c.args.number; image = c.args.image; version = c.args.version } in
    let same = ap (λ p. p.order.number) c.now-snapshot.ensures ∙ ap (λ (o : Order). o.number) mounted.tells.says.order in
    order_allowed s o (omega (arith, c.if-number-kept.false, same)) (omega (arith, c.room-room.ensures, mounted.tells.room, c.if-room-lt-COMMITS.false))

pub returns-in-Err-clause-allowed : goal.returns-in-Err-clause-allowed
returns-in-Err-clause-allowed g c s mounted =
    let o : Order = record { number = c.args.number; image = c.args.image; version = c.args.version } in
    let same = ap (λ p. p.order.number) c.now-snapshot.ensures ∙ ap (λ (o : Order). o.number) mounted.tells.says.order in
    order_allowed s o (omega (arith, c.if-number-kept.false, same)) (omega (arith, c.room-room.ensures, mounted.tells.room, c.if-room-lt-COMMITS.false))

pub returns-in-Ok-clause-acted : goal.returns-in-Ok-clause-acted
returns-in-Ok-clause-acted g c s mounted =
    let o : Order = record { number = c.args.number; image = c.args.image; version = c.args.version } in
    let says = c.with_order-next.ensures in
    let now = c.now-snapshot.ensures in
    let commits = order_commits (g.N.Nor.device c.args.nor.now).image c.args.self.now s c.with_order-next.result o mounted.stands mounted.tells
    (record { order = says.order; waived = says.waived; slots = says.slots ∙ ap (λ p. p.slots) now; program = says.program ∙ ap (λ p. p.program) now; gesture = says.gesture ∙ ap (λ p. p.gesture) now }) in
    commit_acted c.args.self.now _ c.with_order-next.result s (ordered s o) _ _ commits c.in-Ok.ensures.touches c.in-Ok.ensures.ok c.in-Ok.ensures.now c.in-Ok.ensures.room (λ i known. mounted.tells.kept i known (λ h. h)) c.in-Ok.ensures.ran

pub returns-in-Err-clause-stopped : goal.returns-in-Err-clause-stopped
returns-in-Err-clause-stopped g c _ s mounted =
    let o : Order = record { number = c.args.number; image = c.args.image; version = c.args.version } in
    let says = c.with_order-next.ensures in
    let now = c.now-snapshot.ensures in
    let commits = order_commits (g.N.Nor.device c.args.nor.now).image c.args.self.now s c.with_order-next.result o mounted.stands mounted.tells
    (record { order = says.order; waived = says.waived; slots = says.slots ∙ ap (λ p. p.slots) now; program = says.program ∙ ap (λ p. p.program) now; gesture = says.gesture ∙ ap (λ p. p.gesture) now }) in
    commit_stops c.args.self.now.control c.with_order-next.result s (ordered s o) _ _ commits c.in-Err.ensures.touches c.in-Err.ensures.stopped

-- ---- the chip is mounted again

pub returns-then-number-kept-clause-bytes : goal.returns-then-number-kept-clause-bytes
returns-then-number-kept-clause-bytes g c = same_bytes (g.N.Nor.device c.args.nor.now).image

pub returns-then-room-lt-COMMITS-clause-bytes : goal.returns-then-room-lt-COMMITS-clause-bytes
returns-then-room-lt-COMMITS-clause-bytes g c = same_bytes (g.N.Nor.device c.args.nor.now).image

pub returns-in-Ok-clause-orderly : goal.returns-in-Ok-clause-orderly
returns-in-Ok-clause-orderly g c = stays_orderly _ _ c.in-Ok.ensures.orderly

pub returns-in-Err-clause-orderly : goal.returns-in-Err-clause-orderly
returns-in-Err-clause-orderly g c = stays_orderly _ _ c.in-Err.ensures.orderly

pub returns-in-Ok-clause-bytes : goal.returns-in-Ok-clause-bytes
returns-in-Ok-clause-bytes g c m n was is =
    let v = c.args.self.now.control in
    let control = c.requires.mounted.1.control in
    let slots = ap (λ p. p.slots) c.in-Ok.ensures.now ∙ c.with_order-next.ensures.slots ∙ ap (λ p. p.slots) c.now-snapshot.ensures in
    more_bytes _ _ (control_snapshot v) _ (control_room v) _ m n (controls_of _ v control) (controls_of _ _ c.in-Ok.ensures.ok) slots c.in-Ok.ensures.orderly was is

pub returns-in-Err-clause-bytes : goal.returns-in-Err-clause-bytes
returns-in-Err-clause-bytes g c m n was is =
    let v = c.args.self.now.control in
    let control = c.requires.mounted.1.control in
    let same = c.with_order-next.ensures.slots ∙ ap (λ p. p.slots) c.now-snapshot.ensures in
    let halted = c.in-Err.ensures.stopped in
    let left = stopped_slots v c.with_order-next.result halted.done _ same halted.leaves in
    more_bytes _ _ (control_snapshot v) left.snapshot (control_room v) left.room m n (controls_of _ v control) left.controls left.same c.in-Err.ensures.orderly was is
