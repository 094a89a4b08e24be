use Rattle.std.proofs.Common.{Err, sym, ap, subst, ◌∙◌}
use Rattle.dg_nor.specs.Trail.{Trail}
use Rattle.dg_volume.specs.Store.{Store}
use Rattle.dg_volume.specs.Acts.{Acted, Stops}
use Rattle.dg_nor.proofs.DeviceLemmas.{Ran-none}
use Rattle.dg_mote.proofs.LentLemmas.{rest_acted}
use Rattle.dg_mote.proofs.AskLemmas.{kept_better, not_kept_better, order_free, order_stops_alone, not_both}
use Rattle.dg_mote.proofs.adverts.keep_better.Goals as goal

pub returns-then-not-can_keep_better-clause-acted : goal.returns-then-not-can_keep_better-clause-acted
returns-then-not-can_keep_better-clause-acted g c s m =
    let a = g.N.Nor.device c.args.nor.now in
    let e = sym (c.can_keep_better.ensures s m.tells) ∙ c.if-not-can_keep_better.true in
    subst (λ (t : Trail Store). Acted t a a c.args.volume.now) (sym (not_kept_better s c.args.order.now e)) (rest_acted s 0 a a c.args.volume.now m (Ran-none a))

pub returns-in-Ok-clause-acted : goal.returns-in-Ok-clause-acted
returns-in-Ok-clause-acted g c s m =
    let a = g.N.Nor.device c.args.nor.now in
    let b = g.N.Nor.device c.order.new.nor in
    let e = sym (c.can_keep_better.ensures s m.tells) ∙ c.if-not-can_keep_better.false in
    subst (λ (t : Trail Store). Acted t a b c.order.new.self) (sym (kept_better s c.args.order.now e)) (c.in-Ok.ensures.acted s m)

pub returns-in-Err-clause-stopped : goal.returns-in-Err-clause-stopped
returns-in-Err-clause-stopped g c s m =
    let a = g.N.Nor.device c.args.nor.now in
    let b = g.N.Nor.device c.order.new.nor in
    let x = c.in-Err in
    let e = sym (c.can_keep_better.ensures s m.tells) ∙ c.if-not-can_keep_better.false in
    let free = order_free s c.args.order.now e in
    let stopped = order_stops_alone x.field-0 (λ other. not_both _ _ (c.order.ensures.refused x.field-0 x.is other s m) free) in
    subst (λ (t : Trail Store). Stops t a b) (sym (kept_better s c.args.order.now e)) (c.order.ensures.stopped (x.is ∙ ap Err stopped) s m)
