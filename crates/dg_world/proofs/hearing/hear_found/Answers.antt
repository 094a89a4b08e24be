use Rattle.std.proofs.Common.{◌≡◌, refl, sym, subst, ap, ◌∙◌, Some, None, Ok, Err}
use Rattle.dg_nor.specs.Trail.{last}
use Rattle.dg_nor.proofs.ReadLemmas.{Looked-none}
use Rattle.dg_volume.specs.Stands.{Tells}
use Rattle.dg_rules.specs.World.{site, store_at}
use Rattle.dg_rules.specs.Events.{hear_by, unless_off}
use Rattle.dg_frame.specs.Spelling.{frame_of}
use Rattle.dg_world.specs.inner.EventOutcomes.{Refused, Unreported, Changes, Stopped}
use Rattle.dg_shared.specs.Finds.{IsFound}
use Rattle.dg_world.proofs.FindLemmas.{heard_ends, heard_unseen}
use Rattle.dg_node.specs.declared.node.Node.{Node}
use Rattle.dg_world.proofs.OutcomeLemmas.{told_as, is_refused, is_sent}
use Rattle.dg_world.proofs.TickLemmas.{off_as, on_as, node_changes, node_rests, node_stopped_with, node_tells, hear_same}
use Rattle.dg_mote.specs.Effects.{frame_effect}
use Rattle.dg_world.specs.Worlds.{MayRun}
use Rattle.dg_world.specs.inner.OutcomeEndings.{LeavesChip, outcome_sent}
use Rattle.dg_world.proofs.UnseenLemmas.{on_unseen}
use Rattle.dg_world.proofs.hearing.hear_found.Goals as goal

pub returns-in_default-clause-ends : goal.returns-in_default-clause-ends
returns-in_default-clause-ends g c = λ w m d stands found.
    told_as w m _ _ _ _ _ _ _ (is_refused _ _ _ _ _ c.requires.nothing.sent)
    (off_as (λ o. unless_off o d) w m _ (store_at w m) (site w m).runs c.args.runs.now _ refl c.in_default.is stands.mote)

pub returns-in-Nothing-clause-ends : goal.returns-in-Nothing-clause-ends
returns-in-Nothing-clause-ends g c = λ w m d stands found.
    let e = subst (λ y. IsFound y w m c.args.now c.args.word d) c.in-Nothing.is found in
    let v : Node = c.in-Some.node in
    told_as w m _ _ _ _ _ _ _ (is_refused _ _ _ _ _ c.requires.nothing.sent)
    (on_as (λ o. unless_off o d) (Ok (Refused c.in-Nothing.cause)) w m c.args.runs.now v _ _ (store_at w m) (site w m).runs _ _ c.in-Some.is stands.mote
    (λ r mote. let is : c.args.runs.now ≡ Some v = c.in-Some.is in (e, Looked-none _, cc)))

pub returns-else-leaves_chip-clause-ends : goal.returns-else-leaves_chip-clause-ends
returns-else-leaves_chip-clause-ends g c = λ w m d stands found.
    let s = store_at w m in
    let v : Node = c.in-Some.node in
    let u : Node = c.hear_sent.new.self in
    let n = c.requires.nothing in
    let e = subst (λ y. IsFound y w m c.args.now c.args.word d) c.in-Frame.is found in
    told_as w m _ _ _ _ _ _ _ c.note_change.ensures.outcome.1
    (heard_ends w m c.args.now c.args.word (frame_of c.in-Frame.message.now) d e (Ok (Changes c.keep_report.new.report c.note_change.ensures.outcome.0)) c.args.runs.now (Some u) (g.N.Nor.device c.args.board.now) (g.N.Nor.device c.hear_sent.new.board)
    (on_as (λ o. hear_by w s o c.args.now c.args.word (frame_of c.in-Frame.message.now)) (Ok (Changes c.keep_report.new.report c.note_change.ensures.outcome.0)) w m c.args.runs.now v (Some u) _ s (site w m).runs _ _ c.in-Some.is stands.mote
    (λ r mote.
    let done = c.in-Ok.ensures.done r.mote s mote.1 in
    let e = frame_effect r.mote s c.args.now c.args.word (frame_of c.in-Frame.message.now) in
    node_changes w m e (Some r.image_version) (Some v) _ _ (λ _. ap Some (sym mote.0)) u c.keep_report.new.report c.note_change.ensures.outcome.0 done
    (c.keep_report.ensures s (subst (λ v. Tells v s) (sym c.volume.ensures) mote.1.mounted.tells)) (c.note_change.ensures.outcome.2 (last e.trail) (subst (λ v. Tells v (last e.trail)) (sym c.volume-in-Ok.ensures) (node_tells e None (Some v) u _ _ done.0))))))

pub returns-then-leaves_chip-clause-ends : goal.returns-then-leaves_chip-clause-ends
returns-then-leaves_chip-clause-ends g c = λ w m d stands found.
    let s = store_at w m in
    let v : Node = c.in-Some.node in
    let u : Node = c.hear_sent.new.self in
    let n = c.requires.nothing in
    let e = subst (λ y. IsFound y w m c.args.now c.args.word d) c.in-Frame.is found in
    told_as w m _ _ _ _ _ _ _ (is_sent _ _ _ _ _ n.refused n.started n.before ∙ ap outcome_sent n.sent)
    (heard_ends w m c.args.now c.args.word (frame_of c.in-Frame.message.now) d e (Ok Unreported) c.args.runs.now (Some u) (g.N.Nor.device c.args.board.now) (g.N.Nor.device c.hear_sent.new.board)
    (on_as (λ o. hear_by w s o c.args.now c.args.word (frame_of c.in-Frame.message.now)) (Ok Unreported) w m c.args.runs.now v (Some u) _ s (site w m).runs _ _ c.in-Some.is stands.mote
    (λ r mote. node_rests w m (frame_effect r.mote s c.args.now c.args.word (frame_of c.in-Frame.message.now)) (Some r.image_version) (Some v) _ _ (λ _. ap Some (sym mote.0)) u (c.in-Ok.ensures.done r.mote s mote.1)
    (hear_same s r.mote c.args.now c.args.word (frame_of c.in-Frame.message.now) (subst LeavesChip (c.in-Ok.ensures.answers r.mote s mote.1) (c.leaves_chip.ensures c.if-leaves_chip.true))))))

pub returns-in-Err-clause-ends : goal.returns-in-Err-clause-ends
returns-in-Err-clause-ends g c = λ w m d stands found.
    let s = store_at w m in
    let v : Node = c.in-Some.node in
    let u : Node = c.hear_sent.new.self in
    let e = subst (λ y. IsFound y w m c.args.now c.args.word d) c.in-Frame.is found in
    heard_ends w m c.args.now c.args.word (frame_of c.in-Frame.message.now) d e (Err (Stopped (Some c.keep_report.new.report))) c.args.runs.now (Some u) (g.N.Nor.device c.args.board.now) (g.N.Nor.device c.hear_sent.new.board)
    (on_as (λ o. hear_by w s o c.args.now c.args.word (frame_of c.in-Frame.message.now)) (Err (Stopped (Some c.keep_report.new.report))) w m c.args.runs.now v (Some u) _ s (site w m).runs (g.N.Nor.device c.args.board.now) (g.N.Nor.device c.hear_sent.new.board) c.in-Some.is stands.mote
    (λ r mote.
    node_stopped_with w m (frame_effect r.mote s c.args.now c.args.word (frame_of c.in-Frame.message.now)) (Some r.image_version) (Some v) (g.N.Nor.device c.args.board.now) (g.N.Nor.device c.hear_sent.new.board) (λ _. ap Some (sym mote.0)) (Some u) c.keep_report.new.report (c.in-Err.ensures.done r.mote s mote.1).0
    (c.keep_report.ensures s (subst (λ v. Tells v s) (sym c.volume.ensures) mote.1.mounted.tells))))

pub returns-else-leaves_chip-clause-same_reference : goal.returns-else-leaves_chip-clause-same_reference
returns-else-leaves_chip-clause-same_reference g c =
    let x = subst (λ o. MayRun (g.N.Nor.device c.args.board.now).image c.args.now o) c.in-Some.is c.requires.mote in
    (c.in-Ok.ensures.done x.0 x.1 x.2).0.ran.references

pub returns-then-leaves_chip-clause-same_reference : goal.returns-then-leaves_chip-clause-same_reference
returns-then-leaves_chip-clause-same_reference g c =
    let x = subst (λ o. MayRun (g.N.Nor.device c.args.board.now).image c.args.now o) c.in-Some.is c.requires.mote in
    (c.in-Ok.ensures.done x.0 x.1 x.2).0.ran.references

pub returns-in-Err-clause-same_reference : goal.returns-in-Err-clause-same_reference
returns-in-Err-clause-same_reference g c =
    let x = subst (λ o. MayRun (g.N.Nor.device c.args.board.now).image c.args.now o) c.in-Some.is c.requires.mote in
    (c.in-Err.ensures.done x.0 x.1 x.2).0.halts.references

pub returns-else-leaves_chip-clause-unseen : goal.returns-else-leaves_chip-clause-unseen
returns-else-leaves_chip-clause-unseen g c = λ w m d stands found unseen.
    let e = subst (λ y. IsFound y w m c.args.now c.args.word d) c.in-Frame.is found in
    on_unseen (λ o. hear_by w (store_at w m) o c.args.now c.args.word (frame_of c.in-Frame.message.now)) c.in-Some.node c.args.runs.now _ (store_at w m) (site w m).runs c.in-Some.is stands.mote (λ r on. on) (heard_unseen w m c.args.now c.args.word (frame_of c.in-Frame.message.now) d e unseen)

pub returns-then-leaves_chip-clause-unseen : goal.returns-then-leaves_chip-clause-unseen
returns-then-leaves_chip-clause-unseen g c = λ w m d stands found unseen.
    let e = subst (λ y. IsFound y w m c.args.now c.args.word d) c.in-Frame.is found in
    on_unseen (λ o. hear_by w (store_at w m) o c.args.now c.args.word (frame_of c.in-Frame.message.now)) c.in-Some.node c.args.runs.now _ (store_at w m) (site w m).runs c.in-Some.is stands.mote (λ r on. on) (heard_unseen w m c.args.now c.args.word (frame_of c.in-Frame.message.now) d e unseen)

pub returns-in-Err-clause-unseen : goal.returns-in-Err-clause-unseen
returns-in-Err-clause-unseen g c = λ w m d stands found unseen.
    let e = subst (λ y. IsFound y w m c.args.now c.args.word d) c.in-Frame.is found in
    on_unseen (λ o. hear_by w (store_at w m) o c.args.now c.args.word (frame_of c.in-Frame.message.now)) c.in-Some.node c.args.runs.now _ (store_at w m) (site w m).runs c.in-Some.is stands.mote (λ r on. on) (heard_unseen w m c.args.now c.args.word (frame_of c.in-Frame.message.now) d e unseen)
