use Rattle.std.proofs.Common.{List, [], ◌∷◌, ◌++◌, map, refl}
use Rattle.std.proofs.lemmas.Result.{err_from_is_err_and}
use Rattle.dg_base.specs.declared.events.Event.{Event}
use Rattle.dg_rounds.specs.Rounds.{paced, passed}
use Rattle.dg_script.specs.Items.{unreported}
use Rattle.dg_replay.proofs.BytesLemmas.{keep_same, events_keep}
use Rattle.dg_replay.proofs.StepLemmas.{so_far_none, so_far_one, so_far_then, so_far_stop, told_by}
use Rattle.dg_replay.proofs.rounds.play_request.Goals as goal

pub returns-in_err-play_heard-clause-played : goal.returns-in_err-play_heard-clause-played
returns-in_err-play_heard-clause-played g c =
    let A : List Event = passed c.args.a c.args.b ∷ [] in
    let B : List Event = paced c.args.b ∷ [] in
    let C : List Event = passed c.args.b c.args.a ∷ [] in
    let all : List Event = passed c.args.a c.args.b ∷ paced c.args.b ∷ passed c.args.b c.args.a ∷ [] in
    let p = err_from_is_err_and c.from_residual.result c.from_residual.ensures.1 in
    let boards = map g.N.Nor.device c.args.boards.now.items in
    let p0 = so_far_none c.args.world.now boards (told_by c.args.line_report.now.text.items (map g.N.Nor.device c.args.boards.now.items) (g.W.Watcher.saw c.args.watcher.now)) in
    rw (p.1, p.2)
    (so_far_stop c.in_err-play_heard.field-0.0 [] A (B ++ C) all c.args.world.now c.args.world.now c.play_heard.new.world boards boards _ (told_by c.args.line_report.now.text.items (map g.N.Nor.device c.args.boards.now.items) (g.W.Watcher.saw c.args.watcher.now)) (told_by c.args.line_report.now.text.items (map g.N.Nor.device c.args.boards.now.items) (g.W.Watcher.saw c.args.watcher.now)) (told_by c.play_heard.new.line_report.text.items (map g.N.Nor.device c.play_heard.new.boards.items) (g.W.Watcher.saw c.play_heard.new.watcher)) p0 c.in_err-play_heard.ensures.played refl)

pub returns-in_err-play_tick-clause-played : goal.returns-in_err-play_tick-clause-played
returns-in_err-play_tick-clause-played g c =
    let A : List Event = passed c.args.a c.args.b ∷ [] in
    let B : List Event = paced c.args.b ∷ [] in
    let C : List Event = passed c.args.b c.args.a ∷ [] in
    let all : List Event = passed c.args.a c.args.b ∷ paced c.args.b ∷ passed c.args.b c.args.a ∷ [] in
    let p = err_from_is_err_and c.from_residual-in_err-play_tick.result c.from_residual-in_err-play_tick.ensures.1 in
    let p1 = so_far_one (unreported A) c.args.world.now c.play_heard.new.world _ _ (told_by c.args.line_report.now.text.items (map g.N.Nor.device c.args.boards.now.items) (g.W.Watcher.saw c.args.watcher.now)) (told_by c.play_heard.new.line_report.text.items (map g.N.Nor.device c.play_heard.new.boards.items) (g.W.Watcher.saw c.play_heard.new.watcher)) c.in_ok-play_heard.ensures.goes_on c.in_ok-play_heard.ensures.played in
    rw (p.1, p.2)
    (so_far_stop c.in_err-play_tick.field-0.0 A B C all c.args.world.now c.play_heard.new.world c.play_tick.new.world _ _ _ (told_by c.args.line_report.now.text.items (map g.N.Nor.device c.args.boards.now.items) (g.W.Watcher.saw c.args.watcher.now)) (told_by c.play_heard.new.line_report.text.items (map g.N.Nor.device c.play_heard.new.boards.items) (g.W.Watcher.saw c.play_heard.new.watcher)) (told_by c.play_tick.new.line_report.text.items (map g.N.Nor.device c.play_tick.new.boards.items) (g.W.Watcher.saw c.play_tick.new.watcher)) p1 c.in_err-play_tick.ensures.played refl)

pub returns-in_err-play_heard-2-clause-played : goal.returns-in_err-play_heard-2-clause-played
returns-in_err-play_heard-2-clause-played g c =
    let A : List Event = passed c.args.a c.args.b ∷ [] in
    let B : List Event = paced c.args.b ∷ [] in
    let C : List Event = passed c.args.b c.args.a ∷ [] in
    let all : List Event = passed c.args.a c.args.b ∷ paced c.args.b ∷ passed c.args.b c.args.a ∷ [] in
    let p = err_from_is_err_and c.from_residual-in_err-play_heard-2.result c.from_residual-in_err-play_heard-2.ensures.1 in
    let p1 = so_far_one (unreported A) c.args.world.now c.play_heard.new.world _ _ (told_by c.args.line_report.now.text.items (map g.N.Nor.device c.args.boards.now.items) (g.W.Watcher.saw c.args.watcher.now)) (told_by c.play_heard.new.line_report.text.items (map g.N.Nor.device c.play_heard.new.boards.items) (g.W.Watcher.saw c.play_heard.new.watcher)) c.in_ok-play_heard.ensures.goes_on c.in_ok-play_heard.ensures.played in
    let p2 = so_far_then A B c.args.world.now c.play_heard.new.world c.play_tick.new.world _ _ _ (told_by c.args.line_report.now.text.items (map g.N.Nor.device c.args.boards.now.items) (g.W.Watcher.saw c.args.watcher.now)) (told_by c.play_heard.new.line_report.text.items (map g.N.Nor.device c.play_heard.new.boards.items) (g.W.Watcher.saw c.play_heard.new.watcher)) (told_by c.play_tick.new.line_report.text.items (map g.N.Nor.device c.play_tick.new.boards.items) (g.W.Watcher.saw c.play_tick.new.watcher)) p1 c.in_ok-play_tick.ensures.goes_on c.in_ok-play_tick.ensures.played in
    rw (p.1, p.2)
    (so_far_stop c.in_err-play_heard-2.field-0.0 (A ++ B) C [] all c.args.world.now c.play_tick.new.world c.play_heard-2.new.world _ _ _ (told_by c.args.line_report.now.text.items (map g.N.Nor.device c.args.boards.now.items) (g.W.Watcher.saw c.args.watcher.now)) (told_by c.play_tick.new.line_report.text.items (map g.N.Nor.device c.play_tick.new.boards.items) (g.W.Watcher.saw c.play_tick.new.watcher)) (told_by c.play_heard-2.new.line_report.text.items (map g.N.Nor.device c.play_heard-2.new.boards.items) (g.W.Watcher.saw c.play_heard-2.new.watcher)) p2 c.in_err-play_heard-2.ensures.played refl)

pub returns-clause-played : goal.returns-clause-played
returns-clause-played g c =
    let A : List Event = passed c.args.a c.args.b ∷ [] in
    let B : List Event = paced c.args.b ∷ [] in
    let C : List Event = passed c.args.b c.args.a ∷ [] in
    let all : List Event = passed c.args.a c.args.b ∷ paced c.args.b ∷ passed c.args.b c.args.a ∷ [] in
    let p1 = so_far_one (unreported A) c.args.world.now c.play_heard.new.world _ _ (told_by c.args.line_report.now.text.items (map g.N.Nor.device c.args.boards.now.items) (g.W.Watcher.saw c.args.watcher.now)) (told_by c.play_heard.new.line_report.text.items (map g.N.Nor.device c.play_heard.new.boards.items) (g.W.Watcher.saw c.play_heard.new.watcher)) c.in_ok-play_heard.ensures.goes_on c.in_ok-play_heard.ensures.played in
    let p2 = so_far_then A B c.args.world.now c.play_heard.new.world c.play_tick.new.world _ _ _ (told_by c.args.line_report.now.text.items (map g.N.Nor.device c.args.boards.now.items) (g.W.Watcher.saw c.args.watcher.now)) (told_by c.play_heard.new.line_report.text.items (map g.N.Nor.device c.play_heard.new.boards.items) (g.W.Watcher.saw c.play_heard.new.watcher)) (told_by c.play_tick.new.line_report.text.items (map g.N.Nor.device c.play_tick.new.boards.items) (g.W.Watcher.saw c.play_tick.new.watcher)) p1 c.in_ok-play_tick.ensures.goes_on c.in_ok-play_tick.ensures.played in
    let p3 = so_far_then (A ++ B) C c.args.world.now c.play_tick.new.world c.play_heard-2.new.world _ _ _ (told_by c.args.line_report.now.text.items (map g.N.Nor.device c.args.boards.now.items) (g.W.Watcher.saw c.args.watcher.now)) (told_by c.play_tick.new.line_report.text.items (map g.N.Nor.device c.play_tick.new.boards.items) (g.W.Watcher.saw c.play_tick.new.watcher)) (told_by c.play_heard-2.new.line_report.text.items (map g.N.Nor.device c.play_heard-2.new.boards.items) (g.W.Watcher.saw c.play_heard-2.new.watcher)) p2 c.in_ok-play_heard-2.ensures.goes_on c.in_ok-play_heard-2.ensures.played in
    p3.played

pub returns-clause-goes_on : goal.returns-clause-goes_on
returns-clause-goes_on g c =
    let A : List Event = passed c.args.a c.args.b ∷ [] in
    let B : List Event = paced c.args.b ∷ [] in
    let C : List Event = passed c.args.b c.args.a ∷ [] in
    let all : List Event = passed c.args.a c.args.b ∷ paced c.args.b ∷ passed c.args.b c.args.a ∷ [] in
    let p1 = so_far_one (unreported A) c.args.world.now c.play_heard.new.world _ _ (told_by c.args.line_report.now.text.items (map g.N.Nor.device c.args.boards.now.items) (g.W.Watcher.saw c.args.watcher.now)) (told_by c.play_heard.new.line_report.text.items (map g.N.Nor.device c.play_heard.new.boards.items) (g.W.Watcher.saw c.play_heard.new.watcher)) c.in_ok-play_heard.ensures.goes_on c.in_ok-play_heard.ensures.played in
    let p2 = so_far_then A B c.args.world.now c.play_heard.new.world c.play_tick.new.world _ _ _ (told_by c.args.line_report.now.text.items (map g.N.Nor.device c.args.boards.now.items) (g.W.Watcher.saw c.args.watcher.now)) (told_by c.play_heard.new.line_report.text.items (map g.N.Nor.device c.play_heard.new.boards.items) (g.W.Watcher.saw c.play_heard.new.watcher)) (told_by c.play_tick.new.line_report.text.items (map g.N.Nor.device c.play_tick.new.boards.items) (g.W.Watcher.saw c.play_tick.new.watcher)) p1 c.in_ok-play_tick.ensures.goes_on c.in_ok-play_tick.ensures.played in
    let p3 = so_far_then (A ++ B) C c.args.world.now c.play_tick.new.world c.play_heard-2.new.world _ _ _ (told_by c.args.line_report.now.text.items (map g.N.Nor.device c.args.boards.now.items) (g.W.Watcher.saw c.args.watcher.now)) (told_by c.play_tick.new.line_report.text.items (map g.N.Nor.device c.play_tick.new.boards.items) (g.W.Watcher.saw c.play_tick.new.watcher)) (told_by c.play_heard-2.new.line_report.text.items (map g.N.Nor.device c.play_heard-2.new.boards.items) (g.W.Watcher.saw c.play_heard-2.new.watcher)) p2 c.in_ok-play_heard-2.ensures.goes_on c.in_ok-play_heard-2.ensures.played in
    p3.goes

pub returns-in_err-play_heard-clause-kept : goal.returns-in_err-play_heard-clause-kept
returns-in_err-play_heard-clause-kept g c =
    let A : List Event = passed c.args.a c.args.b ∷ [] in
    let B : List Event = paced c.args.b ∷ [] in
    let C : List Event = passed c.args.b c.args.a ∷ [] in
    let all : List Event = passed c.args.a c.args.b ∷ paced c.args.b ∷ passed c.args.b c.args.a ∷ [] in
    let k0 = keep_same (unreported all) _ _ refl in
    events_keep [] A (B ++ C) all _ _ _ refl k0 c.in_err-play_heard.ensures.kept

pub returns-in_err-play_tick-clause-kept : goal.returns-in_err-play_tick-clause-kept
returns-in_err-play_tick-clause-kept g c =
    let A : List Event = passed c.args.a c.args.b ∷ [] in
    let B : List Event = paced c.args.b ∷ [] in
    let C : List Event = passed c.args.b c.args.a ∷ [] in
    let all : List Event = passed c.args.a c.args.b ∷ paced c.args.b ∷ passed c.args.b c.args.a ∷ [] in
    let k0 = keep_same (unreported all) _ _ refl in
    let k1 = events_keep [] A (B ++ C) all _ _ _ refl k0 c.in_ok-play_heard.ensures.kept in
    events_keep A B C all _ _ _ refl k1 c.in_err-play_tick.ensures.kept

pub returns-in_err-play_heard-2-clause-kept : goal.returns-in_err-play_heard-2-clause-kept
returns-in_err-play_heard-2-clause-kept g c =
    let A : List Event = passed c.args.a c.args.b ∷ [] in
    let B : List Event = paced c.args.b ∷ [] in
    let C : List Event = passed c.args.b c.args.a ∷ [] in
    let all : List Event = passed c.args.a c.args.b ∷ paced c.args.b ∷ passed c.args.b c.args.a ∷ [] in
    let k0 = keep_same (unreported all) _ _ refl in
    let k1 = events_keep [] A (B ++ C) all _ _ _ refl k0 c.in_ok-play_heard.ensures.kept in
    let k2 = events_keep A B C all _ _ _ refl k1 c.in_ok-play_tick.ensures.kept in
    events_keep (A ++ B) C [] all _ _ _ refl k2 c.in_err-play_heard-2.ensures.kept

pub returns-clause-kept : goal.returns-clause-kept
returns-clause-kept g c =
    let A : List Event = passed c.args.a c.args.b ∷ [] in
    let B : List Event = paced c.args.b ∷ [] in
    let C : List Event = passed c.args.b c.args.a ∷ [] in
    let all : List Event = passed c.args.a c.args.b ∷ paced c.args.b ∷ passed c.args.b c.args.a ∷ [] in
    let k0 = keep_same (unreported all) _ _ refl in
    let k1 = events_keep [] A (B ++ C) all _ _ _ refl k0 c.in_ok-play_heard.ensures.kept in
    let k2 = events_keep A B C all _ _ _ refl k1 c.in_ok-play_tick.ensures.kept in
    let k3 = events_keep (A ++ B) C [] all _ _ _ refl k2 c.in_ok-play_heard-2.ensures.kept in
    k3
