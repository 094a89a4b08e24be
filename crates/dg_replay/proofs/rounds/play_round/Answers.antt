use Rattle.std.proofs.Common.{List, [], ◌∷◌, ◌++◌, map, refl, subst}
use Rattle.std.proofs.lemmas.Result.{err_from_is_err_and}
use Rattle.dg_base.specs.declared.events.Event.{Event}
use Rattle.dg_object.specs.Sizes.{packets}
use Rattle.dg_rounds.specs.Rounds.{drain_ticks, advert_ticks, times, paced, passed, round}
use Rattle.dg_replay.proofs.PartLemmas.{round_is, third_at, fourth_at, fifth_at, round_joined}
use Rattle.dg_script.specs.Items.{unreported}
use Rattle.dg_replay.proofs.BytesLemmas.{keep_same, events_keep}
use Rattle.dg_replay.proofs.StepLemmas.{PlayedSoFar, so_far_none, so_far_one, so_far_then, so_far_stop, told_by}
use Rattle.dg_replay.proofs.rounds.play_round.Goals as goal

pub returns-in_err-play_ticks-clause-played : goal.returns-in_err-play_ticks-clause-played
returns-in_err-play_ticks-clause-played g c =
    let A : List Event = times drain_ticks (paced c.args.a ∷ []) in
    let B : List Event = times drain_ticks (paced c.args.b ∷ []) in
    let C : List Event = times advert_ticks (paced c.args.a ∷ []) in
    let D : List Event = passed c.args.a c.args.b ∷ paced c.args.b ∷ passed c.args.b c.args.a ∷ [] in
    let E : List Event = times packets (paced c.args.a ∷ passed c.args.a c.args.b ∷ []) in
    let all : List Event = round c.args.a c.args.b in
    let p = err_from_is_err_and c.from_residual.result c.from_residual.ensures.1 in
    let boards = map g.N.Nor.device c.args.boards.now.items in
    let p0 = so_far_none c.args.world.now boards (told_by c.args.line_report.now.text.items (map g.N.Nor.device c.args.boards.now.items) (g.W.Watcher.saw c.args.watcher.now)) in
    rw (p.1, p.2)
    (so_far_stop c.in_err-play_ticks.field-0.0 [] A (B ++ (C ++ (D ++ E))) all c.args.world.now c.args.world.now c.play_ticks.new.world boards boards _ (told_by c.args.line_report.now.text.items (map g.N.Nor.device c.args.boards.now.items) (g.W.Watcher.saw c.args.watcher.now)) (told_by c.args.line_report.now.text.items (map g.N.Nor.device c.args.boards.now.items) (g.W.Watcher.saw c.args.watcher.now)) (told_by c.play_ticks.new.line_report.text.items (map g.N.Nor.device c.play_ticks.new.boards.items) (g.W.Watcher.saw c.play_ticks.new.watcher)) p0 c.in_err-play_ticks.ensures.played (round_is c.args.a c.args.b))

pub returns-in_err-play_ticks-2-clause-played : goal.returns-in_err-play_ticks-2-clause-played
returns-in_err-play_ticks-2-clause-played g c =
    let A : List Event = times drain_ticks (paced c.args.a ∷ []) in
    let B : List Event = times drain_ticks (paced c.args.b ∷ []) in
    let C : List Event = times advert_ticks (paced c.args.a ∷ []) in
    let D : List Event = passed c.args.a c.args.b ∷ paced c.args.b ∷ passed c.args.b c.args.a ∷ [] in
    let E : List Event = times packets (paced c.args.a ∷ passed c.args.a c.args.b ∷ []) in
    let all : List Event = round c.args.a c.args.b in
    let p = err_from_is_err_and c.from_residual-in_err-play_ticks-2.result c.from_residual-in_err-play_ticks-2.ensures.1 in
    let p1 = so_far_one (unreported A) c.args.world.now c.play_ticks.new.world _ _ (told_by c.args.line_report.now.text.items (map g.N.Nor.device c.args.boards.now.items) (g.W.Watcher.saw c.args.watcher.now)) (told_by c.play_ticks.new.line_report.text.items (map g.N.Nor.device c.play_ticks.new.boards.items) (g.W.Watcher.saw c.play_ticks.new.watcher)) c.in_ok-play_ticks.ensures.goes_on c.in_ok-play_ticks.ensures.played in
    rw (p.1, p.2)
    (so_far_stop c.in_err-play_ticks-2.field-0.0 A B (C ++ (D ++ E)) all c.args.world.now c.play_ticks.new.world c.play_ticks-2.new.world _ _ _ (told_by c.args.line_report.now.text.items (map g.N.Nor.device c.args.boards.now.items) (g.W.Watcher.saw c.args.watcher.now)) (told_by c.play_ticks.new.line_report.text.items (map g.N.Nor.device c.play_ticks.new.boards.items) (g.W.Watcher.saw c.play_ticks.new.watcher)) (told_by c.play_ticks-2.new.line_report.text.items (map g.N.Nor.device c.play_ticks-2.new.boards.items) (g.W.Watcher.saw c.play_ticks-2.new.watcher)) p1 c.in_err-play_ticks-2.ensures.played (round_is c.args.a c.args.b))

pub returns-in_err-play_ticks-3-clause-played : goal.returns-in_err-play_ticks-3-clause-played
returns-in_err-play_ticks-3-clause-played g c =
    let A : List Event = times drain_ticks (paced c.args.a ∷ []) in
    let B : List Event = times drain_ticks (paced c.args.b ∷ []) in
    let C : List Event = times advert_ticks (paced c.args.a ∷ []) in
    let D : List Event = passed c.args.a c.args.b ∷ paced c.args.b ∷ passed c.args.b c.args.a ∷ [] in
    let E : List Event = times packets (paced c.args.a ∷ passed c.args.a c.args.b ∷ []) in
    let all : List Event = round c.args.a c.args.b in
    let p = err_from_is_err_and c.from_residual-in_err-play_ticks-3.result c.from_residual-in_err-play_ticks-3.ensures.1 in
    let p1 = so_far_one (unreported A) c.args.world.now c.play_ticks.new.world _ _ (told_by c.args.line_report.now.text.items (map g.N.Nor.device c.args.boards.now.items) (g.W.Watcher.saw c.args.watcher.now)) (told_by c.play_ticks.new.line_report.text.items (map g.N.Nor.device c.play_ticks.new.boards.items) (g.W.Watcher.saw c.play_ticks.new.watcher)) c.in_ok-play_ticks.ensures.goes_on c.in_ok-play_ticks.ensures.played in
    let p2 = so_far_then A B c.args.world.now c.play_ticks.new.world c.play_ticks-2.new.world _ _ _ (told_by c.args.line_report.now.text.items (map g.N.Nor.device c.args.boards.now.items) (g.W.Watcher.saw c.args.watcher.now)) (told_by c.play_ticks.new.line_report.text.items (map g.N.Nor.device c.play_ticks.new.boards.items) (g.W.Watcher.saw c.play_ticks.new.watcher)) (told_by c.play_ticks-2.new.line_report.text.items (map g.N.Nor.device c.play_ticks-2.new.boards.items) (g.W.Watcher.saw c.play_ticks-2.new.watcher)) p1 c.in_ok-play_ticks-2.ensures.goes_on c.in_ok-play_ticks-2.ensures.played in
    rw (p.1, p.2)
    (so_far_stop c.in_err-play_ticks-3.field-0.0 (A ++ B) C (D ++ E) all c.args.world.now c.play_ticks-2.new.world c.play_ticks-3.new.world _ _ _ (told_by c.args.line_report.now.text.items (map g.N.Nor.device c.args.boards.now.items) (g.W.Watcher.saw c.args.watcher.now)) (told_by c.play_ticks-2.new.line_report.text.items (map g.N.Nor.device c.play_ticks-2.new.boards.items) (g.W.Watcher.saw c.play_ticks-2.new.watcher)) (told_by c.play_ticks-3.new.line_report.text.items (map g.N.Nor.device c.play_ticks-3.new.boards.items) (g.W.Watcher.saw c.play_ticks-3.new.watcher)) p2 c.in_err-play_ticks-3.ensures.played (third_at c.args.a c.args.b))

pub returns-in_err-play_request-clause-played : goal.returns-in_err-play_request-clause-played
returns-in_err-play_request-clause-played g c =
    let A : List Event = times drain_ticks (paced c.args.a ∷ []) in
    let B : List Event = times drain_ticks (paced c.args.b ∷ []) in
    let C : List Event = times advert_ticks (paced c.args.a ∷ []) in
    let D : List Event = passed c.args.a c.args.b ∷ paced c.args.b ∷ passed c.args.b c.args.a ∷ [] in
    let E : List Event = times packets (paced c.args.a ∷ passed c.args.a c.args.b ∷ []) in
    let all : List Event = round c.args.a c.args.b in
    let p = err_from_is_err_and c.from_residual-in_err-play_request.result c.from_residual-in_err-play_request.ensures.1 in
    let p1 = so_far_one (unreported A) c.args.world.now c.play_ticks.new.world _ _ (told_by c.args.line_report.now.text.items (map g.N.Nor.device c.args.boards.now.items) (g.W.Watcher.saw c.args.watcher.now)) (told_by c.play_ticks.new.line_report.text.items (map g.N.Nor.device c.play_ticks.new.boards.items) (g.W.Watcher.saw c.play_ticks.new.watcher)) c.in_ok-play_ticks.ensures.goes_on c.in_ok-play_ticks.ensures.played in
    let p2 = so_far_then A B c.args.world.now c.play_ticks.new.world c.play_ticks-2.new.world _ _ _ (told_by c.args.line_report.now.text.items (map g.N.Nor.device c.args.boards.now.items) (g.W.Watcher.saw c.args.watcher.now)) (told_by c.play_ticks.new.line_report.text.items (map g.N.Nor.device c.play_ticks.new.boards.items) (g.W.Watcher.saw c.play_ticks.new.watcher)) (told_by c.play_ticks-2.new.line_report.text.items (map g.N.Nor.device c.play_ticks-2.new.boards.items) (g.W.Watcher.saw c.play_ticks-2.new.watcher)) p1 c.in_ok-play_ticks-2.ensures.goes_on c.in_ok-play_ticks-2.ensures.played in
    let p3 = so_far_then (A ++ B) C c.args.world.now c.play_ticks-2.new.world c.play_ticks-3.new.world _ _ _ (told_by c.args.line_report.now.text.items (map g.N.Nor.device c.args.boards.now.items) (g.W.Watcher.saw c.args.watcher.now)) (told_by c.play_ticks-2.new.line_report.text.items (map g.N.Nor.device c.play_ticks-2.new.boards.items) (g.W.Watcher.saw c.play_ticks-2.new.watcher)) (told_by c.play_ticks-3.new.line_report.text.items (map g.N.Nor.device c.play_ticks-3.new.boards.items) (g.W.Watcher.saw c.play_ticks-3.new.watcher)) p2 c.in_ok-play_ticks-3.ensures.goes_on c.in_ok-play_ticks-3.ensures.played in
    rw (p.1, p.2)
    (so_far_stop c.in_err-play_request.field-0.0 ((A ++ B) ++ C) D E all c.args.world.now c.play_ticks-3.new.world c.play_request.new.world _ _ _ (told_by c.args.line_report.now.text.items (map g.N.Nor.device c.args.boards.now.items) (g.W.Watcher.saw c.args.watcher.now)) (told_by c.play_ticks-3.new.line_report.text.items (map g.N.Nor.device c.play_ticks-3.new.boards.items) (g.W.Watcher.saw c.play_ticks-3.new.watcher)) (told_by c.play_request.new.line_report.text.items (map g.N.Nor.device c.play_request.new.boards.items) (g.W.Watcher.saw c.play_request.new.watcher)) p3 c.in_err-play_request.ensures.played (fourth_at c.args.a c.args.b))

pub returns-in_err-play_packets-clause-played : goal.returns-in_err-play_packets-clause-played
returns-in_err-play_packets-clause-played g c =
    let A : List Event = times drain_ticks (paced c.args.a ∷ []) in
    let B : List Event = times drain_ticks (paced c.args.b ∷ []) in
    let C : List Event = times advert_ticks (paced c.args.a ∷ []) in
    let D : List Event = passed c.args.a c.args.b ∷ paced c.args.b ∷ passed c.args.b c.args.a ∷ [] in
    let E : List Event = times packets (paced c.args.a ∷ passed c.args.a c.args.b ∷ []) in
    let all : List Event = round c.args.a c.args.b in
    let p = err_from_is_err_and c.from_residual-in_err-play_packets.result c.from_residual-in_err-play_packets.ensures.1 in
    let p1 = so_far_one (unreported A) c.args.world.now c.play_ticks.new.world _ _ (told_by c.args.line_report.now.text.items (map g.N.Nor.device c.args.boards.now.items) (g.W.Watcher.saw c.args.watcher.now)) (told_by c.play_ticks.new.line_report.text.items (map g.N.Nor.device c.play_ticks.new.boards.items) (g.W.Watcher.saw c.play_ticks.new.watcher)) c.in_ok-play_ticks.ensures.goes_on c.in_ok-play_ticks.ensures.played in
    let p2 = so_far_then A B c.args.world.now c.play_ticks.new.world c.play_ticks-2.new.world _ _ _ (told_by c.args.line_report.now.text.items (map g.N.Nor.device c.args.boards.now.items) (g.W.Watcher.saw c.args.watcher.now)) (told_by c.play_ticks.new.line_report.text.items (map g.N.Nor.device c.play_ticks.new.boards.items) (g.W.Watcher.saw c.play_ticks.new.watcher)) (told_by c.play_ticks-2.new.line_report.text.items (map g.N.Nor.device c.play_ticks-2.new.boards.items) (g.W.Watcher.saw c.play_ticks-2.new.watcher)) p1 c.in_ok-play_ticks-2.ensures.goes_on c.in_ok-play_ticks-2.ensures.played in
    let p3 = so_far_then (A ++ B) C c.args.world.now c.play_ticks-2.new.world c.play_ticks-3.new.world _ _ _ (told_by c.args.line_report.now.text.items (map g.N.Nor.device c.args.boards.now.items) (g.W.Watcher.saw c.args.watcher.now)) (told_by c.play_ticks-2.new.line_report.text.items (map g.N.Nor.device c.play_ticks-2.new.boards.items) (g.W.Watcher.saw c.play_ticks-2.new.watcher)) (told_by c.play_ticks-3.new.line_report.text.items (map g.N.Nor.device c.play_ticks-3.new.boards.items) (g.W.Watcher.saw c.play_ticks-3.new.watcher)) p2 c.in_ok-play_ticks-3.ensures.goes_on c.in_ok-play_ticks-3.ensures.played in
    let p4 = so_far_then ((A ++ B) ++ C) D c.args.world.now c.play_ticks-3.new.world c.play_request.new.world _ _ _ (told_by c.args.line_report.now.text.items (map g.N.Nor.device c.args.boards.now.items) (g.W.Watcher.saw c.args.watcher.now)) (told_by c.play_ticks-3.new.line_report.text.items (map g.N.Nor.device c.play_ticks-3.new.boards.items) (g.W.Watcher.saw c.play_ticks-3.new.watcher)) (told_by c.play_request.new.line_report.text.items (map g.N.Nor.device c.play_request.new.boards.items) (g.W.Watcher.saw c.play_request.new.watcher)) p3 c.in_ok-play_request.ensures.goes_on c.in_ok-play_request.ensures.played in
    rw (p.1, p.2)
    (so_far_stop c.in_err-play_packets.field-0.0 (((A ++ B) ++ C) ++ D) E [] all c.args.world.now c.play_request.new.world c.play_packets.new.world _ _ _ (told_by c.args.line_report.now.text.items (map g.N.Nor.device c.args.boards.now.items) (g.W.Watcher.saw c.args.watcher.now)) (told_by c.play_request.new.line_report.text.items (map g.N.Nor.device c.play_request.new.boards.items) (g.W.Watcher.saw c.play_request.new.watcher)) (told_by c.play_packets.new.line_report.text.items (map g.N.Nor.device c.play_packets.new.boards.items) (g.W.Watcher.saw c.play_packets.new.watcher)) p4 c.in_err-play_packets.ensures.played (fifth_at c.args.a c.args.b))

pub returns-clause-played : goal.returns-clause-played
returns-clause-played g c =
    let A : List Event = times drain_ticks (paced c.args.a ∷ []) in
    let B : List Event = times drain_ticks (paced c.args.b ∷ []) in
    let C : List Event = times advert_ticks (paced c.args.a ∷ []) in
    let D : List Event = passed c.args.a c.args.b ∷ paced c.args.b ∷ passed c.args.b c.args.a ∷ [] in
    let E : List Event = times packets (paced c.args.a ∷ passed c.args.a c.args.b ∷ []) in
    let all : List Event = round c.args.a c.args.b in
    let p1 = so_far_one (unreported A) c.args.world.now c.play_ticks.new.world _ _ (told_by c.args.line_report.now.text.items (map g.N.Nor.device c.args.boards.now.items) (g.W.Watcher.saw c.args.watcher.now)) (told_by c.play_ticks.new.line_report.text.items (map g.N.Nor.device c.play_ticks.new.boards.items) (g.W.Watcher.saw c.play_ticks.new.watcher)) c.in_ok-play_ticks.ensures.goes_on c.in_ok-play_ticks.ensures.played in
    let p2 = so_far_then A B c.args.world.now c.play_ticks.new.world c.play_ticks-2.new.world _ _ _ (told_by c.args.line_report.now.text.items (map g.N.Nor.device c.args.boards.now.items) (g.W.Watcher.saw c.args.watcher.now)) (told_by c.play_ticks.new.line_report.text.items (map g.N.Nor.device c.play_ticks.new.boards.items) (g.W.Watcher.saw c.play_ticks.new.watcher)) (told_by c.play_ticks-2.new.line_report.text.items (map g.N.Nor.device c.play_ticks-2.new.boards.items) (g.W.Watcher.saw c.play_ticks-2.new.watcher)) p1 c.in_ok-play_ticks-2.ensures.goes_on c.in_ok-play_ticks-2.ensures.played in
    let p3 = so_far_then (A ++ B) C c.args.world.now c.play_ticks-2.new.world c.play_ticks-3.new.world _ _ _ (told_by c.args.line_report.now.text.items (map g.N.Nor.device c.args.boards.now.items) (g.W.Watcher.saw c.args.watcher.now)) (told_by c.play_ticks-2.new.line_report.text.items (map g.N.Nor.device c.play_ticks-2.new.boards.items) (g.W.Watcher.saw c.play_ticks-2.new.watcher)) (told_by c.play_ticks-3.new.line_report.text.items (map g.N.Nor.device c.play_ticks-3.new.boards.items) (g.W.Watcher.saw c.play_ticks-3.new.watcher)) p2 c.in_ok-play_ticks-3.ensures.goes_on c.in_ok-play_ticks-3.ensures.played in
    let p4 = so_far_then ((A ++ B) ++ C) D c.args.world.now c.play_ticks-3.new.world c.play_request.new.world _ _ _ (told_by c.args.line_report.now.text.items (map g.N.Nor.device c.args.boards.now.items) (g.W.Watcher.saw c.args.watcher.now)) (told_by c.play_ticks-3.new.line_report.text.items (map g.N.Nor.device c.play_ticks-3.new.boards.items) (g.W.Watcher.saw c.play_ticks-3.new.watcher)) (told_by c.play_request.new.line_report.text.items (map g.N.Nor.device c.play_request.new.boards.items) (g.W.Watcher.saw c.play_request.new.watcher)) p3 c.in_ok-play_request.ensures.goes_on c.in_ok-play_request.ensures.played in
    let p5 = so_far_then (((A ++ B) ++ C) ++ D) E c.args.world.now c.play_request.new.world c.play_packets.new.world _ _ _ (told_by c.args.line_report.now.text.items (map g.N.Nor.device c.args.boards.now.items) (g.W.Watcher.saw c.args.watcher.now)) (told_by c.play_request.new.line_report.text.items (map g.N.Nor.device c.play_request.new.boards.items) (g.W.Watcher.saw c.play_request.new.watcher)) (told_by c.play_packets.new.line_report.text.items (map g.N.Nor.device c.play_packets.new.boards.items) (g.W.Watcher.saw c.play_packets.new.watcher)) p4 c.in_ok-play_packets.ensures.goes_on c.in_ok-play_packets.ensures.played in
    (subst (λ (xs : List Event). PlayedSoFar (unreported xs) c.args.world.now c.play_packets.new.world (map g.N.Nor.device c.args.boards.now.items) (map g.N.Nor.device c.play_packets.new.boards.items) (told_by c.args.line_report.now.text.items (map g.N.Nor.device c.args.boards.now.items) (g.W.Watcher.saw c.args.watcher.now)) (told_by c.play_packets.new.line_report.text.items (map g.N.Nor.device c.play_packets.new.boards.items) (g.W.Watcher.saw c.play_packets.new.watcher))) (round_joined c.args.a c.args.b) p5).played

pub returns-clause-goes_on : goal.returns-clause-goes_on
returns-clause-goes_on g c =
    let A : List Event = times drain_ticks (paced c.args.a ∷ []) in
    let B : List Event = times drain_ticks (paced c.args.b ∷ []) in
    let C : List Event = times advert_ticks (paced c.args.a ∷ []) in
    let D : List Event = passed c.args.a c.args.b ∷ paced c.args.b ∷ passed c.args.b c.args.a ∷ [] in
    let E : List Event = times packets (paced c.args.a ∷ passed c.args.a c.args.b ∷ []) in
    let all : List Event = round c.args.a c.args.b in
    let p1 = so_far_one (unreported A) c.args.world.now c.play_ticks.new.world _ _ (told_by c.args.line_report.now.text.items (map g.N.Nor.device c.args.boards.now.items) (g.W.Watcher.saw c.args.watcher.now)) (told_by c.play_ticks.new.line_report.text.items (map g.N.Nor.device c.play_ticks.new.boards.items) (g.W.Watcher.saw c.play_ticks.new.watcher)) c.in_ok-play_ticks.ensures.goes_on c.in_ok-play_ticks.ensures.played in
    let p2 = so_far_then A B c.args.world.now c.play_ticks.new.world c.play_ticks-2.new.world _ _ _ (told_by c.args.line_report.now.text.items (map g.N.Nor.device c.args.boards.now.items) (g.W.Watcher.saw c.args.watcher.now)) (told_by c.play_ticks.new.line_report.text.items (map g.N.Nor.device c.play_ticks.new.boards.items) (g.W.Watcher.saw c.play_ticks.new.watcher)) (told_by c.play_ticks-2.new.line_report.text.items (map g.N.Nor.device c.play_ticks-2.new.boards.items) (g.W.Watcher.saw c.play_ticks-2.new.watcher)) p1 c.in_ok-play_ticks-2.ensures.goes_on c.in_ok-play_ticks-2.ensures.played in
    let p3 = so_far_then (A ++ B) C c.args.world.now c.play_ticks-2.new.world c.play_ticks-3.new.world _ _ _ (told_by c.args.line_report.now.text.items (map g.N.Nor.device c.args.boards.now.items) (g.W.Watcher.saw c.args.watcher.now)) (told_by c.play_ticks-2.new.line_report.text.items (map g.N.Nor.device c.play_ticks-2.new.boards.items) (g.W.Watcher.saw c.play_ticks-2.new.watcher)) (told_by c.play_ticks-3.new.line_report.text.items (map g.N.Nor.device c.play_ticks-3.new.boards.items) (g.W.Watcher.saw c.play_ticks-3.new.watcher)) p2 c.in_ok-play_ticks-3.ensures.goes_on c.in_ok-play_ticks-3.ensures.played in
    let p4 = so_far_then ((A ++ B) ++ C) D c.args.world.now c.play_ticks-3.new.world c.play_request.new.world _ _ _ (told_by c.args.line_report.now.text.items (map g.N.Nor.device c.args.boards.now.items) (g.W.Watcher.saw c.args.watcher.now)) (told_by c.play_ticks-3.new.line_report.text.items (map g.N.Nor.device c.play_ticks-3.new.boards.items) (g.W.Watcher.saw c.play_ticks-3.new.watcher)) (told_by c.play_request.new.line_report.text.items (map g.N.Nor.device c.play_request.new.boards.items) (g.W.Watcher.saw c.play_request.new.watcher)) p3 c.in_ok-play_request.ensures.goes_on c.in_ok-play_request.ensures.played in
    let p5 = so_far_then (((A ++ B) ++ C) ++ D) E c.args.world.now c.play_request.new.world c.play_packets.new.world _ _ _ (told_by c.args.line_report.now.text.items (map g.N.Nor.device c.args.boards.now.items) (g.W.Watcher.saw c.args.watcher.now)) (told_by c.play_request.new.line_report.text.items (map g.N.Nor.device c.play_request.new.boards.items) (g.W.Watcher.saw c.play_request.new.watcher)) (told_by c.play_packets.new.line_report.text.items (map g.N.Nor.device c.play_packets.new.boards.items) (g.W.Watcher.saw c.play_packets.new.watcher)) p4 c.in_ok-play_packets.ensures.goes_on c.in_ok-play_packets.ensures.played in
    (subst (λ (xs : List Event). PlayedSoFar (unreported xs) c.args.world.now c.play_packets.new.world (map g.N.Nor.device c.args.boards.now.items) (map g.N.Nor.device c.play_packets.new.boards.items) (told_by c.args.line_report.now.text.items (map g.N.Nor.device c.args.boards.now.items) (g.W.Watcher.saw c.args.watcher.now)) (told_by c.play_packets.new.line_report.text.items (map g.N.Nor.device c.play_packets.new.boards.items) (g.W.Watcher.saw c.play_packets.new.watcher))) (round_joined c.args.a c.args.b) p5).goes

pub returns-in_err-play_ticks-clause-kept : goal.returns-in_err-play_ticks-clause-kept
returns-in_err-play_ticks-clause-kept g c =
    let A : List Event = times drain_ticks (paced c.args.a ∷ []) in
    let B : List Event = times drain_ticks (paced c.args.b ∷ []) in
    let C : List Event = times advert_ticks (paced c.args.a ∷ []) in
    let D : List Event = passed c.args.a c.args.b ∷ paced c.args.b ∷ passed c.args.b c.args.a ∷ [] in
    let E : List Event = times packets (paced c.args.a ∷ passed c.args.a c.args.b ∷ []) in
    let all : List Event = round c.args.a c.args.b in
    let k0 = keep_same (unreported all) _ _ refl in
    events_keep [] A (B ++ (C ++ (D ++ E))) all _ _ _ (round_is c.args.a c.args.b) k0 c.in_err-play_ticks.ensures.kept

pub returns-in_err-play_ticks-2-clause-kept : goal.returns-in_err-play_ticks-2-clause-kept
returns-in_err-play_ticks-2-clause-kept g c =
    let A : List Event = times drain_ticks (paced c.args.a ∷ []) in
    let B : List Event = times drain_ticks (paced c.args.b ∷ []) in
    let C : List Event = times advert_ticks (paced c.args.a ∷ []) in
    let D : List Event = passed c.args.a c.args.b ∷ paced c.args.b ∷ passed c.args.b c.args.a ∷ [] in
    let E : List Event = times packets (paced c.args.a ∷ passed c.args.a c.args.b ∷ []) in
    let all : List Event = round c.args.a c.args.b in
    let k0 = keep_same (unreported all) _ _ refl in
    let k1 = events_keep [] A (B ++ (C ++ (D ++ E))) all _ _ _ (round_is c.args.a c.args.b) k0 c.in_ok-play_ticks.ensures.kept in
    events_keep A B (C ++ (D ++ E)) all _ _ _ (round_is c.args.a c.args.b) k1 c.in_err-play_ticks-2.ensures.kept

pub returns-in_err-play_ticks-3-clause-kept : goal.returns-in_err-play_ticks-3-clause-kept
returns-in_err-play_ticks-3-clause-kept g c =
    let A : List Event = times drain_ticks (paced c.args.a ∷ []) in
    let B : List Event = times drain_ticks (paced c.args.b ∷ []) in
    let C : List Event = times advert_ticks (paced c.args.a ∷ []) in
    let D : List Event = passed c.args.a c.args.b ∷ paced c.args.b ∷ passed c.args.b c.args.a ∷ [] in
    let E : List Event = times packets (paced c.args.a ∷ passed c.args.a c.args.b ∷ []) in
    let all : List Event = round c.args.a c.args.b in
    let k0 = keep_same (unreported all) _ _ refl in
    let k1 = events_keep [] A (B ++ (C ++ (D ++ E))) all _ _ _ (round_is c.args.a c.args.b) k0 c.in_ok-play_ticks.ensures.kept in
    let k2 = events_keep A B (C ++ (D ++ E)) all _ _ _ (round_is c.args.a c.args.b) k1 c.in_ok-play_ticks-2.ensures.kept in
    events_keep (A ++ B) C (D ++ E) all _ _ _ (third_at c.args.a c.args.b) k2 c.in_err-play_ticks-3.ensures.kept

pub returns-in_err-play_request-clause-kept : goal.returns-in_err-play_request-clause-kept
returns-in_err-play_request-clause-kept g c =
    let A : List Event = times drain_ticks (paced c.args.a ∷ []) in
    let B : List Event = times drain_ticks (paced c.args.b ∷ []) in
    let C : List Event = times advert_ticks (paced c.args.a ∷ []) in
    let D : List Event = passed c.args.a c.args.b ∷ paced c.args.b ∷ passed c.args.b c.args.a ∷ [] in
    let E : List Event = times packets (paced c.args.a ∷ passed c.args.a c.args.b ∷ []) in
    let all : List Event = round c.args.a c.args.b in
    let k0 = keep_same (unreported all) _ _ refl in
    let k1 = events_keep [] A (B ++ (C ++ (D ++ E))) all _ _ _ (round_is c.args.a c.args.b) k0 c.in_ok-play_ticks.ensures.kept in
    let k2 = events_keep A B (C ++ (D ++ E)) all _ _ _ (round_is c.args.a c.args.b) k1 c.in_ok-play_ticks-2.ensures.kept in
    let k3 = events_keep (A ++ B) C (D ++ E) all _ _ _ (third_at c.args.a c.args.b) k2 c.in_ok-play_ticks-3.ensures.kept in
    events_keep ((A ++ B) ++ C) D E all _ _ _ (fourth_at c.args.a c.args.b) k3 c.in_err-play_request.ensures.kept

pub returns-in_err-play_packets-clause-kept : goal.returns-in_err-play_packets-clause-kept
returns-in_err-play_packets-clause-kept g c =
    let A : List Event = times drain_ticks (paced c.args.a ∷ []) in
    let B : List Event = times drain_ticks (paced c.args.b ∷ []) in
    let C : List Event = times advert_ticks (paced c.args.a ∷ []) in
    let D : List Event = passed c.args.a c.args.b ∷ paced c.args.b ∷ passed c.args.b c.args.a ∷ [] in
    let E : List Event = times packets (paced c.args.a ∷ passed c.args.a c.args.b ∷ []) in
    let all : List Event = round c.args.a c.args.b in
    let k0 = keep_same (unreported all) _ _ refl in
    let k1 = events_keep [] A (B ++ (C ++ (D ++ E))) all _ _ _ (round_is c.args.a c.args.b) k0 c.in_ok-play_ticks.ensures.kept in
    let k2 = events_keep A B (C ++ (D ++ E)) all _ _ _ (round_is c.args.a c.args.b) k1 c.in_ok-play_ticks-2.ensures.kept in
    let k3 = events_keep (A ++ B) C (D ++ E) all _ _ _ (third_at c.args.a c.args.b) k2 c.in_ok-play_ticks-3.ensures.kept in
    let k4 = events_keep ((A ++ B) ++ C) D E all _ _ _ (fourth_at c.args.a c.args.b) k3 c.in_ok-play_request.ensures.kept in
    events_keep (((A ++ B) ++ C) ++ D) E [] all _ _ _ (fifth_at c.args.a c.args.b) k4 c.in_err-play_packets.ensures.kept

pub returns-clause-kept : goal.returns-clause-kept
returns-clause-kept g c =
    let A : List Event = times drain_ticks (paced c.args.a ∷ []) in
    let B : List Event = times drain_ticks (paced c.args.b ∷ []) in
    let C : List Event = times advert_ticks (paced c.args.a ∷ []) in
    let D : List Event = passed c.args.a c.args.b ∷ paced c.args.b ∷ passed c.args.b c.args.a ∷ [] in
    let E : List Event = times packets (paced c.args.a ∷ passed c.args.a c.args.b ∷ []) in
    let all : List Event = round c.args.a c.args.b in
    let k0 = keep_same (unreported all) _ _ refl in
    let k1 = events_keep [] A (B ++ (C ++ (D ++ E))) all _ _ _ (round_is c.args.a c.args.b) k0 c.in_ok-play_ticks.ensures.kept in
    let k2 = events_keep A B (C ++ (D ++ E)) all _ _ _ (round_is c.args.a c.args.b) k1 c.in_ok-play_ticks-2.ensures.kept in
    let k3 = events_keep (A ++ B) C (D ++ E) all _ _ _ (third_at c.args.a c.args.b) k2 c.in_ok-play_ticks-3.ensures.kept in
    let k4 = events_keep ((A ++ B) ++ C) D E all _ _ _ (fourth_at c.args.a c.args.b) k3 c.in_ok-play_request.ensures.kept in
    let k5 = events_keep (((A ++ B) ++ C) ++ D) E [] all _ _ _ (fifth_at c.args.a c.args.b) k4 c.in_ok-play_packets.ensures.kept in
    k5
