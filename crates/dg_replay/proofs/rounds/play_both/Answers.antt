use Rattle.std.proofs.Common.{List, [], ◌++◌, map, refl, ap, append-nil}
use Rattle.std.proofs.lemmas.Result.{err_from_is_err_and}
use Rattle.dg_base.specs.declared.events.Event.{Event}
use Rattle.dg_rounds.specs.Rounds.{round}
use Rattle.dg_script.specs.Items.{unreported}
use Rattle.dg_replay.proofs.BytesLemmas.{keep_same, events_keep}
use Rattle.dg_replay.proofs.StepLemmas.{so_far_none, so_far_one, so_far_then, so_far_stop, told_by}
use Rattle.dg_replay.proofs.rounds.play_both.Goals as goal

pub returns-in_err-play_round-clause-played : goal.returns-in_err-play_round-clause-played
returns-in_err-play_round-clause-played g c =
    let p = err_from_is_err_and c.from_residual.result c.from_residual.ensures.1 in
    let boards = map g.N.Nor.device c.args.boards.now.items in
    rw (p.1, p.2)
    (so_far_stop c.in_err-play_round.field-0.0 [] (round c.args.a c.args.b) (round c.args.b c.args.a) _ c.args.world.now c.args.world.now c.play_round.new.world boards boards _ (told_by c.args.line_report.now.text.items (map g.N.Nor.device c.args.boards.now.items) (g.W.Watcher.saw c.args.watcher.now)) (told_by c.args.line_report.now.text.items (map g.N.Nor.device c.args.boards.now.items) (g.W.Watcher.saw c.args.watcher.now)) (told_by c.play_round.new.line_report.text.items (map g.N.Nor.device c.play_round.new.boards.items) (g.W.Watcher.saw c.play_round.new.watcher))
    (so_far_none c.args.world.now boards (told_by c.args.line_report.now.text.items (map g.N.Nor.device c.args.boards.now.items) (g.W.Watcher.saw c.args.watcher.now))) c.in_err-play_round.ensures.played refl)

pub returns-in_err-play_round-2-clause-played : goal.returns-in_err-play_round-2-clause-played
returns-in_err-play_round-2-clause-played g c =
    let p = err_from_is_err_and c.from_residual-in_err-play_round-2.result c.from_residual-in_err-play_round-2.ensures.1 in
    let there = round c.args.a c.args.b in
    let back = round c.args.b c.args.a in
    rw (p.1, p.2)
    (so_far_stop c.in_err-play_round-2.field-0.0 there back [] (there ++ back) c.args.world.now c.play_round.new.world c.play_round-2.new.world _ _ _ (told_by c.args.line_report.now.text.items (map g.N.Nor.device c.args.boards.now.items) (g.W.Watcher.saw c.args.watcher.now)) (told_by c.play_round.new.line_report.text.items (map g.N.Nor.device c.play_round.new.boards.items) (g.W.Watcher.saw c.play_round.new.watcher)) (told_by c.play_round-2.new.line_report.text.items (map g.N.Nor.device c.play_round-2.new.boards.items) (g.W.Watcher.saw c.play_round-2.new.watcher))
    (so_far_one (unreported there) c.args.world.now c.play_round.new.world _ _ (told_by c.args.line_report.now.text.items (map g.N.Nor.device c.args.boards.now.items) (g.W.Watcher.saw c.args.watcher.now)) (told_by c.play_round.new.line_report.text.items (map g.N.Nor.device c.play_round.new.boards.items) (g.W.Watcher.saw c.play_round.new.watcher)) c.in_ok-play_round.ensures.goes_on c.in_ok-play_round.ensures.played)
    c.in_err-play_round-2.ensures.played (ap (λ (xs : List Event). there ++ xs) (append-nil back)))

pub returns-clause-played : goal.returns-clause-played
returns-clause-played g c =
    (so_far_then (round c.args.a c.args.b) (round c.args.b c.args.a) c.args.world.now c.play_round.new.world c.play_round-2.new.world _ _ _ (told_by c.args.line_report.now.text.items (map g.N.Nor.device c.args.boards.now.items) (g.W.Watcher.saw c.args.watcher.now)) (told_by c.play_round.new.line_report.text.items (map g.N.Nor.device c.play_round.new.boards.items) (g.W.Watcher.saw c.play_round.new.watcher)) (told_by c.play_round-2.new.line_report.text.items (map g.N.Nor.device c.play_round-2.new.boards.items) (g.W.Watcher.saw c.play_round-2.new.watcher))
    (so_far_one (unreported (round c.args.a c.args.b)) c.args.world.now c.play_round.new.world _ _ (told_by c.args.line_report.now.text.items (map g.N.Nor.device c.args.boards.now.items) (g.W.Watcher.saw c.args.watcher.now)) (told_by c.play_round.new.line_report.text.items (map g.N.Nor.device c.play_round.new.boards.items) (g.W.Watcher.saw c.play_round.new.watcher)) c.in_ok-play_round.ensures.goes_on c.in_ok-play_round.ensures.played)
    c.in_ok-play_round-2.ensures.goes_on c.in_ok-play_round-2.ensures.played).played

pub returns-clause-goes_on : goal.returns-clause-goes_on
returns-clause-goes_on g c =
    (so_far_then (round c.args.a c.args.b) (round c.args.b c.args.a) c.args.world.now c.play_round.new.world c.play_round-2.new.world _ _ _ (told_by c.args.line_report.now.text.items (map g.N.Nor.device c.args.boards.now.items) (g.W.Watcher.saw c.args.watcher.now)) (told_by c.play_round.new.line_report.text.items (map g.N.Nor.device c.play_round.new.boards.items) (g.W.Watcher.saw c.play_round.new.watcher)) (told_by c.play_round-2.new.line_report.text.items (map g.N.Nor.device c.play_round-2.new.boards.items) (g.W.Watcher.saw c.play_round-2.new.watcher))
    (so_far_one (unreported (round c.args.a c.args.b)) c.args.world.now c.play_round.new.world _ _ (told_by c.args.line_report.now.text.items (map g.N.Nor.device c.args.boards.now.items) (g.W.Watcher.saw c.args.watcher.now)) (told_by c.play_round.new.line_report.text.items (map g.N.Nor.device c.play_round.new.boards.items) (g.W.Watcher.saw c.play_round.new.watcher)) c.in_ok-play_round.ensures.goes_on c.in_ok-play_round.ensures.played)
    c.in_ok-play_round-2.ensures.goes_on c.in_ok-play_round-2.ensures.played).goes

pub returns-in_err-play_round-clause-kept : goal.returns-in_err-play_round-clause-kept
returns-in_err-play_round-clause-kept g c =
    let there = round c.args.a c.args.b in
    let back = round c.args.b c.args.a in
    events_keep [] there back (there ++ back) _ _ _ refl (keep_same (unreported (there ++ back)) _ _ refl) c.in_err-play_round.ensures.kept

pub returns-in_err-play_round-2-clause-kept : goal.returns-in_err-play_round-2-clause-kept
returns-in_err-play_round-2-clause-kept g c =
    let there = round c.args.a c.args.b in
    let back = round c.args.b c.args.a in
    events_keep there back [] (there ++ back) _ _ _ (ap (λ (xs : List Event). there ++ xs) (append-nil back))
    (events_keep [] there back (there ++ back) _ _ _ refl (keep_same (unreported (there ++ back)) _ _ refl) c.in_ok-play_round.ensures.kept) c.in_err-play_round-2.ensures.kept

pub returns-clause-kept : goal.returns-clause-kept
returns-clause-kept g c =
    let there = round c.args.a c.args.b in
    let back = round c.args.b c.args.a in
    events_keep there back [] (there ++ back) _ _ _ (ap (λ (xs : List Event). there ++ xs) (append-nil back))
    (events_keep [] there back (there ++ back) _ _ _ refl (keep_same (unreported (there ++ back)) _ _ refl) c.in_ok-play_round.ensures.kept) c.in_ok-play_round-2.ensures.kept
