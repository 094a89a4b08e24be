use Rattle.std.proofs.Common.{◌≡◌, ◌+◌, ◌++◌, true, false, map, refl, sym, ◌∙◌, arith}
use Rattle.dg_words.specs.Counts.{Rose}
use Rattle.dg_base.specs.Outside.{AtEnd}
use Rattle.dg_script.specs.Sizes.{most_used_bytes}
use Rattle.dg_replay.specs.Following.{AllAsBefore}
use Rattle.dg_replay.specs.Stages.{done_so_far, replay_state}
use Rattle.dg_replay.proofs.FollowingLemmas.{TextPlays}
use Rattle.dg_replay.proofs.InputLemmas.{lines_end, lines_halted, lines_ready, less_left, given_of, none_of}
use Rattle.dg_replay.proofs.LinesReadLemmas.{lines_first, lines_next, lines_last, passes}
use Rattle.dg_replay.proofs.following.play_lines.Goals as goal

pub loop-line_report-init : goal.loop-line_report-init
loop-line_report-init g c =
    (lines_first (g.S.Source.left c.args.input.now) c.args.reader.now _ (map g.N.Nor.device c.args.boards.now.items) (g.K.Sink.written c.args.out.now) c.requires.none c.requires.unread c.requires.first c.first-player.ensures, refl, refl)

pub play_next-requires : goal.play_next-requires
play_next-requires g c =
    lines_ready (g.S.Source.left c.args.input.now) (g.S.Source.left c.loop-line_report.input) c.loop-line_report.reader c.loop-line_report.number c.loop-line_report.player (map g.N.Nor.device c.args.boards.now.items) (map g.N.Nor.device c.loop-line_report.boards.items)
    (g.K.Sink.written c.args.out.now) (g.K.Sink.written c.loop-line_report.out) c.loop-line_report.invariant.0

pub returns-in_err-play_next-clause-answer : goal.returns-in_err-play_next-clause-answer
returns-in_err-play_next-clause-answer g c =
    let left = g.S.Source.left in
    let faults = g.S.Source.faults in
    let put = g.K.Sink.written in
    let cuts = g.K.Sink.faults in
    let i = c.loop-line_report.invariant in
    let initial = map g.N.Nor.device c.args.boards.now.items in
    let a = c.in_err-play_next.ensures.answer initial in
    lines_halted c.scripts_with_golden.ensures.found c.from_residual.result c.in_err-play_next.field-0.0 (left c.args.input.now) (left c.loop-line_report.input) (left c.play_next.new.input) c.loop-line_report.reader c.play_next.new.reader a.0 c.loop-line_report.number
    c.loop-line_report.player c.play_next.new.player (map g.N.Nor.device c.args.boards.now.items) (map g.N.Nor.device c.loop-line_report.boards.items) (map g.N.Nor.device c.play_next.new.boards.items) (put c.args.out.now) (put c.loop-line_report.out) (put c.play_next.new.out)
    (AtEnd (left c.play_next.new.input)) (Rose (faults c.loop-line_report.input) (faults c.play_next.new.input)) (Rose (faults c.args.input.now) (faults c.play_next.new.input)) (Rose (cuts c.loop-line_report.out) (cuts c.play_next.new.out)) (Rose (cuts c.args.out.now) (cuts c.play_next.new.out)) (g.W.Watcher.saw c.play_next.new.watcher initial (map g.N.Nor.device c.play_next.new.boards.items))
    (λ rose. omega (arith, rose, i.1)) (λ rose. omega (arith, rose, i.2)) c.from_residual.ensures.1 i.0 a.1 a.2

pub returns-then-is_last-clause-answer : goal.returns-then-is_last-clause-answer
returns-then-is_last-clause-answer g c =
    let left = g.S.Source.left in
    let faults = g.S.Source.faults in
    let put = g.K.Sink.written in
    let cuts = g.K.Sink.faults in
    let i = c.loop-line_report.invariant in
    let initial = map g.N.Nor.device c.args.boards.now.items in
    let a = c.in_ok-play_next.ensures.answer initial in
    let was = map g.N.Nor.device c.loop-line_report.boards.items in
    let now = map g.N.Nor.device c.play_next.new.boards.items in
    let p = c.loop-line_report.player in
    let q = c.play_next.new.player in
    let old = c.loop-line_report.reader in
    let new = c.play_next.new.reader in
    let failed = Rose (cuts c.loop-line_report.out) (cuts c.play_next.new.out) in
    let at_end = AtEnd (left c.play_next.new.input) in
    let F = g.W.Watcher.saw c.loop-line_report.watcher initial was in
    let G = g.W.Watcher.saw c.play_next.new.watcher initial now in
    let mid = put c.loop-line_report.out in
    let after = put c.play_next.new.out in
    let given = given_of c.in_ok-play_next.field-0 (old.ahead ++ a.0) old new at_end (Rose (faults c.loop-line_report.input) (faults c.play_next.new.input)) (AllAsBefore (replay_state p was mid F) (replay_state q now after G)) (λ x t. TextPlays x t (old.number + 1) initial (replay_state p was mid F) (replay_state q now after G) failed)
    c.if-branch.true a.2 in
    let last : new.last ≡ true = sym c.is_last.ensures ∙ c.if-is_last.true in
    lines_last (left c.args.input.now) (left c.loop-line_report.input) (left c.play_next.new.input) (Rose (faults c.args.input.now) (faults c.play_next.new.input)) (Rose (cuts c.args.out.now) (cuts c.play_next.new.out)) old new a.0 c.loop-line_report.number p q initial was now
    (put c.args.out.now) mid after at_end failed i.0 a.1 given.0 last (given.1.0, λ done w table s. given.1.1 table (done_so_far done w) s)

pub loop-line_report-smaller : goal.loop-line_report-smaller
loop-line_report-smaller g c =
    let left = g.S.Source.left in
    let faults = g.S.Source.faults in
    let put = g.K.Sink.written in
    let cuts = g.K.Sink.faults in
    let initial = map g.N.Nor.device c.args.boards.now.items in
    let a = c.in_ok-play_next.ensures.answer initial in
    let was = map g.N.Nor.device c.loop-line_report.boards.items in
    let now = map g.N.Nor.device c.play_next.new.boards.items in
    let p = c.loop-line_report.player in
    let q = c.play_next.new.player in
    let old = c.loop-line_report.reader in
    let new = c.play_next.new.reader in
    let at_end = AtEnd (left c.play_next.new.input) in
    let F = g.W.Watcher.saw c.loop-line_report.watcher initial was in
    let G = g.W.Watcher.saw c.play_next.new.watcher initial now in
    let mid = put c.loop-line_report.out in
    let after = put c.play_next.new.out in
    let given = given_of c.in_ok-play_next.field-0 (old.ahead ++ a.0) old new at_end (Rose (faults c.loop-line_report.input) (faults c.play_next.new.input)) (AllAsBefore (replay_state p was mid F) (replay_state q now after G))
    (λ x t. TextPlays x t (old.number + 1) initial (replay_state p was mid F) (replay_state q now after G) (Rose (cuts c.loop-line_report.out) (cuts c.play_next.new.out))) c.if-branch.true a.2 in
    let h = passes (old.ahead ++ a.0) old new at_end given.0 in
    less_left old.passed new.passed most_used_bytes h.0 h.1

pub loop-line_report-preserved : goal.loop-line_report-preserved
loop-line_report-preserved g c =
    let left = g.S.Source.left in
    let faults = g.S.Source.faults in
    let put = g.K.Sink.written in
    let cuts = g.K.Sink.faults in
    let i = c.loop-line_report.invariant in
    let initial = map g.N.Nor.device c.args.boards.now.items in
    let a = c.in_ok-play_next.ensures.answer initial in
    let was = map g.N.Nor.device c.loop-line_report.boards.items in
    let now = map g.N.Nor.device c.play_next.new.boards.items in
    let p = c.loop-line_report.player in
    let q = c.play_next.new.player in
    let old = c.loop-line_report.reader in
    let new = c.play_next.new.reader in
    let failed = Rose (cuts c.loop-line_report.out) (cuts c.play_next.new.out) in
    let at_end = AtEnd (left c.play_next.new.input) in
    let F = g.W.Watcher.saw c.loop-line_report.watcher initial was in
    let G = g.W.Watcher.saw c.play_next.new.watcher initial now in
    let mid = put c.loop-line_report.out in
    let after = put c.play_next.new.out in
    let given = given_of c.in_ok-play_next.field-0 (old.ahead ++ a.0) old new at_end (Rose (faults c.loop-line_report.input) (faults c.play_next.new.input)) (AllAsBefore (replay_state p was mid F) (replay_state q now after G)) (λ x t. TextPlays x t (old.number + 1) initial (replay_state p was mid F) (replay_state q now after G) failed)
    c.if-branch.true a.2 in
    let more_lines : new.last ≡ false = sym c.is_last.ensures ∙ c.if-is_last.false in (
      lines_next (left c.args.input.now) (left c.loop-line_report.input) (left c.play_next.new.input) old new a.0 c.loop-line_report.number p q initial was now (put c.args.out.now) mid after at_end failed i.0 a.1 given.0 more_lines (given.1.0, λ done w table s. given.1.1 table (done_so_far done w) s),
      c.in_ok-play_next.ensures.unread (λ e. cc) ∙ i.1,
      c.in_ok-play_next.ensures.unfailed (λ e. cc) ∙ i.2,
    )

pub returns-clause-answer : goal.returns-clause-answer
returns-clause-answer g c =
    let left = g.S.Source.left in
    let faults = g.S.Source.faults in
    let put = g.K.Sink.written in
    let cuts = g.K.Sink.faults in
    let i = c.loop-line_report.invariant in
    let initial = map g.N.Nor.device c.args.boards.now.items in
    let a = c.in_ok-play_next.ensures.answer initial in
    let was = map g.N.Nor.device c.loop-line_report.boards.items in
    let now = map g.N.Nor.device c.play_next.new.boards.items in
    let p = c.loop-line_report.player in
    let q = c.play_next.new.player in
    let old = c.loop-line_report.reader in
    let new = c.play_next.new.reader in
    let at_end = AtEnd (left c.play_next.new.input) in
    let F = g.W.Watcher.saw c.loop-line_report.watcher initial was in
    let G = g.W.Watcher.saw c.play_next.new.watcher initial now in
    let mid = put c.loop-line_report.out in
    let after = put c.play_next.new.out in
    let none = none_of c.in_ok-play_next.field-0 (old.ahead ++ a.0) old new at_end (Rose (faults c.loop-line_report.input) (faults c.play_next.new.input)) (AllAsBefore (replay_state p was mid F) (replay_state q now after G))
    (λ x t. TextPlays x t (old.number + 1) initial (replay_state p was mid F) (replay_state q now after G) (Rose (cuts c.loop-line_report.out) (cuts c.play_next.new.out))) c.if-branch.false a.2 in
    lines_end (left c.args.input.now) (left c.loop-line_report.input) (left c.play_next.new.input) (Rose (faults c.args.input.now) (faults c.play_next.new.input)) (Rose (cuts c.args.out.now) (cuts c.play_next.new.out)) old new a.0 c.loop-line_report.number p q initial was now
    (put c.args.out.now) mid after at_end i.0 a.1 none.0 none.1
