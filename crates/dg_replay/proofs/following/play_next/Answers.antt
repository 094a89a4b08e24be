use Rattle.std.proofs.Common.{◌+◌, ◌++◌, true, Ok, Err, map, refl, ap}
use Rattle.dg_words.specs.Counts.{Rose}
use Rattle.dg_base.specs.Outside.{AtEnd, Takes}
use Rattle.dg_replay.specs.Following.{AllAsBefore}
use Rattle.dg_replay.specs.Playing.{gone_on}
use Rattle.dg_replay.specs.Stages.{based_on, replay_state}
use Rattle.dg_replay.specs.declared.halt.Halt.TheVariants.{Stopped}
use Rattle.dg_replay.specs.declared.player.Player.{Player}
use Rattle.dg_replay.specs.declared.stop.Stop.TheVariants.{Memory}
use Rattle.dg_replay.proofs.FollowingLemmas.{TextPlays, next_halted, long_plays}
use Rattle.dg_replay.proofs.ShownLemmas.{stays_same}
use Rattle.dg_replay.proofs.WayLemmas.{text_unread, text_played, text_begun, text_forgotten, given_answer}
use Rattle.dg_replay.proofs.following.play_next.Goals as goal

pub play_line-requires : goal.play_line-requires
play_line-requires g c =
    let found = c.in-Ok.ensures in
    record { may = record { ready = c.requires; stands = found.stands; fits = found.fits; played = found.played } }

pub returns-in-Err-next_line-clause-answer : goal.returns-in-Err-next_line-clause-answer
returns-in-Err-next_line-clause-answer g c =
    λ initial.
    let F = g.W.Watcher.saw c.args.watcher.now initial (map g.N.Nor.device c.args.boards.now.items) in
    let G = F in
    let left = g.S.Source.left in
    let faults = g.S.Source.faults in
    let writes = g.K.Sink.faults in
    let was = map g.N.Nor.device c.args.boards.now.items in
    let now = map g.N.Nor.device c.args.boards.now.items in
    let p = c.args.player.now in
    let q : Player = c.args.player.now in
    let before = g.K.Sink.written c.args.out.now in
    let after = g.K.Sink.written c.args.out.now in
    let failed = Rose (writes c.args.out.now) (writes c.args.out.now) in
    let text = c.text.result.now in
    let number = c.in-Ok-Some.number in
    given_answer (Err (Stopped c.in-Err-next_line.stop)) c.in-Ok-Some.field-0 number text c.args.reader.now c.next.new.self (AtEnd (left c.next.new.input)) (Rose (faults c.args.input.now) (faults c.next.new.input)) (λ more. Takes (left c.args.input.now) (left c.next.new.input) more) initial (replay_state p was before F) (replay_state q now after G) failed
    c.in-Ok-Some.field-0-is c.text.ensures c.in-Ok-Some.ensures.answer
    (text_unread c.in-Err-next_line.stop text number p initial was before failed F c.in-Err-next_line.ensures)

pub returns-in-Ok-write_text-clause-answer : goal.returns-in-Ok-write_text-clause-answer
returns-in-Ok-write_text-clause-answer g c =
    λ initial.
    let F = g.W.Watcher.saw c.args.watcher.now initial (map g.N.Nor.device c.args.boards.now.items) in
    let G = g.W.Watcher.saw c.play_line.new.watcher initial (map g.N.Nor.device c.play_line.new.boards.items) in
    let left = g.S.Source.left in
    let faults = g.S.Source.faults in
    let writes = g.K.Sink.faults in
    let was = map g.N.Nor.device c.args.boards.now.items in
    let now = map g.N.Nor.device c.play_line.new.boards.items in
    let p = c.args.player.now in
    let q : Player = record c.play_line.new.player { place = c.pass.new.self } in
    let before = g.K.Sink.written c.args.out.now in
    let after = g.K.Sink.written c.write_text.new.out in
    let failed = Rose (writes c.args.out.now) (writes c.write_text.new.out) in
    let text = c.text.result.now in
    let number = c.in-Ok-Some.number in
    given_answer (Ok true) c.in-Ok-Some.field-0 number text c.args.reader.now c.next.new.self (AtEnd (left c.next.new.input)) (Rose (faults c.args.input.now) (faults c.next.new.input)) (λ more. Takes (left c.args.input.now) (left c.next.new.input) more) initial (replay_state p was before F) (replay_state q now after G) failed
    c.in-Ok-Some.field-0-is c.text.ensures c.in-Ok-Some.ensures.answer
    (text_played (Ok tt) text number p c.play_line.new.player c.pass.new.self initial was now c.in-Ok.line c.play_line.new.line c.clear.new.self.items c.play_line.new.line_report.text.items c.deref.result.now before after failed F G c.in-Ok.ensures.spelled c.clear.ensures.items c.deref.ensures.value
    (λ table. c.in-Ok-play_line.ensures.played (based_on table initial)) c.in-Ok-play_line.ensures.behind c.in-Ok-pass.ensures.ok c.in-Ok-write_text.ensures.ok tt tt c.in-Ok-play_line.ensures.kept)

pub returns-in-Err-write_text-clause-answer : goal.returns-in-Err-write_text-clause-answer
returns-in-Err-write_text-clause-answer g c =
    λ initial.
    let F = g.W.Watcher.saw c.args.watcher.now initial (map g.N.Nor.device c.args.boards.now.items) in
    let G = g.W.Watcher.saw c.play_line.new.watcher initial (map g.N.Nor.device c.play_line.new.boards.items) in
    let left = g.S.Source.left in
    let faults = g.S.Source.faults in
    let writes = g.K.Sink.faults in
    let was = map g.N.Nor.device c.args.boards.now.items in
    let now = map g.N.Nor.device c.play_line.new.boards.items in
    let p = c.args.player.now in
    let q : Player = record c.play_line.new.player { place = c.pass.new.self } in
    let before = g.K.Sink.written c.args.out.now in
    let after = g.K.Sink.written c.write_text.new.out in
    let failed = Rose (writes c.args.out.now) (writes c.write_text.new.out) in
    let text = c.text.result.now in
    let number = c.in-Ok-Some.number in
    given_answer (Err (Stopped c.in-Err-write_text.stop)) c.in-Ok-Some.field-0 number text c.args.reader.now c.next.new.self (AtEnd (left c.next.new.input)) (Rose (faults c.args.input.now) (faults c.next.new.input)) (λ more. Takes (left c.args.input.now) (left c.next.new.input) more) initial (replay_state p was before F) (replay_state q now after G) failed
    c.in-Ok-Some.field-0-is c.text.ensures c.in-Ok-Some.ensures.answer
    (text_played (Err c.in-Err-write_text.stop) text number p c.play_line.new.player c.pass.new.self initial was now c.in-Ok.line c.play_line.new.line c.clear.new.self.items c.play_line.new.line_report.text.items c.deref.result.now before after failed F G c.in-Ok.ensures.spelled c.clear.ensures.items c.deref.ensures.value
    (λ table. c.in-Ok-play_line.ensures.played (based_on table initial)) c.in-Ok-play_line.ensures.behind c.in-Ok-pass.ensures.ok tt c.in-Err-write_text.ensures.front c.in-Err-write_text.ensures.cause c.in-Ok-play_line.ensures.kept)

pub returns-in-Err-pass-clause-answer : goal.returns-in-Err-pass-clause-answer
returns-in-Err-pass-clause-answer g c =
    λ initial.
    let link = c.in-Err-pass.ensures.cause in
    let F = g.W.Watcher.saw c.args.watcher.now initial (map g.N.Nor.device c.args.boards.now.items) in
    let G = g.W.Watcher.saw c.play_line.new.watcher initial (map g.N.Nor.device c.play_line.new.boards.items) in
    let left = g.S.Source.left in
    let faults = g.S.Source.faults in
    let writes = g.K.Sink.faults in
    let was = map g.N.Nor.device c.args.boards.now.items in
    let now = map g.N.Nor.device c.play_line.new.boards.items in
    let p = c.args.player.now in
    let q : Player = record c.play_line.new.player { place = c.pass.new.self } in
    let before = g.K.Sink.written c.args.out.now in
    let after = g.K.Sink.written c.args.out.now in
    let failed = Rose (writes c.args.out.now) (writes c.args.out.now) in
    let text = c.text.result.now in
    let number = c.in-Ok-Some.number in
    given_answer (Err (Stopped Memory)) c.in-Ok-Some.field-0 number text c.args.reader.now c.next.new.self (AtEnd (left c.next.new.input)) (Rose (faults c.args.input.now) (faults c.next.new.input)) (λ more. Takes (left c.args.input.now) (left c.next.new.input) more) initial (replay_state p was before F) (replay_state q now after G) failed
    c.in-Ok-Some.field-0-is c.text.ensures c.in-Ok-Some.ensures.answer
    (text_forgotten text number p q initial was now before failed F G (ap (map g.N.Nor.device) (c.in-Ok-play_line.ensures.linked link.0 link.1 link.2)) (c.in-Ok-play_line.ensures.unshown link.0 link.1 initial link.2))

pub returns-in-Err-play_line-clause-answer : goal.returns-in-Err-play_line-clause-answer
returns-in-Err-play_line-clause-answer g c =
    λ initial.
    let F = g.W.Watcher.saw c.args.watcher.now initial (map g.N.Nor.device c.args.boards.now.items) in
    let G = g.W.Watcher.saw c.play_line.new.watcher initial (map g.N.Nor.device c.play_line.new.boards.items) in
    let left = g.S.Source.left in
    let faults = g.S.Source.faults in
    let writes = g.K.Sink.faults in
    let was = map g.N.Nor.device c.args.boards.now.items in
    let now = map g.N.Nor.device c.play_line.new.boards.items in
    let p = c.args.player.now in
    let q : Player = c.play_line.new.player in
    let before = g.K.Sink.written c.args.out.now in
    let after = g.K.Sink.written c.write_begun.new.out in
    let failed = Rose (writes c.args.out.now) (writes c.write_begun.new.out) in
    let text = c.text.result.now in
    let number = c.in-Ok-Some.number in
    given_answer (Err (Stopped c.write_begun.result)) c.in-Ok-Some.field-0 number text c.args.reader.now c.next.new.self (AtEnd (left c.next.new.input)) (Rose (faults c.args.input.now) (faults c.next.new.input)) (λ more. Takes (left c.args.input.now) (left c.next.new.input) more) initial (replay_state p was before F) (replay_state q now after G) failed
    c.in-Ok-Some.field-0-is c.text.ensures c.in-Ok-Some.ensures.answer
    (text_begun c.in-Err-play_line.stop c.write_begun.result text number p q (gone_on q c.play_line.new.line) initial was now c.in-Ok.line c.clear.new.self.items c.play_line.new.line_report.text.items c.deref-in-Err-play_line.result.now before after failed F G c.in-Ok.ensures.spelled c.clear.ensures.items c.deref-in-Err-play_line.ensures.value
    (λ table. c.in-Err-play_line.ensures.played (based_on table initial)) c.write_begun.ensures.written c.in-Err-play_line.ensures.kept)

pub returns-in-Err-clause-answer : goal.returns-in-Err-clause-answer
returns-in-Err-clause-answer g c =
    λ initial.
    let a = c.in-Err.ensures.answer in
    let left = g.S.Source.left in
    let faults = g.S.Source.faults in
    let old = map g.N.Nor.device c.args.boards.now.items in
    let p = c.args.player.now in
    let before = g.K.Sink.written c.args.out.now in
    let failed = Rose (g.K.Sink.faults c.args.out.now) (g.K.Sink.faults c.args.out.now) in
    let at = replay_state p old before (g.W.Watcher.saw c.args.watcher.now initial old) in
    let n = c.args.reader.now.number + 1 in (
      a.0,
      a.1,
      next_halted c.in-Err.stop c.halted.result (c.args.reader.now.ahead ++ a.0) c.args.reader.now c.next.new.self (AtEnd (left c.next.new.input)) (Rose (faults c.args.input.now) (faults c.next.new.input))
          (AllAsBefore at at) (λ r text. TextPlays r text n initial at at failed)
          c.halted.ensures a.2 (record { player = refl; boards = refl; written = refl; seen = stays_same at.saw }) (λ text long. long_plays initial at n failed text long),
    )
