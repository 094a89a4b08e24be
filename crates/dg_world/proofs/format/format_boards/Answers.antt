use Rattle.std.proofs.Common.{◌<◌, length, arith}
use Rattle.dg_world.proofs.BoardLemmas.{used_there, within_boards}
use Rattle.dg_world.proofs.FormatLemmas.{first_more, first_within, formatted_more, format_stopped, board_of}
use Rattle.dg_world.proofs.format.format_boards.Goals as goal

pub returns-in-Err-clause-others : goal.returns-in-Err-clause-others
returns-in-Err-clause-others g c =
    let i = c.loop-board.invariant in
    let there : c.from.result < length c.loop-board.boards = omega (arith, c.from.ensures, c.loop-board-test.true, c.requires.boards, within_boards g.N.Nor.device c.args.boards.now c.loop-board.boards i.to.boards.count) in
    let used = used_there g.N.Nor.device c.loop-board.boards c.loop-board.board c.from.result c.index-boards-from.result c.format_board.new.nor c.from.ensures there in
    first_within _ _ _ _ (first_more _ _ _ _ _ _ i.to.boards used c.format_board.ensures.endures) (omega (arith, c.loop-board-test.true))

pub returns-in-Err-clause-stopped : goal.returns-in-Err-clause-stopped
returns-in-Err-clause-stopped g c = λ e is.
    let i = c.loop-board.invariant in
    let there : c.from.result < length c.loop-board.boards = omega (arith, c.from.ensures, c.loop-board-test.true, c.requires.boards, within_boards g.N.Nor.device c.args.boards.now c.loop-board.boards i.to.boards.count) in
    let used = used_there g.N.Nor.device c.loop-board.boards c.loop-board.board c.from.result c.index-boards-from.result c.format_board.new.nor c.from.ensures there in
    board_of _ e _ _ _ _ is (format_stopped _ _ _ _ _ _ _ _ i.to used c.in-Err.ensures.stopped c.loop-board-test.true)

pub loop-board-preserved : goal.loop-board-preserved
loop-board-preserved g c =
    let i = c.loop-board.invariant in
    let there : c.from.result < length c.loop-board.boards = omega (arith, c.from.ensures, c.loop-board-test.true, c.requires.boards, within_boards g.N.Nor.device c.args.boards.now c.loop-board.boards i.to.boards.count) in
    let used = used_there g.N.Nor.device c.loop-board.boards c.loop-board.board c.from.result c.index-boards-from.result c.format_board.new.nor c.from.ensures there in
    record {
      to = formatted_more _ _ _ _ _ _ _ i.to used c.format_board.ensures.endures c.in-Ok.ensures.awake c.in-Ok.ensures.calm c.in-Ok.ensures.formatted c.in-Ok.ensures.form;
      within = omega (arith, c.loop-board-test.true);
    }
