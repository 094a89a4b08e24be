use Rattle.std.proofs.Common.{◌<◌, ◌≤◌, map, length, ap, subst, arith}
use Rattle.std.specs.Prelude.{Err}
use Rattle.dg_world.proofs.BoardLemmas.{used_there, within_boards}
use Rattle.dg_world.proofs.FormatLemmas.{first_within, calm_more}
use Rattle.dg_world.proofs.FinishLemmas.{read_more, same_boards}
use Rattle.std.proofs.lemmas.List.{length-map}
use Rattle.dg_world.proofs.MountLemmas.{AreMounted, mounted_more, mount_stops, no_volume_at, stand_for, stops_there, none_there}
use Rattle.dg_world.proofs.mount.mount_boards.Goals as goal

pub returns-in-Err-Stopped-clause-read : goal.returns-in-Err-Stopped-clause-read
returns-in-Err-Stopped-clause-read g c =
    let i = c.loop-board.invariant in
    let there : c.from.result < length c.loop-board.boards =
    omega (arith, c.from.ensures, c.loop-board-test.true, c.requires.boards, within_boards g.N.Nor.device c.args.boards.now c.loop-board.boards i.to.read.first.count) in
    let used = used_there g.N.Nor.device c.loop-board.boards c.loop-board.board c.from.result c.index-boards-from.result c.mount_board.new.nor c.from.ensures there in
    same_boards _ _ _ (read_more _ _ _ _ _ _ i.to.read used c.mount_board.ensures.endures c.mount_board.ensures.same_image)

pub returns-in-Err-Stopped-clause-others : goal.returns-in-Err-Stopped-clause-others
returns-in-Err-Stopped-clause-others g c =
    let i = c.loop-board.invariant in
    let there : c.from.result < length c.loop-board.boards =
    omega (arith, c.from.ensures, c.loop-board-test.true, c.requires.boards, within_boards g.N.Nor.device c.args.boards.now c.loop-board.boards i.to.read.first.count) in
    let used = used_there g.N.Nor.device c.loop-board.boards c.loop-board.board c.from.result c.index-boards-from.result c.mount_board.new.nor c.from.ensures there in
    (first_within _ _ _ _ (read_more _ _ _ _ _ _ i.to.read used c.mount_board.ensures.endures c.mount_board.ensures.same_image).first (omega (arith, c.loop-board-test.true))).others

pub returns-in-Err-NotAVolume-clause-read : goal.returns-in-Err-NotAVolume-clause-read
returns-in-Err-NotAVolume-clause-read g c =
    let i = c.loop-board.invariant in
    let there : c.from.result < length c.loop-board.boards =
    omega (arith, c.from.ensures, c.loop-board-test.true, c.requires.boards, within_boards g.N.Nor.device c.args.boards.now c.loop-board.boards i.to.read.first.count) in
    let used = used_there g.N.Nor.device c.loop-board.boards c.loop-board.board c.from.result c.index-boards-from.result c.mount_board.new.nor c.from.ensures there in
    same_boards _ _ _ (read_more _ _ _ _ _ _ i.to.read used c.mount_board.ensures.endures c.mount_board.ensures.same_image)

pub returns-in-Err-NotAVolume-clause-others : goal.returns-in-Err-NotAVolume-clause-others
returns-in-Err-NotAVolume-clause-others g c =
    let i = c.loop-board.invariant in
    let there : c.from.result < length c.loop-board.boards =
    omega (arith, c.from.ensures, c.loop-board-test.true, c.requires.boards, within_boards g.N.Nor.device c.args.boards.now c.loop-board.boards i.to.read.first.count) in
    let used = used_there g.N.Nor.device c.loop-board.boards c.loop-board.board c.from.result c.index-boards-from.result c.mount_board.new.nor c.from.ensures there in
    (first_within _ _ _ _ (read_more _ _ _ _ _ _ i.to.read used c.mount_board.ensures.endures c.mount_board.ensures.same_image).first (omega (arith, c.loop-board-test.true))).others

pub returns-in-Err-Stopped-clause-stopped : goal.returns-in-Err-Stopped-clause-stopped
returns-in-Err-Stopped-clause-stopped g c = λ board is.
    let i = c.loop-board.invariant in
    let there : c.from.result < length c.loop-board.boards =
    omega (arith, c.from.ensures, c.loop-board-test.true, c.requires.boards, within_boards g.N.Nor.device c.args.boards.now c.loop-board.boards i.to.read.first.count) in
    let used = used_there g.N.Nor.device c.loop-board.boards c.loop-board.board c.from.result c.index-boards-from.result c.mount_board.new.nor c.from.ensures there in
    stops_there _ board _ _ _ is (mount_stops _ _ _ _ _ _ _ i.to used (c.in-Err-Stopped.ensures.stopped (ap (λ e. Err e) c.in-Err-Stopped.field-0-is)) c.loop-board-test.true)

pub returns-in-Err-NotAVolume-clause-no_volume : goal.returns-in-Err-NotAVolume-clause-no_volume
returns-in-Err-NotAVolume-clause-no_volume g c = λ board is.
    let i = c.loop-board.invariant in
    let there : c.from.result < length c.loop-board.boards =
    omega (arith, c.from.ensures, c.loop-board-test.true, c.requires.boards, within_boards g.N.Nor.device c.args.boards.now c.loop-board.boards i.to.read.first.count) in
    let used = used_there g.N.Nor.device c.loop-board.boards c.loop-board.board c.from.result c.index-boards-from.result c.mount_board.new.nor c.from.ensures there in
    none_there _ board _ _ _ is (no_volume_at _ _ _ _ _ _ _ i.to used (c.in-Err-NotAVolume.ensures.no_volume (ap (λ e. Err e) c.in-Err-NotAVolume.field-0-is)) c.loop-board-test.true)

pub returns-in-Err-NotAVolume-clause-calm_no_volume : goal.returns-in-Err-NotAVolume-clause-calm_no_volume
returns-in-Err-NotAVolume-clause-calm_no_volume g c = λ board is.
    let i = c.loop-board.invariant in
    let there : c.from.result < length c.loop-board.boards =
    omega (arith, c.from.ensures, c.loop-board-test.true, c.requires.boards, within_boards g.N.Nor.device c.args.boards.now c.loop-board.boards i.to.read.first.count) in
    let used = used_there g.N.Nor.device c.loop-board.boards c.loop-board.board c.from.result c.index-boards-from.result c.mount_board.new.nor c.from.ensures there in
    calm_more _ _ _ _ _ _ i.to.read.first used i.to.calm (c.in-Err-NotAVolume.ensures.calm_no_volume (ap (λ e. Err e) c.in-Err-NotAVolume.field-0-is))

pub loop-board-preserved : goal.loop-board-preserved
loop-board-preserved g c =
    let i = c.loop-board.invariant in
    let there : c.from.result < length c.loop-board.boards =
    omega (arith, c.from.ensures, c.loop-board-test.true, c.requires.boards, within_boards g.N.Nor.device c.args.boards.now c.loop-board.boards i.to.read.first.count) in
    let used = used_there g.N.Nor.device c.loop-board.boards c.loop-board.board c.from.result c.index-boards-from.result c.mount_board.new.nor c.from.ensures there in
    record {
      to = mounted_more _ _ _ _ _ _ i.to used c.mount_board.ensures.endures c.mount_board.ensures.same_image c.in-Ok.ensures.awake c.in-Ok.ensures.calm c.in-Ok.ensures.volume;
      within = omega (arith, c.loop-board-test.true);
    }

pub returns-clause-stands : goal.returns-clause-stands
returns-clause-stands g c =
    let i = c.loop-board.invariant in
    let few : c.args.motes ≤ length (map g.N.Nor.device c.loop-board.boards) = omega (arith, c.requires.boards, i.to.read.first.count, length-map c.args.boards.now g.N.Nor.device) in
    stand_for _ _ _ few (subst (λ n. AreMounted n (map g.N.Nor.device c.args.boards.now) (map g.N.Nor.device c.loop-board.boards)) (omega (arith, i.within, c.loop-board-test.false)) i.to)
