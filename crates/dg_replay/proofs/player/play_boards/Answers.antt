use Rattle.std.proofs.Common.{[], Err, length, map, ◌∙◌, ap, refl, arith}
use Rattle.std.proofs.lemmas.List.{length-map}
use Rattle.dg_replay.specs.Stages.{told_so_far}
use Rattle.dg_replay.proofs.ShownLemmas.{stays_same, rested_read}
use Rattle.dg_replay.proofs.SilentLemmas.{memory_line, boards_played, boards_ended}
use Rattle.dg_replay.proofs.BytesLemmas.{keep_same, keep_read}
use Rattle.dg_replay.proofs.player.play_boards.Goals as goal

pub returns-in-Err-clause-played : goal.returns-in-Err-clause-played
returns-in-Err-clause-played g c = λ basis behind text stood.
    let F = g.W.Watcher.saw c.args.watcher.now basis.boards (map g.N.Nor.device c.args.boards.now.items) in
    let told = told_so_far text F in
    memory_line basis.table c.args.player.now c.args.player.now behind.lines behind.world _ told told basis.boards _ (stays_same F) stood

pub returns-in-Err-mount-clause-played : goal.returns-in-Err-mount-clause-played
returns-in-Err-mount-clause-played g c = λ basis behind text stood.
    let old = map g.N.Nor.device c.args.boards.now.items in
    let new = map g.N.Nor.device c.mount.new.boards.items in
    let after = told_so_far text (g.W.Watcher.saw c.args.watcher.now basis.boards new) in
    let F = g.W.Watcher.saw c.args.watcher.now basis.boards (map g.N.Nor.device c.args.boards.now.items) in
    let told = told_so_far text F in
    boards_ended basis.table c.args.player.now _ behind.lines behind.world c.args.player.now.place.motes c.in-Err-mount.stopped c.mount_stop.result told after basis.boards _ _ c.mount_stop.ensures c.requires.unready refl c.mount.ensures.read
    (λ board is. c.mount.ensures.stopped board (c.in-Err-mount.is ∙ ap Err is)) (λ board is. c.mount.ensures.no_volume board (c.in-Err-mount.is ∙ ap Err is)) refl
    (λ stores events. g.W.Watcher.rests c.args.watcher.now basis.boards old new stores events (rested_read (length stores) old new c.mount.ensures.read)) stood

pub returns-in-Ok-mount-clause-played : goal.returns-in-Ok-mount-clause-played
returns-in-Ok-mount-clause-played g c = λ basis behind text stood.
    let F = g.W.Watcher.saw c.args.watcher.now basis.boards (map g.N.Nor.device c.args.boards.now.items) in
    let told = told_so_far text F in
    let after = told_so_far text (g.W.Watcher.saw c.placed.new.self basis.boards (map g.N.Nor.device c.mount.new.boards.items)) in
    let count = length-map c.args.boards.now.items g.N.Nor.device in
    boards_played basis.table c.args.player.now _ behind.lines behind.world c.args.player.now.place.motes told after basis.boards _ _ c.requires.unready refl (c.requires.counted.0, c.requires.counted.1, omega (arith, c.requires.counted.2, count)) refl
    c.in-Ok-mount.ensures.stands c.in-Ok-mount.ensures.awake c.in-Ok-mount.ensures.calm c.mount.ensures.read c.mount.ensures.others c.in-Ok.ensures.begins refl (rw (← c.as_slice.ensures.value) (c.placed.ensures.seen basis.boards (map g.N.Nor.device c.args.boards.now.items))) stood

pub returns-in-Err-clause-kept : goal.returns-in-Err-clause-kept
returns-in-Err-clause-kept g c = keep_same [] _ _ refl

pub returns-in-Err-mount-clause-kept : goal.returns-in-Err-mount-clause-kept
returns-in-Err-mount-clause-kept g c = keep_read [] _ _ c.mount.ensures.read

pub returns-in-Ok-mount-clause-kept : goal.returns-in-Ok-mount-clause-kept
returns-in-Ok-mount-clause-kept g c = keep_read [] _ _ c.mount.ensures.read
