use Rattle.std.proofs.Common.{[], map, refl, arith}
use Rattle.std.proofs.lemmas.List.{length-map}
use Rattle.dg_replay.specs.Stages.{told_so_far}
use Rattle.dg_replay.proofs.ShownLemmas.{stays_same, rested_unplaced}
use Rattle.dg_replay.proofs.SilentLemmas.{memory_line, golden_played, golden_stopped}
use Rattle.dg_replay.proofs.player.play_golden.Goals as goal

pub returns-in-Err-clause-played : goal.returns-in-Err-clause-played
returns-in-Err-clause-played g c = λ basis behind text stood.
    let F = g.W.Watcher.saw c.args.watcher.now basis.boards (map g.N.Nor.device c.args.boards.now.items) in
    let told = told_so_far text F in
    memory_line basis.table c.args.player.now c.args.player.now behind.lines behind.world _ told told basis.boards _ (stays_same F) stood

pub returns-in-Err-format-clause-played : goal.returns-in-Err-format-clause-played
returns-in-Err-format-clause-played g c = λ basis behind text stood.
    let old = map g.N.Nor.device c.args.boards.now.items in
    let new = map g.N.Nor.device c.format.new.boards.items in
    let after = told_so_far text (g.W.Watcher.saw c.args.watcher.now basis.boards new) in
    let F = g.W.Watcher.saw c.args.watcher.now basis.boards (map g.N.Nor.device c.args.boards.now.items) in
    let told = told_so_far text F in
    golden_stopped basis.table c.args.player.now c.args.player.now behind.lines behind.world c.args.name.now c.args.used c.args.content.now c.args.player.now.place.motes c.in-Err-format.field-0 told after basis.boards _ _ c.requires.unready refl c.format.ensures.others (c.format.ensures.stopped c.in-Err-format.field-0 c.in-Err-format.is) refl
    (g.W.Watcher.rests c.args.watcher.now basis.boards old new [] [] (rested_unplaced old new c.format.ensures.others.count)) stood

pub returns-in-Ok-format-clause-played : goal.returns-in-Ok-format-clause-played
returns-in-Ok-format-clause-played g c = λ basis behind text stood.
    let F = g.W.Watcher.saw c.args.watcher.now basis.boards (map g.N.Nor.device c.args.boards.now.items) in
    let told = told_so_far text F in
    let after = told_so_far text (g.W.Watcher.saw c.placed.new.self basis.boards (map g.N.Nor.device c.format.new.boards.items)) in
    let count = length-map c.args.boards.now.items g.N.Nor.device in
    golden_played c.args.player.now _ behind.lines behind.world c.args.name.now c.args.used c.args.content.now c.args.player.now.place.motes told after basis.boards _ _ c.requires.unready refl (c.requires.counted.0, c.requires.counted.1, omega (arith, c.requires.counted.2, count)) refl
    c.in-Ok-format.ensures.formatted c.in-Ok-format.ensures.awake c.in-Ok-format.ensures.calm c.format.ensures.others c.in-Ok.ensures.begins refl (rw (← c.as_slice.ensures.value) (c.placed.ensures.seen basis.boards (map g.N.Nor.device c.args.boards.now.items))) stood
