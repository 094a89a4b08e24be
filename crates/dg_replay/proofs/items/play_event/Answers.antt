use Rattle.std.proofs.Common.{Err, option_copied, length, map, ap, refl, inl, inr}
use Rattle.dg_world.specs.Applying.{step_of}
use Rattle.dg_replay.specs.Stages.{told_so_far}
use Rattle.dg_replay.proofs.ShownLemmas.{stays_as, rested_stopped}
use Rattle.dg_replay.proofs.ItemStepLemmas.{told_as, goes_on, not_full, applied_goes, applied_shown, nothing_applied, not_applied, stopped_in, ended_in, ended_shown, image_not_full}
use Rattle.dg_replay.proofs.BytesLemmas.{step_keeps}
use Rattle.dg_replay.proofs.items.play_event.Goals as goal

pub returns-in-Ok-clause-played : goal.returns-in-Ok-clause-played
returns-in-Ok-clause-played g c = λ w initial is stands.
    let S = g.W.Watcher.saw c.args.watcher.now initial in
    let F = S (map g.N.Nor.device c.args.boards.now.items) in
    let G = g.W.Watcher.saw c.applied.new.self initial (map g.N.Nor.device c.apply_parts.new.boards.items) in
    let a = c.in-Ok.ensures.applied w is in
    told_as c.append_text.result w (step_of c.args.event.now (option_copied c.args.cut)) c.args.reported c.args.world.now c.apply_parts.new.self initial _ _ c.clear.new.self.items c.apply_parts.new.out.items (told_so_far c.args.line_report.now.text.items F) (told_so_far c.append_text.new.line_report.text.items G)
    c.clear.ensures.items c.requires a
    (applied_shown w c.args.event.now (option_copied c.args.cut) c.args.reported c.args.world.now c.apply_parts.new.self initial _ _ c.clear.new.self.items c.apply_parts.new.out.items c.deref.result.now S G c.clear.ensures.items c.deref.ensures.value c.requires is stands c.in-Ok.ensures a
    (rw (← c.as_slice.ensures.value) (c.applied.ensures.seen initial)))
    c.append_text.ensures.reported c.append_text.ensures.memory is stands

pub returns-in-Ok-clause-goes_on : goal.returns-in-Ok-clause-goes_on
returns-in-Ok-clause-goes_on g c =
    goes_on c.append_text.result c.args.world.now c.apply_parts.new.self _ _
    (λ w is. applied_goes w (step_of c.args.event.now (option_copied c.args.cut)) c.args.reported c.args.world.now c.apply_parts.new.self _ _ c.clear.new.self.items c.apply_parts.new.out.items (c.in-Ok.ensures.applied w is))

pub returns-in-Err-Memory-clause-played : goal.returns-in-Err-Memory-clause-played
returns-in-Err-Memory-clause-played g c = λ w initial is stands.
    let S = g.W.Watcher.saw c.args.watcher.now initial in
    let F = S (map g.N.Nor.device c.args.boards.now.items) in
    let same = (c.in-Err-Memory.ensures.unchanged (inr (ap Err c.in-Err-Memory.field-0-is))).1 in
    nothing_applied w _ c.args.world.now initial _ _ F (S (map g.N.Nor.device c.apply_parts.new.boards.items)) is same (stays_as S _ _ same) stands

pub returns-in-Err-Flash-clause-played : goal.returns-in-Err-Flash-clause-played
returns-in-Err-Flash-clause-played g c = λ w initial is stands.
    let S = g.W.Watcher.saw c.args.watcher.now initial in
    let F = S (map g.N.Nor.device c.args.boards.now.items) in
    let f = c.in-Err-Flash.ensures.flash c.in-Err-Flash.field-0-0 (ap Err c.in-Err-Flash.field-0-is) w is in
    stopped_in w (step_of c.args.event.now (option_copied c.args.cut)) c.args.reported c.args.world.now c.in-Err-Flash.field-0-0 initial _ _ (told_so_far c.args.line_report.now.text.items F) (told_so_far c.args.line_report.now.text.items (S (map g.N.Nor.device c.apply_parts.new.boards.items)))
    c.requires is (not_full _ _ w.events (ap Err c.in-Err-Flash.field-0-is) is.few_events (λ e. inl (c.in-Err-Flash.ensures.full w is e))) f refl
    (λ stores events. g.W.Watcher.rests c.args.watcher.now initial (map g.N.Nor.device c.args.boards.now.items) (map g.N.Nor.device c.apply_parts.new.boards.items) stores events (rested_stopped (length stores) c.in-Err-Flash.field-0-0 _ _ f.after f.boards f.is f.stopped)) stands

pub returns-in-Err-TooMany-clause-played : goal.returns-in-Err-TooMany-clause-played
returns-in-Err-TooMany-clause-played g c = λ w initial is stands.
    let S = g.W.Watcher.saw c.args.watcher.now initial in
    let F = S (map g.N.Nor.device c.args.boards.now.items) in
    let same = (c.in-Err-TooMany.ensures.unchanged (inl (ap Err c.in-Err-TooMany.field-0-is))).1 in
    not_applied w (step_of c.args.event.now (option_copied c.args.cut)) c.args.reported c.args.world.now initial _ _ (told_so_far c.args.line_report.now.text.items F) (told_so_far c.args.line_report.now.text.items (S (map g.N.Nor.device c.apply_parts.new.boards.items)))
    is (c.in-Err-TooMany.ensures.too_many (ap Err c.in-Err-TooMany.field-0-is) w is) same refl (stays_as S _ _ same) stands

pub returns-in-Err-NoImage-clause-played : goal.returns-in-Err-NoImage-clause-played
returns-in-Err-NoImage-clause-played g c = λ w initial is stands.
    let S = g.W.Watcher.saw c.args.watcher.now initial in
    let F = S (map g.N.Nor.device c.args.boards.now.items) in
    let G = g.W.Watcher.saw c.ended.new.self initial (map g.N.Nor.device c.apply_parts.new.boards.items) in
    let e = c.in-Err-NoImage.ensures.no_image (ap Err c.in-Err-NoImage.field-0-is) w is in
    let few = image_not_full _ w.events (ap Err c.in-Err-NoImage.field-0-is) is.few_events (λ e. c.in-Err-NoImage.ensures.full w is e) in
    ended_in w (step_of c.args.event.now (option_copied c.args.cut)) c.args.reported c.args.world.now initial _ _ c.args.line_report.now.text.items F G c.requires is e
    (ended_shown w c.args.event.now (option_copied c.args.cut) c.args.reported c.args.world.now initial _ _ S G c.requires is stands few e (rw (← c.as_slice-in-Err-NoImage.ensures.value) (c.ended.ensures.seen initial))) stands

pub returns-in-Err-NotAVolume-clause-played : goal.returns-in-Err-NotAVolume-clause-played
returns-in-Err-NotAVolume-clause-played g c = λ w initial is stands. c.in-Err-NotAVolume.ensures.a_volume (ap Err c.in-Err-NotAVolume.field-0-is)

pub returns-in-Ok-clause-kept : goal.returns-in-Ok-clause-kept
returns-in-Ok-clause-kept g c = step_keeps _ (step_of c.args.event.now (option_copied c.args.cut)) c.args.reported _ _ c.requires.0 c.requires.1 c.in-Ok.ensures

pub returns-in-Err-Memory-clause-kept : goal.returns-in-Err-Memory-clause-kept
returns-in-Err-Memory-clause-kept g c = step_keeps _ (step_of c.args.event.now (option_copied c.args.cut)) c.args.reported _ _ c.requires.0 c.requires.1 c.in-Err-Memory.ensures

pub returns-in-Err-Flash-clause-kept : goal.returns-in-Err-Flash-clause-kept
returns-in-Err-Flash-clause-kept g c = step_keeps _ (step_of c.args.event.now (option_copied c.args.cut)) c.args.reported _ _ c.requires.0 c.requires.1 c.in-Err-Flash.ensures

pub returns-in-Err-TooMany-clause-kept : goal.returns-in-Err-TooMany-clause-kept
returns-in-Err-TooMany-clause-kept g c = step_keeps _ (step_of c.args.event.now (option_copied c.args.cut)) c.args.reported _ _ c.requires.0 c.requires.1 c.in-Err-TooMany.ensures

pub returns-in-Err-NoImage-clause-kept : goal.returns-in-Err-NoImage-clause-kept
returns-in-Err-NoImage-clause-kept g c = step_keeps _ (step_of c.args.event.now (option_copied c.args.cut)) c.args.reported _ _ c.requires.0 c.requires.1 c.in-Err-NoImage.ensures

pub returns-in-Err-NotAVolume-clause-kept : goal.returns-in-Err-NotAVolume-clause-kept
returns-in-Err-NotAVolume-clause-kept g c = step_keeps _ (step_of c.args.event.now (option_copied c.args.cut)) c.args.reported _ _ c.requires.0 c.requires.1 c.in-Err-NotAVolume.ensures
