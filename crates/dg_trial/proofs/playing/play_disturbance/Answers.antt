use Rattle.std.proofs.Common.{◌^◌, ◌≤◌, ◌<◌, ◌%◌, ◌/◌, List, ◌∷◌, [], map, refl, sym, ap, subst, ◌∙◌, arith}
use Rattle.std.specs.Prelude.{OnOk}
use Rattle.dg_seed.specs.Draws.{generator_of}
use Rattle.dg_trial.specs.Schedule.{SchedulePart, disturbance}
use Rattle.dg_trial.specs.Playing.{AddsSteps, FitsStep, MayPlayOver, PartsPlay, PartsRecorded}
use Rattle.dg_trial.proofs.ScheduleLemmas.{one_disturbance}
use Rattle.dg_trial.proofs.PartLemmas.{nothing_played, may_only}
use Rattle.dg_trial.proofs.RecordLemmas.{disturbed_recorded, recorded_one}
use Rattle.dg_trial.proofs.playing.play_disturbance.Goals as goal

pub disturbance-requires-clause-few : goal.disturbance-requires-clause-few
disturbance-requires-clause-few g c =
    let m = c.requires.may in
    let e = c.frames_sent-sent.ensures _ m.world m.is in
    let sent = m.may.sent in
    let few = m.may.few in
    omega (arith, e, sent, few)

pub record_step-requires : goal.record_step-requires
record_step-requires g c =
    let motes = c.args.motes in
    let part : SchedulePart = disturbance motes c.next-first.result c.next-second.result c.next-third.result in
    let one = one_disturbance motes (generator_of c.args.draws.now) _ _ _ c.next-first.result c.next-second.result c.next-third.result c.next-first.ensures.step c.next-second.ensures.step c.next-third.ensures.step in
    let may : MayPlayOver motes c.args.world.now (map g.N.Nor.device c.args.boards.now.items) (part ∷ []) = subst (λ (ps : List SchedulePart). MayPlayOver motes c.args.world.now (map g.N.Nor.device c.args.boards.now.items) ps) one.0 c.requires.may in
    let step = c.in-Ok.step in
    let only_it = may_only motes _ _ step part may (sym (c.in-Ok.ensures ∙ ap part (c.frames_sent-sent.ensures _ may.world may.is))) in
    (motes, only_it)

pub returns-in-Ok-clause-played : goal.returns-in-Ok-clause-played
returns-in-Ok-clause-played g c =
    let motes = c.args.motes in
    let part : SchedulePart = disturbance motes c.next-first.result c.next-second.result c.next-third.result in
    let one = one_disturbance motes (generator_of c.args.draws.now) _ _ _ c.next-first.result c.next-second.result c.next-third.result c.next-first.ensures.step c.next-second.ensures.step c.next-third.ensures.step in
    subst (λ (ps : List SchedulePart). PartsPlay c.record_step.result ps c.args.world.now c.record_step.new.world (map g.N.Nor.device c.args.boards.now.items) (map g.N.Nor.device c.record_step.new.boards.items)) (sym one.0)
    (c.record_step.ensures.played part (λ w is. sym (c.in-Ok.ensures ∙ ap part (c.frames_sent-sent.ensures _ w is))))

pub returns-in-Ok-clause-drawn : goal.returns-in-Ok-clause-drawn
returns-in-Ok-clause-drawn g c =
    sym (one_disturbance c.args.motes (generator_of c.args.draws.now) _ _ _ c.next-first.result c.next-second.result c.next-third.result c.next-first.ensures.step c.next-second.ensures.step c.next-third.ensures.step).1

pub returns-in-Err-clause-played : goal.returns-in-Err-clause-played
returns-in-Err-clause-played g c = λ w initial is stands. nothing_played w _ initial _ _ refl stands

pub returns-in-Err-clause-drawn : goal.returns-in-Err-clause-drawn
returns-in-Err-clause-drawn g c =
    sym (one_disturbance c.args.motes (generator_of c.args.draws.now) _ _ _ c.next-first.result c.next-second.result c.next-third.result c.next-first.ensures.step c.next-second.ensures.step c.next-third.ensures.step).1

pub returns-in-Ok-clause-recorded : goal.returns-in-Ok-clause-recorded
returns-in-Ok-clause-recorded g c =
    let motes = c.args.motes in
    let part : SchedulePart = disturbance motes c.next-first.result c.next-second.result c.next-third.result in
    let one = one_disturbance motes (generator_of c.args.draws.now) _ _ _ c.next-first.result c.next-second.result c.next-third.result c.next-first.ensures.step c.next-second.ensures.step c.next-third.ensures.step in
    let m = c.requires.may in
    let sent_is = c.frames_sent-sent.ensures _ m.world m.is in
    let sent : c.frames_sent-sent.result ≤ 1000000 = omega (arith, sent_is, m.may.sent, m.may.few) in
    let low : c.next-first.result % motes < motes = omega (arith, c.requires.some) in
    let second : c.next-second.result < 2 ^ 32 = omega arith in
    let third : c.next-third.result < 2 ^ 32 = omega arith in
    let fits : FitsStep motes c.in-Ok.step = subst (FitsStep motes) (sym c.in-Ok.ensures) (disturbed_recorded motes (c.next-first.result % motes) (c.next-first.result / 65536 % 8) c.next-second.result c.next-third.result c.frames_sent-sent.result c.requires.some low second third sent) in
    subst (λ (ps : List SchedulePart). OnOk c.record_step.result (AddsSteps c.args.steps.now.items c.record_step.new.steps.items (λ more. PartsRecorded motes ps more c.args.world.now c.record_step.new.world (map g.N.Nor.device c.args.boards.now.items) (map g.N.Nor.device c.record_step.new.boards.items)))) (sym one.0)
    (recorded_one c.record_step.result motes part c.in-Ok.step c.args.steps.now.items c.record_step.new.steps.items c.args.world.now c.record_step.new.world _ _ fits (λ w is. sym (c.in-Ok.ensures ∙ ap part (c.frames_sent-sent.ensures _ w is))) c.record_step.ensures.recorded
    (c.record_step.ensures.played part (λ w is. sym (c.in-Ok.ensures ∙ ap part (c.frames_sent-sent.ensures _ w is)))))
