use Rattle.std.proofs.Common.{◌+◌, ◌-◌, ◌^◌, ℕ, map, min, ap, inl, ◌∙◌}
use Rattle.std.specs.Prelude.{Err}
use Rattle.dg_rehearse.proofs.CourseLemmas.{cut_step}
use Rattle.dg_rehearse.proofs.PlayLemmas.{cut_makes, any_of, told_goes_on}
use Rattle.dg_rehearse.proofs.stage.Stage.play_cut.Goals as goal

pub returns-in_ok-write_event-in-Ok-clause-goes_on : goal.returns-in_ok-write_event-in-Ok-clause-goes_on
returns-in_ok-write_event-in-Ok-clause-goes_on g c =
    any_of _ c.args.profile.now c.args.plan.now _ _
    (cut_makes c.args.profile.now c.args.plan.now c.args.cut c.args.event c.args.self.now.world c.apply_parts.new.self _ _ c.args.self.now.script.items c.write_cut.new.script.items c.write_event.new.script.items c.args.self.now.moment c.later-self.result _ _
    c.requires.under_way c.requires.cut c.requires.fits c.requires.along c.in-Ok.ensures.applied c.in_ok-write_cut-in-Ok.ensures c.in_ok-write_event-in-Ok.ensures
    (c.later-self.ensures ∙ ap (λ (k : ℕ). min (c.args.self.now.moment + k) (2 ^ 64 - 1)) c.dt_at-dt.ensures)).0

pub returns-in_ok-write_event-in-Ok-clause-events : goal.returns-in_ok-write_event-in-Ok-clause-events
returns-in_ok-write_event-in-Ok-clause-events g c = λ _.
    (cut_makes c.args.profile.now c.args.plan.now c.args.cut c.args.event c.args.self.now.world c.apply_parts.new.self (map g.N.Nor.device c.args.boards.now.items) (map g.N.Nor.device c.apply_parts.new.boards.items) c.args.self.now.script.items c.write_cut.new.script.items c.write_event.new.script.items c.args.self.now.moment c.later-self.result _ _
    c.requires.under_way c.requires.cut c.requires.fits c.requires.along c.in-Ok.ensures.applied c.in_ok-write_cut-in-Ok.ensures c.in_ok-write_event-in-Ok.ensures
    (c.later-self.ensures ∙ ap (λ (k : ℕ). min (c.args.self.now.moment + k) (2 ^ 64 - 1)) c.dt_at-dt.ensures)).1

pub returns-in-Err-clause-goes_on : goal.returns-in-Err-clause-goes_on
returns-in-Err-clause-goes_on g c =
    told_goes_on c.told.result c.in-Err.fault c.args.profile.now c.args.plan.now c.args.self.now.world c.apply_parts.new.self _ _ c.args.self.now.script.items c.args.self.now.moment c.requires.under_way
    (λ e. c.in-Err.ensures.unchanged (inl (ap Err e))) c.told.ensures.many

pub returns-in_ok-write_event-in-Ok-clause-steps : goal.returns-in_ok-write_event-in-Ok-clause-steps
returns-in_ok-write_event-in-Ok-clause-steps g c = λ _.
    cut_step c.args.profile.now c.args.plan.now c.args.cut c.args.event c.args.self.now.world c.apply_parts.new.self _ _ c.args.self.now.script.items c.write_cut.new.script.items c.write_event.new.script.items c.args.self.now.moment c.later-self.result _ _
    c.in-Ok.ensures.applied c.clear.ensures.items c.in_ok-write_cut-in-Ok.ensures c.in_ok-write_event-in-Ok.ensures
    (c.later-self.ensures ∙ ap (λ (k : ℕ). min (c.args.self.now.moment + k) (2 ^ 64 - 1)) c.dt_at-dt.ensures)
