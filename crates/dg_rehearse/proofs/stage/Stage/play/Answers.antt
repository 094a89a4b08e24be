use Rattle.std.proofs.Common.{◌+◌, ◌-◌, ◌^◌, ℕ, map, min, ap, inl, refl, ◌∙◌}
use Rattle.std.specs.Prelude.{Err}
use Rattle.dg_world.specs.Alone.{uncut}
use Rattle.dg_rehearse.proofs.CourseLemmas.{event_step}
use Rattle.dg_rehearse.proofs.PlayLemmas.{event_makes, event_sends, any_of, told_goes_on}
use Rattle.dg_rehearse.proofs.stage.Stage.play.Goals as goal

pub returns-in_ok-write_event-in-Ok-clause-goes_on : goal.returns-in_ok-write_event-in-Ok-clause-goes_on
returns-in_ok-write_event-in-Ok-clause-goes_on g c =
    any_of _ c.args.profile.now c.args.plan.now _ _
    (event_makes c.args.profile.now c.args.plan.now c.args.event c.args.self.now.world c.apply_parts.new.self _ _ c.args.self.now.script.items c.write_event.new.script.items c.args.self.now.moment c.later-self.result _ _
    c.requires.under_way c.requires.fits c.requires.along c.in-Ok.ensures.applied c.in_ok-write_event-in-Ok.ensures
    (c.later-self.ensures ∙ ap (λ (k : ℕ). min (c.args.self.now.moment + k) (2 ^ 64 - 1)) c.dt_at-dt.ensures)).0

pub returns-in_ok-write_event-in-Ok-clause-makes : goal.returns-in_ok-write_event-in-Ok-clause-makes
returns-in_ok-write_event-in-Ok-clause-makes g c = λ _.
    event_makes c.args.profile.now c.args.plan.now c.args.event c.args.self.now.world c.apply_parts.new.self _ _ c.args.self.now.script.items c.write_event.new.script.items c.args.self.now.moment c.later-self.result _ _
    c.requires.under_way c.requires.fits c.requires.along c.in-Ok.ensures.applied c.in_ok-write_event-in-Ok.ensures
    (c.later-self.ensures ∙ ap (λ (k : ℕ). min (c.args.self.now.moment + k) (2 ^ 64 - 1)) c.dt_at-dt.ensures)

pub returns-in_ok-write_event-in-Ok-clause-sends : goal.returns-in_ok-write_event-in-Ok-clause-sends
returns-in_ok-write_event-in-Ok-clause-sends g c =
    event_sends c.args.event c.args.self.now.world c.apply_parts.new.self (map g.N.Nor.device c.args.boards.now.items) (map g.N.Nor.device c.apply_parts.new.boards.items) c.args.self.now.script.items c.write_event.new.script.items c.args.self.now.moment c.later-self.result
    (uncut c.args.event) _ _ refl c.in-Ok.ensures.applied

pub returns-in-Err-clause-goes_on : goal.returns-in-Err-clause-goes_on
returns-in-Err-clause-goes_on g c =
    told_goes_on c.told.result c.in-Err.fault c.args.profile.now c.args.plan.now c.args.self.now.world c.apply_parts.new.self _ _ c.args.self.now.script.items c.args.self.now.moment c.requires.under_way
    (λ e. c.in-Err.ensures.unchanged (inl (ap Err e))) c.told.ensures.many

pub returns-in_ok-write_event-in-Ok-clause-steps : goal.returns-in_ok-write_event-in-Ok-clause-steps
returns-in_ok-write_event-in-Ok-clause-steps g c = λ _.
    event_step c.args.profile.now c.args.plan.now c.args.event c.args.self.now.world c.apply_parts.new.self _ _ c.args.self.now.script.items c.write_event.new.script.items c.args.self.now.moment c.later-self.result _ _
    c.in-Ok.ensures.applied c.clear.ensures.items c.in_ok-write_event-in-Ok.ensures
    (c.later-self.ensures ∙ ap (λ (k : ℕ). min (c.args.self.now.moment + k) (2 ^ 64 - 1)) c.dt_at-dt.ensures)
