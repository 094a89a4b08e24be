use Rattle.std.proofs.Common.{ap, subst, ◌∙◌}
use Rattle.dg_object.specs.Object.{row_of}
use Rattle.dg_volume.specs.Table.{row_at}
use Rattle.dg_rules.specs.Steps.{declared_as}
use Rattle.dg_world.specs.Worlds.{IsWorld}
use Rattle.dg_rehearse.proofs.BeginLemmas.{declared_first}
use Rattle.dg_rehearse.proofs.beginning.declare.Goals as goal

pub returns-in-Ok : goal.returns-in-Ok
returns-in-Ok c = λ boards w is none.
    subst (λ z. IsWorld c.declare.new.self boards z)
    (ap (λ name. declared_as (row_at w.declared c.args.plan.now.image c.args.plan.now.version) w (row_of c.args.plan.now.image c.args.plan.now.version name c.in_ok-content.content)) c.in_ok-name.ensures
    ∙ ap (λ content. declared_as (row_at w.declared c.args.plan.now.image c.args.plan.now.version) w (row_of c.args.plan.now.image c.args.plan.now.version c.args.plan.now.name content)) c.in_ok-content.ensures
    ∙ declared_first w c.args.plan.now none)
    (c.in-Ok.ensures.declared boards w is)
