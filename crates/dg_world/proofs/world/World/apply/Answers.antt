use Rattle.std.proofs.Common.{Option, length, map, sym, subst}
use Rattle.dg_base.specs.declared.events.Cut.{Cut as PowerCut}
use Rattle.dg_script.specs.Ranges.{StepInRange}
use Rattle.dg_world.specs.Applying.{step_of, ApplyDone}
use Rattle.dg_world.specs.Deployments.{deployed}
use Rattle.dg_world.proofs.world.World.apply.Goals as goal

pub apply_parts-requires : goal.apply_parts-requires
apply_parts-requires g c =
    let x = c.requires.world in
    record { world = (x.0, x.1, subst (λ (cut : Option PowerCut). StepInRange (length x.0.sites) (step_of c.args.step.now.event cut)) (sym c.as_ref.ensures.value) x.2) }

pub returns : goal.returns
returns g c =
    subst
    (λ (cut : Option PowerCut). ApplyDone c.apply_parts.result (step_of c.args.step.now.event cut) c.args.loud
    (deployed c.args.self.now (map g.N.Nor.device c.args.boards.now.items) c.args.out.now.items)
    (deployed c.apply_parts.new.self (map g.N.Nor.device c.apply_parts.new.boards.items) c.apply_parts.new.out.items))
    c.as_ref.ensures.value c.apply_parts.ensures
