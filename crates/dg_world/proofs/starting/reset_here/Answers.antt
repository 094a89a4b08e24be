use Rattle.std.proofs.Common.{sym, None}
use Rattle.dg_mote.specs.Effects.{reset_effect}
use Rattle.dg_rules.specs.World.{store_at, wide_at}
use Rattle.dg_rules.specs.Events.{of_effect}
use Rattle.dg_world.specs.inner.Outcomes.{as_outcome}
use Rattle.dg_world.proofs.DispatchLemmas.{ends_at}
use Rattle.dg_world.proofs.starting.reset_here.Goals as goal

pub returns-clause-ends : goal.returns-clause-ends
returns-clause-ends g c = λ w is stands.
    let o = c.args.context.now in
    let x = c.reset in
    ends_at (λ wide. of_effect w (reset_effect (store_at w o.mote) o.mote wide o.moment c.args.word) None) (wide_at w o.mote) c.is_wide-wide.result (as_outcome x.result x.new.outcome) w o.mote
    c.args.runs.now x.new.runs _ _ (sym (c.is_wide-wide.ensures w is)) (x.ensures.ends w o.mote (sym c.from.ensures) stands)
