use Rattle.std.proofs.Common.{refl}
use Rattle.std.specs.Prelude.{codes}
use Rattle.dg_events.specs.Kinds.{event_names}
use Rattle.dg_cost_text.proofs.MomentLemmas.{none_then, then_none, named_then}
use Rattle.dg_cost.proofs.flash_rows.push_chip.Goals as goal

pub returns : goal.returns
returns c =
    then_none (none_then _ (none_then _ (none_then _ (none_then _ (named_then (codes "flash.event.") (codes ".count") event_names c.args.hot.now.flash_events (then_none c.in_ok-push_cut.ensures c.in_ok-push_cut-2.ensures) c.in_ok-each.ensures (λ rest. refl)) c.in_ok-sum.ensures refl) c.in_ok-sum-2.ensures refl) c.in_ok-sum-3.ensures refl) c.in_ok-sum-4.ensures refl) c.in_ok-push_commits.ensures
