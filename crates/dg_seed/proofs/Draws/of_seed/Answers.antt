use Rattle.std.proofs.Common.{ap, ◌∙◌}
use Rattle.dg_seed.specs.Draws.{first_generator, generator_after}
use Rattle.dg_seed.proofs.Draws.of_seed.Goals as goal

pub returns-clause-first : goal.returns-clause-first
returns-clause-first c = c.seed_from_u64.ensures ∙ ap first_generator c.from.ensures

pub returns-clause-undrawn : goal.returns-clause-undrawn
unfolding generator_after
returns-clause-undrawn c = c.seed_from_u64.ensures ∙ ap first_generator c.from.ensures
