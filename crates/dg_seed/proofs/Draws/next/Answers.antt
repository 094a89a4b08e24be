use Rattle.std.proofs.Common.{ℕ, ap, ◌∙◌}
use Rattle.rand_pcg.specs.Lcg.{Lcg}
use Rattle.rand_pcg.specs.Pcg.{pcg32}
use Rattle.dg_seed.specs.Draws.{generator_after}
use Rattle.dg_seed.proofs.Draws.next.Goals as goal

pub returns-clause-behind : goal.returns-clause-behind
unfolding generator_after
returns-clause-behind c = λ seed n at. ap (λ (p : ℕ × Lcg). p.1) c.next_word.ensures ∙ ap (λ (g : Lcg). (pcg32 g).1) at
