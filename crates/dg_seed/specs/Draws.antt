-- The draws of the generator PCG-XSH-RR (64 bits of state, 32 bits of output) from a seed (O'Neill, 2014).
use Rattle.std.specs.Prelude.{ℕ, zero, suc}
use Rattle.rand_core.specs.Pcg32Seed.{pcg32_seed}
use Rattle.rand_pcg.specs.Lcg.{Lcg}
use Rattle.rand_pcg.specs.Pcg.{pcg32, pcg32_of_seed}
use Rattle.dg_seed.specs.declared.Draws.{Draws}

abbrev pub generator_of : Draws → Lcg
generator_of w = w.generator

-- the generator before the first draw of a seed
abbrev pub first_generator : ℕ → Lcg
first_generator seed = pcg32_of_seed (pcg32_seed 16 seed)

-- the generator after n draws
unfoldable pub generator_after : (seed n : ℕ) → Lcg
generator_after seed zero = first_generator seed
generator_after seed (suc n) = (pcg32 (generator_after seed n)).1

-- draw n of a seed, from 0 on
abbrev pub draw_of : (seed n : ℕ) → ℕ
draw_of seed n = (pcg32 (generator_after seed n)).0
