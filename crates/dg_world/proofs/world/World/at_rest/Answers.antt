use Rattle.std.proofs.Common.{refl, []}
use Rattle.dg_script.specs.Places.{none_narrow}
use Rattle.dg_world.proofs.WorldLemmas.{begins, none_known}
use Rattle.dg_world.proofs.world.World.at_rest.Goals as goal

pub returns-clause-begins : goal.returns-clause-begins
returns-clause-begins c = λ n boards stores table off few count enough stand.
    begins _ boards stores table [] none_narrow n refl refl c.new.ensures c.none.ensures refl c.new-2.ensures off few count enough stand (none_known _ refl)

pub returns-clause-none_known : goal.returns-clause-none_known
returns-clause-none_known c = λ m. none_known _ refl m
