use Rattle.dg_inspect.proofs.FactsLemmas.{sound_by_set}
use Rattle.dg_inspect.proofs.starting.is_sound.Goals as goal

pub returns-in-Some-complete : goal.returns-in-Some-complete
returns-in-Some-complete c c' i h keeps shown =
    sound_by_set c' i h c.args.seen.now c.in-Some.seen c.in-Some-complete.complete c.is_empty.result c.in-Some.is c.in-Some-complete.is keeps shown c.is_empty.ensures
