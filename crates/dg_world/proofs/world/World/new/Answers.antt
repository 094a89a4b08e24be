use Rattle.dg_world.proofs.world.World.new.Goals as goal

pub returns-clause-begins : goal.returns-clause-begins
returns-clause-begins c = λ boards stores table count enough stand.
    c.at_rest.ensures.begins c.args.motes boards stores table c.in_ok-all_off.ensures c.requires.few count enough stand

pub returns-clause-none_known : goal.returns-clause-none_known
returns-clause-none_known c = c.at_rest.ensures.none_known
