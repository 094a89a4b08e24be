use Rattle.std.proofs.Common.{replicate, ap, refl, ◌∙◌}
use Rattle.dg_script.specs.Sizes.{most_motes}
use Rattle.dg_seed.specs.Draws.{generator_of}
use Rattle.dg_rehearse.proofs.FirstLemmas.{first_by, first_drawn}
use Rattle.dg_rehearse.proofs.schedule.Schedule.of.Goals as goal

pub returns : goal.returns
returns c = λ is.
    ap (first_by c.args.plan.now (replicate most_motes 0) c.none.result.pages c.none.result.whole c.none.result.runs (generator_of c.next.new.self)) c.from-next_cut.ensures
    ∙ first_drawn c.args.plan.now c.none.result.pages (replicate most_motes 0) c.none.result.whole c.none.result.runs (generator_of c.of_seed-draws.result) (generator_of c.next.new.self) c.next.result refl (c.none.ensures.pages ∙ is) c.none.ensures.whole c.none.ensures.runs c.of_seed-draws.ensures.first
    c.next.ensures.step
