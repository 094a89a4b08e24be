use Rattle.std.proofs.Common.{ℕ, ◌<◌, Option, sym, ap, subst, ◌∙◌}
use Rattle.dg_rehearse.specs.Courses.{moment_after, off_time, turn_after}
use Rattle.dg_rehearse.proofs.noting.turn_after.Goals as goal

pub returns-in-Some : goal.returns-in-Some
returns-in-Some c = λ boards n w is low.
    ap (λ (o : Option ℕ). turn_after o w.moment) (sym c.in-Some.is ∙ c.due.ensures.value boards w is.is (subst (λ (k : ℕ). c.args.mote < k) (sym is.count) low))

pub returns-in-None : goal.returns-in-None
returns-in-None c = λ boards n w is low.
    c.later.ensures ∙ ap (λ (k : ℕ). moment_after k off_time) is.moment ∙ ap (λ (o : Option ℕ). turn_after o w.moment) (sym c.in-None.is ∙ c.due.ensures.value boards w is.is (subst (λ (k : ℕ). c.args.mote < k) (sym is.count) low))
