use Rattle.std.proofs.Common.{ℕ, List, [], ◌∷◌, refl, ap, subst, ◌∙◌}
use Rattle.std.specs.Prelude.{Err}
use Rattle.std.proofs.lemmas.Result.{err_from_is_err_and}
use Rattle.dg_object.specs.Object.{Row, row_of}
use Rattle.dg_rules.specs.World.{World}
use Rattle.dg_world.specs.Worlds.{IsWorld}
use Rattle.dg_trial.specs.inner.Words.{row_by}
use Rattle.dg_trial.proofs.BeginLemmas.{declared_first, not_taken, content_fits, out_of_memory, row_is}
use Rattle.dg_trial.proofs.beginning.declare.Goals as goal

pub declare-requires-clause-fits : goal.declare-requires-clause-fits
declare-requires-clause-fits c = content_fits c.in_ok-content.content c.args.pages c.args.seed c.args.word c.requires.some c.requires.few c.in_ok-content.ensures.content

pub returns-in-Err-Taken-clause-memory : goal.returns-in-Err-Taken-clause-memory
returns-in-Err-Taken-clause-memory c =
    let at = c.requires.world in
    absurd (not_taken at.1 (row_of 1 1 c.new-name.result c.in_ok-content.content) at.3 (c.in-Err-Taken.ensures.taken (ap Err c.in-Err-Taken.field-0-is) at.0 at.1 at.2))

pub returns-in-Ok-clause-declared : goal.returns-in-Ok-clause-declared
returns-in-Ok-clause-declared c = λ boards w is none.
    let row : Row = row_of 1 1 c.new-name.result c.in_ok-content.content in
    subst (λ (z : World). IsWorld c.declare.new.self boards z)
    (declared_first w row none ∙ ap (λ (r : Row). record w { declared = r ∷ [] }) (row_is c.new-name.result c.in_ok-content.content c.args.pages c.args.seed c.args.word (c.new-name.ensures ∙ c.in_ok-from_slice.ensures.items) c.in_ok-content.ensures.content))
    (c.in-Ok.ensures.declared boards w is)

pub returns-in_err-from_slice-clause-memory : goal.returns-in_err-from_slice-clause-memory
returns-in_err-from_slice-clause-memory c =
    let p = err_from_is_err_and c.from_residual.result c.from_residual.ensures.1 in
    rw (p.1, p.2) refl

pub returns-in_err-content-clause-memory : goal.returns-in_err-content-clause-memory
returns-in_err-content-clause-memory c =
    let p = err_from_is_err_and c.from_residual-in_err-content.result c.from_residual-in_err-content.ensures.1 in
    rw (p.1, p.2) (out_of_memory c.in_err-content.field-0.0 c.in_err-content.ensures.memory)
