use Rattle.std.proofs.Common.{ℕ, cond, Bool, false, sym, ap, ◌∙◌}
use Rattle.std.specs.Prelude.{slice_index_or}
use Rattle.dg_rehearse.specs.Turns.{all_motes}
use Rattle.dg_rehearse.proofs.progress.Progress.is_complete.Goals as goal

pub returns-then-plan : goal.returns-then-plan
returns-then-plan c = λ a. c.all_set.ensures ∙ ap (λ (b : Bool). all_motes (λ m. slice_index_or (cond b c.args.self.now.runs c.args.self.now.whole) m false) c.args.motes) (sym c.if-plan.true)

pub returns-else-plan : goal.returns-else-plan
returns-else-plan c = λ a. c.all_set-else-plan.ensures ∙ ap (λ (b : Bool). all_motes (λ m. slice_index_or (cond b c.args.self.now.runs c.args.self.now.whole) m false) c.args.motes) (sym c.if-plan.false)
