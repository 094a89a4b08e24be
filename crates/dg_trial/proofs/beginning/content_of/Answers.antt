use Rattle.std.proofs.Common.{ap, ◌∙◌}
use Rattle.dg_script.specs.Contents.{generated}
use Rattle.dg_trial.proofs.BeginLemmas.{content_is}
use Rattle.dg_trial.proofs.beginning.content_of.Goals as goal

pub returns-in-Ok-clause-content : goal.returns-in-Ok-clause-content
returns-in-Ok-clause-content c = content_is c.in-Ok.content (generated c.size.result c.args.seed) c.in-Ok.ensures ∙ ap (λ n. generated n c.args.seed) c.size.ensures.size
