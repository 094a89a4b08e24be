use Rattle.std.proofs.Common.{◌∙◌, ap}
use Rattle.std.specs.Prelude.{◌∷◌, [], ◌++◌, None}
use Rattle.dg_serve.proofs.OpenLemmas.{one_more}
use Rattle.dg_serve.proofs.serving.all_off.Goals as goal

pub loop-mote-preserved : goal.loop-mote-preserved
loop-mote-preserved c = c.in_ok-push.ensures.items ∙ ap (λ xs. xs ++ None ∷ []) c.loop-mote.invariant ∙ one_more None c.loop-mote._mote
