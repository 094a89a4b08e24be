use Rattle.std.proofs.Common.{◌∷◌, [], ◌++◌, append_assoc, ap, sym, ◌∙◌}
use Rattle.std.proofs.lemmas.List.{map-append}
use Rattle.dg_base.specs.declared.events.Event.TheVariants.{Inject}
use Rattle.dg_script.specs.declared.line.Line.TheVariants.{Happens}
use Rattle.dg_trial.specs.Schedule.{resets}
use Rattle.dg_rehearse.specs.TrialScripts.{event_lines}
use Rattle.dg_rehearse.proofs.trial.push_opening.Goals as goal

pub returns : goal.returns
returns c =
    c.in_ok-push.ensures.items ∙ ap (λ l. l ++ Happens (Inject 0 1 1 0 0) ∷ []) c.in_ok-push_resets.ensures
    ∙ append_assoc c.args.lines.now.items (event_lines (resets c.args.motes)) (Happens (Inject 0 1 1 0 0) ∷ [])
    ∙ ap (λ l. c.args.lines.now.items ++ l) (sym (map-append Happens (resets c.args.motes) (Inject 0 1 1 0 0 ∷ [])))
