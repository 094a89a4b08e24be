use Rattle.std.proofs.Common.{◌∷◌, [], ◌++◌, append-nil, append_assoc, ap, sym, ◌∙◌}
use Rattle.dg_rehearse.specs.TrialScripts.{event_lines}
use Rattle.dg_trial.proofs.ScheduleLemmas.{resets_none}
use Rattle.dg_rehearse.proofs.TrialLemmas.{reset_appended}
use Rattle.dg_rehearse.proofs.trial.push_resets.Goals as goal

pub loop-mote-init : goal.loop-mote-init
loop-mote-init c = sym (append-nil c.args.lines.now.items) ∙ ap (λ l. c.args.lines.now.items ++ event_lines l) (sym resets_none)

pub loop-mote-preserved : goal.loop-mote-preserved
loop-mote-preserved c = reset_appended c.loop-mote.mote c.args.lines.now.items c.loop-mote.lines.items c.push.new.self.items c.loop-mote.invariant c.in_ok-push.ensures.items
