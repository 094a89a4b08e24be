use Rattle.std.proofs.Common.{refl}
use Rattle.dg_trial.proofs.EndLemmas.{summary_text}
use Rattle.dg_trial.proofs.summary.push_summary.Goals as goal

pub returns : goal.returns
returns c =
    summary_text c.args.text.now.items c.push_field.new.text.items c.push_field-2.new.text.items c.push_field-3.new.text.items c.push_field-4.new.text.items c.push_field-5.new.text.items _ _ _ _ _ _ c.args.summary.now.motes c.args.summary.now.pages c.args.summary.now.sweeps c.args.summary.now.events c.args.summary.now.whole
    c.in_ok-push_field.ensures c.in_ok-push_field-2.ensures c.in_ok-push_field-3.ensures c.in_ok-push_field-4.ensures c.in_ok-push_field-5.ensures c.in_ok-push.ensures.items c.from.ensures c.from-2.ensures refl refl refl
