use Rattle.dg_world.proofs.StepLemmas.{changes_appended, nothing_changed, something_changed}
use Rattle.dg_world.proofs.stepping.report_changes.Goals as goal

pub returns-in-Some-clause-reported : goal.returns-in-Some-clause-reported
returns-in-Some-clause-reported c = λ s tells.
    something_changed c.args.mote c.args.before.now _ s c.args.out.now.items _ c.in-Some.is (changes_appended c.args.mote _ c.report_chip.result s c.args.out.now.items _ (c.report_chip.ensures s tells) c.push_changes.ensures.reported)

pub returns-in-None-clause-reported : goal.returns-in-None-clause-reported
returns-in-None-clause-reported c = λ s tells. nothing_changed c.args.mote c.args.before.now s c.args.out.now.items c.in-None.is
