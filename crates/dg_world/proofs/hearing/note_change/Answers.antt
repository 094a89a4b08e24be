use Rattle.dg_world.proofs.OutcomeLemmas.{is_changed}
use Rattle.dg_world.proofs.hearing.note_change.Goals as goal

pub returns-clause-outcome : goal.returns-clause-outcome
returns-clause-outcome c =
    let n = c.requires in
    (c.report_chip.result, is_changed _ _ _ c.args.outcome.now.kept c.report_chip.result n.sent n.refused n.started, c.report_chip.ensures)
