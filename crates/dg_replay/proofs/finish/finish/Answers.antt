use Rattle.std.proofs.Common.{List, refl, inl, inr, Err, ap, ◌++◌, ◌∙◌}
use Rattle.dg_rules.specs.Changes.{final_lines}
use Rattle.dg_script.specs.declared.report.Report.{Report}
use Rattle.dg_world.proofs.EndureLemmas.{stands_read}
use Rattle.dg_replay.proofs.FinishLemmas.{read_stopped, finished_as}
use Rattle.dg_replay.proofs.finish.finish.Goals as goal

pub returns-in-Ok-clause-finishes : goal.returns-in-Ok-clause-finishes
returns-in-Ok-clause-finishes g c = λ w initial is stands.
    finished_as c.end_with_lines.result w c.deref.result.now _ initial _ _ _ _ c.deref.ensures.value
    (c.in-Ok.ensures.finished w is ∙ ap (λ (xs : List Report). xs ++ final_lines w) c.new-reports.ensures.items) c.end_with_lines.ensures.ends
    (stands_read w initial _ _ c.finish.ensures.boards c.in-Ok.ensures.calm (c.finish.ensures.others w is) stands)

pub returns-in-Err-Memory-clause-finishes : goal.returns-in-Err-Memory-clause-finishes
returns-in-Err-Memory-clause-finishes g c = λ w initial is stands.
    inl (inr (inr (refl, refl)), stands_read w initial _ _ c.finish.ensures.boards (c.in-Err-Memory.ensures.calm_memory (ap Err c.in-Err-Memory.field-0-is)) (c.finish.ensures.others w is) stands)

pub returns-clause-finishes : goal.returns-clause-finishes
returns-clause-finishes g c = λ w initial is stands.
    let e = ap Err c.in-Err-Flash.field-0-is in
    inr (refl, read_stopped w c.in-Err-Flash.field-0-0 initial _ _ (c.in-Err-Flash.ensures.known_board c.in-Err-Flash.field-0-0 e w is) c.finish.ensures.boards (c.finish.ensures.others w is) (c.in-Err-Flash.ensures.flash c.in-Err-Flash.field-0-0 e) stands, refl)
