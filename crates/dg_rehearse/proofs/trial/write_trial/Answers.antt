use Rattle.std.proofs.Common.{◌≡◌, ℕ, List, [], ◌∷◌, ◌++◌, map, Global, refl, ap, sym, subst, ◌∙◌}
use Rattle.std.specs.List.{AllByRecursion}
use Rattle.std.proofs.lemmas.Result.{err_from_is_err_and}
use Rattle.dg_script.specs.declared.line.Line.{Line}
use Rattle.dg_rehearse.specs.Rehearsed.{written_lines}
use Rattle.dg_rehearse.specs.TrialScripts.{CanBeWritten}
use Rattle.dg_rehearse.proofs.TrialLemmas.{lines_gathered, record_can, record_ends, record_unwritten, record_written}
use Rattle.dg_rehearse.proofs.trial.write_trial.Goals as goal

pub returns-in-Err : goal.returns-in-Err
returns-in-Err g c = rw c.stop_of.ensures (record_ends Global c.in-Err.end c.args.motes c.args.pages c.args.seed _ _ c.in-Err.ensures)

pub returns-in_err-push_head : goal.returns-in_err-push_head
returns-in_err-push_head g c =
    let p = err_from_is_err_and c.from_residual.result c.from_residual.ensures.1 in
    rw (p.1, p.2) (record_unwritten c.args.motes c.args.pages c.args.seed c.in-Ok.record _ _ c.in-Ok.ensures)

pub returns-in_err-push_opening : goal.returns-in_err-push_opening
returns-in_err-push_opening g c =
    let p = err_from_is_err_and c.from_residual-in_err-push_opening.result c.from_residual-in_err-push_opening.ensures.1 in
    rw (p.1, p.2) (record_unwritten c.args.motes c.args.pages c.args.seed c.in-Ok.record _ _ c.in-Ok.ensures)

pub returns-in_err-push_steps : goal.returns-in_err-push_steps
returns-in_err-push_steps g c =
    let p = err_from_is_err_and c.from_residual-in_err-push_steps.result c.from_residual-in_err-push_steps.ensures.1 in
    rw (p.1, p.2) (record_unwritten c.args.motes c.args.pages c.args.seed c.in-Ok.record _ _ c.in-Ok.ensures)

pub returns-in_err-push_resets : goal.returns-in_err-push_resets
returns-in_err-push_resets g c =
    let p = err_from_is_err_and c.from_residual-in_err-push_resets.result c.from_residual-in_err-push_resets.ensures.1 in
    rw (p.1, p.2) (record_unwritten c.args.motes c.args.pages c.args.seed c.in-Ok.record _ _ c.in-Ok.ensures)

pub returns-in_err-push_line : goal.returns-in_err-push_line
returns-in_err-push_line g c =
    let p = err_from_is_err_and c.from_residual-in_err-push_line.result c.from_residual-in_err-push_line.ensures.1 in
    rw (p.1, p.2) (record_unwritten c.args.motes c.args.pages c.args.seed c.in-Ok.record _ _ c.in-Ok.ensures)

pub returns-in_err-write_lines : goal.returns-in_err-write_lines
returns-in_err-write_lines g c =
    let p = err_from_is_err_and c.from_residual-in_err-write_lines.result c.from_residual-in_err-write_lines.ensures.1 in
    rw (p.1, p.2) (record_unwritten c.args.motes c.args.pages c.args.seed c.in-Ok.record _ _ c.in-Ok.ensures)

pub write_lines-requires : goal.write_lines-requires
write_lines-requires g c =
    let gathered = lines_gathered c.args.motes c.in-Ok.record c.deref.result.now _ _ _ _ _ c.push_line.new.lines.items c.deref.ensures.value c.new-lines.ensures.items c.in_ok-push_head.ensures c.in_ok-push_opening.ensures c.in_ok-push_steps.ensures c.in_ok-push_resets.ensures c.in_ok-push_line.ensures in
    subst (λ (ls : List Line). AllByRecursion CanBeWritten ls) (sym (c.deref-2.ensures.value ∙ gathered))
    (record_can c.args.motes c.args.pages c.args.seed c.in-Ok.record _ _ c.requires.some c.requires.few c.requires.some_pages c.requires.few_pages c.in-Ok.ensures)

pub returns : goal.returns
returns g c =
    let gathered = lines_gathered c.args.motes c.in-Ok.record c.deref.result.now _ _ _ _ _ c.push_line.new.lines.items c.deref.ensures.value c.new-lines.ensures.items c.in_ok-push_head.ensures c.in_ok-push_opening.ensures c.in_ok-push_steps.ensures c.in_ok-push_resets.ensures c.in_ok-push_line.ensures in
    let written = c.in_ok-write_lines.ensures ∙ ap (λ (bytes : List ℕ). bytes ++ written_lines c.deref-2.result.now) c.new-script.ensures.items ∙ ap written_lines (c.deref-2.ensures.value ∙ gathered) in
    record_written c.args.motes c.args.pages c.args.seed c.in-Ok.record _ _ _ c.requires.some c.requires.few c.requires.some_pages c.requires.few_pages c.in-Ok.ensures written
