use Rattle.std.proofs.Common.{◌≡◌, Err, refl, ap, sym, subst, append-nil, List, ◌∷◌, ◌++◌, [], ◌∙◌}
use Rattle.dg_object.specs.Object.{Row, row_of}
use Rattle.dg_volume.specs.Table.{row_at}
use Rattle.dg_rules.specs.Steps.{DeclareStep}
use Rattle.dg_script.specs.declared.report.Report.{Report}
use Rattle.dg_script.specs.declared.report.Report.TheVariants as report
use Rattle.dg_replay.specs.Stages.{told_so_far}
use Rattle.dg_replay.proofs.ItemLemmas.{taken_step}
use Rattle.dg_replay.proofs.ShownLemmas.{stays_same}
use Rattle.dg_replay.proofs.ItemStepLemmas.{declared_played, declared_step, nothing_applied, taken_as}
use Rattle.dg_replay.proofs.items.play_image.Goals as goal

pub returns-in-Ok : goal.returns-in-Ok
returns-in-Ok g c = record {
  played = λ boards initial w is stands.
      let row : Row = row_of c.args.image c.args.version c.args.name c.args.content in
      let saw = g.W.Watcher.saw c.args.watcher.now initial boards in
      let told = told_so_far c.args.line_report.now.text.items saw in
      declared_played w _ row [] c.declare.new.self initial boards told told
      (declared_step (row_at w.declared c.args.image c.args.version) w row refl (c.in-Ok.ensures.allowed boards w is)) (c.in-Ok.ensures.declared boards w is) (sym (append-nil c.args.line_report.now.text.items)) (stays_same saw) stands;
}

pub returns-in-Err-Memory : goal.returns-in-Err-Memory
returns-in-Err-Memory g c = record {
  played = λ boards initial w is stands.
      let saw = g.W.Watcher.saw c.args.watcher.now initial boards in
      nothing_applied w _ c.args.world.now initial boards boards saw saw is refl (stays_same saw) stands;
}

pub returns-in-Err : goal.returns-in-Err
returns-in-Err g c = record {
  played = λ boards initial w is stands.
      let saw = g.W.Watcher.saw c.args.watcher.now initial boards in
      nothing_applied w _ c.args.world.now initial boards boards saw saw is refl (stays_same saw) stands;
}

pub returns-in-Ok-push : goal.returns-in-Ok-push
returns-in-Ok-push g c = record {
  played = λ boards initial w is stands.
      let row : Row = row_of c.args.image c.args.version c.args.name c.args.content in
      let taken : Report = report.Taken c.args.image c.args.version in
      let only : c.push.new.self.items ≡ taken ∷ [] = c.in-Ok-push.ensures.items ∙ ap (λ (rs : List Report). rs ++ taken ∷ []) c.clear.ensures.items in
      let step : DeclareStep w row w (taken ∷ []) = taken_step (row_at w.declared row.image row.version) w row refl (c.in-Err-Taken.ensures.taken (ap Err c.in-Err-Taken.field-0-is) boards w is) in
      let before = told_so_far c.args.line_report.now.text.items (g.W.Watcher.saw c.args.watcher.now initial boards) in
      let told = told_so_far c.append_text.new.line_report.text.items (g.W.Watcher.saw c.taken.new.self initial boards) in
      taken_as c.append_text.result w row c.declare.new.self initial boards c.push.new.self.items before told
      (subst (λ (rs : List Report). DeclareStep w row w rs) (sym only) step) c.append_text.ensures.reported c.append_text.ensures.memory (c.taken.ensures.seen initial boards) (c.in-Err-Taken.ensures.unchanged boards w is) stands;
}
