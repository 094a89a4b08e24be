use Rattle.std.proofs.Common.{◌≡◌, ◌∷◌, ◌++◌, [], ℕ, List, length, get_or, ap, subst, ◌∙◌, arith}
use Rattle.std.specs.Prelude.{slice_get, Some}
use Rattle.std.proofs.lemmas.Option.{slice_get-get_or}
use Rattle.dg_meter.specs.Meters.{metered_device}
use Rattle.dg_script.specs.declared.report.Report.{Report}
use Rattle.dg_cost_text.specs.declared.moment.Moment.{Moment}
use Rattle.dg_moments.specs.Moments.{event_moment}
use Rattle.dg_moments.specs.Telling.{NotesLine}
use Rattle.dg_moments.proofs.TellingLemmas.{stays_same, stays_through, stage_first, stage_next, stage_last}
use Rattle.dg_moments.proofs.wholes.Wholes.note_lines.Goals as goal

pub loop-report-init : goal.loop-report-init
loop-report-init g c = (stays_same c.args.self.now, λ stores past p same is at told knows kept_on image. stage_first c.args.self.now stores past p image (knows image))

pub loop-report-preserved : goal.loop-report-preserved
loop-report-preserved g c = (
  stays_through c.args.self.now c.loop-report.self c.note_line.new.self c.loop-report.invariant.0 c.note_line.ensures.stays,
  λ stores past p same is at told knows kept_on image.
      let d = metered_device g.N.Nor.device c.args.board.now in
      let k : ℕ = c.loop-report.report-index in
      let line : Report = get_or c.args.reports.now k _ in
      let there : slice_get p.reports k ≡ Some line =
      ap (λ (lines : List Report). slice_get lines k) is ∙ slice_get-get_or c.args.reports.now k _ c.loop-report-test.true in
      let notes : NotesLine c.loop-report.self c.note_line.new.self (length stores) c.args.mote d line (event_moment (past ++ p ∷ [])) =
      subst (λ (t : Moment). NotesLine c.loop-report.self c.note_line.new.self (length stores) c.args.mote d line t) at
      (subst (λ (n : ℕ). NotesLine c.loop-report.self c.note_line.new.self n c.args.mote d line c.args.now) same c.note_line.ensures.line) in
      stage_next c.loop-report.self c.note_line.new.self c.args.mote d stores past p line image k told there notes kept_on
      (c.loop-report.invariant.1 stores past p same is at told knows (c.note_line.ensures.stays.lost kept_on) image),
)

pub returns-clause-brings : goal.returns-clause-brings
returns-clause-brings g c stores past p same is at told knows kept_on image =
    stage_last c.loop-report.self c.args.mote (metered_device g.N.Nor.device c.args.board.now) stores past p image c.loop-report.report-index told
    (omega (arith, ap length is, c.loop-report-test.false)) (c.loop-report.invariant.1 stores past p same is at told knows kept_on image)
