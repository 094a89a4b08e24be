use Rattle.std.proofs.Common.{◌≡◌, ℕ, List, ◌-◌, ◌++◌, ap, sym, ◌∙◌, arith}
use Rattle.std.specs.Prelude.{option_to_list}
use Rattle.dg_volume.specs.Sizes.{images}
use Rattle.dg_script.specs.declared.report.Report.{Report}
use Rattle.dg_world.specs.inner.Finished.{kept_reports}
use Rattle.dg_world.proofs.ChipReportLemmas.{told_then}
use Rattle.dg_world.proofs.FinishLemmas.{keeps_with}
use Rattle.dg_world.proofs.finish.push_keeps.Goals as goal

pub loop-image-preserved : goal.loop-image-preserved
loop-image-preserved c =
    let i = c.loop-image.invariant in
    let line = ap option_to_list c.kept_line-line.ensures in
    record {
      reported = told_then c.args.out.now.items c.loop-image.out.items c.push_line.new.out.items _ _ _ i.reported c.push_line.ensures.reported
          (ap (λ (l : List Report). kept_reports c.args.mote c.args.chip_report.now (c.loop-image.image - 1) ++ l) line ∙ sym (keeps_with c.args.mote c.args.chip_report.now c.loop-image.image i.some));
      room = c.push_line.ensures.capacity ∙ i.room;
      few = omega (arith, i.few, c.push_line.ensures.few);
      some = omega (arith, i.some);
    }

pub returns-clause-reported : goal.returns-clause-reported
returns-clause-reported c =
    let e : c.loop-image.image - 1 ≡ images - 1 = omega (arith, c.loop-image.auto.image-end, c.loop-image-test.false) in
    c.loop-image.invariant.reported ∙ ap (λ (n : ℕ). c.args.out.now.items ++ kept_reports c.args.mote c.args.chip_report.now n) e
