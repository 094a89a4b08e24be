use Rattle.std.proofs.Common.{List, ◌++◌, ap, sym, ◌∙◌, arith}
use Rattle.std.specs.Prelude.{option_to_list}
use Rattle.dg_script.specs.declared.report.Report.{Report}
use Rattle.dg_world.specs.inner.ChipReports.{have_lines}
use Rattle.dg_world.proofs.ChipReportLemmas.{haves_more, told_then}
use Rattle.dg_world.proofs.chip_report.push_haves.Goals as goal

pub loop-image-preserved : goal.loop-image-preserved
loop-image-preserved c =
    let i = c.loop-image.invariant in
    let line = ap option_to_list c.have_change-line.ensures in
    record {
      reported = told_then c.args.out.now.items c.loop-image.out.items c.push_line.new.out.items _ _ _ i.reported c.push_line.ensures.reported
          (ap (λ (l : List Report). have_lines c.args.mote c.args.before.now c.args.after.now c.loop-image.image ++ l) line ∙ sym (haves_more c.args.mote c.args.before.now c.args.after.now c.loop-image.image));
      room = c.push_line.ensures.capacity ∙ i.room;
      few = omega (arith, i.few, c.push_line.ensures.few);
    }
