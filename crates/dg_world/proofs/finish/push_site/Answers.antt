use Rattle.std.proofs.Common.{◌∷◌, ◌-◌, ap, ◌∙◌, Err}
use Rattle.dg_volume.specs.Sizes.{images}
use Rattle.dg_script.specs.declared.report.Report.{Report}
use Rattle.dg_world.specs.inner.Finished.{kept_reports}
use Rattle.dg_world.proofs.FinishLemmas.{site_told, told_behind}
use Rattle.dg_world.proofs.finish.push_site.Goals as goal

pub returns-in-Err-NotAVolume-clause-stopped : goal.returns-in-Err-NotAVolume-clause-stopped
returns-in-Err-NotAVolume-clause-stopped g c = absurd (c.in-Err-NotAVolume.ensures.not_a_volume (ap (λ e. Err e) c.in-Err-NotAVolume.field-0-is) c.requires.volume.0 c.requires.volume.1)

pub returns-in-Ok-clause-reported : goal.returns-in-Ok-clause-reported
returns-in-Ok-clause-reported g c = λ x stands.
    let is_report = c.report_chip.ensures x.store (c.in-Ok.ensures.mounted x.store stands.stands).tells in
    told_behind _ _ _ _ _ _ c.push_reserved.ensures.items c.push_keeps.ensures.reported
    (ap (λ (r : Report). r ∷ kept_reports c.args.mote c.report_chip.result (images - 1)) c.mote_line.ensures ∙ site_told _ _ _ _ x stands is_report)
