use Rattle.std.proofs.Common.{sym, subst, ◌∙◌}
use Rattle.dg_volume.specs.Start.{Boot, golden_copied}
use Rattle.dg_boot.specs.Started.{NoImageFound}
use Rattle.dg_boot.specs.Ends.{BootOutcome}
use Rattle.dg_boot.proofs.BeginLemmas.{copied_begins}
use Rattle.dg_boot.proofs.BootLemmas.{stopped_boots, read_stops, lacks_read, boots_looked, mounted_looked}
use Rattle.dg_boot.proofs.CaseLemmas.{copied_sound, copied_lacks}
use Rattle.dg_boot.proofs.starting.start_golden_copied.Goals as goal

pub returns-in_err-is_image_sound-clause-boots : goal.returns-in_err-is_image_sound-clause-boots
returns-in_err-is_image_sound-clause-boots g c s m =
    stopped_boots c.from_residual.result (golden_copied s c.args.three) _ _ c.from_residual.ensures.1
    (read_stops s (golden_copied s c.args.three).trail _ _ (copied_begins s c.args.three) m.stands c.in_err-is_image_sound.ensures.ends)

pub returns-then-not-branch-clause-boots : goal.returns-then-not-branch-clause-boots
returns-then-not-branch-clause-boots g c s m =
    let unsound = sym (c.in_ok-is_image_sound.ensures.sound s m) ∙ c.if-not-branch.true in
    subst (λ (b : Boot). NoImageFound b (g.N.Nor.device c.args.nor.now) (g.N.Nor.device c.is_image_sound.new.nor)) (sym (copied_lacks s c.args.three unsound)) (lacks_read s _ _ c.args.volume c.in_ok-is_image_sound.ensures.ends m)

pub returns-clause-boots : goal.returns-clause-boots
returns-clause-boots g c s m =
    let looked = c.in_ok-is_image_sound.ensures.ends in
    let whole = sym (c.in_ok-is_image_sound.ensures.sound s m) ∙ c.if-not-branch.false in
    boots_looked c.load_golden.result (golden_copied s c.args.three) _ _ _ looked
    (subst (λ (b : Boot). BootOutcome c.load_golden.result b (g.N.Nor.device c.is_image_sound.new.nor) (g.N.Nor.device c.load_golden.new.nor)) (sym (copied_sound s c.args.three whole))
    (c.load_golden.ensures.boots s (mounted_looked s _ _ c.args.volume looked m)))
