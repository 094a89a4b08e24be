use Rattle.std.proofs.Common.{sym, subst, ap, ◌∙◌}
use Rattle.dg_volume.specs.Start.{Boot}
use Rattle.dg_boot.specs.Ends.{BootOutcome, ordered_boot}
use Rattle.dg_boot.proofs.BeginLemmas.{ordered_begins}
use Rattle.dg_boot.proofs.BootLemmas.{stopped_boots, read_stops, boots_looked, mounted_looked}
use Rattle.dg_boot.proofs.CaseLemmas.{order_whole, order_sound, order_unsound, sound_at}
use Rattle.dg_boot.proofs.starting.try_order.Goals as goal

pub is_image_sound-requires-clause-whole : goal.is_image_sound-requires-clause-whole
is_image_sound-requires-clause-whole g c s m =
    order_whole s c.snapshot.result.order.image (c.requires.waits s m) (ap (λ p. p.order.image) c.snapshot.ensures ∙ ap (λ o. o.image) m.tells.says.order)

pub returns-in_err-is_image_sound-clause-boots : goal.returns-in_err-is_image_sound-clause-boots
returns-in_err-is_image_sound-clause-boots g c s m =
    stopped_boots c.from_residual.result (ordered_boot s) _ _ c.from_residual.ensures.1 (read_stops s (ordered_boot s).trail _ _ (ordered_begins s) m.stands c.in_err-is_image_sound.ensures.ends)

pub returns-then-branch-clause-boots : goal.returns-then-branch-clause-boots
returns-then-branch-clause-boots g c s m =
    let looked = c.in_ok-is_image_sound.ensures.ends in
    let image = ap (λ p. p.order.image) c.snapshot.ensures ∙ ap (λ o. o.image) m.tells.says.order in
    let sound = sym (sound_at s _ _ (c.in_ok-is_image_sound.ensures.sound s m) image) ∙ c.if-branch.true in
    boots_looked c.start_ordered.result (ordered_boot s) _ _ _ looked
    (subst (λ (b : Boot). BootOutcome c.start_ordered.result b (g.N.Nor.device c.is_image_sound.new.nor) (g.N.Nor.device c.start_ordered.new.nor)) (sym (order_sound s sound))
    (c.start_ordered.ensures.boots s (mounted_looked s _ _ c.args.volume looked m)))

pub returns-else-branch-clause-boots : goal.returns-else-branch-clause-boots
returns-else-branch-clause-boots g c s m =
    let looked = c.in_ok-is_image_sound.ensures.ends in
    let image = ap (λ p. p.order.image) c.snapshot.ensures ∙ ap (λ o. o.image) m.tells.says.order in
    let unsound = sym (sound_at s _ _ (c.in_ok-is_image_sound.ensures.sound s m) image) ∙ c.if-branch.false in
    boots_looked c.start_waived.result (ordered_boot s) _ _ _ looked
    (subst (λ (b : Boot). BootOutcome c.start_waived.result b (g.N.Nor.device c.is_image_sound.new.nor) (g.N.Nor.device c.start_waived.new.nor)) (sym (order_unsound s unsound))
    (c.start_waived.ensures.boots s (mounted_looked s _ _ c.args.volume looked m)))
