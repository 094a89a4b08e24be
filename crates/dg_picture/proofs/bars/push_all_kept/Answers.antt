use Rattle.std.proofs.Common.{ℕ, Option, ◌++◌, ap, ◌∙◌}
use Rattle.dg_layout.specs.Layout.{lane_bottom}
use Rattle.dg_picture.specs.Picture.{kept_text}
use Rattle.dg_story.specs.declared.reports.Pages.{Pages}
use Rattle.dg_layout.proofs.EachLemmas.{begun, grown}
use Rattle.dg_picture.proofs.bars.push_all_kept.Goals as goal

pub loop-mote-init : goal.loop-mote-init
loop-mote-init c = begun _ _

pub loop-mote-preserved : goal.loop-mote-preserved
loop-mote-preserved c =
    grown _ c.loop-mote.mote _ _ _ c.loop-mote.invariant
    (c.in_ok-push_kept.ensures
    ∙ ap (λ (n : ℕ). c.loop-mote.out.items ++ kept_text n c.args.image c.total.result) c.base_of.ensures.value
    ∙ ap (λ (kept : Option Pages). c.loop-mote.out.items ++ kept_text (lane_bottom c.args.frame c.loop-mote.mote c.args.image) c.args.image kept) c.total.ensures)
