use Rattle.std.proofs.Common.{ℕ, ◌++◌, ap, ◌∙◌}
use Rattle.dg_layout.specs.Layout.{lane_bottom}
use Rattle.dg_picture.specs.Picture.{run_text}
use Rattle.dg_story.specs.declared.reports.Ended.{Ended}
use Rattle.dg_layout.proofs.EachLemmas.{begun, grown}
use Rattle.dg_picture.proofs.rows.push_runs.Goals as goal

pub loop-mote-init : goal.loop-mote-init
loop-mote-init c = begun _ _

pub loop-mote-preserved : goal.loop-mote-preserved
loop-mote-preserved c =
    grown _ c.loop-mote.mote _ _ _ c.loop-mote.invariant
    (c.in_ok-push_run.ensures
    ∙ ap (λ (n : ℕ). c.loop-mote.out.items ++ run_text n c.how_ended.result) c.base_of.ensures.value
    ∙ ap (λ (how : Ended). c.loop-mote.out.items ++ run_text (lane_bottom c.args.frame c.loop-mote.mote 0) how) c.how_ended.ensures)
