use Rattle.std.proofs.Common.{ℕ, List, ap, ◌∙◌, arith}
use Rattle.dg_nor.specs.Chip.{Touches}
use Rattle.dg_nor.proofs.DeviceLemmas.{OnErr_from}
use Rattle.dg_slot.specs.Kept.{Held}
use Rattle.dg_slot.specs.Jobs.{slot_of, IsJob, Packets}
use Rattle.dg_slot.specs.declared.states.PageJob.{PageJob}
use Rattle.dg_slot.proofs.SlotLemmas.{job_stays}
use Rattle.dg_volume.specs.Sizes.{control_sectors}
use Rattle.dg_volume.specs.Changes.{gesture_cleared}
use Rattle.dg_volume.proofs.CommitLemmas.{commit_acted, commit_stops}
use Rattle.dg_volume.proofs.AdvanceLemmas.{clear_commits}
use Rattle.dg_volume.proofs.volume.Volume.clear_gesture.Goals as goal

pub returns-clause-acted : goal.returns-clause-acted
returns-clause-acted g c s mounted =
    let says = c.with_start-next.ensures in
    let now = c.now-snapshot.ensures in
    let commits = clear_commits (g.N.Nor.device c.args.nor.now).image c.args.self.now s c.with_start-next.result mounted.stands mounted.tells
    (record {
      program = says.program ∙ ap (λ p. p.program) now;
      gesture = says.gesture;
      waived = says.waived ∙ ap (λ p. p.waived) now;
      slots = says.slots ∙ ap (λ p. p.slots) now;
      order = says.order ∙ ap (λ p. p.order) now;
    }) in
    commit_acted c.args.self.now _ c.with_start-next.result s (gesture_cleared s) _ _ commits c.keep.ensures.touches c.in_ok-keep.ensures.ok c.in_ok-keep.ensures.now c.in_ok-keep.ensures.room (λ i known. mounted.tells.kept i known (λ h. h)) c.in_ok-keep.ensures.ran

pub returns-in_err-keep-clause-stopped : goal.returns-in_err-keep-clause-stopped
returns-in_err-keep-clause-stopped g c = OnErr_from c.from_residual.result (λ s mounted.
    let says = c.with_start-next.ensures in
    let now = c.now-snapshot.ensures in
    let commits = clear_commits (g.N.Nor.device c.args.nor.now).image c.args.self.now s c.with_start-next.result mounted.stands mounted.tells
    (record {
      program = says.program ∙ ap (λ p. p.program) now;
      gesture = says.gesture;
      waived = says.waived ∙ ap (λ p. p.waived) now;
      slots = says.slots ∙ ap (λ p. p.slots) now;
      order = says.order ∙ ap (λ p. p.order) now;
    }) in
    commit_stops c.args.self.now.control c.with_start-next.result s (gesture_cleared s) _ _ commits c.keep.ensures.touches c.in_err-keep.ensures.stopped)

-- the slot that a page job fills comes after the control sectors
job_kept : (c d : List ℕ) (j : PageJob) (h : Held) (ps : Packets) → Touches 0 control_sectors c d → IsJob c j h ps → IsJob d j h ps
job_kept c d j h ps touches job =
    let known = (slot_of j).known in
    job_stays c d j h ps (λ k low high. touches.behind k (omega (arith, low)) (omega (arith, high, known))) job

pub returns-in_err-keep-clause-job : goal.returns-in_err-keep-clause-job
returns-in_err-keep-clause-job g c j h ps job = job_kept _ _ j h ps c.keep.ensures.touches job

pub returns-clause-job : goal.returns-clause-job
returns-clause-job g c j h ps job = job_kept _ _ j h ps c.keep.ensures.touches job
