use Rattle.std.proofs.Common.{Ok, refl, sym, subst, ◌∙◌}
use Rattle.dg_nor.proofs.ChipLemmas.{Touches-same}
use Rattle.dg_nor.specs.Trail.{resting}
use Rattle.dg_volume.specs.Sizes.{control_sectors}
use Rattle.dg_volume.specs.Start.{Runs, Boot, kept_boot}
use Rattle.dg_boot.specs.Ends.{BootOutcome}
use Rattle.dg_boot.proofs.BeginLemmas.{kept_begins}
use Rattle.dg_boot.proofs.CommitLemmas.{app_some}
use Rattle.dg_boot.proofs.BootLemmas.{stopped_boots, read_stops, went_read, started_is, app_most}
use Rattle.dg_boot.proofs.CaseLemmas.{kept_runs_on, held_app}
use Rattle.dg_boot.proofs.starting.run_on.Goals as goal

pub returns-in_err-loaded-clause-boots : goal.returns-in_err-loaded-clause-boots
returns-in_err-loaded-clause-boots g c s three m =
    stopped_boots c.from_residual.result (kept_boot s three) _ _ c.from_residual.ensures.1 (read_stops s (kept_boot s three).trail _ _ (kept_begins s three) m.stands c.in_err-loaded.ensures.ends)

pub returns-clause-boots : goal.returns-clause-boots
returns-clause-boots g c s three m =
    let a = g.N.Nor.device c.args.nor.now in
    let d = g.N.Nor.device c.measure.new.nor in
    let app = app_some s.app c.args.image c.args.version (sym c.requires.set ∙ m.tells.says.program) in
    let r : Runs = record { image = app.app.image; version = app.app.version; pages = app.app.pages } in
    let looked = c.in_ok-loaded.ensures.ends in
    let holds = held_app a.image s app.app m.stands app.is in
    let stood = c.in_ok-loaded.ensures.measured app.app holds in
    let told = c.started.ensures in
    let b : Boot = record { runs = Rattle.std.proofs.Common.Some r; trail = resting s 0 } in
    let done = started_is b r a a d c.args.volume c.in_ok-loaded.loaded c.started.result refl (went_read s a d c.args.volume looked m) c.requires.free
    (record { volume = told.volume; image_is = told.image ∙ sym app.image; version_is = told.version ∙ sym app.version; pages = told.pages; bytes = told.length; crc = told.crc })
    stood.0 stood.1 (app_most a.image app.app holds) (Touches-same 0 control_sectors a.image d.image looked.same_image) in
    subst (λ (x : Boot). BootOutcome (Ok c.started.result) x a d) (sym (kept_runs_on s three app.app app.is)) done
