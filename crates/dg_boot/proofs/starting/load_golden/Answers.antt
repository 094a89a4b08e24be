use Rattle.std.proofs.Common.{◌≡◌, ℕ, List, refl, sym, ap, subst, ◌∙◌}
use Rattle.dg_nor.specs.Trail.{Trail, last}
use Rattle.dg_slot.specs.Layout.{program_sector, program_end}
use Rattle.dg_volume.specs.Sizes.{golden_version}
use Rattle.dg_volume.specs.Store.{App, Store}
use Rattle.dg_volume.specs.Stands.{HoldsApp}
use Rattle.dg_volume.specs.Start.{complete_pages, kept_runs, app_of, finish_trail}
use Rattle.dg_volume.specs.Acts.{Stops}
use Rattle.dg_volume.proofs.ActLemmas.{stops_first, stops_then}
use Rattle.dg_boot.specs.Loads.{Measures}
use Rattle.dg_boot.specs.Ends.{TrailWent, copied_trail, golden_loaded}
use Rattle.dg_boot.proofs.BeginLemmas.{finish_begins}
use Rattle.dg_boot.proofs.CommitLemmas.{went_then}
use Rattle.dg_boot.proofs.BootLemmas.{stopped_boots, started_is, app_most, TouchesBut-commit, TouchesBut_then}
use Rattle.dg_boot.proofs.CaseLemmas.{golden_version_of, runs_app, loaded_trail_is}
use Rattle.dg_boot.proofs.starting.load_golden.Goals as goal

pub returns-in_err-loaded-clause-boots : goal.returns-in_err-loaded-clause-boots
returns-in_err-loaded-clause-boots g c s m =
    let three = c.args.three in
    let l = last (copied_trail s 0) in
    let r = kept_runs s 0 golden_version in
    let f = finish_begins l r three in
    let stops = stops_first (copied_trail s 0) (finish_trail l r three) _ _ f.works (sym f.first) (c.in_err-loaded.ensures.stopped s m) in
    stopped_boots c.from_residual.result (golden_loaded s three) _ _ c.from_residual.ensures.1
    (subst (λ (t : Trail Store). Stops t (g.N.Nor.device c.args.nor.now) (g.N.Nor.device c.copy_in.new.nor)) (loaded_trail_is s three) stops)

pub finish-requires-clause-mounted : goal.finish-requires-clause-mounted
finish-requires-clause-mounted g c =
    let m = c.requires.mounted in
    let x = c.in_ok-loaded.ensures.copied m.0 m.1 in
    (last (copied_trail m.0 0), x.went.acted.mounted)

pub returns-in_err-finish-clause-boots : goal.returns-in_err-finish-clause-boots
returns-in_err-finish-clause-boots g c s m =
    let three = c.args.three in
    let l = last (copied_trail s 0) in
    let r = kept_runs s 0 golden_version in
    let x = c.in_ok-loaded.ensures.copied s m in
    let version = golden_version_of s x.found m.stands.contains.golden x.here in
    let holds = subst (λ (app : App). HoldsApp (g.N.Nor.device c.copy_in.new.nor).image app) (runs_app s 0 golden_version x.found x.here version) x.holds in
    let stops = stops_then (copied_trail s 0) (finish_trail l r three) _ _ _ _ (sym (finish_begins l r three).first) x.went.acted
    (c.in_err-finish.ensures.goes l r x.went.acted.mounted (record { image = refl; version = refl }) holds) in
    stopped_boots c.from_residual-in_err-finish.result (golden_loaded s three) _ _ c.from_residual-in_err-finish.ensures.1
    (subst (λ (t : Trail Store). Stops t (g.N.Nor.device c.args.nor.now) (g.N.Nor.device c.finish.new.nor)) (loaded_trail_is s three) stops)

pub returns-clause-boots : goal.returns-clause-boots
returns-clause-boots g c s m =
    let three = c.args.three in
    let a = g.N.Nor.device c.args.nor.now in
    let b = g.N.Nor.device c.copy_in.new.nor in
    let l = last (copied_trail s 0) in
    let r = kept_runs s 0 golden_version in
    let x = c.in_ok-loaded.ensures.copied s m in
    let version = golden_version_of s x.found m.stands.contains.golden x.here in
    let holds = subst (λ (app : App). HoldsApp b.image app) (runs_app s 0 golden_version x.found x.here version) x.holds in
    let pages : x.found.complete ≡ r.pages = sym (ap complete_pages x.here) in
    let went = went_then (copied_trail s 0) (finish_trail l r three) _ _ _ _ _ (sym (finish_begins l r three).first) x.went
    (c.in_ok-finish.ensures.goes l r x.went.acted.mounted (record { image = refl; version = refl }) holds) in
    let told = c.started.ensures in
    started_is (golden_loaded s three) r a b (g.N.Nor.device c.finish.new.nor) c.finish.new.volume c.in_ok-loaded.loaded c.started.result refl
    (subst (λ (t : Trail Store). TrailWent t a (g.N.Nor.device c.finish.new.nor) c.finish.new.volume) (loaded_trail_is s three) went) c.in_ok-finish.ensures.free
    (record { volume = told.volume; image_is = told.image; version_is = told.version; pages = told.pages; bytes = told.length; crc = told.crc })
    (subst (λ (ps : List (List ℕ)). Measures ps c.in_ok-loaded.loaded) pages x.measures) (x.memory ∙ pages) (app_most b.image (app_of r) holds) c.in_ok-finish.ensures.touches

pub returns-clause-touches : goal.returns-clause-touches
returns-clause-touches g c = TouchesBut_then c.in_ok-loaded.ensures.touches (TouchesBut-commit (program_sector 0) program_end c.in_ok-finish.ensures.touches)
