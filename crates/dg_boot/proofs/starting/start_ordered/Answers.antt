use Rattle.std.proofs.Common.{◌≡◌, ℕ, List, Some, refl, sym, subst, ap, ◌∙◌, arith}
use Rattle.dg_nor.specs.Trail.{Trail, last}
use Rattle.dg_slot.specs.Layout.{program_sector, program_end}
use Rattle.dg_volume.specs.Store.{App, Store}
use Rattle.dg_volume.specs.Stands.{HoldsApp}
use Rattle.dg_volume.specs.Changes.{spent}
use Rattle.dg_volume.specs.Trails.{committing}
use Rattle.dg_volume.specs.Start.{blank_trail, complete_pages, kept_runs, app_of, order_boot}
use Rattle.dg_volume.specs.Acts.{Stops}
use Rattle.dg_volume.proofs.ActLemmas.{stops_first, stops_then}
use Rattle.dg_volume.proofs.BeginLemmas.{begins_committing}
use Rattle.dg_boot.specs.Loads.{Measures, app_from}
use Rattle.dg_boot.specs.Ends.{TrailWent, copied_trail}
use Rattle.dg_boot.proofs.CommitLemmas.{went_then}
use Rattle.dg_boot.proofs.BootLemmas.{stopped_boots, started_is, app_most, TouchesBut-commit, TouchesBut_then}
use Rattle.dg_boot.proofs.CaseLemmas.{order_facts, order_whole, order_version, order_trail_is, order_runs, runs_app, last_copied, blank_room}
use Rattle.dg_boot.proofs.starting.start_ordered.Goals as goal

pub copy_in-requires-clause-whole : goal.copy_in-requires-clause-whole
copy_in-requires-clause-whole g c s m = order_whole s c.snapshot.result.order.image (c.requires.waits s m) (ap (λ p. p.order.image) c.snapshot.ensures ∙ ap (λ o. o.image) m.tells.says.order)

pub returns-in_err-loaded-clause-boots : goal.returns-in_err-loaded-clause-boots
returns-in_err-loaded-clause-boots g c s m =
    let o = c.snapshot.result.order in
    let image = ap (λ p. p.order.image) c.snapshot.ensures ∙ ap (λ o. o.image) m.tells.says.order in
    let version = ap (λ p. p.order.version) c.snapshot.ensures ∙ ap (λ o. o.version) m.tells.says.order in
    let waits = c.requires.waits s m in
    let x = order_whole s o.image waits image in
    let l = last (copied_trail s o.image) in
    let next : Store = record (spent l) { app = Some (app_from o.image x.found) } in
    let stops = stops_first (copied_trail s o.image) (committing l next) _ _ (begins_committing l next).works refl (c.in_err-loaded.ensures.stopped s m) in
    stopped_boots c.from_residual.result (order_boot s) _ _ c.from_residual.ensures.1
    (subst (λ (t : Trail Store). Stops t (g.N.Nor.device c.args.nor.now) (g.N.Nor.device c.copy_in.new.nor)) (order_trail_is s o.image o.version x.found image version x.here (order_version s o.image o.version x.found waits image version x.here)) stops)

pub set-requires-clause-mounted : goal.set-requires-clause-mounted
set-requires-clause-mounted g c =
    let m = c.requires.mounted in
    let x = c.in_ok-loaded.ensures.copied m.0 m.1 in
    (last (copied_trail m.0 c.snapshot.result.order.image), x.went.acted.mounted)

pub set-requires-clause-room : goal.set-requires-clause-room
set-requires-clause-room g c =
    let m = c.requires.mounted in
    let x = c.in_ok-loaded.ensures.copied m.0 m.1 in
    let w = order_facts m.0 (c.requires.waits m.0 m.1) in
    let room : (last (copied_trail m.0 c.snapshot.result.order.image)).room ≡ (last (blank_trail m.0)).room = ap (λ (s : Store). s.room) (last_copied m.0 c.snapshot.result.order.image) in
    let left = blank_room m.0 in
    omega (arith, w.room, left, room, x.went.acted.mounted.tells.room)

pub set-requires-clause-holds : goal.set-requires-clause-holds
set-requires-clause-holds g c =
    let s = c.requires.mounted.0 in
    let m = c.requires.mounted.1 in
    let o = c.snapshot.result.order in
    let image = ap (λ p. p.order.image) c.snapshot.ensures ∙ ap (λ o. o.image) m.tells.says.order in
    let version = ap (λ p. p.order.version) c.snapshot.ensures ∙ ap (λ o. o.version) m.tells.says.order in
    let x = c.in_ok-loaded.ensures.copied s m in
    (app_from o.image x.found, record { image = refl; version = order_version s o.image o.version x.found (c.requires.waits s m) image version x.here }, x.holds)

pub returns-in_err-set-clause-boots : goal.returns-in_err-set-clause-boots
returns-in_err-set-clause-boots g c s m =
    let o = c.snapshot.result.order in
    let image = ap (λ p. p.order.image) c.snapshot.ensures ∙ ap (λ o. o.image) m.tells.says.order in
    let version = ap (λ p. p.order.version) c.snapshot.ensures ∙ ap (λ o. o.version) m.tells.says.order in
    let x = c.in_ok-loaded.ensures.copied s m in
    let same = order_version s o.image o.version x.found (c.requires.waits s m) image version x.here in
    let l = last (copied_trail s o.image) in
    let app = app_from o.image x.found in
    let next : Store = record (spent l) { app = Some app } in
    let stops = stops_then (copied_trail s o.image) (committing l next) _ _ _ _ refl x.went.acted (c.in_err-set.ensures.goes l app x.went.acted.mounted (record { image = refl; version = same }) x.holds) in
    stopped_boots c.from_residual-in_err-set.result (order_boot s) _ _ c.from_residual-in_err-set.ensures.1
    (subst (λ (t : Trail Store). Stops t (g.N.Nor.device c.args.nor.now) (g.N.Nor.device c.set.new.nor)) (order_trail_is s o.image o.version x.found image version x.here same) stops)

pub returns-clause-boots : goal.returns-clause-boots
returns-clause-boots g c s m =
    let a = g.N.Nor.device c.args.nor.now in
    let b = g.N.Nor.device c.copy_in.new.nor in
    let d = g.N.Nor.device c.set.new.nor in
    let o = c.snapshot.result.order in
    let image = ap (λ p. p.order.image) c.snapshot.ensures ∙ ap (λ o. o.image) m.tells.says.order in
    let version = ap (λ p. p.order.version) c.snapshot.ensures ∙ ap (λ o. o.version) m.tells.says.order in
    let x = c.in_ok-loaded.ensures.copied s m in
    let same = order_version s o.image o.version x.found (c.requires.waits s m) image version x.here in
    let l = last (copied_trail s o.image) in
    let app = app_from o.image x.found in
    let next : Store = record (spent l) { app = Some app } in
    let r = kept_runs s o.image o.version in
    let pages : x.found.complete ≡ r.pages = sym (ap complete_pages x.here) in
    let holds = subst (λ (y : App). HoldsApp b.image y) (runs_app s o.image o.version x.found x.here same) x.holds in
    let went = went_then (copied_trail s o.image) (committing l next) _ _ _ _ _ refl x.went (c.in_ok-set.ensures.goes l app x.went.acted.mounted (record { image = refl; version = same }) x.holds) in
    let told = c.started.ensures in
    started_is (order_boot s) r a b d c.set.new.volume c.in_ok-loaded.loaded c.started.result (order_runs s o.image o.version image version)
    (subst (λ (t : Trail Store). TrailWent t a d c.set.new.volume) (order_trail_is s o.image o.version x.found image version x.here same) went) c.in_ok-set.ensures.free
    (record { volume = told.volume; image_is = told.image; version_is = told.version; pages = told.pages; bytes = told.length; crc = told.crc })
    (subst (λ (ps : List (List ℕ)). Measures ps c.in_ok-loaded.loaded) pages x.measures) (x.memory ∙ pages) (app_most b.image (app_of r) holds) c.in_ok-set.ensures.touches

pub returns-clause-touches : goal.returns-clause-touches
returns-clause-touches g c = TouchesBut_then c.in_ok-loaded.ensures.touches (TouchesBut-commit (program_sector 0) program_end c.in_ok-set.ensures.touches)
