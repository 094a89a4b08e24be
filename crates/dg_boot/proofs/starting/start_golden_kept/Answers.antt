use Rattle.std.proofs.Common.{ℕ, List, refl, ap, subst, ◌∙◌}
use Rattle.dg_volume.specs.Sizes.{golden_version}
use Rattle.dg_volume.specs.Store.{App}
use Rattle.dg_volume.specs.Stands.{HoldsApp}
use Rattle.dg_volume.specs.Start.{Runs, finish_trail, golden_stays}
use Rattle.dg_boot.proofs.BeginLemmas.{finish_begins}
use Rattle.dg_boot.proofs.BootLemmas.{stopped_boots, read_stops, stops_looked, went_looked, mounted_looked, started_is, app_most}
use Rattle.dg_boot.proofs.CaseLemmas.{stays_app, held_app, same_app}
use Rattle.dg_boot.proofs.starting.start_golden_kept.Goals as goal

pub returns-in_err-loaded-clause-boots : goal.returns-in_err-loaded-clause-boots
returns-in_err-loaded-clause-boots g c s app m is =
    let r : Runs = record { image = 0; version = golden_version; pages = app.pages } in
    stopped_boots c.from_residual.result (golden_stays s app c.args.three) _ _ c.from_residual.ensures.1
    (read_stops s (finish_trail s r c.args.three) _ _ (finish_begins s r c.args.three) m.stands c.in_err-loaded.ensures.ends)

pub returns-in_err-finish-clause-boots : goal.returns-in_err-finish-clause-boots
returns-in_err-finish-clause-boots g c s app m is =
    let r : Runs = record { image = 0; version = golden_version; pages = app.pages } in
    let looked = c.in_ok-loaded.ensures.ends in
    let there = mounted_looked s _ _ c.args.volume looked m in
    let same = same_app s.app 0 golden_version app (c.requires.golden s m) is in
    let holds = subst (λ (x : App). HoldsApp (g.N.Nor.device c.measure.new.nor).image x) (stays_app app 0 golden_version same) (held_app _ s app there.stands is) in
    stopped_boots c.from_residual-in_err-finish.result (golden_stays s app c.args.three) _ _ c.from_residual-in_err-finish.ensures.1
    (stops_looked (finish_trail s r c.args.three) _ _ _ looked (c.in_err-finish.ensures.goes s r there (record { image = refl; version = refl }) holds))

pub returns-clause-boots : goal.returns-clause-boots
returns-clause-boots g c s app m is =
    let a = g.N.Nor.device c.args.nor.now in
    let b = g.N.Nor.device c.measure.new.nor in
    let d = g.N.Nor.device c.finish.new.nor in
    let r : Runs = record { image = 0; version = golden_version; pages = app.pages } in
    let looked = c.in_ok-loaded.ensures.ends in
    let there = mounted_looked s a b c.args.volume looked m in
    let same = same_app s.app 0 golden_version app (c.requires.golden s m) is in
    let here = held_app a.image s app m.stands is in
    let holds = subst (λ (x : App). HoldsApp b.image x) (stays_app app 0 golden_version same) (held_app b.image s app there.stands is) in
    let stood = c.in_ok-loaded.ensures.measured app here in
    let told = c.started.ensures in
    let went = went_looked (finish_trail s r c.args.three) a b d c.finish.new.volume looked (c.in_ok-finish.ensures.goes s r there (record { image = refl; version = refl }) holds) in
    started_is (golden_stays s app c.args.three) r a b d c.finish.new.volume c.in_ok-loaded.loaded c.started.result refl went c.in_ok-finish.ensures.free
    (record { volume = told.volume; image_is = told.image; version_is = told.version; pages = told.pages; bytes = told.length; crc = told.crc })
    stood.0 (ap (λ (x : List ℕ). Rattle.dg_slot.specs.Pages.program x c.in_ok-loaded.loaded.pages) looked.same_image ∙ stood.1) (app_most a.image app here) c.in_ok-finish.ensures.touches
