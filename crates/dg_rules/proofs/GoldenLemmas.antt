-- Golden stays, and a start finds it. Nothing here depends on a table.
use Rattle.std.proofs.Common.{◌≡◌, ◌≢◌, ℕ, ◌+◌, ◌<◌, ◌≤◌, Bool, List, length, Option, Some, None, IfSome, refl, ap, subst, ◌∙◌}
use Rattle.std.specs.Prelude.{slice_index_or}
use Rattle.dg_nor.specs.Through.{Through}
use Rattle.dg_nor.proofs.ThroughLemmas.{Through-stepping, Through-last}
use Rattle.dg_control.specs.Store.{commit_operations}
use Rattle.dg_object.specs.Object.{Row}
use Rattle.dg_slot.specs.Kept.{Held}
use Rattle.dg_volume.specs.Store.{Store}
use Rattle.dg_volume.specs.Changes.{keeping, ordered}
use Rattle.dg_volume.specs.Trails.{inject_trail, order_trail}
use Rattle.dg_volume.specs.Start.{Runs, boot}
use Rattle.dg_volume.specs.Ends.{OnTheWay}
use Rattle.dg_volume.specs.declared.volume.StartCause.{StartCause}
use Rattle.dg_volume.specs.declared.volume.StartCause.TheVariants as cause
use Rattle.dg_mote.specs.Model.{begun_mote}
use Rattle.dg_mote.specs.Ticks.{tick_of}
use Rattle.dg_mote.specs.Hears.{heard_of}
use Rattle.dg_rules.specs.World.{World, Running, Site, site, store_at, wide_at, off_site}
use Rattle.dg_rules.specs.Events.{EventEffect, does, image_version_of, reloaded}
use Rattle.dg_rules.specs.Steps.{WorldStep, EndsRun}
use Rattle.dg_script.specs.Ranges.{EventInRange, StepInRange}
use Rattle.dg_rules.specs.Golden.{KeepsGoldenRow, AsksForOthers, SiteKeepsGolden, WorldKeepsGolden, FindsImage}
use Rattle.dg_base.specs.declared.events.Event.{Event}
use Rattle.dg_base.specs.declared.events.Step.{Step}
use Rattle.dg_script.specs.declared.report.Report.{Report}
use Rattle.dg_rules.proofs.ThroughLemmas.{Through-map}
use Rattle.dg_rules.proofs.KeepingLemmas.{inject_keeps}
use Rattle.dg_rules.proofs.BootLemmas.{boot_start}
use Rattle.dg_rules.proofs.InjectLemmas.{refused_not}
use Rattle.dg_rules.proofs.EventLemmas.{order_of, running_by, starts, goes_on, hears, does_cases, all_sent}
use Rattle.dg_rules.proofs.AgreementLemmas.{same_running, running_at}
use Rattle.dg_rules.proofs.StepLemmas.{Lands, LandsDoes, step_sites}
use Rattle.dg_rules.proofs.ChangesLemmas.{StepLaws, keeps_other, golden_ticked, golden_heard, ticked_asks, heard_asks}

-- ---- an injection of another image

golden_inject : (row : Row) → 1 ≤ row.image → (s : Store) → KeepsGoldenRow s → Through KeepsGoldenRow (inject_trail s row)
golden_inject row low s g =
    inject_keeps KeepsGoldenRow row (λ s o g. keeps_other s (keeping row.image o s) row.image o low refl g) (λ s g. record { row = g.row; is_row = g.is_row; whole = g.whole }) s g

golden_order : (s : Store) (number image version : ℕ) → KeepsGoldenRow s → Through KeepsGoldenRow (order_trail s (order_of number image version))
golden_order s number image version g =
    Through-stepping KeepsGoldenRow s (commit_operations s.room) (ordered s (order_of number image version)) g (record { row = g.row; is_row = g.is_row; whole = g.whole })

golden_room : (s : Store) (room : ℕ) → SiteKeepsGolden (off_site s) → SiteKeepsGolden (off_site (record s { room = room }))
golden_room s room g = record { kept = record { row = g.kept.row; is_row = g.kept.is_row; whole = g.kept.whole }; asks = tt }

-- ---- every event

abbrev Golden : Bool → Site → Type 0
Golden b y = SiteKeepsGolden y

abbrev AsksOthers : Option Running → Type 0
AsksOthers runs = IfSome runs (λ r. AsksForOthers r.mote.mode)

module _ (laws : StepLaws) (w : World) (golden : WorldKeepsGolden w) where
  golden_boot_way : (k : StartCause) (s : Store) → KeepsGoldenRow s → Through KeepsGoldenRow (boot k s).trail
  golden_boot_way k s g =
      Through-map (OnTheWay s (boot k s).runs) KeepsGoldenRow
      (λ t way. record { row = g.row; is_row = g.is_row; whole = ap (λ (xs : List (Option Held)). slice_index_or xs 0 None) way.kept ∙ g.whole })
      (boot k s).trail (laws.ends k s).way

  lands : (d : EventEffect) → Through KeepsGoldenRow d.trail → ((runs : Option Running) → d.runs ≡ Some runs → AsksOthers runs) → Lands Golden d
  lands d way asks = record {
    whole = λ runs e. record { kept = Through-last KeepsGoldenRow d.trail way; asks = asks runs e };
    cut = Through-map KeepsGoldenRow (λ s. SiteKeepsGolden (off_site s)) (λ s g. record { kept = g; asks = tt }) d.trail way;
  }

  asks_here : (m : ℕ) (r : Running) → m < length w.sites → (site w m).runs ≡ Some r → AsksForOthers r.mote.mode
  asks_here m r low is = running_at (λ q. AsksForOthers q.mote.mode) (site w m).runs r is (golden m low).asks

  one_asks : (r : Running) (runs : Option Running) → AsksForOthers r.mote.mode → ◌≡◌ {A = Option (Option Running)} (Some (Some r)) (Some runs) → AsksOthers runs
  one_asks r runs asks e = subst AsksOthers (same_running (Some r) runs e) asks

  start_asks : (o : Option Runs) (id : ℕ) (wide : Bool) (now word : ℕ) (runs : Option Running) → running_by o id wide now word ≡ Some runs → AsksOthers runs
  start_asks None id wide now word runs e = absurd cc
  start_asks (Some r) id wide now word runs e = one_asks (record { image_version = image_version_of r; mote = begun_mote id wide now word }) runs tt e

  reload_asks : (o runs : Option Running) (now word : ℕ) → Some (reloaded o now word) ≡ Some runs → AsksOthers runs
  reload_asks o runs now word e = subst AsksOthers (same_running (reloaded o now word) runs e) (each o)
    where
      each : (o : Option Running) → AsksOthers (reloaded o now word)
      each None = tt
      each (Some r) = tt

  start_lands : (k : StartCause) (m id : ℕ) (wide : Bool) (now word : ℕ) → m < length w.sites → LandsDoes Golden (starts w (boot k (store_at w m)) id wide now word)
  start_lands k m id wide now word low = lands _ (golden_boot_way k (store_at w m) (golden m low).kept) (λ runs e. start_asks (boot k (store_at w m)).runs id wide now word runs e)

  hear_lands : (m now word : ℕ) (bytes : List ℕ) (r : Running) → m < length w.sites → (site w m).runs ≡ Some r → LandsDoes Golden (hears w m now word bytes r)
  hear_lands m now word bytes r low is =
      let s = store_at w m in
      let asks = asks_here m r low is in
      lands _ (golden_heard laws.changes r.mote s now word (golden m low).kept bytes asks)
      (λ runs e. one_asks (record { image_version = r.image_version; mote = (heard_of r.mote s now word bytes).mote }) runs (heard_asks laws.changes r.mote s now word bytes asks) e)

  tick_lands : (m now word : ℕ) (r : Running) → m < length w.sites → (site w m).runs ≡ Some r
      → LandsDoes Golden (let step = tick_of r.mote (store_at w m) now word in goes_on w step.trail step.sent r.image_version step.mote)
  tick_lands m now word r low is =
      let s = store_at w m in
      lands _ (golden_ticked laws.changes r.mote s now word (golden m low).kept)
      (λ runs e. one_asks (record { image_version = r.image_version; mote = (tick_of r.mote s now word).mote }) runs (ticked_asks laws.changes r.mote s now word (asks_here m r low is)) e)

  golden_does : (e : Event) → EventInRange (length w.sites) e → LandsDoes Golden (does w e)
  golden_does =
      does_cases laws.restarts w (λ f. Unit {0}) (all_sent w.sent) (λ e D. EventInRange (length w.sites) e → LandsDoes Golden D)
      (λ e why fits. tt)
      (λ m dt word r is fits. tick_lands m (w.moment + dt) word r fits is)
      (λ m dt word r is waits fits. start_lands cause.Order m r.mote.id r.mote.wide (w.moment + dt) word fits)
      (λ m dt word fits. start_lands cause.Power m m (wide_at w m) (w.moment + dt) word fits)
      (λ m dt word number f r is at q fits. hear_lands m (w.moment + dt) word f.bytes r fits.0 is)
      (λ from m dt word f r is at q fits. hear_lands m (w.moment + dt) word f.bytes r fits.second is)
      (λ m dt word bytes r is fits. hear_lands m (w.moment + dt) word bytes r fits.0 is)
      (λ m image version dt word row known none fits. lands _ (golden_inject row (refused_not (store_at w m) row none).0 (store_at w m) (golden m fits.0).kept) (λ runs e. reload_asks (site w m).runs runs (w.moment + dt) word e))
      (λ m number image version dt word none fits. lands _ (golden_order (store_at w m) number image version (golden m fits.0).kept) (λ runs e. reload_asks (site w m).runs runs (w.moment + dt) word e))

  pub step_keeps_golden : (x : Step) (v : World) (reports : List Report) → StepInRange (length w.sites) x → WorldStep w x v reports → WorldKeepsGolden v
  step_keeps_golden x v reports fits did =
      step_sites w x v reports fits Golden (λ j y. SiteKeepsGolden y) golden_room (λ b y g. g) golden (golden_does x.event fits.event) did

  -- ---- a start finds an image

  some_runs : (o : Option Runs) (id : ℕ) (wide : Bool) (now word : ℕ) → o ≢ None → running_by o id wide now word ≢ None
  some_runs None id wide now word found e = found refl
  some_runs (Some r) id wide now word found e = cc

  boot_found : (m id : ℕ) (wide : Bool) (k : StartCause) (now word : ℕ) → m < length w.sites → running_by (boot k (store_at w m)).runs id wide now word ≢ None
  boot_found m id wide k now word low =
      let g = (golden m low).kept in
      some_runs (boot k (store_at w m)).runs id wide now word (λ none. (boot_start k (store_at w m)).found ((laws.rows g.row g.is_row).is_sound (store_at w m) 0 g.whole) none)

  pub finds_image : (e : Event) → EventInRange (length w.sites) e → FindsImage (does w e)
  finds_image =
      does_cases laws.restarts w (λ f. Unit {0}) (all_sent w.sent) (λ e D. EventInRange (length w.sites) e → FindsImage D)
      (λ e why fits. tt)
      (λ m dt word r is fits e. cc)
      (λ m dt word r is waits fits. boot_found m r.mote.id r.mote.wide cause.Order (w.moment + dt) word fits)
      (λ m dt word fits. boot_found m m (wide_at w m) cause.Power (w.moment + dt) word fits)
      (λ m dt word number f r is at q fits e. cc)
      (λ from m dt word f r is at q fits e. cc)
      (λ m dt word bytes r is fits e. cc)
      (λ m image version dt word row known none fits e. cc)
      (λ m number image version dt word none fits e. cc)

  pub goes_on_finding : (x : Step) (v : World) → StepInRange (length w.sites) x → EndsRun w x v → ⊥
  goes_on_finding x v fits ends = subst FindsImage ends.goes (finds_image x.event fits.event) ends.none
