-- Steps and declarations keep every store consistent, also where they are stopped, whatever frames come. Nothing here depends on
-- a table.
use Rattle.std.proofs.Common.{◌≡◌, ℕ, ◌+◌, ◌<◌, Bool, List, length, Option, Some, None, IfSome, sym, ap, subst, ◌∙◌, arith}
use Rattle.std.specs.List.{AllByRecursion}
use Rattle.std.proofs.lemmas.List.{length-set}
use Rattle.dg_nor.specs.Trail.{Trail, Leaves, resting}
use Rattle.dg_nor.specs.Through.{Through}
use Rattle.dg_nor.proofs.ThroughLemmas.{Through-resting, Through-stepping, Through-last}
use Rattle.dg_control.specs.Store.{commit_operations}
use Rattle.dg_control.specs.declared.snapshot.Order.{Order}
use Rattle.dg_object.specs.Object.{Row, IsRow}
use Rattle.dg_volume.specs.Sizes.{images}
use Rattle.dg_volume.specs.Store.{Store, IsNear}
use Rattle.dg_volume.specs.Changes.{inject_refusal, ordered}
use Rattle.dg_volume.specs.Trails.{order_trail, inject_trail}
use Rattle.dg_volume.specs.Start.{Runs, boot, app_of}
use Rattle.dg_volume.specs.Ends.{OnTheWay, Boots}
use Rattle.dg_volume.specs.Table.{row_at}
use Rattle.dg_volume.specs.Consistent.{IsSoundApp, Consistent}
use Rattle.dg_volume.specs.declared.volume.StartCause.{StartCause}
use Rattle.dg_volume.specs.declared.volume.StartCause.TheVariants as cause
use Rattle.dg_mote.specs.Model.{MoteState, begun_mote}
use Rattle.dg_mote.specs.Ticks.{tick_of}
use Rattle.dg_mote.specs.Hears.{heard_of}
use Rattle.dg_mote.specs.Consistency.{AsksForKnown, StoreIsConsistent, TurnIsConsistent}
use Rattle.dg_mote.proofs.ConsistentLemmas.{consistent_room}
use Rattle.dg_rules.specs.World.{World, Running, Site, site, store_at, wide_at, off_site}
use Rattle.dg_rules.specs.Events.{EventEffect, Does, Refuses, Goes, trail_of, does, mote_of, image_version_of, reloaded}
use Rattle.dg_rules.specs.Steps.{WorldStep, DeclareStep, declared_as}
use Rattle.dg_script.specs.Ranges.{IsDeclared, EventInRange, StepInRange}
use Rattle.dg_rules.specs.Consistency.{SiteConsistent, WorldConsistent, StartsSoundDoes, StopsConsistent}
use Rattle.dg_base.specs.declared.events.Event.{Event}
use Rattle.dg_base.specs.declared.events.Step.{Step}
use Rattle.dg_script.specs.declared.report.Report.{Report}
use Rattle.dg_rules.proofs.ThroughLemmas.{cut_holds, Through-map, Through-both}
use Rattle.dg_rules.proofs.TableLemmas.{row_at-each}
use Rattle.dg_rules.proofs.KeepingLemmas.{inject_keeps}
use Rattle.dg_rules.proofs.WiderLemmas.{all_pushed}
use Rattle.dg_rules.proofs.EventLemmas.{RestartLaws, order_of, running_by, starts, goes_on, hears, does_cases, all_sent}
use Rattle.dg_rules.proofs.AgreementLemmas.{is_row, same_running, running_at}
use Rattle.dg_rules.proofs.AgreementSteps.{mote_within}
use Rattle.dg_rules.proofs.StepLemmas.{Lands, LandsDoes, step_sites, step_declared}

-- what is known of volumes, of motes and of restarts
pub record ConsistentLaws (golden : Row) : Type 0 where
  pub restarts : RestartLaws
  pub orders : (s : Store) (order : Order) → Consistent golden s → Through (Consistent golden) (order_trail s order)
  pub injects : (s : Store) (row : Row) → IsRow row → row.image < length s.kept → Consistent golden s → Through (Consistent golden) (inject_trail s row)
  pub boots : (cause : StartCause) (s : Store) → Consistent golden s → Through (Consistent golden) (boot cause s).trail
  pub starts : (cause : StartCause) (s : Store) → Consistent golden s → IfSome (boot cause s).runs (λ r. IsSoundApp golden (app_of r))
  pub ends : (cause : StartCause) (s : Store) → Boots s (boot cause s)
  pub ticks : (m : MoteState) (s : Store) (now word : ℕ) → StoreIsConsistent golden s → AsksForKnown m.mode → TurnIsConsistent golden (tick_of m s now word)
  pub hears : (m : MoteState) (s : Store) (now word : ℕ) (bytes : List ℕ) → StoreIsConsistent golden s → AsksForKnown m.mode → TurnIsConsistent golden (heard_of m s now word bytes)

abbrev HasSlots : Store → Type 0
HasSlots s = length s.kept ≡ images

abbrev AsksKnown : Option Running → Type 0
AsksKnown runs = IfSome runs (λ r. AsksForKnown r.mote.mode)

module _ (golden : Row) where
  abbrev P : Store → Type 0
  P = StoreIsConsistent golden

  abbrev Fine : Bool → Site → Type 0
  Fine b y = SiteConsistent golden y

  both : (t : Trail Store) → Through (Consistent golden) t → Through HasSlots t → Through P t
  both t c p = Through-map (λ s. Consistent golden s × HasSlots s) P (λ s h. record { count = h.1; consistent = h.0 }) t (Through-both (Consistent golden) HasSlots t c p)

  site_room : (s : Store) (room : ℕ) → SiteConsistent golden (off_site s) → SiteConsistent golden (off_site (record s { room = room }))
  site_room s room y = record { store = consistent_room golden s room y.store; asks = tt }

  module _ (laws : ConsistentLaws golden) where
    boot_way : (k : StartCause) (s : Store) → P s → Through P (boot k s).trail
    boot_way k s p =
        let b = boot k s in
        both b.trail (laws.boots k s p.consistent) (Through-map (OnTheWay s b.runs) HasSlots (λ t on. ap length on.kept ∙ p.count) b.trail (laws.ends k s).way)

    order_way : (s : Store) (number image version : ℕ) → P s → Through P (order_trail s (order_of number image version))
    order_way s number image version p =
        let order = order_of number image version in
        both (order_trail s order) (laws.orders s order p.consistent) (Through-stepping HasSlots s (commit_operations s.room) (ordered s order) p.count p.count)

    inject_way : (s : Store) (row : Row) → IsDeclared row → inject_refusal s row ≡ None → P s → Through P (inject_trail s row)
    inject_way s row d fits p =
        let few = d.image in
        let count = p.count in
        both (inject_trail s row) (laws.injects s row (is_row s row d fits) (omega (arith, few, count)) p.consistent)
        (inject_keeps HasSlots row (λ x o h. length-set x.kept row.image o ∙ h) (λ x h. h) s p.count)

    -- ---- every event

    module _ (w : World) (here : WorldConsistent golden w) where
      lands : (d : EventEffect) → Through P d.trail → ((runs : Option Running) → d.runs ≡ Some runs → AsksKnown runs) → Lands Fine d
      lands d way asks = record {
        whole = λ runs e. record { store = Through-last P d.trail way; asks = asks runs e };
        cut = Through-map P (λ s. SiteConsistent golden (off_site s)) (λ s p. record { store = p; asks = tt }) d.trail way;
      }

      store_here : (m : ℕ) → m < length w.sites → P (store_at w m)
      store_here m low = (here.sites m low).store

      asks_here : (m : ℕ) (r : Running) → m < length w.sites → (site w m).runs ≡ Some r → AsksForKnown r.mote.mode
      asks_here m r low is = running_at (λ q. AsksForKnown q.mote.mode) (site w m).runs r is (here.sites m low).asks

      one_asks : (r : Running) (runs : Option Running) → AsksForKnown r.mote.mode → ◌≡◌ {A = Option (Option Running)} (Some (Some r)) (Some runs) → AsksKnown runs
      one_asks r runs asks e = subst AsksKnown (same_running (Some r) runs e) asks

      start_asks : (o : Option Runs) (id : ℕ) (wide : Bool) (now word : ℕ) (runs : Option Running) → running_by o id wide now word ≡ Some runs → AsksKnown runs
      start_asks None id wide now word runs e = absurd cc
      start_asks (Some r) id wide now word runs e = one_asks (record { image_version = image_version_of r; mote = begun_mote id wide now word }) runs tt e

      reload_asks : (o runs : Option Running) (now word : ℕ) → Some (reloaded o now word) ≡ Some runs → AsksKnown runs
      reload_asks o runs now word e = subst AsksKnown (same_running (reloaded o now word) runs e) (each o)
        where
          each : (o : Option Running) → AsksKnown (reloaded o now word)
          each None = tt
          each (Some r) = tt

      start_lands : (k : StartCause) (m id : ℕ) (wide : Bool) (now word : ℕ) → m < length w.sites → LandsDoes Fine (starts w (boot k (store_at w m)) id wide now word)
      start_lands k m id wide now word low = lands _ (boot_way k (store_at w m) (store_here m low)) (λ runs e. start_asks (boot k (store_at w m)).runs id wide now word runs e)

      hear_lands : (m now word : ℕ) (bytes : List ℕ) (r : Running) → m < length w.sites → (site w m).runs ≡ Some r → LandsDoes Fine (hears w m now word bytes r)
      hear_lands m now word bytes r low is =
          let s = store_at w m in
          let turn = laws.hears r.mote s now word bytes (store_here m low) (asks_here m r low is) in
          lands _ turn.way (λ runs e. one_asks (record { image_version = r.image_version; mote = (heard_of r.mote s now word bytes).mote }) runs turn.asks e)

      tick_lands : (m now word : ℕ) (r : Running) → m < length w.sites → (site w m).runs ≡ Some r
          → LandsDoes Fine (let step = tick_of r.mote (store_at w m) now word in goes_on w step.trail step.sent r.image_version step.mote)
      tick_lands m now word r low is =
          let s = store_at w m in
          let turn = laws.ticks r.mote s now word (store_here m low) (asks_here m r low is) in
          lands _ turn.way (λ runs e. one_asks (record { image_version = r.image_version; mote = (tick_of r.mote s now word).mote }) runs turn.asks e)

      consistent_does : (e : Event) → EventInRange (length w.sites) e → LandsDoes Fine (does w e)
      consistent_does =
          does_cases laws.restarts w (λ f. Unit {0}) (all_sent w.sent) (λ e D. EventInRange (length w.sites) e → LandsDoes Fine D)
          (λ e why fits. tt)
          (λ m dt word r is fits. tick_lands m (w.moment + dt) word r fits is)
          (λ m dt word r is waits fits. start_lands cause.Order m r.mote.id r.mote.wide (w.moment + dt) word fits)
          (λ m dt word fits. start_lands cause.Power m m (wide_at w m) (w.moment + dt) word fits)
          (λ m dt word number f r is at q fits. hear_lands m (w.moment + dt) word f.bytes r fits.0 is)
          (λ from m dt word f r is at q fits. hear_lands m (w.moment + dt) word f.bytes r fits.second is)
          (λ m dt word bytes r is fits. hear_lands m (w.moment + dt) word bytes r fits.0 is)
          (λ m image version dt word row known none fits.
          lands _ (inject_way (store_at w m) row (row_at-each IsDeclared w.declared image version row here.rows known) none (store_here m fits.0)) (λ runs e. reload_asks (site w m).runs runs (w.moment + dt) word e))
          (λ m number image version dt word none fits. lands _ (order_way (store_at w m) number image version (store_here m fits.0)) (λ runs e. reload_asks (site w m).runs runs (w.moment + dt) word e))

      pub step_consistent : (x : Step) (v : World) (reports : List Report) → StepInRange (length w.sites) x → WorldStep w x v reports → WorldConsistent golden v
      step_consistent x v reports fits did = record {
        rows = subst (λ (rows : List Row). AllByRecursion IsDeclared rows) (sym (step_declared w x v reports fits did)) here.rows;
        sites = step_sites w x v reports fits Fine (λ j y. SiteConsistent golden y) site_room (λ b y p. p) here.sites (consistent_does x.event fits.event) did;
      }

      -- ---- stops

      stops_by : (D : Does) → LandsDoes Fine D → (old : Store) → P old → (k : ℕ) (s : Store) → Leaves IsNear (trail_of D old) k s → Consistent golden s
      stops_by (Refuses why) lands old p k s left = (cut_holds P (consistent_room golden) (resting old 0) k s (Through-resting P old 0 p) left).consistent
      stops_by (Goes d) lands old p k s left = (cut_holds (λ x. SiteConsistent golden (off_site x)) site_room d.trail k s lands.cut left).store.consistent

      pub stops_consistent : (e : Event) → EventInRange (length w.sites) e → StopsConsistent golden w e
      stops_consistent e fits = stops_by (does w e) (consistent_does e fits) (store_at w (mote_of e)) (store_here (mote_of e) (mote_within (length w.sites) e fits))

      -- ---- what starts

      boot_sound : (k : StartCause) (m : ℕ) → m < length w.sites → IfSome (boot k (store_at w m)).runs (λ r. IsSoundApp golden (app_of r))
      boot_sound k m low = laws.starts k (store_at w m) (store_here m low).consistent

      pub starts_sound : (e : Event) → EventInRange (length w.sites) e → StartsSoundDoes golden (does w e)
      starts_sound =
          does_cases laws.restarts w (λ f. Unit {0}) (all_sent w.sent) (λ e D. EventInRange (length w.sites) e → StartsSoundDoes golden D)
          (λ e why fits. tt)
          (λ m dt word r is fits. tt)
          (λ m dt word r is waits fits. boot_sound cause.Order m fits)
          (λ m dt word fits. boot_sound cause.Power m fits)
          (λ m dt word number f r is at q fits. tt)
          (λ from m dt word f r is at q fits. tt)
          (λ m dt word bytes r is fits. tt)
          (λ m image version dt word row known none fits. tt)
          (λ m number image version dt word none fits. tt)

  -- ---- declarations

  declared_consistent : (o : Option Row) (w : World) (row : Row) → IsDeclared row → WorldConsistent golden w → WorldConsistent golden (declared_as o w row)
  declared_consistent None w row fits here = record { rows = all_pushed IsDeclared w.declared row here.rows fits; sites = here.sites }
  declared_consistent (Some kept) w row fits here = here

  pub declare_consistent : (w v : World) (row : Row) (reports : List Report) → WorldConsistent golden w → IsDeclared row → DeclareStep w row v reports → WorldConsistent golden v
  declare_consistent w v row reports here fits did = subst (WorldConsistent golden) (sym did.world) (declared_consistent (row_at w.declared row.image row.version) w row fits here)
