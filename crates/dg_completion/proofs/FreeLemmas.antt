-- What a tick or a heard frame keeps of a world that agrees with its table.
use Rattle.std.proofs.Common.{◌≡◌, ◌≢◌, ◌⊎◌, ℕ, ◌+◌, ◌<◌, ◌≤◌, Bool, cond, List, length, get_or, Option, Some, None, refl, sym, ap, subst, ◌∙◌, inl, inr, arith}
use Rattle.std.specs.Prelude.{◌-◌, nat_le, slice_get}
use Rattle.std.proofs.lemmas.Bool.{cases_Bool, cases_eq, cases_lt}
use Rattle.std.proofs.lemmas.List.{get_or-set_same, get_or-set_other, get_or_past, length-set}
use Rattle.dg_nor.specs.Trail.{last}
use Rattle.dg_nor.proofs.ThroughLemmas.{Through-last}
use Rattle.dg_object.specs.Object.{Row}
use Rattle.dg_volume.specs.Store.{Store}
use Rattle.dg_volume.specs.RowLaws.{SoundRows}
use Rattle.dg_volume.specs.Table.{IsTable}
use Rattle.dg_volume.specs.Start.{Runs, boot}
use Rattle.dg_volume.specs.declared.volume.StartCause.TheVariants as start_cause
use Rattle.dg_frame.specs.declared.Message.{Message}
use Rattle.dg_mote.specs.Model.{MoteState, begun_mote}
use Rattle.dg_mote.specs.Ticks.{tick_of}
use Rattle.dg_mote.specs.Hears.{heard_of}
use Rattle.dg_mote.specs.Changes.{MayClear}
use Rattle.dg_mote.specs.Agreement.{HonestMessage}
use Rattle.dg_mote.specs.Well.{IsWell}
use Rattle.dg_rules.specs.World.{World, Running, Site, Sent, site, wide_at, store_at, with_site, counted, no_site, linked, frame_at, last_frame}
use Rattle.dg_rules.specs.Events.{EventEffect, Does, Refuses, Goes, does, mote_of, dt_of, image_version_of, tick_does, heard_sent, heard_last, unless_off}
use Rattle.dg_rules.specs.Steps.{WorldStep, StepDoes, and_sent}
use Rattle.dg_rules.specs.Premises.{WorldAgrees, SentIsWell, TrueEvent}
use Rattle.dg_script.specs.Ranges.{EventInRange, StepInRange}
use Rattle.dg_rules.proofs.EventLemmas.{RestartLaws, does_cases, running_by}
use Rattle.dg_rules.proofs.AgreementLemmas.{same_running}
use Rattle.dg_rules.proofs.AgreementSteps.{step_within}
use Rattle.dg_rules.proofs.WiderLemmas.{site_wider, wider_same}
use Rattle.dg_base.specs.declared.events.Event.{Event}
use Rattle.dg_base.specs.declared.events.Event.TheVariants.{Tick, Hear, Last, Reset, Inject, Order as OrderEvent, Frame}
use Rattle.dg_base.specs.declared.events.Step.{Step}
use Rattle.dg_script.specs.declared.report.Cause.{Cause}
use Rattle.dg_script.specs.declared.report.Cause.TheVariants as cause
use Rattle.dg_script.specs.declared.report.Report.{Report}
use Rattle.dg_completion.specs.Rests.{IsFree}
use Rattle.dg_completion.specs.Completion.{Grows, FreeLaw, IsOn, newest, pages_kept}
use Rattle.dg_completion.proofs.StoreLemmas.{Stays, stays_clear, stays_start, stays_heard, StartLaws, ChangeLaws}
use Rattle.dg_completion.proofs.GrowLemmas.{link_ends}

-- what is known of lower crates
pub record Laws : Type 0 where
  pub agrees : (w v : World) (x : Step) (reports : List Report) → WorldAgrees w → StepInRange (length w.sites) x → TrueEvent w x.event → WorldStep w x v reports → WorldAgrees v
  pub later : (table : List Row) (m : MoteState) (s : Store) (now then : ℕ) → now ≤ then → IsWell table m s now → IsWell table m s then
  pub restarts : RestartLaws
  pub starts : StartLaws
  pub changes : ChangeLaws
  pub sound : (table : List Row) → IsTable table → SoundRows table

-- a mote that is on is one of the world
pub on_there : (w : World) (m : ℕ) (r : Running) → (site w m).runs ≡ Some r → m < length w.sites
on_there w m r e = elim (cases_lt m (length w.sites)) [
  | inl less ↦ less
  | inr past ↦ absurd (none_some r (sym (ap (λ (s : Site). s.runs) (get_or_past w.sites m no_site (omega (arith, past)))) ∙ e))
]
  where
    none_some : (r : Running) → no_site.runs ≡ Some r → ⊥
    none_some r e = cc

-- ---- free events out of their ranges are refused

abbrev pub Ranged : World → Event → Type 0
Ranged w e = EventInRange (length w.sites) e ⊎ ((why : Cause) × (does w e ≡ Refuses why))

off_by : (w : World) (m : ℕ) → length w.sites ≤ m → (site w m).runs ≡ None
off_by w m h = ap (λ (s : Site). s.runs) (get_or_past w.sites m no_site h)

unless_refused : (o : Option Running) (why : Cause) → (c : Cause) × (unless_off o (Refuses why) ≡ Refuses c)
unless_refused None why = (cause.Off, refl)
unless_refused (Some r) why = (why, refl)

pub ranged : (w : World) (e : Event) → WorldAgrees w → IsFree e → Ranged w e
unfolding does
ranged w (Tick m dt word) good free = elim (cases_lt m (length w.sites)) [
  | inl less ↦ inl less
  | inr past ↦ inr (cause.Off, ap (λ o. tick_does w (store_at w m) o (w.moment + dt) word) (off_by w m past))
]
ranged w (Hear m dt word number) good free = elim (cases_lt m (length w.sites)) [
  | inr past ↦ inr (cause.Off, ap (λ o. unless_off o (heard_sent w m (w.moment + dt) word (frame_at w number))) (off_by w m past))
  | inl less ↦ elim (cases_Bool (nat_le 1 number)) [
    | inl some ↦ inl (less, omega (arith, Rattle.std.proofs.lemmas.Bool.leb-true 1 number some))
    | inr none ↦
        let known = unless_refused (site w m).runs cause.Frame in
        inr (known.0, ap (λ b. unless_off (site w m).runs (heard_sent w m (w.moment + dt) word (cond b (slice_get w.sent (number - 1)) None))) none ∙ known.1)
  ]
]
ranged w (Last from m dt word) good free = elim (cases_Bool (linked w from m)) [
  | inl link ↦ let ends = link_ends w from m good link in inl (record { first = ends.0; second = ends.1; two = ends.2 })
  | inr none ↦
      let known = unless_refused (site w m).runs cause.Link in
      inr (known.0, ap (λ b. unless_off (site w m).runs (cond b (heard_last w from m (w.moment + dt) word (last_frame w from)) (Refuses cause.Link))) none ∙ known.1)
]
ranged w (Reset m dt word) good free = absurd cc
ranged w (Inject m image version dt word) good free = absurd cc
ranged w (OrderEvent m number image version dt word) good free = absurd cc
ranged w (Frame m dt word bytes) good free = absurd cc

-- a free event brings no frame from outside, and injects nothing
pub true_free : (w : World) (e : Event) → IsFree e → TrueEvent w e
true_free w (Tick m dt word) free = tt
true_free w (Hear m dt word number) free = tt
true_free w (Last from m dt word) free = tt
true_free w (Reset m dt word) free = tt
true_free w (Inject m image version dt word) free = absurd cc
true_free w (OrderEvent m number image version dt word) free = tt
true_free w (Frame m dt word bytes) free = absurd cc

-- ---- what a free event does

pub record FreeEffect (w : World) (m : ℕ) (d : EventEffect) : Type 0 where
  pub table : d.table ≡ w.table
  pub on : (runs : Option Running) → d.runs ≡ Some runs → (r : Running) × (runs ≡ Some r)
  pub stays : Stays w.table (store_at w m) (last d.trail)

abbrev pub FreeDoes : World → ℕ → Does → Type 0
FreeDoes w m (Refuses why) = Unit {0}
FreeDoes w m (Goes d) = FreeEffect w m d

going_on : (r : Running) (runs : Option Running) → ◌≡◌ {A = Option (Option Running)} (Some (Some r)) (Some runs) → (q : Running) × (runs ≡ Some q)
going_on r runs e = (r, sym (same_running (Some r) runs e))

starting_on : (o : Option Runs) (id : ℕ) (wide : Bool) (now word : ℕ) (runs : Option Running) → running_by o id wide now word ≡ Some runs → (q : Running) × (runs ≡ Some q)
starting_on None id wide now word runs e = absurd cc
starting_on (Some r) id wide now word runs e = going_on (record { image_version = image_version_of r; mote = begun_mote id wide now word }) runs e

module _ (laws : Laws) (w : World) (good : WorldAgrees w) where
  hear_free : (m dt word : ℕ) (f : Sent) (r : Running) → SentIsWell w.table f
      → FreeEffect w m (record { trail = (heard_of r.mote (store_at w m) (w.moment + dt) word f.bytes).trail; table = w.table; started = None; sent = None; runs = Some (Some (record { image_version = r.image_version; mote = (heard_of r.mote (store_at w m) (w.moment + dt) word f.bytes).mote })) })
  hear_free m dt word f r q = record {
    table = refl;
    on = λ runs e. going_on (record { image_version = r.image_version; mote = (heard_of r.mote (store_at w m) (w.moment + dt) word f.bytes).mote }) runs e;
    stays = stays_heard laws.changes w.table r.mote (store_at w m) (w.moment + dt) word f.bytes (subst (HonestMessage w.table) (sym q.spelled) q.honest);
  }

  free_does : (e : Event) → IsFree e → FreeDoes w (mote_of e) (does w e)
  free_does =
      does_cases laws.restarts w (SentIsWell w.table) good.sent (λ e D. IsFree e → FreeDoes w (mote_of e) D)
      (λ e why free. tt)
      (λ m dt word r is free. let step = tick_of r.mote (store_at w m) (w.moment + dt) word in record {
        table = refl;
        on = λ runs e. going_on (record { image_version = r.image_version; mote = step.mote }) runs e;
        stays = stays_clear w.table (store_at w m) (last step.trail) (Through-last (MayClear (store_at w m)) step.trail (laws.changes.ticked r.mote (store_at w m) (w.moment + dt) word));
      })
      (λ m dt word r is waits free. record {
        table = refl;
        on = λ runs e. starting_on (boot start_cause.Order (store_at w m)).runs r.mote.id r.mote.wide (w.moment + dt) word runs e;
        stays = stays_start laws.starts w.table (store_at w m) (laws.sound w.table good.table) (good.sites m (on_there w m r is)).store.agrees waits;
      })
      (λ m dt word free. absurd cc)
      (λ m dt word number f r is at q free. hear_free m dt word f r q)
      (λ from m dt word f r is at q free. hear_free m dt word f r q)
      (λ m dt word bytes r is free. absurd cc)
      (λ m image version dt word row known none free. absurd cc)
      (λ m number image version dt word none free. absurd cc)

  -- ---- the world then

  -- one more frame changes no site
  pub record SameBut (u v : World) : Type 0 where
    pub sites : v.sites ≡ u.sites
    pub table : v.table ≡ u.table
    pub links : v.links ≡ u.links
    pub narrow : v.narrow ≡ u.narrow

  pub sent_same : (u : World) (m : ℕ) (o : Option Message) → SameBut u (and_sent u m o)
  sent_same u m None = record { sites = refl; table = refl; links = refl; narrow = refl }
  sent_same u m (Some message) = record { sites = refl; table = refl; links = refl; narrow = refl }

  refused_agrees : (dt : ℕ) → WorldAgrees (counted w dt)
  refused_agrees dt = record {
    few = good.few;
    table = good.table;
    rows = good.rows;
    links = good.links;
    sites = λ j low. site_wider w.table w.table (wider_same w.table) (laws.later w.table) j (wide_at w j) w.moment (w.moment + dt) (site w j) (omega arith) (good.sites j low);
    sent = good.sent;
  }

  refused_grows : (v : World) (dt : ℕ) → v ≡ counted w dt → Grows w v
  refused_grows v dt e =
      subst (Grows w) (sym e)
      (record { good = refused_agrees dt; table = refl; links = refl; narrow = refl; count = refl; on = λ m o. record { running = o.running; runs = o.runs }; room = λ m. omega arith; pages = λ m row n. omega arith })

  -- site m became x
  sites_grow : (v : World) (m : ℕ) (x : Site) (r : Running) → WorldAgrees v → m < length w.sites → v.table ≡ w.table → v.links ≡ w.links → v.narrow ≡ w.narrow → v.sites ≡ (with_site w m x).sites
      → x.runs ≡ Some r → Stays w.table (store_at w m) x.store → Grows w v
  sites_grow v m x r agrees there table links narrow sites runs stays = record {
    good = agrees;
    table = table;
    links = links;
    narrow = narrow;
    count = ap length sites ∙ length-set w.sites m x;
    on = on;
    room = room;
    pages = pages;
  }
    where
      here : site v m ≡ x
      here = ap (λ (s : List Site). get_or s m no_site) sites ∙ get_or-set_same w.sites m x no_site there

      other : (j : ℕ) → j ≢ m → site v j ≡ site w j
      other j n = ap (λ (s : List Site). get_or s j no_site) sites ∙ get_or-set_other w.sites m j x no_site n

      on : (j : ℕ) → IsOn w j → IsOn v j
      on j o = elim (cases_eq j m) [
        | inl e ↦ record { running = r; runs = ap (λ k. (site v k).runs) e ∙ ap (λ (s : Site). s.runs) here ∙ runs }
        | inr n ↦ record { running = o.running; runs = ap (λ (s : Site). s.runs) (other j n) ∙ o.runs }
      ]

      room : (j : ℕ) → (store_at v j).room ≤ (store_at w j).room
      room j = elim (cases_eq j m) [
        | inl e ↦ omega (arith, stays.room, ap (λ k. (store_at v k).room) e, ap (λ (s : Site). s.store.room) here, ap (λ k. (store_at w k).room) e)
        | inr n ↦ omega (arith, ap (λ (s : Site). s.store.room) (other j n))
      ]

      pages : (j : ℕ) (row : Row) → newest w.table row.image ≡ Some row → pages_kept (store_at w j) row ≤ pages_kept (store_at v j) row
      pages j row n = elim (cases_eq j m) [
        | inl e ↦ omega (arith, stays.pages row n, ap (λ k. pages_kept (store_at v k) row) e, ap (λ (s : Site). pages_kept s.store row) here, ap (λ k. pages_kept (store_at w k) row) e)
        | inr k ↦ omega (arith, ap (λ (s : Site). pages_kept s.store row) (other j k))
      ]

  module _ (v : World) (e : Event) (reports : List Report) (free : IsFree e) where
    abbrev step : Step
    step = record { event = e; cut = None }

    does_grows : (D : Does) → EventInRange (length w.sites) e → WorldAgrees v → FreeDoes w (mote_of e) D → StepDoes D w step v reports → Grows w v
    does_grows (Refuses why) fits agrees known did = refused_grows v (dt_of e) did.0
    does_grows (Goes d) fits agrees known did =
        let runs = did.0 in
        let on = known.on runs did.1 in
        let x : Site = record { store = last d.trail; runs = runs } in
        let same = sent_same (with_site (record (counted w (dt_of e)) { table = d.table }) (mote_of e) x) (mote_of e) d.sent in
        sites_grow v (mote_of e) x on.0 agrees (step_within w step (record { event = fits; cut = tt }))
        (ap (λ (u : World). u.table) did.2 ∙ same.table ∙ known.table) (ap (λ (u : World). u.links) did.2 ∙ same.links) (ap (λ (u : World). u.narrow) did.2 ∙ same.narrow) (ap (λ (u : World). u.sites) did.2 ∙ same.sites) on.1 known.stays

    pub event_grows : WorldStep w step v reports → Grows w v
    unfolding WorldStep
    event_grows did = by_range (ranged w e good free)
      where
        by_range : Ranged w e → Grows w v
        by_range (inl fits) = does_grows (does w e) fits (laws.agrees w v step reports good (record { event = fits; cut = tt }) (true_free w e free) did) (free_does e free) did
        by_range (inr refused) = refused_grows v (dt_of e) (subst (λ D. StepDoes D w step v reports) refused.1 did).0

pub free_law : Laws → FreeLaw
free_law laws w v e reports good free did = event_grows laws w good v e reports free did
