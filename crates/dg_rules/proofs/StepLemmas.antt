-- What holds of each site after a step: of the mote of its event, and of those that stay.
use Rattle.std.proofs.Common.{◌≡◌, ℕ, ◌+◌, ◌<◌, Bool, true, false, List, length, Option, Some, None, refl, sym, ap, subst, ◌∙◌}
use Rattle.dg_nor.specs.Trail.{last}
use Rattle.dg_nor.specs.Through.{Through}
use Rattle.dg_volume.specs.Store.{Store}
use Rattle.dg_frame.specs.declared.Message.{Message}
use Rattle.dg_rules.specs.World.{World, Site, Running, site, counted, off_site}
use Rattle.dg_rules.specs.Events.{EventEffect, Does, Refuses, Goes, does, mote_of, dt_of}
use Rattle.dg_rules.specs.Steps.{blows, and_sent, Ended, StepDoes, WorldStep}
use Rattle.dg_script.specs.Ranges.{StepInRange}
use Rattle.dg_base.specs.declared.events.Step.{Step}
use Rattle.dg_script.specs.declared.report.Report.{Report}
use Rattle.dg_rules.proofs.SiteLemmas.{each_site, site_count}
use Rattle.dg_rules.proofs.EventLemmas.{EndsAs, ended_world, sent_unless, ends_as}
use Rattle.dg_rules.proofs.AgreementSteps.{step_within}

-- what holds of the mote of an event, by whether its power was cut
pub record Lands (P : Bool → Site → Type 0) (d : EventEffect) : Type 0 where
  pub whole : (runs : Option Running) → d.runs ≡ Some runs → P false (record { store = last d.trail; runs = runs })
  pub cut : Through (λ s. P true (off_site s)) d.trail

abbrev pub LandsDoes : (Bool → Site → Type 0) → Does → Type 0
LandsDoes P (Refuses why) = Unit {0}
LandsDoes P (Goes d) = Lands P d

-- ---- one more frame changes no site

pub sent_sites : (T : ℕ → Site → Type 0) (u : World) (m : ℕ) (o : Option Message) → ((j : ℕ) → j < length u.sites → T j (site u j)) → (j : ℕ) → j < length (and_sent u m o).sites → T j (site (and_sent u m o) j)
sent_sites T u m None all = all
sent_sites T u m (Some message) all = all

sent_moment : (u : World) (m : ℕ) (o : Option Message) → (and_sent u m o).moment ≡ u.moment
sent_moment u m None = refl
sent_moment u m (Some message) = refl

sent_declared : (u : World) (m : ℕ) (o : Option Message) → (and_sent u m o).declared ≡ u.declared
sent_declared u m None = refl
sent_declared u m (Some message) = refl

sent_same : (u : World) (m : ℕ) (o : Option Message) → (and_sent u m o).sites ≡ u.sites
sent_same u m None = refl
sent_same u m (Some message) = refl

sent_narrow : (u : World) (m : ℕ) (o : Option Message) → (and_sent u m o).narrow ≡ u.narrow
sent_narrow u m None = refl
sent_narrow u m (Some message) = refl

-- ---- a step

-- which motes are narrow stays unchanged
module _ (w : World) (x : Step) (v : World) (reports : List Report) where
  narrow_by : (D : Does) → StepDoes D w x v reports → v.narrow ≡ w.narrow
  narrow_by (Refuses why) did = ap (λ (u : World). u.narrow) did.0
  narrow_by (Goes d) did = ended (blows x.cut d.trail) did
    where
      ended : (b : Bool) → Ended b w x d v reports → v.narrow ≡ w.narrow
      ended true e = ap (λ (u : World). u.narrow) e.world
      ended false e = ap (λ (u : World). u.narrow) e.2 ∙ sent_narrow (ended_world w x d (record { store = last d.trail; runs = e.0 })) (mote_of x.event) d.sent

  pub step_narrow : WorldStep w x v reports → v.narrow ≡ w.narrow
  unfolding WorldStep
  step_narrow did = narrow_by (does w x.event) did

module _ (w : World) (x : Step) (v : World) (reports : List Report) (fits : StepInRange (length w.sites) x) where
  -- P holds of the site of the event, and T of each site after it
  module _ (P : Bool → Site → Type 0) (T : ℕ → Site → Type 0)
      (closed : (s : Store) (room : ℕ) → P true (off_site s) → P true (off_site (record s { room = room })))
      (there : (b : Bool) (y : Site) → P b y → T (mote_of x.event) y)
      (stays : (j : ℕ) → j < length w.sites → T j (site w j)) where
    sites_by : (D : Does) → LandsDoes P D → StepDoes D w x v reports → (j : ℕ) → j < length v.sites → T j (site v j)
    sites_by (Refuses why) lands did = subst (λ (u : World). (j : ℕ) → j < length u.sites → T j (site u j)) (sym did.0) stays
    sites_by (Goes d) lands did =
        let b = blows x.cut d.trail in
        let mid : World = record (counted w (dt_of x.event)) { table = d.table } in
        let end : EndsAs P b w x d v = ends_as P closed w x d v reports lands.whole lands.cut b did in
        subst (λ (u : World). (j : ℕ) → j < length u.sites → T j (site u j)) (sym end.1)
        (sent_sites T (ended_world w x d end.0) (mote_of x.event) (sent_unless b d)
        (each_site T mid (mote_of x.event) end.0 (step_within w x fits) (there b end.0 end.2) (λ j low _. stays j low)))

    pub step_sites : LandsDoes P (does w x.event) → WorldStep w x v reports → (j : ℕ) → j < length v.sites → T j (site v j)
    unfolding WorldStep
    step_sites lands did = sites_by (does w x.event) lands did

  moment_by : (D : Does) → StepDoes D w x v reports → v.moment ≡ w.moment + dt_of x.event
  moment_by (Refuses why) did = ap (λ (u : World). u.moment) did.0
  moment_by (Goes d) did = ended (blows x.cut d.trail) did
    where
      ended : (b : Bool) → Ended b w x d v reports → v.moment ≡ w.moment + dt_of x.event
      ended true e = ap (λ (u : World). u.moment) e.world
      ended false e = ap (λ (u : World). u.moment) e.2 ∙ sent_moment (ended_world w x d (record { store = last d.trail; runs = e.0 })) (mote_of x.event) d.sent

  -- the moment is later
  pub step_moment : WorldStep w x v reports → v.moment ≡ w.moment + dt_of x.event
  unfolding WorldStep
  step_moment did = moment_by (does w x.event) did

  declared_by : (D : Does) → StepDoes D w x v reports → v.declared ≡ w.declared
  declared_by (Refuses why) did = ap (λ (u : World). u.declared) did.0
  declared_by (Goes d) did = ended (blows x.cut d.trail) did
    where
      ended : (b : Bool) → Ended b w x d v reports → v.declared ≡ w.declared
      ended true e = ap (λ (u : World). u.declared) e.world
      ended false e = ap (λ (u : World). u.declared) e.2 ∙ sent_declared (ended_world w x d (record { store = last d.trail; runs = e.0 })) (mote_of x.event) d.sent

  -- what is declared stays
  pub step_declared : WorldStep w x v reports → v.declared ≡ w.declared
  unfolding WorldStep
  step_declared did = declared_by (does w x.event) did

  count_by : (D : Does) → StepDoes D w x v reports → length v.sites ≡ length w.sites
  count_by (Refuses why) did = ap (λ (u : World). length u.sites) did.0
  count_by (Goes d) did = ended (blows x.cut d.trail) did
    where
      mid : World
      mid = record (counted w (dt_of x.event)) { table = d.table }

      ended : (b : Bool) → Ended b w x d v reports → length v.sites ≡ length w.sites
      ended true e = ap (λ (u : World). length u.sites) e.world ∙ site_count mid (mote_of x.event) (off_site e.store)
      ended false e =
          let y : Site = record { store = last d.trail; runs = e.0 } in
          ap (λ (u : World). length u.sites) e.2 ∙ ap length (sent_same (ended_world w x d y) (mote_of x.event) d.sent) ∙ site_count mid (mote_of x.event) y

  -- the number of motes stays
  pub step_count : WorldStep w x v reports → length v.sites ≡ length w.sites
  unfolding WorldStep
  step_count did = count_by (does w x.event) did
