-- No moment of a mote that is on is later than the world's, whatever frames come.
use Rattle.std.proofs.Common.{◌≡◌, ℕ, ◌+◌, ◌<◌, ◌≤◌, Bool, List, length, Option, Some, None, IfSome, refl, sym, subst, arith}
use Rattle.std.proofs.lemmas.Option.{IfSome_then}
use Rattle.dg_volume.specs.Store.{Store}
use Rattle.dg_volume.specs.Start.{Runs, boot}
use Rattle.dg_mote.specs.Model.{MoteState, begun_mote, maintains}
use Rattle.dg_mote.specs.Ticks.{tick_of}
use Rattle.dg_mote.specs.Hears.{heard_of}
use Rattle.dg_mote.specs.Timely.{Timely}
use Rattle.dg_rules.specs.World.{World, Site, Running, site, store_at, wide_at}
use Rattle.dg_rules.specs.Events.{EventEffect, does, dt_of, image_version_of, reloaded}
use Rattle.dg_rules.specs.Steps.{WorldStep}
use Rattle.dg_script.specs.Ranges.{EventInRange, StepInRange}
use Rattle.dg_rules.specs.Premises.{WorldTimely}
use Rattle.dg_base.specs.declared.events.Event.{Event}
use Rattle.dg_base.specs.declared.events.Step.{Step}
use Rattle.dg_script.specs.declared.report.Report.{Report}
use Rattle.dg_rules.proofs.ThroughLemmas.{Through-each}
use Rattle.dg_rules.proofs.EventLemmas.{RestartLaws, running_by, does_cases, all_sent}
use Rattle.dg_rules.proofs.AgreementLemmas.{same_running, running_at}
use Rattle.dg_rules.proofs.StepLemmas.{Lands, LandsDoes, step_sites, step_moment}

-- what is known of the moments of a mote
pub record TimeLaws : Type 0 where
  pub begins : (id now word : ℕ) (wide : Bool) → Timely (begun_mote id wide now word) now
  pub later : (m : MoteState) (now then : ℕ) → now ≤ then → Timely m now → Timely m then
  pub reloads : (m : MoteState) (now word : ℕ) → Timely m now → Timely (maintains m now word) now
  pub ticks : (m : MoteState) (s : Store) (now word : ℕ) → Timely m now → Timely (tick_of m s now word).mote now
  pub hears : (m : MoteState) (s : Store) (now word : ℕ) (bytes : List ℕ) → Timely m now → Timely (heard_of m s now word bytes).mote now

abbrev IsTimelyAt : ℕ → Option Running → Type 0
IsTimelyAt now runs = IfSome runs (λ r. Timely r.mote now)

-- of a site that is not cut
abbrev TimelySite : ℕ → Bool → Site → Type 0
TimelySite now b y = IsTimelyAt now y.runs

module _ (restarts : RestartLaws) (laws : TimeLaws) (w : World) (timely : WorldTimely w) where
  later_timely : (dt j : ℕ) → j < length w.sites → IsTimelyAt (w.moment + dt) (site w j).runs
  later_timely dt j low = IfSome_then (site w j).runs (timely j low) (λ r t. laws.later r.mote w.moment (w.moment + dt) (omega arith) t)

  on_timely : (m dt : ℕ) (r : Running) → m < length w.sites → (site w m).runs ≡ Some r → Timely r.mote (w.moment + dt)
  on_timely m dt r low is = running_at (λ q. Timely q.mote (w.moment + dt)) (site w m).runs r is (later_timely dt m low)

  lands : (dt : ℕ) (d : EventEffect) → ((runs : Option Running) → d.runs ≡ Some runs → IsTimelyAt (w.moment + dt) runs) → Lands (TimelySite (w.moment + dt)) d
  lands dt d whole = record { whole = whole; cut = Through-each (λ s. Unit {0}) (λ s. tt) d.trail }

  one_timely : (dt : ℕ) (r : Running) (runs : Option Running) → Timely r.mote (w.moment + dt) → ◌≡◌ {A = Option (Option Running)} (Some (Some r)) (Some runs) → IsTimelyAt (w.moment + dt) runs
  one_timely dt r runs t e = subst (IsTimelyAt (w.moment + dt)) (same_running (Some r) runs e) t

  start_timely : (o : Option Runs) (id : ℕ) (wide : Bool) (dt word : ℕ) (runs : Option Running) → running_by o id wide (w.moment + dt) word ≡ Some runs → IsTimelyAt (w.moment + dt) runs
  start_timely None id wide dt word runs e = absurd cc
  start_timely (Some r) id wide dt word runs e = one_timely dt (record { image_version = image_version_of r; mote = begun_mote id wide (w.moment + dt) word }) runs (laws.begins id (w.moment + dt) word wide) e

  reload_timely : (m dt word : ℕ) (runs : Option Running) → m < length w.sites → Some (reloaded (site w m).runs (w.moment + dt) word) ≡ Some runs → IsTimelyAt (w.moment + dt) runs
  reload_timely m dt word runs low e = subst (IsTimelyAt (w.moment + dt)) (same_running (reloaded (site w m).runs (w.moment + dt) word) runs e) (each (site w m).runs refl)
    where
      each : (o : Option Running) → (site w m).runs ≡ o → IsTimelyAt (w.moment + dt) (reloaded o (w.moment + dt) word)
      each None is = tt
      each (Some r) is = laws.reloads r.mote (w.moment + dt) word (on_timely m dt r low is)

  hear_timely : (m dt word : ℕ) (bytes : List ℕ) (r : Running) (runs : Option Running) → (site w m).runs ≡ Some r → m < length w.sites
      → ◌≡◌ {A = Option (Option Running)} (Some (Some (record { image_version = r.image_version; mote = (heard_of r.mote (store_at w m) (w.moment + dt) word bytes).mote }))) (Some runs) → IsTimelyAt (w.moment + dt) runs
  hear_timely m dt word bytes r runs is low e =
      one_timely dt (record { image_version = r.image_version; mote = (heard_of r.mote (store_at w m) (w.moment + dt) word bytes).mote }) runs (laws.hears r.mote (store_at w m) (w.moment + dt) word bytes (on_timely m dt r low is)) e

  timely_does : (e : Event) → EventInRange (length w.sites) e → LandsDoes (TimelySite (w.moment + dt_of e)) (does w e)
  timely_does =
      does_cases restarts w (λ f. Unit {0}) (all_sent w.sent) (λ e D. EventInRange (length w.sites) e → LandsDoes (TimelySite (w.moment + dt_of e)) D)
      (λ e why fits. tt)
      (λ m dt word r is fits. let step = tick_of r.mote (store_at w m) (w.moment + dt) word in
      lands dt _ (λ runs e. one_timely dt (record { image_version = r.image_version; mote = step.mote }) runs (laws.ticks r.mote (store_at w m) (w.moment + dt) word (on_timely m dt r fits is)) e))
      (λ m dt word r is waits fits. lands dt _ (λ runs e. start_timely (boot _ (store_at w m)).runs r.mote.id r.mote.wide dt word runs e))
      (λ m dt word fits. lands dt _ (λ runs e. start_timely (boot _ (store_at w m)).runs m (wide_at w m) dt word runs e))
      (λ m dt word number f r is at q fits. lands dt _ (λ runs e. hear_timely m dt word f.bytes r runs is fits.0 e))
      (λ from m dt word f r is at q fits. lands dt _ (λ runs e. hear_timely m dt word f.bytes r runs is fits.second e))
      (λ m dt word bytes r is fits. lands dt _ (λ runs e. hear_timely m dt word bytes r runs is fits.0 e))
      (λ m image version dt word row known none fits. lands dt _ (λ runs e. reload_timely m dt word runs fits.0 e))
      (λ m number image version dt word none fits. lands dt _ (λ runs e. reload_timely m dt word runs fits.0 e))

  pub step_timely : (x : Step) (v : World) (reports : List Report) → StepInRange (length w.sites) x → WorldStep w x v reports → WorldTimely v
  step_timely x v reports fits did =
      let now = w.moment + dt_of x.event in
      subst (λ (n : ℕ). (j : ℕ) → j < length v.sites → IsTimelyAt n (site v j).runs) (sym (step_moment w x v reports fits did))
      (step_sites w x v reports fits (TimelySite now) (λ j y. IsTimelyAt now y.runs) (λ s room p. tt) (λ b y p. p) (later_timely (dt_of x.event)) (timely_does x.event fits.event) did)
