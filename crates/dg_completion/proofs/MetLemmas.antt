-- Free events can be applied, and take few commits. A rest can be applied too.
use Rattle.std.proofs.Common.{◌≡◌, ℕ, ◌+◌, ◌<◌, Bool, cond, List, [], ◌∷◌, length, get_or, Option, Some, None, refl, sym, ap, subst, ◌∙◌, inl, inr, arith}
use Rattle.std.specs.List.{AllByRecursion, sum_by}
use Rattle.std.proofs.lemmas.Bool.{cases_eq, eq-eqb}
use Rattle.std.proofs.lemmas.List.{get_or-set_same, get_or-set_other}
use Rattle.std.proofs.lemmas.List.Sums.{sum_by-cons}
use Rattle.dg_nor.specs.Trail.{last}
use Rattle.dg_nor.proofs.ThroughLemmas.{Through-last}
use Rattle.dg_volume.specs.Start.{Runs, boot}
use Rattle.dg_volume.specs.declared.volume.StartCause.TheVariants as cause
use Rattle.dg_mote.specs.Changes.{MayClear}
use Rattle.dg_mote.specs.Ticks.{tick_of}
use Rattle.dg_rules.specs.World.{World, Running, Site, site, store_at, with_site, counted, no_site}
use Rattle.dg_rules.specs.Events.{EventEffect, Does, Refuses, Goes, does, mote_of, dt_of}
use Rattle.dg_rules.specs.Steps.{WorldStep, StepDoes, done_world, done_reports}
use Rattle.dg_rules.specs.Premises.{WorldAgrees, SentIsWell}
use Rattle.dg_script.specs.Ranges.{EventInRange}
use Rattle.dg_rules.proofs.BootLemmas.{boot_start}
use Rattle.dg_rules.proofs.EventLemmas.{does_cases, running_by}
use Rattle.dg_rules.proofs.AgreementSteps.{step_within}
use Rattle.dg_rounds.specs.Rounds.{times, rounds_of}
use Rattle.dg_base.specs.declared.events.Event.{Event}
use Rattle.dg_base.specs.declared.events.Step.{Step}
use Rattle.dg_script.specs.declared.report.Report.{Report}
use Rattle.dg_completion.specs.Rests.{IsFree}
use Rattle.dg_completion.specs.Completion.{Follows, FreeLaw}
use Rattle.dg_completion.specs.Met.{AppliesLaw, most_commits, commits_at, SpendLaw, MetLaw}
use Rattle.dg_completion.proofs.GrowLemmas.{rounds_free}
use Rattle.dg_completion.proofs.FreeLemmas.{Laws, ranged, on_there, sent_same}
use Rattle.dg_completion.proofs.SpendLemmas.{Spends, TakeLaws, golden_sound, start_spends, clear_spends, heard_spends}

-- ---- what a free event does

-- a mote continues, and few commits were made
pub record FewEffect (w : World) (m : ℕ) (d : EventEffect) : Type 0 where
  pub goes_on : (runs : Option Running) × (d.runs ≡ Some runs)
  pub spends : Spends most_commits (store_at w m) (last d.trail)

abbrev pub FewDoes : World → ℕ → Does → Type 0
FewDoes w m (Refuses why) = Unit {0}
FewDoes w m (Goes d) = FewEffect w m d

found_runs : (o : Option Runs) (id : ℕ) (wide : Bool) (now word : ℕ) → (o ≡ None → ⊥) → (runs : Option Running) × (running_by o id wide now word ≡ Some runs)
found_runs None id wide now word found = absurd (found refl)
found_runs (Some r) id wide now word found = (_, refl)

module _ (laws : Laws) (takes : TakeLaws) (w : World) (good : WorldAgrees w) where
  few_does : (e : Event) → IsFree e → FewDoes w (mote_of e) (does w e)
  few_does =
      does_cases laws.restarts w (SentIsWell w.table) good.sent (λ e D. IsFree e → FewDoes w (mote_of e) D)
      (λ e why free. tt)
      (λ m dt word r is free.
      let s = store_at w m in
      let step = tick_of r.mote s (w.moment + dt) word in
      record {
        goes_on = (Some (record { image_version = r.image_version; mote = step.mote }), refl);
        spends = omega (arith, clear_spends s (last step.trail) (Through-last (MayClear s) step.trail (laws.changes.ticked r.mote s (w.moment + dt) word)));
      })
      (λ m dt word r is waits free.
      let s = store_at w m in
      let agrees = (good.sites m (on_there w m r is)).store.agrees in
      let rows = laws.sound w.table good.table in
      record {
        goes_on = found_runs (boot cause.Order s).runs r.mote.id r.mote.wide (w.moment + dt) word ((boot_start cause.Order s).found (golden_sound laws.starts w.table s rows agrees));
        spends = omega (arith, start_spends laws.starts w.table s rows agrees waits);
      })
      (λ m dt word free. absurd cc)
      (λ m dt word number f r is at q free. record {
        goes_on = (_, refl);
        spends = heard_spends takes laws.changes r.mote (store_at w m) (w.moment + dt) word f.bytes;
      })
      (λ from m dt word f r is at q free. record {
        goes_on = (_, refl);
        spends = heard_spends takes laws.changes r.mote (store_at w m) (w.moment + dt) word f.bytes;
      })
      (λ m dt word bytes r is free. absurd cc)
      (λ m image version dt word row known none free. absurd cc)
      (λ m number image version dt word none free. absurd cc)

  abbrev step : Event → Step
  step e = record { event = e; cut = None }

  -- ---- it can be applied

  applies_by : (e : Event) (D : Does) → FewDoes w (mote_of e) D → (v : World) × (reports : List Report) × StepDoes D w (step e) v reports
  applies_by e (Refuses why) few = (_, _, (refl, refl))
  applies_by e (Goes d) few =
      let runs = few.goes_on.0 in
      (done_world w (mote_of e) (dt_of e) d runs, done_reports w (mote_of e) d, (runs, few.goes_on.1, refl, refl))

  applies : (e : Event) → IsFree e → (v : World) × (reports : List Report) × WorldStep w (step e) v reports
  unfolding WorldStep
  applies e free = applies_by e (does w e) (few_does e free)

  -- ---- few commits are made at its mote

  module _ (v : World) (e : Event) (reports : List Report) where
    spends_at : (x : Site) → mote_of e < length w.sites → v.sites ≡ (with_site w (mote_of e) x).sites → Spends most_commits (store_at w (mote_of e)) x.store → (m : ℕ) → Spends (commits_at m e) (store_at w m) (store_at v m)
    spends_at x there sites few m = elim (cases_eq (mote_of e) m) [
      | inl is ↦
          let here : site v m ≡ x = ap (λ (s : List Site). get_or s m no_site) sites ∙ ap (λ k. get_or (with_site w k x).sites m no_site) is ∙ get_or-set_same w.sites m x no_site (subst (λ k. k < length w.sites) is there) in
          omega (arith, few, ap (λ k. (store_at w k).room) is, ap (λ (s : Site). s.store.room) here, ap (λ b. cond b most_commits 0) (eq-eqb (mote_of e) m is))
      | inr other ↦
          let same : site v m ≡ site w m = ap (λ (s : List Site). get_or s m no_site) sites ∙ get_or-set_other w.sites (mote_of e) m x no_site (λ is. other (sym is)) in
          omega (arith, ap (λ (s : Site). s.store.room) same)
    ]

    refused_spends : v ≡ counted w (dt_of e) → (m : ℕ) → Spends (commits_at m e) (store_at w m) (store_at v m)
    refused_spends is m = omega (arith, ap (λ (u : World). (store_at u m).room) is)

    spends_by : (D : Does) → EventInRange (length w.sites) e → FewDoes w (mote_of e) D → StepDoes D w (step e) v reports → (m : ℕ) → Spends (commits_at m e) (store_at w m) (store_at v m)
    spends_by (Refuses why) fits few did = refused_spends did.0
    spends_by (Goes d) fits few did =
        let x : Site = record { store = last d.trail; runs = did.0 } in
        let same = sent_same laws w good (with_site (record (counted w (dt_of e)) { table = d.table }) (mote_of e) x) (mote_of e) d.sent in
        spends_at x (step_within w (step e) (record { event = fits; cut = tt })) (ap (λ (u : World). u.sites) did.2 ∙ same.sites) few.spends

    spends : IsFree e → WorldStep w (step e) v reports → (m : ℕ) → Spends (commits_at m e) (store_at w m) (store_at v m)
    unfolding WorldStep
    spends free did = elim (ranged w e good free) [
      | inl fits ↦ spends_by (does w e) fits (few_does e free) did
      | inr refused ↦ refused_spends (subst (λ D. StepDoes D w (step e) v reports) refused.1 did).0
    ]

pub applies_law : Laws → TakeLaws → AppliesLaw
applies_law laws takes w e good free = applies laws takes w good e free

pub spend_law : Laws → TakeLaws → SpendLaw
spend_law laws takes w v e reports good free did = spends laws takes w good v e reports free did

-- ---- a rest

module _ (free : FreeLaw) (apply : AppliesLaw) (spend : SpendLaw) where
  -- the outcome of these events
  pub record Came (w : World) (es : List Event) : Type 0 where
    pub v : World
    pub run : Follows w es v
    pub room : (m : ℕ) → Spends (sum_by (commits_at m) es) (store_at w m) (store_at v m)

  pub comes : (es : List Event) (w : World) → WorldAgrees w → AllByRecursion IsFree es → Came w es
  unfolding Follows
  comes [] w good all = record { v = w; run = refl; room = λ m. omega arith }
  comes (e ∷ es) w good all =
      let one = apply w e good all.0 in
      let rest = comes es one.0 (free w one.0 e one.1 good all.0 one.2).good all.1 in
      record {
        v = rest.v;
        run = (one.0, one.1, one.2, rest.run);
        room = λ m. omega (arith, spend w one.0 e one.1 good all.0 one.2 m, rest.room m, sum_by-cons (commits_at m) e es);
      }

  pub met_law : MetLaw
  met_law w n es may =
      let came = comes es w may.good (rounds_free (times n (rounds_of w.links)) es may.rest) in
      (came.v, record { good = may.good; rest = may.rest; run = came.run; on = may.on; widths = may.widths; room = λ m there. omega (arith, came.room m, may.room m there) })
