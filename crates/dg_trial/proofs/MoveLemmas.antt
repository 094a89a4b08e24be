-- What runs without injections do to a world: it still agrees, few commits are made, and no page is lost.
use Rattle.std.proofs.Common.{◌≡◌, ◌⊎◌, inl, inr, ⊎_elim, ℕ, zero, suc, ◌+◌, ◌*◌, ◌<◌, ◌≤◌, if◌then◌else◌, List, [], ◌∷◌, ◌++◌, length, map, Option, Some, None, refl, sym, ap, subst, ◌∙◌, arith}
use Rattle.std.specs.Prelude.{slice_index_or}
use Rattle.std.specs.List.{AllByRecursion}
use Rattle.std.proofs.lemmas.Bool.{cases_eq, cases_lt}
use Rattle.std.proofs.lemmas.List.{map-append}
use Rattle.dg_object.specs.Object.{Row}
use Rattle.dg_slot.specs.Kept.{Held}
use Rattle.dg_volume.specs.Store.{Store}
use Rattle.dg_volume.specs.Changes.{is_version}
use Rattle.dg_volume.specs.Trails.{done_of}
use Rattle.dg_base.specs.declared.events.Cut.{Cut}
use Rattle.dg_base.specs.declared.events.Event.{Event}
use Rattle.dg_base.specs.declared.events.Event.TheVariants.{Reset}
use Rattle.dg_base.specs.declared.events.Step.{Step}
use Rattle.dg_script.specs.declared.report.Report.{Report}
use Rattle.dg_rules.specs.World.{World, Site, Running, site, store_at, with_site, counted}
use Rattle.dg_rules.specs.Steps.{WorldStep}
use Rattle.dg_script.specs.Ranges.{StepInRange, EventInRange}
use Rattle.dg_rules.specs.Premises.{WorldAgrees, TrueEvent}
use Rattle.dg_rules.proofs.SiteLemmas.{site_there, site_other, site_count}
use Rattle.dg_completion.specs.Rests.{IsFree}
use Rattle.dg_completion.specs.Completion.{FreeLaw, IsOn, newest, pages_kept}
use Rattle.dg_completion.specs.Met.{SpendLaw}
use Rattle.dg_trial.specs.Schedule.{SchedulePart, always, resets}
use Rattle.dg_trial.specs.Playing.{LeadsTo, PartFits}
use Rattle.dg_trial.proofs.RunLemmas.{leads_apart}
use Rattle.dg_trial.proofs.ScheduleLemmas.{resets_more}
use Rattle.dg_trial.proofs.LineLemmas.{few_at}
use Rattle.dg_trial.proofs.RestartLemmas.{BootLaw, Restarted, restarted}

pub record Laws : Type 0 where
  pub boots : BootLaw
  pub agrees : (w v : World) (x : Step) (reports : List Report) → WorldAgrees w → StepInRange (length w.sites) x → TrueEvent w x.event → WorldStep w x v reports → WorldAgrees v
  pub free : FreeLaw
  pub spend : SpendLaw

-- From w to v at most this many commits were made at each mote, and no page of a newest version was lost.
pub record Moves (spent : ℕ) (w v : World) : Type 0 where
  pub good : WorldAgrees v
  pub table : v.table ≡ w.table
  pub links : v.links ≡ w.links
  pub narrow : v.narrow ≡ w.narrow
  pub count : length v.sites ≡ length w.sites
  pub room : (j c : ℕ) → c + spent ≤ (store_at w j).room → c ≤ (store_at v j).room
  pub pages : (j : ℕ) (row : Row) → newest w.table row.image ≡ Some row → pages_kept (store_at w j) row ≤ pages_kept (store_at v j) row

pub moves_none : (n : ℕ) (w v : World) → WorldAgrees w → w ≡ v → Moves n w v
moves_none n w v good e =
    subst (Moves n w) e (record { good = good; table = refl; links = refl; narrow = refl; count = refl; room = λ j c h. omega (arith, h); pages = λ j row is. omega arith })

pub moves_then : (a b n : ℕ) (w u v : World) → n ≡ a + b → Moves a w u → Moves b u v → Moves n w v
moves_then a b n w u v sum x y = record {
  good = y.good;
  table = y.table ∙ x.table;
  links = y.links ∙ x.links;
  narrow = y.narrow ∙ x.narrow;
  count = y.count ∙ x.count;
  room = λ j c h. y.room j c (x.room j (c + b) (omega (arith, h, sum)));
  pages = λ j row is.
      let first = x.pages j row is in
      let second = y.pages j row (ap (λ (rows : List Row). newest rows row.image) x.table ∙ is) in
      omega (arith, first, second);
}

-- ---- resets

pages_unchanged : (s t : Store) (row : Row) → t.kept ≡ s.kept → pages_kept t row ≡ pages_kept s row
pages_unchanged s t row e =
    ap (λ (kept : List (Option Held)). if is_version (slice_index_or kept row.image None) row.version then done_of (slice_index_or kept row.image None) else 0) e

-- what holds of the new site at the mote, and of each other site as it was, holds of each site after the reset
module _ (w v : World) (m dt : ℕ) (cut : Option Cut) (r : Restarted w m dt cut v) (within : m < length w.sites) where
  abbrev mid : World
  mid = record (counted w dt) { table = w.table }

  pub each : (T : ℕ → Site → Type 0) → T m r.there → ((j : ℕ) → (j ≡ m → ⊥) → T j (site w j)) → (j : ℕ) → T j (site v j)
  each T here others j =
      subst (λ (u : World). T j (site u j)) (sym r.world)
      (elim (cases_eq j m) [
        | inl is ↦
            let at : site (with_site mid m r.there) j ≡ r.there = ap (λ (k : ℕ). site (with_site mid m r.there) k) is ∙ site_there mid m r.there within in
            subst (λ (y : Site). T j y) (sym at) (subst (λ (k : ℕ). T k r.there) (sym is) here)
        | inr other ↦ subst (λ (y : Site). T j y) (sym (site_other mid m j r.there other)) (others j other)
      ])

  pub restart_moves : WorldAgrees v → Moves 5 w v
  restart_moves good = record {
    good = good;
    table = ap (λ (u : World). u.table) r.world;
    links = ap (λ (u : World). u.links) r.world;
    narrow = ap (λ (u : World). u.narrow) r.world;
    count = ap (λ (u : World). length u.sites) r.world ∙ site_count mid m r.there;
    room = each (λ j y. (c : ℕ) → c + 5 ≤ (store_at w j).room → c ≤ y.store.room) (λ c h. r.room c h) (λ j other c h. omega (arith, h));
    pages = λ j row is. each (λ k y. pages_kept (store_at w k) row ≤ pages_kept y.store row)
        (let e = pages_unchanged (store_at w m) r.there.store row r.kept in omega (arith, e)) (λ k other. omega arith) j;
  }

-- ---- free events

free_moves : Laws → (w v : World) (e : Event) (reports : List Report) → WorldAgrees w → IsFree e → WorldStep w (record { event = e; cut = None }) v reports → Moves 5 w v
free_moves laws w v e reports good free did =
    let g = laws.free w v e reports good free did in
    record {
      good = g.good;
      table = g.table;
      links = g.links;
      narrow = g.narrow;
      count = g.count;
      room = λ j c h. let s = laws.spend w v e reports good free did j in let f = few_at j e in omega (arith, s, f, h);
      pages = λ j row is. g.pages j row is;
    }

-- ---- runs

abbrev pub IsReset : Step → Type 0
IsReset x = (m dt word : ℕ) × (x.event ≡ Reset m dt word)

-- an event that disturbs no rest and is not cut, or a reset
abbrev pub Shakes : Step → Type 0
Shakes x = (IsFree x.event × (x.cut ≡ None)) ⊎ IsReset x

abbrev pub PartShakes : SchedulePart → Type 0
PartShakes p = (sent : ℕ) → Shakes (p sent)

reset_within : (n : ℕ) (e : Event) (m dt word : ℕ) → e ≡ Reset m dt word → EventInRange n e → m < n
reset_within n e m dt word is fits = subst (λ (x : Event). EventInRange n x) is fits

true_reset : (w : World) (e : Event) (m dt word : ℕ) → e ≡ Reset m dt word → TrueEvent w e
true_reset w e m dt word is = subst (λ (x : Event). TrueEvent w x) (sym is) tt

-- From w to v each of the first n motes was reset: they are on, and what is kept and what is declared is the same.
pub record ResetRun (n : ℕ) (w v : World) : Type 0 where
  pub moves : Moves (5 * n) w v
  pub on : (j : ℕ) → j < n → IsOn v j
  pub kept : (j : ℕ) → (store_at v j).kept ≡ (store_at w j).kept
  pub declared : v.declared ≡ w.declared

module _ (laws : Laws) where
  pub reset_restarts : (w v : World) (x : Step) (reports : List Report) (m dt word : ℕ) → x.event ≡ Reset m dt word → WorldStep w x v reports → Restarted w m dt x.cut v
  reset_restarts w v x reports m dt word is did =
      restarted laws.boots w v m dt word x.cut reports (subst (λ (e : Event). WorldStep w (record { event = e; cut = x.cut }) v reports) is did)

  pub step_moves : (w v : World) (x : Step) (reports : List Report) → WorldAgrees w → StepInRange (length w.sites) x → Shakes x → WorldStep w x v reports → Moves 5 w v
  step_moves w v x reports good fits shakes did =
      ⊎_elim
      (λ f. free_moves laws w v x.event reports good f.0 (subst (λ (c : Option Cut). WorldStep w (record { event = x.event; cut = c }) v reports) f.1 did))
      (λ r.
      restart_moves w v r.0 r.1 x.cut (reset_restarts w v x reports r.0 r.1 r.2 r.3 did) (reset_within (length w.sites) x.event r.0 r.1 r.2 r.3 fits.event)
      (laws.agrees w v x reports good fits (true_reset w x.event r.0 r.1 r.2 r.3) did))
      shakes

  pub run_moves : (motes : ℕ) (ps : List SchedulePart) (w v : World) → length w.sites ≡ motes → WorldAgrees w → AllByRecursion (PartFits motes) ps → AllByRecursion PartShakes ps → LeadsTo w ps v → Moves (5 * length ps) w v
  unfolding LeadsTo
  run_moves motes [] w v count good fits shake run = moves_none (5 * 0) w v good run
  run_moves motes (p ∷ ps) w v count good fits shake run =
      let n = length w.sent in
      let fit : StepInRange (length w.sites) (p n) = subst (λ (k : ℕ). StepInRange k (p n)) (sym count) (fits.0 n) in
      let one = step_moves w run.0 (p n) run.1 good fit (shake.0 n) run.2 in
      let rest = run_moves motes ps run.0 v (one.count ∙ count) one.good fits.1 shake.1 run.3 in
      moves_then 5 (5 * length ps) (5 * length (p ∷ ps)) w run.0 v (omega arith) one rest

  -- ---- a reset of each mote

  no_resets : (w v : World) → WorldAgrees w → LeadsTo w (map always (resets 0)) v → ResetRun 0 w v
  unfolding LeadsTo resets
  no_resets w v good run = record {
    moves = moves_none (5 * 0) w v good run;
    on = λ j h. absurd (omega (arith, h));
    kept = λ j. ap (λ (u : World). (store_at u j).kept) (sym run);
    declared = ap (λ (u : World). u.declared) (sym run);
  }

  less_than : (k n : ℕ) → k < n + 1 → (k ≡ n → ⊥) → k < n
  less_than k n less other = elim (cases_lt k n) [
    | inl low ↦ low
    | inr high ↦ absurd (other (omega (arith, less, high)))
  ]

  one_more : (n : ℕ) (w u v : World) → n < length w.sites → ResetRun n w u → LeadsTo u (always (Reset n 0 0) ∷ []) v → ResetRun (n + 1) w v
  unfolding LeadsTo
  one_more n w u v within before run =
      let x : Step = record { event = Reset n 0 0; cut = None } in
      let there : n < length u.sites = let c = before.moves.count in omega (arith, c, within) in
      let did : WorldStep u x v run.1 = subst (λ (z : World). WorldStep u x z run.1) run.3 run.2 in
      let r : Restarted u n 0 None v = restarted laws.boots u v n 0 0 None run.1 did in
      let good : WorldAgrees v = laws.agrees u v x run.1 before.moves.good (record { event = there; cut = tt }) tt did in
      record {
        moves = moves_then (5 * n) 5 (5 * (n + 1)) w u v (omega arith) before.moves (restart_moves u v n 0 None r there good);
        on = λ j h. let at = each u v n 0 None r there (λ k y. k < n + 1 → (q : Running) × (y.runs ≡ Some q)) (λ _. r.on refl)
            (λ k other less. let on = before.on k (less_than k n less other) in (on.running, on.runs)) j h in record { running = at.0; runs = at.1 };
        kept = λ j. each u v n 0 None r there (λ k y. y.store.kept ≡ (store_at u k).kept) r.kept (λ k other. refl) j ∙ before.kept j;
        declared = ap (λ (z : World). z.declared) r.world ∙ before.declared;
      }

  pub resets_run : (n : ℕ) (w v : World) → n ≤ length w.sites → WorldAgrees w → LeadsTo w (map always (resets n)) v → ResetRun n w v
  resets_run zero w v within good run = no_resets w v good run
  resets_run (suc n) w v within good run =
      let e : suc n ≡ n + 1 = omega arith in
      let parts : map always (resets (suc n)) ≡ map always (resets n) ++ always (Reset n 0 0) ∷ [] = ap (λ (k : ℕ). map always (resets k)) e ∙ ap (map always) (resets_more n) ∙ map-append always (resets n) (Reset n 0 0 ∷ []) in
      let two = leads_apart w v (map always (resets n)) (always (Reset n 0 0) ∷ []) (subst (λ (ps : List SchedulePart). LeadsTo w ps v) parts run) in
      subst (λ (k : ℕ). ResetRun k w v) (sym e) (one_more n w two.0 v (omega (arith, within)) (resets_run n w two.0 (omega (arith, within)) good two.1) two.2)
