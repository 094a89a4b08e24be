-- The packets of the page that a mote asks for came to it since its last start.
use Rattle.std.proofs.Common.{◌≡◌, ◌⊎◌, ℕ, ◌+◌, ◌<◌, Bool, true, false, List, length, Option, Some, None, option_map, IfSome, is_some, refl, sym, ap, subst, inl, inr, ⊎_elim}
use Rattle.std.proofs.lemmas.Option.{IfSome_then}
use Rattle.dg_nor.specs.Trail.{last}
use Rattle.dg_volume.specs.Start.{Runs, boot}
use Rattle.dg_volume.specs.declared.volume.StartCause.TheVariants as cause
use Rattle.dg_slot.specs.Jobs.{packet}
use Rattle.dg_mote.specs.Model.{Mode, Maintain, Receive, Transmit, Receiving, begun_mote}
use Rattle.dg_mote.specs.Ticks.{tick_of}
use Rattle.dg_mote.specs.Hears.{heard_of}
use Rattle.dg_mote.specs.Changes.{IfReceives, Brings, IsBegun, Continues}
use Rattle.dg_rules.specs.World.{World, Site, Running, Sent, site, store_at, wide_at, counted}
use Rattle.dg_rules.specs.Events.{EventEffect, Does, Refuses, Goes, does, mote_of, dt_of, image_version_of, reloaded}
use Rattle.dg_rules.specs.Steps.{blows, StepDoes, WorldStep}
use Rattle.dg_script.specs.Ranges.{EventInRange, StepInRange}
use Rattle.dg_rules.specs.Premises.{RunsWell, WorldAgrees}
use Rattle.dg_rules.specs.Legal.{Past, Came, Started, CameTo}
use Rattle.dg_rules.specs.Past.{brought, came_then, started_then, started_unless, past_by}
use Rattle.dg_base.specs.declared.events.Event.{Event}
use Rattle.dg_base.specs.declared.events.Step.{Step}
use Rattle.dg_script.specs.declared.report.Report.{Report}
use Rattle.dg_rules.proofs.ThroughLemmas.{Through-each}
use Rattle.dg_rules.proofs.SiteLemmas.{each_site}
use Rattle.dg_rules.proofs.EventLemmas.{RestartLaws, running_by, does_cases, all_sent, EndsAs, ended_world, sent_unless, ends_as}
use Rattle.dg_rules.proofs.AgreementLemmas.{same_running, running_at}
use Rattle.dg_rules.proofs.AgreementSteps.{step_within}
use Rattle.dg_rules.proofs.StepLemmas.{sent_sites, step_narrow}
use Rattle.dg_rules.proofs.ChangesLemmas.{ChangeLaws}
use Rattle.dg_rules.proofs.MessageLemmas.{AllThere}
use Rattle.dg_rules.proofs.EffectLemmas.{CameTo as SiteCame, CameBy, WorldCame}

-- ---- modes

-- a page whose download continues
continues_there : (m : ℕ) (wide : Bool) (old new : Past) (mode : Mode) (comes : (image version page q : ℕ) → Type 0) (r : Receiving)
    → ((image version page q : ℕ) → CameTo m wide image version page q old → CameTo m wide image version page q new) → ((image version page q : ℕ) → comes image version page q → CameTo m wide image version page q new)
    → IfReceives (AllThere m wide old) mode → Continues mode comes r → AllThere m wide new r
continues_there m wide old new mode comes r more now there c q some =
    let before : AllThere m wide old c.before = subst (IfReceives (AllThere m wide old)) c.was there in
    ⊎_elim
    (λ had. subst (λ (k : ℕ). CameTo m wide k r.version r.page q new) (sym c.image)
    (subst (λ (k : ℕ). CameTo m wide c.before.image k r.page q new) (sym c.version)
    (subst (λ (k : ℕ). CameTo m wide c.before.image c.before.version k q new) (sym c.page) (more c.before.image c.before.version c.before.page q (before q had)))))
    (λ comes_now. now r.image r.version r.page q comes_now)
    (c.packets_are q some)

begun_there : (m : ℕ) (wide : Bool) (past : Past) (r : Receiving) → IsBegun r → AllThere m wide past r
begun_there m wide past r b q some = absurd (none_some (packet r.packets q) (b.none q) some)
  where
    none_some : (o : Option (List ℕ)) → o ≡ None → is_some o ≡ true → ⊥
    none_some None e f = cc
    none_some (Some x) e f = cc

abbrev NoneComes : (image version page q : ℕ) → Type 0
NoneComes image version page q = ⊥

ticked_there : (m : ℕ) (wide : Bool) (past : Past) (old new : Mode) → IfReceives (AllThere m wide past) old → IfReceives (Continues old NoneComes) new → IfReceives (AllThere m wide past) new
ticked_there m wide past old (Maintain timer) there c = tt
ticked_there m wide past old (Receive r) there c = continues_there m wide past past old NoneComes r (λ image version page q had. had) (λ image version page q none. absurd none) there c
ticked_there m wide past old (Transmit t) there c = tt

came_brought : (m : ℕ) (wide : Bool) (past : Past) (bytes : List ℕ) (image version page q : ℕ) → Brings bytes wide image version page q → CameTo m wide image version page q (Came m bytes past)
unfolding CameTo
came_brought m wide past bytes image version page q b = inl (refl, b)

came_more : (m j : ℕ) (wide : Bool) (past : Past) (bytes : List ℕ) (image version page q : ℕ) → CameTo m wide image version page q past → CameTo m wide image version page q (Came j bytes past)
unfolding CameTo
came_more m j wide past bytes image version page q had = inr had

started_more : (m j : ℕ) (wide : Bool) (past : Past) (image version page q : ℕ) → (j ≡ m → ⊥) → CameTo m wide image version page q past → CameTo m wide image version page q (Started j past)
unfolding CameTo
started_more m j wide past image version page q other had = (other, had)

heard_there : (m : ℕ) (wide : Bool) (past : Past) (bytes : List ℕ) (old new : Mode) → IfReceives (AllThere m wide past) old → IfReceives (λ r. IsBegun r ⊎ Continues old (Brings bytes wide) r) new
    → IfReceives (AllThere m wide (Came m bytes past)) new
heard_there m wide past bytes old (Maintain timer) there c = tt
heard_there m wide past bytes old (Receive r) there c =
    ⊎_elim (λ b. begun_there m wide (Came m bytes past) r b)
    (λ more. continues_there m wide past (Came m bytes past) old (Brings bytes wide) r (came_more m m wide past bytes) (came_brought m wide past bytes) there more) c
heard_there m wide past bytes old (Transmit t) there c = tt

-- ---- the other motes

mode_more : (m : ℕ) (wide : Bool) (old new : Past) → ((image version page q : ℕ) → CameTo m wide image version page q old → CameTo m wide image version page q new) → (mode : Mode) → IfReceives (AllThere m wide old) mode → IfReceives (AllThere m wide new) mode
mode_more m wide old new more (Maintain timer) there = tt
mode_more m wide old new more (Receive r) there = λ q some. more r.image r.version r.page q (there q some)
mode_more m wide old new more (Transmit t) there = tt

site_more : (m : ℕ) (wide : Bool) (old new : Past) → ((image version page q : ℕ) → CameTo m wide image version page q old → CameTo m wide image version page q new) → (x : Site) → SiteCame old m wide x → SiteCame new m wide x
site_more m wide old new more x there = IfSome_then x.runs there (λ r t. mode_more m wide old new more r.mote.mode t)

came_then_more : (m j : ℕ) (wide : Bool) (past : Past) (o : Option (List ℕ)) (image version page q : ℕ) → CameTo m wide image version page q past → CameTo m wide image version page q (came_then o j past)
came_then_more m j wide past None image version page q had = had
came_then_more m j wide past (Some bytes) image version page q had = came_more m j wide past bytes image version page q had

started_then_more : (m j : ℕ) (wide : Bool) (past : Past) (o : Option Runs) → (j ≡ m → ⊥) → (image version page q : ℕ) → CameTo m wide image version page q past → CameTo m wide image version page q (started_then o j past)
started_then_more m j wide past None other image version page q had = had
started_then_more m j wide past (Some r) other image version page q had = started_more m j wide past image version page q other had

-- ---- every event

-- the past after an event, by whether its power was cut
abbrev Behind : Past → World → Event → EventEffect → Bool → Past
Behind past w e d b = started_then (started_unless b d.started) (mote_of e) (came_then (brought w e) (mote_of e) past)

abbrev CameDoes : Past → World → Event → Does → Type 0
CameDoes past w e (Refuses why) = Unit {0}
CameDoes past w e (Goes d) = (runs : Option Running) → d.runs ≡ Some runs → SiteCame (Behind past w e d false) (mote_of e) (wide_at w (mote_of e)) (record { store = last d.trail; runs = runs })

module _ (restarts : RestartLaws) (changes : ChangeLaws) (past : Past) (w : World) (agrees : WorldAgrees w) (came : WorldCame past w) where
  there_here : (m : ℕ) (r : Running) → (site w m).runs ≡ Some r → m < length w.sites → IfReceives (AllThere m (wide_at w m) past) r.mote.mode
  there_here m r on low = running_at (λ q. IfReceives (AllThere m (wide_at w m) past) q.mote.mode) (site w m).runs r on (came m low)

  abbrev At : Past → ℕ → Option Running → Type 0
  At p m runs = IfSome runs (λ r. IfReceives (AllThere m (wide_at w m) p) r.mote.mode)

  one_came : (p : Past) (m : ℕ) (r : Running) (runs : Option Running) → IfReceives (AllThere m (wide_at w m) p) r.mote.mode → ◌≡◌ {A = Option (Option Running)} (Some (Some r)) (Some runs) → At p m runs
  one_came p m r runs there e = subst (At p m) (same_running (Some r) runs e) there

  start_came : (p : Past) (m : ℕ) (o : Option Runs) (id : ℕ) (wide : Bool) (now word : ℕ) (runs : Option Running) → running_by o id wide now word ≡ Some runs → At p m runs
  start_came p m None id wide now word runs e = absurd cc
  start_came p m (Some r) id wide now word runs e = one_came p m (record { image_version = image_version_of r; mote = begun_mote id wide now word }) runs tt e

  reload_came : (p : Past) (m : ℕ) (o runs : Option Running) (now word : ℕ) → Some (reloaded o now word) ≡ Some runs → At p m runs
  reload_came p m o runs now word e = subst (At p m) (same_running (reloaded o now word) runs e) (each o)
    where
      each : (o : Option Running) → At p m (reloaded o now word)
      each None = tt
      each (Some r) = tt

  -- the mote reads as its site does
  comes_here : (m now word : ℕ) (bytes : List ℕ) (r : Running) → (site w m).runs ≡ Some r → m < length w.sites
      → IfReceives (λ q. IsBegun q ⊎ Continues r.mote.mode (Brings bytes (wide_at w m)) q) (heard_of r.mote (store_at w m) now word bytes).mote.mode
  comes_here m now word bytes r on low =
      subst (λ (wide : Bool). IfReceives (λ q. IsBegun q ⊎ Continues r.mote.mode (Brings bytes wide) q) (heard_of r.mote (store_at w m) now word bytes).mote.mode)
      (running_at (λ q. RunsWell w.table m (wide_at w m) w.moment (store_at w m) q) (site w m).runs r on (agrees.sites m low).runs).wide_is
      (changes.comes r.mote (store_at w m) now word bytes)

  hear_came : (m now word : ℕ) (bytes : List ℕ) (r : Running) (runs : Option Running) → (site w m).runs ≡ Some r → m < length w.sites
      → ◌≡◌ {A = Option (Option Running)} (Some (Some (record { image_version = r.image_version; mote = (heard_of r.mote (store_at w m) now word bytes).mote }))) (Some runs) → At (Came m bytes past) m runs
  hear_came m now word bytes r runs on low e =
      let n = (heard_of r.mote (store_at w m) now word bytes).mote in
      one_came (Came m bytes past) m (record { image_version = r.image_version; mote = n }) runs (heard_there m (wide_at w m) past bytes r.mote.mode n.mode (there_here m r on low) (comes_here m now word bytes r on low)) e

  came_does : (e : Event) → EventInRange (length w.sites) e → CameDoes past w e (does w e)
  came_does =
      does_cases restarts w (λ f. Unit {0}) (all_sent w.sent) (λ e D. EventInRange (length w.sites) e → CameDoes past w e D)
      (λ e why fits. tt)
      (λ m dt word r on fits runs e. let n = (tick_of r.mote (store_at w m) (w.moment + dt) word).mote in
      one_came past m (record { image_version = r.image_version; mote = n }) runs (ticked_there m (wide_at w m) past r.mote.mode n.mode (there_here m r on fits) (changes.comes_not r.mote (store_at w m) (w.moment + dt) word)) e)
      (λ m dt word r on waits fits runs e. start_came _ m (boot cause.Order (store_at w m)).runs r.mote.id r.mote.wide (w.moment + dt) word runs e)
      (λ m dt word fits runs e. start_came _ m (boot cause.Power (store_at w m)).runs m (wide_at w m) (w.moment + dt) word runs e)
      (λ m dt word number f r on at q fits runs e. subst (λ (o : Option (List ℕ)). At (came_then o m past) m runs) (sym (ap (option_map (λ (g : Sent). g.bytes)) at)) (hear_came m (w.moment + dt) word f.bytes r runs on fits.0 e))
      (λ from m dt word f r on at q fits runs e. subst (λ (o : Option (List ℕ)). At (came_then o m past) m runs) (sym (ap (option_map (λ (g : Sent). g.bytes)) at)) (hear_came m (w.moment + dt) word f.bytes r runs on fits.second e))
      (λ m dt word bytes r on fits runs e. hear_came m (w.moment + dt) word bytes r runs on fits.0 e)
      (λ m image version dt word row known none fits runs e. reload_came past m (site w m).runs runs (w.moment + dt) word e)
      (λ m number image version dt word none fits runs e. reload_came past m (site w m).runs runs (w.moment + dt) word e)

  -- ---- steps

  module _ (x : Step) (v : World) (reports : List Report) (fits : StepInRange (length w.sites) x) where
    came_by : (D : Does) → CameDoes past w x.event D → StepDoes D w x v reports → CameBy (past_by D w x past) w.narrow v
    came_by (Refuses why) c did = subst (CameBy past w.narrow) (sym did.0) came
    came_by (Goes d) c did =
        let m = mote_of x.event in
        let b = blows x.cut d.trail in
        let mid : World = record (counted w (dt_of x.event)) { table = d.table } in
        let P : Bool → Site → Type 0 = λ b y. SiteCame (Behind past w x.event d b) m (wide_at w m) y in
        let end : EndsAs P b w x d v = ends_as P (λ s room p. tt) w x d v reports c (Through-each (λ s. Unit {0}) (λ s. tt) d.trail) b did in
        let new = Behind past w x.event d b in
        let stays : (j : ℕ) → j < length w.sites → (j ≡ m → ⊥) → SiteCame new j (wide_at w j) (site w j) =
        λ j low other. site_more j (wide_at w j) past new
        (λ image version page q had. started_then_more j m (wide_at w j) (came_then (brought w x.event) m past) (started_unless b d.started) (λ e. other (sym e)) image version page q
        (came_then_more j m (wide_at w j) past (brought w x.event) image version page q had))
        (site w j) (came j low) in
        subst (CameBy new w.narrow) (sym end.1)
        (sent_sites (λ j y. SiteCame new j (wide_at w j) y) (ended_world w x d end.0) m (sent_unless b d)
        (each_site (λ j y. SiteCame new j (wide_at w j) y) mid m end.0 (step_within w x fits) end.2 stays))

    pub step_came : WorldStep w x v reports → WorldCame (past_by (does w x.event) w x past) v
    unfolding WorldStep
    step_came did =
        let new = past_by (does w x.event) w x past in
        subst (λ (narrow : List Bool). CameBy new narrow v) (sym (step_narrow w x v reports did)) (came_by (does w x.event) (came_does x.event fits.event) did)
