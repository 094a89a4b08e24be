-- What a reset does to a world, also where its power is cut.
use Rattle.std.proofs.Common.{◌≡◌, ℕ, ◌+◌, ◌≤◌, Bool, true, false, List, Option, Some, None, refl, sym, ap, subst, arith}
use Rattle.dg_nor.specs.Trail.{Trail, last}
use Rattle.dg_nor.specs.Through.{Through}
use Rattle.dg_nor.proofs.ThroughLemmas.{Through-last}
use Rattle.dg_volume.specs.Store.{Store}
use Rattle.dg_volume.specs.Start.{Runs, Boot, boot}
use Rattle.dg_volume.specs.Ends.{OnTheWay, Boots}
use Rattle.dg_volume.specs.declared.volume.StartCause.{StartCause}
use Rattle.dg_volume.specs.declared.volume.StartCause.TheVariants as cause
use Rattle.dg_mote.specs.Effects.{reset_effect, boot_by}
use Rattle.dg_base.specs.declared.events.Cut.{Cut}
use Rattle.dg_base.specs.declared.events.Event.TheVariants.{Reset}
use Rattle.dg_base.specs.declared.events.Step.{Step}
use Rattle.dg_script.specs.declared.report.Report.{Report}
use Rattle.dg_rules.specs.World.{World, Site, Running, wide_at, store_at, with_site, counted, off_site}
use Rattle.dg_rules.specs.Events.{Does, Goes, EventEffect, does, of_effect}
use Rattle.dg_rules.specs.Steps.{WorldStep, StepDoes, Ended, blows, before_cut}
use Rattle.dg_rules.proofs.ThroughLemmas.{Through-map, cut_holds}
use Rattle.dg_rules.proofs.AgreementLemmas.{same_running}
use Rattle.dg_rules.proofs.EventLemmas.{running_by, starts}
use Rattle.dg_base.specs.declared.events.ImageVersion.{ImageVersion}
use Rattle.dg_trial.proofs.RoomLemmas.{Roomy, boot_rooms, leaves_rooms}

abbrev pub BootLaw : Type 0
BootLaw = (k : StartCause) (s : Store) → Boots s (boot k s)

starts_by : (w : World) (o : Option Runs) (t : Trail Store) (id : ℕ) (wide : Bool) (now word : ℕ) (old : Option ImageVersion)
    → of_effect w (boot_by o t id wide now word) old ≡ Goes (record { trail = t; table = w.table; started = o; sent = None; runs = running_by o id wide now word })
starts_by w None t id wide now word old = refl
starts_by w (Some r) t id wide now word old = refl

reset_does : (w : World) (m dt word : ℕ) → does w (Reset m dt word) ≡ starts w (boot cause.Power (store_at w m)) m (wide_at w m) (w.moment + dt) word
unfolding does reset_effect
reset_does w m dt word = let b = boot cause.Power (store_at w m) in starts_by w b.runs b.trail m (wide_at w m) (w.moment + dt) word None

-- The mote has another site: what is kept there is as before, and few commits were made. It is on, unless its power was to be cut.
pub record Restarted (w : World) (m dt : ℕ) (cut : Option Cut) (v : World) : Type 0 where
  pub there : Site
  pub world : v ≡ with_site (record (counted w dt) { table = w.table }) m there
  pub kept : there.store.kept ≡ (store_at w m).kept
  pub room : (c : ℕ) → c + 5 ≤ (store_at w m).room → c ≤ there.store.room
  pub on : cut ≡ None → (r : Running) × (there.runs ≡ Some r)

started_on : (o : Option Runs) (id : ℕ) (wide : Bool) (now word : ℕ) (runs : Option Running) → running_by o id wide now word ≡ Some runs → (r : Running) × (runs ≡ Some r)
started_on None id wide now word runs e = absurd cc
started_on (Some r) id wide now word runs e = (_, sym (same_running _ runs e))

module _ (boots : BootLaw) (w v : World) (m dt word : ℕ) (cut : Option Cut) (reports : List Report) where
  abbrev s : Store
  s = store_at w m

  abbrev b : Boot
  b = boot cause.Power s

  abbrev Same : Store → Type 0
  Same t = t.kept ≡ s.kept

  same : Through Same b.trail
  same = Through-map (OnTheWay s b.runs) Same (λ t way. way.kept) b.trail (boots cause.Power s).way

  abbrev x : Step
  x = record { event = Reset m dt word; cut = cut }

  abbrev d : EventEffect
  d = record { trail = b.trail; table = w.table; started = b.runs; sent = None; runs = running_by b.runs m (wide_at w m) (w.moment + dt) word }

  uncut_blows : cut ≡ None → blows cut b.trail ≡ true → ⊥
  uncut_blows none e = let f : blows cut b.trail ≡ false = ap (λ (c : Option Cut). blows c b.trail) none in cc

  restarted_by : (blown : Bool) → blows cut b.trail ≡ blown → Ended blown w x d v reports → Restarted w m dt cut v
  restarted_by true is e = record {
    there = off_site e.store;
    world = e.world;
    kept = cut_holds Same (λ t room k. k) b.trail (before_cut cut) e.store same e.allowed;
    room = λ c h. leaves_rooms c b.trail (before_cut cut) e.store (boot_rooms (c + 1) cause.Power s (omega (arith, h))) e.allowed;
    on = λ none. absurd (uncut_blows none is);
  }
  restarted_by false is e = record {
    there = record { store = last b.trail; runs = e.0 };
    world = e.2;
    kept = Through-last Same b.trail same;
    room = λ c h. Through-last (Roomy c) b.trail (boot_rooms c cause.Power s (omega (arith, h)));
    on = λ none. started_on b.runs m (wide_at w m) (w.moment + dt) word e.0 e.1;
  }

  pub restarted : WorldStep w (record { event = Reset m dt word; cut = cut }) v reports → Restarted w m dt cut v
  unfolding WorldStep
  restarted did = restarted_by (blows cut b.trail) refl (subst (λ (D : Does). StepDoes D w x v reports) (reset_does w m dt word) did)
