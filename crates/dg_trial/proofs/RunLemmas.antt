-- Runs of parts: one after another, and what they count.
use Rattle.std.proofs.Common.{◌≡◌, ℕ, ◌+◌, ◌≤◌, true, false, Bool, List, [], ◌∷◌, ◌++◌, length, refl, sym, ap, subst, ◌∙◌, arith, length-append}
use Rattle.std.specs.List.{AllByRecursion}
use Rattle.std.specs.Prelude.{Option, Some, None}
use Rattle.dg_base.specs.declared.events.Step.{Step}
use Rattle.dg_frame.specs.declared.Message.{Message}
use Rattle.dg_script.specs.declared.report.Report.{Report}
use Rattle.dg_rules.specs.World.{World, counted, Sent}
use Rattle.dg_rules.specs.Events.{Does, Refuses, Goes, EventEffect, does, mote_of, dt_of}
use Rattle.dg_script.specs.Ranges.{StepInRange}
use Rattle.dg_rules.specs.Golden.{WorldKeepsGolden}
use Rattle.dg_rules.specs.Steps.{WorldStep, StepDoes, Ended, blows, and_sent}
use Rattle.dg_rules.proofs.SiteLemmas.{site_count}
use Rattle.dg_trial.specs.Schedule.{SchedulePart}
use Rattle.dg_trial.specs.Playing.{LeadsTo, MayPlayParts, PartFits, PartsGoOnLaw}

-- ---- one step

-- a world with the same number of motes, one more event, and at most one more frame
pub record Counts (w v : World) : Type 0 where
  pub sites : length v.sites ≡ length w.sites
  pub events : v.events ≡ w.events + 1
  pub sent : length v.sent ≤ length w.sent + 1

-- the same, with no new frame
record Quiet (w v : World) : Type 0 where
  sites : length v.sites ≡ length w.sites
  events : v.events ≡ w.events + 1
  sent : v.sent ≡ w.sent

quiet_counts : (w v : World) → Quiet w v → Counts w v
quiet_counts w v q = record { sites = q.sites; events = q.events; sent = let e : length v.sent ≡ length w.sent = ap length q.sent in omega (arith, e) }

sent_counts : (w v : World) (m : ℕ) (sent : Option Message) → Quiet w v → Counts w (and_sent v m sent)
sent_counts w v m None q = quiet_counts w v q
sent_counts w v m (Some message) q =
    let e : length v.sent ≡ length w.sent = ap length q.sent in
    record { sites = q.sites; events = q.events; sent = omega (arith, e, length-append {A = Sent}) }

done_counts : (blown : Bool) (w : World) (x : Step) (d : EventEffect) (v : World) (reports : List Report) → Ended blown w x d v reports → Counts w v
done_counts true w x d v reports cut =
    subst (λ (u : World). Counts w u) (sym cut.world) (quiet_counts w _ (record { sites = site_count (record (counted w (dt_of x.event)) { table = d.table }) (mote_of x.event) (record { store = cut.store; runs = None }); events = refl; sent = refl }))
done_counts false w x d v reports (runs, found, world, told) =
    subst (λ (u : World). Counts w u) (sym world) (sent_counts w _ (mote_of x.event) d.sent (record { sites = site_count (record (counted w (dt_of x.event)) { table = d.table }) (mote_of x.event) _; events = refl; sent = refl }))

does_counts : (D : Does) (w : World) (x : Step) (v : World) (reports : List Report) → StepDoes D w x v reports → Counts w v
does_counts (Refuses why) w x v reports step = subst (λ (u : World). Counts w u) (sym step.0) (quiet_counts w (counted w (dt_of x.event)) (record { sites = refl; events = refl; sent = refl }))
does_counts (Goes d) w x v reports step = done_counts (blows x.cut d.trail) w x d v reports step

pub step_counts : (w v : World) (x : Step) (reports : List Report) → WorldStep w x v reports → Counts w v
unfolding WorldStep
step_counts w v x reports step = does_counts (does w x.event) w x v reports step

-- ---- runs

pub leads_none : (w : World) → LeadsTo w [] w
unfolding LeadsTo
leads_none w = refl

pub leads_one : (w v : World) (p : SchedulePart) (reports : List Report) → WorldStep w (p (length w.sent)) v reports → LeadsTo w (p ∷ []) v
unfolding LeadsTo
leads_one w v p reports step = (v, reports, step, refl)

pub leads_then : (w u v : World) (xs ys : List SchedulePart) → LeadsTo w xs u → LeadsTo u ys v → LeadsTo w (xs ++ ys) v
unfolding LeadsTo
leads_then w u v [] ys e f = subst (λ (z : World). LeadsTo z ys v) (sym e) f
leads_then w u v (x ∷ xs) ys e f = (e.0, e.1, e.2, leads_then e.0 u v xs ys e.3 f)

pub leads_apart : (w v : World) (xs ys : List SchedulePart) → LeadsTo w (xs ++ ys) v → (u : World) × LeadsTo w xs u × LeadsTo u ys v
unfolding LeadsTo
leads_apart w v [] ys f = (w, refl, f)
leads_apart w v (x ∷ xs) ys f =
    let rest = leads_apart f.0 v xs ys f.3 in (rest.0, (f.0, f.1, f.2, rest.1), rest.2)

pub leads_events : (w v : World) (xs : List SchedulePart) → LeadsTo w xs v → v.events ≡ w.events + length xs
unfolding LeadsTo
leads_events w v [] e = let h : w.events ≡ v.events = ap (λ (z : World). z.events) e in omega (arith, h)
leads_events w v (x ∷ xs) e =
    let here = step_counts w e.0 (x (length w.sent)) e.1 e.2 in
    let rest = leads_events e.0 v xs e.3 in
    omega (arith, here.events, rest)

-- ---- what may be played

-- golden stays where it is kept
abbrev pub GoldenLaw : Type 0
GoldenLaw = (w v : World) (x : Step) (reports : List Report) → WorldKeepsGolden w → StepInRange (length w.sites) x → WorldStep w x v reports → WorldKeepsGolden v

pub goes_on : GoldenLaw → PartsGoOnLaw
unfolding LeadsTo
goes_on law motes w v [] ys may e = subst (λ (z : World). MayPlayParts motes z ys) e may
goes_on law motes w v (x ∷ xs) ys may e =
    let here = step_counts w e.0 (x (length w.sent)) e.1 e.2 in
    goes_on law motes e.0 v xs ys
    (record {
      keeps = law w e.0 (x (length w.sent)) e.1 may.keeps (subst (λ (n : ℕ). StepInRange n (x (length w.sent))) (sym may.count) (may.fits.0 (length w.sent))) e.2;
      count = here.sites ∙ may.count;
      few = omega (arith, here.events, may.few);
      sent = omega (arith, here.events, here.sent, may.sent);
      fits = may.fits.1;
    })
    e.3

pub all_front : {A : Type 0} (P : A → Type 0) (xs ys : List A) → AllByRecursion P (xs ++ ys) → AllByRecursion P xs
all_front P [] ys a = tt
all_front P (x ∷ xs) ys a = (a.0, all_front P xs ys a.1)

pub may_front : (motes : ℕ) (w : World) (xs ys : List SchedulePart) → MayPlayParts motes w (xs ++ ys) → MayPlayParts motes w xs
may_front motes w xs ys may =
    record {
      keeps = may.keeps;
      count = may.count;
      few = omega (arith, may.few, length-append xs ys);
      sent = may.sent;
      fits = all_front (PartFits motes) xs ys may.fits;
    }

pub leads_sites : (w v : World) (xs : List SchedulePart) → LeadsTo w xs v → length v.sites ≡ length w.sites
unfolding LeadsTo
leads_sites w v [] e = ap (λ (z : World). length z.sites) (sym e)
leads_sites w v (x ∷ xs) e = leads_sites e.0 v xs e.3 ∙ (step_counts w e.0 (x (length w.sent)) e.1 e.2).sites
