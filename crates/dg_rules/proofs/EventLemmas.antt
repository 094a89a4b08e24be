-- Events by their cases, and how a step ends.
use Rattle.std.proofs.Common.{◌≡◌, ℕ, zero, suc, ◌+◌, Bool, true, false, List, [], ◌∷◌, Option, Some, None, refl, sym, ap, subst, ◌∙◌}
use Rattle.std.specs.List.{AllByRecursion}
use Rattle.std.proofs.lemmas.Bool.{cond_both}
use Rattle.std.specs.Prelude.{◌==◌, ◌↔◌, ◌-◌, nat_le, slice_get, if◌then◌else◌}
use Rattle.dg_nor.specs.Trail.{Trail, last, joined, resting}
use Rattle.dg_nor.specs.Through.{Through}
use Rattle.dg_nor.proofs.TrailLemmas.{joined_none}
use Rattle.dg_control.specs.declared.snapshot.Order.{Order}
use Rattle.dg_object.specs.Object.{Row}
use Rattle.dg_volume.specs.Store.{Store}
use Rattle.dg_volume.specs.Changes.{inject_refusal, order_refusal}
use Rattle.dg_volume.specs.Trails.{order_trail, inject_trail}
use Rattle.dg_volume.specs.Start.{Runs, Boot, boot, order_waits}
use Rattle.dg_volume.specs.declared.volume.StartCause.TheVariants as start_cause
use Rattle.dg_volume.specs.declared.volume.InjectFault.{InjectFault}
use Rattle.dg_volume.specs.declared.volume.OrderFault.{OrderFault}
use Rattle.dg_volume.specs.Table.{row_at, with_row}
use Rattle.dg_frame.specs.declared.Message.{Message}
use Rattle.dg_mote.specs.Model.{MoteState, MoteStep, begun_mote}
use Rattle.dg_mote.specs.Ticks.{tick_of}
use Rattle.dg_mote.specs.Hears.{heard_of}
use Rattle.dg_mote.specs.Effects.{Effect, boot_by, boots, reset_effect, tick_by, tick_effect, frame_effect}
use Rattle.dg_mote.specs.Rules.{MayRestart}
use Rattle.dg_mote.specs.declared.mote.Did.{Did}
use Rattle.dg_mote.specs.declared.mote.Did.TheVariants as did
use Rattle.dg_rules.specs.World.{World, Site, Running, Sent, site, store_at, wide_at, with_site, counted, off_site, linked, frame_at, last_by, last_frame}
use Rattle.dg_rules.specs.Events.{EventEffect, Does, Refuses, Goes, does, mote_of, dt_of, image_version_of, of_effect, tick_does, hear_by, heard_sent, heard_last, unless_off, acts, inject_unless, inject_row, order_unless, knows, injects, orders}
use Rattle.dg_rules.specs.Steps.{Ended, before_cut, and_sent}
use Rattle.dg_base.specs.declared.events.ImageVersion.{ImageVersion}
use Rattle.dg_base.specs.declared.events.Event.{Event}
use Rattle.dg_base.specs.declared.events.Event.TheVariants.{Tick, Hear, Last, Reset, Inject, Order as OrderEvent, Frame}
use Rattle.dg_base.specs.declared.events.Step.{Step}
use Rattle.dg_script.specs.declared.report.Cause.{Cause}
use Rattle.dg_script.specs.declared.report.Cause.TheVariants as cause
use Rattle.dg_script.specs.declared.report.Report.{Report}
use Rattle.dg_rules.proofs.ThroughLemmas.{cut_holds}
use Rattle.dg_rules.proofs.BootLemmas.{boot_start}

abbrev pub order_of : (number image version : ℕ) → Order
order_of number image version = record { number = number; image = image; version = version }

-- ---- what is done

-- what runs from now on, None if there was no image to start
abbrev pub running_by : Option Runs → (id : ℕ) (wide : Bool) (now word : ℕ) → Option (Option Running)
running_by None id wide now word = None
running_by (Some r) id wide now word = Some (Some (record { image_version = image_version_of r; mote = begun_mote id wide now word }))

-- a start: what was on the mote is dropped
abbrev pub starts : World → Boot → (id : ℕ) (wide : Bool) (now word : ℕ) → Does
starts w b id wide now word = Goes (record { trail = b.trail; table = w.table; started = b.runs; sent = None; runs = running_by b.runs id wide now word })

-- the mote that runs this image version continues
abbrev pub going_on : World → Trail Store → Option Message → ImageVersion → MoteState → EventEffect
going_on w t sent image_version n = record { trail = t; table = w.table; started = None; sent = sent; runs = Some (Some (record { image_version = image_version; mote = n })) }

abbrev pub goes_on : World → Trail Store → Option Message → ImageVersion → MoteState → Does
goes_on w t sent image_version n = Goes (going_on w t sent image_version n)

abbrev pub hearing_of : World → ℕ → (now word : ℕ) → List ℕ → Running → EventEffect
hearing_of w m now word bytes r = let step = heard_of r.mote (store_at w m) now word bytes in going_on w step.trail None r.image_version step.mote

abbrev pub hears : World → ℕ → (now word : ℕ) → List ℕ → Running → Does
hears w m now word bytes r = Goes (hearing_of w m now word bytes r)

-- a restart is for the order, and does nothing before it
pub record RestartLaws : Type 0 where
  pub exactly : (m : MoteState) (s : Store) (now word : ℕ) → ((tick_of m s now word).answer ≡ did.Restart) ↔ MayRestart m s now
  pub nothing : (m : MoteState) (s : Store) (now word : ℕ) → (tick_of m s now word).answer ≡ did.Restart
      → tick_of m s now word ≡ record { mote = m; trail = resting s 0; sent = None; answer = did.Restart }

starts_by : (w : World) (o : Option Runs) (t : Trail Store) (id : ℕ) (wide : Bool) (now word : ℕ) (old : Option ImageVersion)
    → of_effect w (boot_by o t id wide now word) old ≡ Goes (record { trail = t; table = w.table; started = o; sent = None; runs = running_by o id wide now word })
starts_by w None t id wide now word old = refl
starts_by w (Some r) t id wide now word old = refl

boots_starts : (w : World) (b : Boot) (id : ℕ) (wide : Bool) (now word : ℕ) (old : Option ImageVersion) → of_effect w (boot_by b.runs b.trail id wide now word) old ≡ starts w b id wide now word
boots_starts w b id wide now word old = starts_by w b.runs b.trail id wide now word old

first_joined : (s : Store) (t : Trail Store) → t.first ≡ s → joined (resting s 0) t ≡ t
first_joined s t e = subst (λ (x : Store). joined (resting x 0) t ≡ t) e (joined_none t)

boot_trail_by : (o : Option Runs) (t u : Trail Store) (id : ℕ) (wide : Bool) (now word : ℕ) → u ≡ t → record (boot_by o t id wide now word) { trail = u } ≡ boot_by o t id wide now word
boot_trail_by None t u id wide now word e = ap (λ (x : Trail Store). record (boot_by None t id wide now word) { trail = x }) e
boot_trail_by (Some r) t u id wide now word e = ap (λ (x : Trail Store). record (boot_by (Some r) t id wide now word) { trail = x }) e

boot_trail_is : (o : Option Runs) (t : Trail Store) (id : ℕ) (wide : Bool) (now word : ℕ) → (boot_by o t id wide now word).trail ≡ t
boot_trail_is None t id wide now word = refl
boot_trail_is (Some r) t id wide now word = refl

-- a tick that restarts is a start for the order
restarted : (s : Store) (id : ℕ) (wide : Bool) (now word : ℕ) → record (boots start_cause.Order (last (resting s 0)) id wide now word) { trail = joined (resting s 0) (boots start_cause.Order (last (resting s 0)) id wide now word).trail } ≡ boots start_cause.Order s id wide now word
unfolding Rattle.dg_nor.specs.Trail.last_of
restarted s id wide now word =
    let b = boot start_cause.Order s in
    let e : (boot_by b.runs b.trail id wide now word).trail ≡ b.trail = boot_trail_is b.runs b.trail id wide now word in
    boot_trail_by b.runs b.trail (joined (resting s 0) (boot_by b.runs b.trail id wide now word).trail) id wide now word
    (ap (joined (resting s 0)) e ∙ first_joined s b.trail (boot_start start_cause.Order s).first)

-- ---- frames that were sent

module _ (Q : Sent → Type 0) where
  find_number : (ss : List Sent) (n : ℕ) (f : Sent) → AllByRecursion Q ss → slice_get ss n ≡ Some f → Q f
  find_number [] n f all e = absurd cc
  find_number (s ∷ ss) zero f all e = subst Q (same s f e) all.0
    where
      same : (a b : Sent) → Some a ≡ Some b → a ≡ b
      same a b e = cc
  find_number (s ∷ ss) (suc n) f all e = find_number ss n f all.1 e

  number_found : (w : World) (number : ℕ) (f : Sent) → AllByRecursion Q w.sent → frame_at w number ≡ Some f → Q f
  number_found w number f all =
      cond_both (nat_le 1 number) (slice_get w.sent (number - 1)) None (λ (o : Option Sent). o ≡ Some f → Q f) (λ _ e. find_number w.sent (number - 1) f all e) (λ _ e. absurd cc)

  abbrev HasIt : Option Sent → Type 0
  HasIt None = Unit {0}
  HasIt (Some f) = Q f

  last_has : (m : ℕ) (ss : List Sent) (found : Option Sent) → AllByRecursion Q ss → HasIt found → HasIt (last_by m ss found)
  last_has m [] found all had = had
  last_has m (s ∷ ss) found all had = last_has m ss (if s.by == m then Some s else found) all.1 (cond_both (s.by == m) (Some s) found HasIt (λ _. all.0) (λ _. had))

  last_found : (w : World) (m : ℕ) (f : Sent) → AllByRecursion Q w.sent → last_frame w m ≡ Some f → Q f
  last_found w m f all e = subst HasIt e (last_has m w.sent None all tt)

-- ---- every event

-- what holds of every refused event, and of each kind of event that is not refused, holds of every event; Q holds of the frames
-- that were sent
module _
    (laws : RestartLaws)
    (w : World)
    (Q : Sent → Type 0)
    (all : AllByRecursion Q w.sent)
    (P : Event → Does → Type 0)
    (refused : (e : Event) (why : Cause) → P e (Refuses why))
    (ticking : (m dt word : ℕ) (r : Running) → (site w m).runs ≡ Some r
    → P (Tick m dt word) (let step = tick_of r.mote (store_at w m) (w.moment + dt) word in goes_on w step.trail step.sent r.image_version step.mote))
    (starting : (m dt word : ℕ) (r : Running) → (site w m).runs ≡ Some r → order_waits (store_at w m) ≡ true
    → P (Tick m dt word) (starts w (boot start_cause.Order (store_at w m)) r.mote.id r.mote.wide (w.moment + dt) word))
    (resetting : (m dt word : ℕ) → P (Reset m dt word) (starts w (boot start_cause.Power (store_at w m)) m (wide_at w m) (w.moment + dt) word))
    (hearing : (m dt word number : ℕ) (f : Sent) (r : Running) → (site w m).runs ≡ Some r → frame_at w number ≡ Some f → Q f
    → P (Hear m dt word number) (hears w m (w.moment + dt) word f.bytes r))
    (following : (from m dt word : ℕ) (f : Sent) (r : Running) → (site w m).runs ≡ Some r → last_frame w from ≡ Some f → Q f
    → P (Last from m dt word) (hears w m (w.moment + dt) word f.bytes r))
    (framing : (m dt word : ℕ) (bytes : List ℕ) (r : Running) → (site w m).runs ≡ Some r → P (Frame m dt word bytes) (hears w m (w.moment + dt) word bytes r))
    (injecting : (m image version dt word : ℕ) (row : Row) → row_at w.declared image version ≡ Some row → inject_refusal (store_at w m) row ≡ None
    → P (Inject m image version dt word) (acts w m (inject_trail (store_at w m) row) (with_row w.table row) (w.moment + dt) word))
    (ordering : (m number image version dt word : ℕ) → order_refusal (store_at w m) (order_of number image version) ≡ None
    → P (OrderEvent m number image version dt word) (acts w m (order_trail (store_at w m) (order_of number image version)) w.table (w.moment + dt) word)) where
  -- by the result of the tick
  tick_answers : (m dt word : ℕ) (r : Running) → (site w m).runs ≡ Some r → (a : Did) → (tick_of r.mote (store_at w m) (w.moment + dt) word).answer ≡ a
      → P (Tick m dt word) (of_effect w (tick_by a (tick_of r.mote (store_at w m) (w.moment + dt) word) (w.moment + dt) word) (Some r.image_version))
  tick_answers m dt word r is did.Sent answer = ticking m dt word r is
  tick_answers m dt word r is did.Idle answer = ticking m dt word r is
  tick_answers m dt word r is did.Restart answer =
      let s = store_at w m in
      let now = w.moment + dt in
      let none : MoteStep Did = record { mote = r.mote; trail = resting s 0; sent = None; answer = did.Restart } in
      let e : tick_of r.mote s now word ≡ none = laws.nothing r.mote s now word answer in
      let waits = ((laws.exactly r.mote s now word).0 answer).waits in
      subst (P (Tick m dt word))
      (sym (ap (λ (step : MoteStep Did). of_effect w (tick_by did.Restart step now word) (Some r.image_version)) e
      ∙ ap (λ (x : Effect). of_effect w x (Some r.image_version)) (restarted s r.mote.id r.mote.wide now word)
      ∙ boots_starts w (boot start_cause.Order s) r.mote.id r.mote.wide now word (Some r.image_version)))
      (starting m dt word r is waits)

  tick_case : (m dt word : ℕ) (o : Option Running) → (site w m).runs ≡ o → P (Tick m dt word) (tick_does w (store_at w m) o (w.moment + dt) word)
  unfolding tick_effect
  tick_case m dt word None is = refused (Tick m dt word) cause.Off
  tick_case m dt word (Some r) is = tick_answers m dt word r is (tick_of r.mote (store_at w m) (w.moment + dt) word).answer refl

  -- what a frame that is heard does
  frame_case : (e : Event) (m now word : ℕ) (bytes : List ℕ) → ((r : Running) → (site w m).runs ≡ Some r → P e (hears w m now word bytes r))
      → (o : Option Running) → (site w m).runs ≡ o → P e (hear_by w (store_at w m) o now word bytes)
  unfolding frame_effect
  frame_case e m now word bytes each None is = refused e cause.Off
  frame_case e m now word bytes each (Some r) is = each r is

  hear_case : (m dt word number : ℕ) (o : Option Sent) → frame_at w number ≡ o → P (Hear m dt word number) (heard_sent w m (w.moment + dt) word o)
  hear_case m dt word number None is = refused (Hear m dt word number) cause.Frame
  hear_case m dt word number (Some f) is =
      let now = w.moment + dt in
      cond_both (linked w f.by m) (hear_by w (store_at w m) (site w m).runs now word f.bytes) (Refuses cause.Link) (P (Hear m dt word number))
      (λ _. frame_case (Hear m dt word number) m now word f.bytes (λ r at. hearing m dt word number f r at is (number_found Q w number f all is)) (site w m).runs refl)
      (λ _. refused (Hear m dt word number) cause.Link)

  last_case : (from m dt word : ℕ) (o : Option Sent) → last_frame w from ≡ o → P (Last from m dt word) (heard_last w from m (w.moment + dt) word o)
  last_case from m dt word None is = refused (Last from m dt word) cause.Frame
  last_case from m dt word (Some f) is =
      frame_case (Last from m dt word) m (w.moment + dt) word f.bytes (λ r at. following from m dt word f r at is (last_found Q w from f all is)) (site w m).runs refl

  on_case : (e : Event) (o : Option Running) (d : Does) → P e d → P e (unless_off o d)
  on_case e None d p = refused e cause.Off
  on_case e (Some r) d p = p

  inject_case_by : (m image version dt word : ℕ) (row : Row) → row_at w.declared image version ≡ Some row → (o : Option InjectFault) → inject_refusal (store_at w m) row ≡ o
      → P (Inject m image version dt word) (inject_unless o w m row (w.moment + dt) word)
  inject_case_by m image version dt word row known (Some fault) is = refused (Inject m image version dt word) _
  inject_case_by m image version dt word row known None is = injecting m image version dt word row known is

  inject_case : (m image version dt word : ℕ) (o : Option Row) → row_at w.declared image version ≡ o → P (Inject m image version dt word) (inject_row w m o (w.moment + dt) word)
  inject_case m image version dt word None is = refused (Inject m image version dt word) cause.Image
  inject_case m image version dt word (Some row) is = inject_case_by m image version dt word row is (inject_refusal (store_at w m) row) refl

  -- an image that the mote knows
  known_inject : (m image version dt word : ℕ) → P (Inject m image version dt word) (injects w m image version (w.moment + dt) word)
  known_inject m image version dt word =
      cond_both (image == 0) (Refuses cause.Reserved) (inject_row w m (row_at w.declared image version) (w.moment + dt) word) (P (Inject m image version dt word))
      (λ _. refused (Inject m image version dt word) cause.Reserved) (λ _. inject_case m image version dt word (row_at w.declared image version) refl)

  order_case : (m number image version dt word : ℕ) (o : Option OrderFault) → order_refusal (store_at w m) (order_of number image version) ≡ o
      → P (OrderEvent m number image version dt word) (order_unless o w m (order_of number image version) (w.moment + dt) word)
  order_case m number image version dt word (Some fault) is = refused (OrderEvent m number image version dt word) _
  order_case m number image version dt word None is = ordering m number image version dt word is

  reset_case : (m dt word : ℕ) → P (Reset m dt word) (of_effect w (reset_effect (store_at w m) m (wide_at w m) (w.moment + dt) word) None)
  unfolding reset_effect
  reset_case m dt word = subst (P (Reset m dt word)) (sym (boots_starts w (boot start_cause.Power (store_at w m)) m (wide_at w m) (w.moment + dt) word None)) (resetting m dt word)

  pub does_cases : (e : Event) → P e (does w e)
  unfolding does
  does_cases (Tick m dt word) = tick_case m dt word (site w m).runs refl
  does_cases (Hear m dt word number) = on_case (Hear m dt word number) (site w m).runs _ (hear_case m dt word number (frame_at w number) refl)
  does_cases (Last from m dt word) =
      let d = heard_last w from m (w.moment + dt) word (last_frame w from) in
      on_case (Last from m dt word) (site w m).runs (if linked w from m then d else Refuses cause.Link)
      (cond_both (linked w from m) d (Refuses cause.Link) (P (Last from m dt word)) (λ _. last_case from m dt word (last_frame w from) refl) (λ _. refused (Last from m dt word) cause.Link))
  does_cases (Reset m dt word) = reset_case m dt word
  does_cases (Inject m image version dt word) =
      cond_both (knows (wide_at w m) image) (injects w m image version (w.moment + dt) word) (Refuses cause.Image) (P (Inject m image version dt word))
      (λ _. known_inject m image version dt word) (λ _. refused (Inject m image version dt word) cause.Image)
  does_cases (OrderEvent m number image version dt word) =
      cond_both (knows (wide_at w m) image) (orders w m (order_of number image version) (w.moment + dt) word) (Refuses cause.Image) (P (OrderEvent m number image version dt word))
      (λ _. order_case m number image version dt word (order_refusal (store_at w m) (order_of number image version)) refl) (λ _. refused (OrderEvent m number image version dt word) cause.Image)
  does_cases (Frame m dt word bytes) = frame_case (Frame m dt word bytes) m (w.moment + dt) word bytes (λ r at. framing m dt word bytes r at) (site w m).runs refl

pub all_sent : (ss : List Sent) → AllByRecursion (λ f. Unit {0}) ss
all_sent [] = tt
all_sent (s ∷ ss) = (tt, all_sent ss)

-- ---- the end of a step

-- the frame that is sent unless the power is cut
abbrev pub sent_unless : Bool → EventEffect → Option Message
sent_unless true d = None
sent_unless false d = d.sent

-- the world with another site at the mote of the step
abbrev pub ended_world : World → Step → EventEffect → Site → World
ended_world w x d y = with_site (record (counted w (dt_of x.event)) { table = d.table }) (mote_of x.event) y

-- the mote of an event after it: what holds of it there
abbrev pub EndsAs : (Bool → Site → Type 0) → Bool → World → Step → EventEffect → World → Type 0
EndsAs P b w x d v = (y : Site) × (v ≡ and_sent (ended_world w x d y) (mote_of x.event) (sent_unless b d)) × P b y

pub ends_as : (P : Bool → Site → Type 0) → ((s : Store) (room : ℕ) → P true (off_site s) → P true (off_site (record s { room = room })))
    → (w : World) (x : Step) (d : EventEffect) (v : World) (reports : List Report)
    → ((runs : Option Running) → d.runs ≡ Some runs → P false (record { store = last d.trail; runs = runs }))
    → Through (λ s. P true (off_site s)) d.trail
    → (b : Bool) → Ended b w x d v reports → EndsAs P b w x d v
ends_as P closed w x d v reports whole through false ended = (record { store = last d.trail; runs = ended.0 }, ended.2, whole ended.0 ended.1)
ends_as P closed w x d v reports whole through true ended =
    (off_site ended.store, ended.world, cut_holds (λ s. P true (off_site s)) closed d.trail (before_cut x.cut) ended.store through ended.allowed)
