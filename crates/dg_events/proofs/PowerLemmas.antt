-- Whether motes are on after an event, by its outcome.
use Rattle.std.proofs.Common.{◌≡◌, ◌≢◌, ◌⊎◌, inl, inr, ℕ, zero, suc, ◌+◌, ◌==◌, ◌<◌, ◌≤◌, Bool, true, false, cond, List, [], ◌∷◌, length, get_or, set, refl, ap, ◌∙◌, arith}
use Rattle.std.proofs.Common.{Option, Some, None, option_map}
use Rattle.std.specs.Prelude.{is_some, ◌||◌}
use Rattle.std.proofs.lemmas.List.{get_or-set_same, get_or-set_other}
use Rattle.dg_nor.specs.Trail.{Trail, last}
use Rattle.dg_control.specs.declared.snapshot.Order.{Order}
use Rattle.dg_object.specs.Object.{Row}
use Rattle.dg_volume.specs.Store.{Store}
use Rattle.dg_volume.specs.Start.{Runs, boot}
use Rattle.dg_volume.specs.Changes.{inject_refusal, order_refusal}
use Rattle.dg_volume.specs.Table.{row_at, with_row}
use Rattle.dg_volume.specs.Trails.{order_trail, inject_trail}
use Rattle.dg_volume.specs.declared.volume.InjectFault.{InjectFault}
use Rattle.dg_volume.specs.declared.volume.OrderFault.{OrderFault}
use Rattle.dg_volume.specs.declared.volume.StartCause.TheVariants as start
use Rattle.dg_frame.specs.declared.Message.{Message}
use Rattle.dg_mote.specs.Model.{MoteState, begun_mote}
use Rattle.dg_mote.specs.Effects.{Effect, boot_by, reset_effect, tick_effect, frame_effect}
use Rattle.dg_base.specs.declared.events.ImageVersion.{ImageVersion}
use Rattle.dg_base.specs.declared.events.Event.{Event}
use Rattle.dg_base.specs.declared.events.Event.TheVariants.{Tick, Hear, Last, Reset, Inject, Order as OrderEvent, Frame}
use Rattle.dg_base.specs.declared.events.Step.{Step}
use Rattle.dg_rules.specs.World.{World, Running, Site, Sent, no_site, site, store_at, wide_at, linked, frame_at, last_frame, with_site, counted}
use Rattle.dg_rules.specs.Events.{Does, Refuses, Goes, runs_by, of_effect, tick_does, hear_by, heard_sent, heard_last, unless_off, reloaded, acts}
use Rattle.dg_rules.specs.Events.{inject_unless, inject_row, order_unless, knows, injects, orders, does, mote_of, dt_of}
use Rattle.dg_rules.specs.Steps.{WorldStep, StepDoes, Ended, blows, and_sent}
use Rattle.dg_rules.specs.Runs.{ItemStep}
use Rattle.dg_script.specs.Items.{Applies}
use Rattle.dg_script.specs.declared.report.Cause.TheVariants as cause
use Rattle.dg_script.specs.declared.report.Report.{Report}
use Rattle.dg_events.specs.Told.{came_by, came_of, happened}
use Rattle.dg_events.specs.Counts.{has_started}
use Rattle.dg_events.specs.Uptimes.{is_on}
use Rattle.dg_events.specs.declared.told.Told.{Told}

-- a cut leaves the mote off, and a start leaves it on
abbrev pub on_by : Told → Bool → Bool
on_by told was = cond told.off false (cond (has_started told.started) true was)

-- what is not cut leaves the mote on where it starts, and else as it was
abbrev PowerOf : (was : Bool) → Does → Type 0
PowerOf was (Refuses why) = Unit {0}
PowerOf was (Goes d) = (runs : Option Running) → d.runs ≡ Some runs → is_some runs ≡ (is_some d.started || was)

none_some : {A : Type 0} (x : A) → None ≡ Some x → ⊥
none_some x e = absurd cc

is_there : {A : Type 0} (r : A) (runs : Option A) → Some (Some r) ≡ Some runs → is_some runs ≡ true
is_there r None e = absurd cc
is_there r (Some s) e = refl

is_same : {A : Type 0} (a runs : Option A) → Some a ≡ Some runs → is_some runs ≡ is_some a
is_same None None e = refl
is_same (Some a) None e = absurd cc
is_same None (Some b) e = absurd cc
is_same (Some a) (Some b) e = refl

pick : (was b : Bool) (x y : Does) → PowerOf was x → PowerOf was y → PowerOf was (cond b x y)
pick was true x y p q = p
pick was false x y p q = q

effect_on : (w : World) (e : Effect) (v : ImageVersion) → PowerOf true (of_effect w e (Some v))
effect_on w e v = by e.started e.mote
  where
    by : (started : Option Runs) (mote : Option MoteState) (runs : Option Running) → option_map (runs_by started (Some v)) mote ≡ Some runs
        → is_some runs ≡ (is_some started || true)
    by started None runs is = absurd (none_some runs is)
    by None (Some m) runs is = is_there (record { image_version = v; mote = m }) runs is
    by (Some r) (Some m) runs is =
        is_there (record { image_version = record { image = r.image; version = r.version }; mote = m }) runs is

reset_power : (w : World) (was : Bool) (s : Store) (id : ℕ) (wide : Bool) (now word : ℕ) → PowerOf was (of_effect w (reset_effect s id wide now word) None)
unfolding reset_effect
reset_power w was s id wide now word = by (boot start.Power s).runs
  where
    t : Trail Store
    t = (boot start.Power s).trail

    by : (o : Option Runs) (runs : Option Running)
        → option_map (runs_by (boot_by o t id wide now word).started None) (boot_by o t id wide now word).mote ≡ Some runs
        → is_some runs ≡ (is_some (boot_by o t id wide now word).started || was)
    by None runs is = absurd (none_some runs is)
    by (Some r) runs is =
        is_there (record { image_version = record { image = r.image; version = r.version }; mote = begun_mote id wide now word }) runs is

tick_power : (w : World) (s : Store) (r : Option Running) (now word : ℕ) → PowerOf (is_some r) (tick_does w s r now word)
tick_power w s None now word = tt
tick_power w s (Some r) now word = effect_on w (tick_effect r.mote s now word) r.image_version

hear_power : (w : World) (s : Store) (r : Option Running) (now word : ℕ) (bytes : List ℕ) → PowerOf (is_some r) (hear_by w s r now word bytes)
hear_power w s None now word bytes = tt
hear_power w s (Some r) now word bytes = effect_on w (frame_effect r.mote s now word bytes) r.image_version

sent_power : (w : World) (m now word : ℕ) (o : Option Sent) → PowerOf (is_on w m) (heard_sent w m now word o)
sent_power w m now word None = tt
sent_power w m now word (Some f) =
    pick (is_on w m) (linked w f.by m) (hear_by w (store_at w m) (site w m).runs now word f.bytes) (Refuses cause.Link)
    (hear_power w (store_at w m) (site w m).runs now word f.bytes) tt

last_power : (w : World) (from to now word : ℕ) (o : Option Sent) → PowerOf (is_on w to) (heard_last w from to now word o)
last_power w from to now word None = tt
last_power w from to now word (Some f) = hear_power w (store_at w to) (site w to).runs now word f.bytes

off_power : (was : Bool) (r : Option Running) (d : Does) → PowerOf was d → PowerOf was (unless_off r d)
off_power was None d p = tt
off_power was (Some r) d p = p

acts_power : (w : World) (m : ℕ) (t : Trail Store) (table : List Row) (now word : ℕ) → PowerOf (is_on w m) (acts w m t table now word)
acts_power w m t table now word = by (site w m).runs
  where
    by : (r runs : Option Running) → Some (reloaded r now word) ≡ Some runs → is_some runs ≡ (false || is_some r)
    by None runs is = is_same None runs is
    by (Some r) runs is = is_same (reloaded (Some r) now word) runs is

inject_power : (w : World) (m : ℕ) (o : Option Row) (now word : ℕ) → PowerOf (is_on w m) (inject_row w m o now word)
inject_power w m None now word = tt
inject_power w m (Some row) now word = by (inject_refusal (store_at w m) row)
  where
    by : (f : Option InjectFault) → PowerOf (is_on w m) (inject_unless f w m row now word)
    by (Some fault) = tt
    by None = acts_power w m (inject_trail (store_at w m) row) (with_row w.table row) now word

order_power : (w : World) (m : ℕ) (order : Order) (now word : ℕ) → PowerOf (is_on w m) (orders w m order now word)
order_power w m order now word = by (order_refusal (store_at w m) order)
  where
    by : (f : Option OrderFault) → PowerOf (is_on w m) (order_unless f w m order now word)
    by (Some fault) = tt
    by None = acts_power w m (order_trail (store_at w m) order) w.table now word

does_power : (w : World) (e : Event) → PowerOf (is_on w (mote_of e)) (does w e)
unfolding does
does_power w (Tick m dt word) = tick_power w (store_at w m) (site w m).runs (w.moment + dt) word
does_power w (Hear m dt word frame) =
    off_power (is_on w m) (site w m).runs (heard_sent w m (w.moment + dt) word (frame_at w frame))
    (sent_power w m (w.moment + dt) word (frame_at w frame))
does_power w (Last from to dt word) =
    off_power (is_on w to) (site w to).runs
    (cond (linked w from to) (heard_last w from to (w.moment + dt) word (last_frame w from)) (Refuses cause.Link))
    (pick (is_on w to) (linked w from to) (heard_last w from to (w.moment + dt) word (last_frame w from)) (Refuses cause.Link)
    (last_power w from to (w.moment + dt) word (last_frame w from)) tt)
does_power w (Reset m dt word) = reset_power w (is_on w m) (store_at w m) m (wide_at w m) (w.moment + dt) word
does_power w (Inject m image version dt word) =
    pick (is_on w m) (knows (wide_at w m) image) (injects w m image version (w.moment + dt) word) (Refuses cause.Image)
    (pick (is_on w m) (image == 0) (Refuses cause.Reserved) (inject_row w m (row_at w.declared image version) (w.moment + dt) word) tt
    (inject_power w m (row_at w.declared image version) (w.moment + dt) word)) tt
does_power w (OrderEvent m number image version dt word) =
    pick (is_on w m) (knows (wide_at w m) image)
    (orders w m (record { number = number; image = image; version = version }) (w.moment + dt) word) (Refuses cause.Image)
    (order_power w m (record { number = number; image = image; version = version }) (w.moment + dt) word) tt
does_power w (Frame m dt word bytes) = hear_power w (store_at w m) (site w m).runs (w.moment + dt) word bytes

-- ---- the mote of an event, and the others

set_far : {A : Type 0} (xs : List A) (i : ℕ) (y : A) → length xs ≤ i → set xs i y ≡ xs
set_far {A} [] i y far = refl
set_far {A} (x ∷ xs) zero y far = absurd (omega arith)
set_far {A} (x ∷ xs) (suc i) y far = ap (λ (t : List A). x ∷ t) (set_far xs i y (omega arith))

sent_on : (u : World) (m : ℕ) (o : Option Message) (k : ℕ) → is_on (and_sent u m o) k ≡ is_on u k
sent_on u m None k = refl
sent_on u m (Some message) k = refl

site_on : (w : World) (m : ℕ) (x : Site) → m < length w.sites → is_on (with_site w m x) m ≡ is_some x.runs
site_on w m x lt = ap (λ (s : Site). is_some s.runs) (get_or-set_same w.sites m x no_site lt)

site_other : (w : World) (m k : ℕ) (x : Site) → k ≢ m → is_on (with_site w m x) k ≡ is_on w k
site_other w m k x other = ap (λ (s : Site). is_some s.runs) (get_or-set_other w.sites m k x no_site other)

site_far : (w : World) (m k : ℕ) (x : Site) → length w.sites ≤ m → is_on (with_site w m x) k ≡ is_on w k
site_far w m k x far = ap (λ (xs : List Site). is_some (get_or xs k no_site).runs) (set_far w.sites m x far)

started_on : (started : Option Runs) (was : Bool) → (is_some started || was) ≡ on_by (came_by false started) was
started_on None was = refl
started_on (Some r) was = refl

step_here : (w v : World) (x : Step) (d : Does) (all : List Report) → PowerOf (is_on w (mote_of x.event)) d → StepDoes d w x v all
    → mote_of x.event < length w.sites → is_on v (mote_of x.event) ≡ on_by (came_of d x.cut) (is_on w (mote_of x.event))
step_here w v x (Refuses why) all power step lt = ap (λ (u : World). is_on u (mote_of x.event)) step.0
step_here w v x (Goes d) all power step lt = by (blows x.cut d.trail) step
  where
    m : ℕ
    m = mote_of x.event

    by : (b : Bool) → Ended b w x d v all → is_on v m ≡ on_by (came_by b d.started) (is_on w m)
    by true e =
        ap (λ (u : World). is_on u m) e.world
        ∙ site_on (record (counted w (dt_of x.event)) { table = d.table }) m (record { store = e.store; runs = None }) lt
    by false e =
        let u : World = with_site (record (counted w (dt_of x.event)) { table = d.table }) m (record { store = last d.trail; runs = e.0 }) in
        ap (λ (z : World). is_on z m) e.2 ∙ sent_on u m d.sent m
        ∙ site_on (record (counted w (dt_of x.event)) { table = d.table }) m (record { store = last d.trail; runs = e.0 }) lt
        ∙ power e.0 e.1 ∙ started_on d.started (is_on w m)

step_other : (w v : World) (x : Step) (d : Does) (all : List Report) (k : ℕ) → StepDoes d w x v all
    → (k ≢ mote_of x.event) ⊎ (length w.sites ≤ mote_of x.event) → is_on v k ≡ is_on w k
step_other w v x (Refuses why) all k step far = ap (λ (u : World). is_on u k) step.0
step_other w v x (Goes d) all k step far = by (blows x.cut d.trail) step
  where
    m : ℕ
    m = mote_of x.event

    base : World
    base = record (counted w (dt_of x.event)) { table = d.table }

    apart : (s : Site) → is_on (with_site base m s) k ≡ is_on w k
    apart s = elim far [ inl other ↦ site_other base m k s other | inr beyond ↦ site_far base m k s beyond ]

    by : (b : Bool) → Ended b w x d v all → is_on v k ≡ is_on w k
    by true e = ap (λ (u : World). is_on u k) e.world ∙ apart (record { store = e.store; runs = None })
    by false e =
        let s : Site = record { store = last d.trail; runs = e.0 } in
        ap (λ (z : World). is_on z k) e.2 ∙ sent_on (with_site base m s) m d.sent k ∙ apart s

world_here : (w v : World) (x : Step) (all : List Report) → WorldStep w x v all → mote_of x.event < length w.sites
    → is_on v (mote_of x.event) ≡ on_by (came_of (does w x.event) x.cut) (is_on w (mote_of x.event))
unfolding WorldStep
world_here w v x all step lt = step_here w v x (does w x.event) all (does_power w x.event) step lt

world_other : (w v : World) (x : Step) (all : List Report) (k : ℕ) → WorldStep w x v all
    → (k ≢ mote_of x.event) ⊎ (length w.sites ≤ mote_of x.event) → is_on v k ≡ is_on w k
unfolding WorldStep
world_other w v x all k step far = step_other w v x (does w x.event) all k step far

-- the mote of an event that was played is on or off by its outcome
pub item_here : (w v : World) (x : Step) (reported : Bool) (lines : List Report) → ItemStep w (Applies x reported) v lines
    → mote_of x.event < length w.sites → is_on v (mote_of x.event) ≡ on_by (happened w x).told (is_on w (mote_of x.event))
item_here w v x reported lines step lt = world_here w v x step.0 step.1 lt

-- and the others are as they were
pub item_other : (w v : World) (x : Step) (reported : Bool) (lines : List Report) (k : ℕ) → ItemStep w (Applies x reported) v lines
    → (k ≢ mote_of x.event) ⊎ (length w.sites ≤ mote_of x.event) → is_on v k ≡ is_on w k
item_other w v x reported lines k step far = world_other w v x step.0 k step.1 far
