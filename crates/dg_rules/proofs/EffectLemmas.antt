-- Every event and every step is legal.
use Rattle.std.proofs.Common.{◌≡◌, ◌⊎◌, ℕ, ◌+◌, ◌<◌, Bool, true, false, List, length, map, Option, Some, None, option_map, IfSome, refl, sym, ap, subst, subst₂, ◌∙◌, inl, inr, ⊎_elim, arith, leb-false}
use Rattle.std.proofs.lemmas.Bool.{cond_both}
use Rattle.std.proofs.lemmas.List.{map-set}
use Rattle.std.specs.Prelude.{nat_le, slice_set}
use Rattle.dg_nor.specs.Trail.{Trail, last}
use Rattle.dg_nor.specs.Through.{Through}
use Rattle.dg_nor.proofs.ThroughLemmas.{Through-stepping, Through-last}
use Rattle.dg_control.specs.Store.{commit_operations}
use Rattle.dg_control.specs.declared.snapshot.Order.{Order}
use Rattle.dg_object.specs.Object.{Row}
use Rattle.dg_slot.specs.Kept.{Held}
use Rattle.dg_volume.specs.Store.{Store, held}
use Rattle.dg_volume.specs.Changes.{ordered, inject_refusal, order_refusal}
use Rattle.dg_volume.specs.Trails.{order_trail, inject_trail}
use Rattle.dg_volume.specs.Start.{Runs, boot, order_waits, kept_runs}
use Rattle.dg_volume.specs.Table.{row_at, with_row}
use Rattle.dg_volume.specs.declared.volume.StartCause.TheVariants as cause
use Rattle.dg_volume.specs.declared.volume.OrderFault.{OrderFault}
use Rattle.dg_volume.specs.declared.volume.OrderFault.TheVariants as order_fault
use Rattle.dg_frame.specs.Grammar.{message_of}
use Rattle.dg_frame.specs.declared.Message.{Message}
use Rattle.dg_mote.specs.Model.{MoteState, begun_mote}
use Rattle.dg_mote.specs.Ticks.{tick_of}
use Rattle.dg_mote.specs.Hears.{heard_of}
use Rattle.dg_mote.specs.Changes.{MayClear, IfReceives}
use Rattle.dg_base.specs.declared.events.ImageVersion.{ImageVersion}
use Rattle.dg_rules.specs.World.{World, Site, Running, Sent, site, store_at, is_wide_mote, wide_at, counted, frame_at, last_frame}
use Rattle.dg_rules.specs.Small.{Holding, SmallMote, holding, app_image_version, running_image_version, small_mote, Small, small, holds, whole}
use Rattle.dg_rules.specs.Events.{EventEffect, Does, Refuses, Goes, IsTaken, does, mote_of, dt_of, image_version_of, reloaded, acts}
use Rattle.dg_rules.specs.Steps.{blows, and_sent, StepDoes, WorldStep}
use Rattle.dg_script.specs.Ranges.{EventInRange, StepInRange}
use Rattle.dg_rules.specs.Premises.{RunsWell, WorldAgrees, TrueEvent}
use Rattle.dg_rules.specs.Legal.{Past, Came, MayInject, CutHolding, LegalInject, SmallIsOn, MayStart, OrdersWholeRow, CutStart, LegalFrame, LegalMessage, LegalAt, LegalStep, taking, off_after, step_facts}
use Rattle.dg_rules.specs.Past.{brought}
use Rattle.dg_rules.specs.Promises.{LegalDoes}
use Rattle.dg_base.specs.declared.events.Event.{Event}
use Rattle.dg_base.specs.declared.events.Event.TheVariants.{Tick, Hear, Last, Reset, Inject, Order as OrderEvent, Frame}
use Rattle.dg_base.specs.declared.events.Step.{Step}
use Rattle.dg_script.specs.declared.report.Report.{Report}
use Rattle.dg_rules.proofs.ThroughLemmas.{Through-map, Through-each}
use Rattle.dg_rules.proofs.SiteLemmas.{small_at, small_there, small_other, small_count}
use Rattle.dg_rules.proofs.BootLemmas.{IsSettled, boot_start}
use Rattle.dg_rules.proofs.InjectLemmas.{OnInject, may_inject, inject_way, inject_way_last, inject_whole, refused_not}
use Rattle.dg_rules.proofs.EventLemmas.{order_of, running_by, starts, goes_on, hearing_of, hears, does_cases, all_sent, EndsAs, ended_world, sent_unless, ends_as}
use Rattle.dg_rules.proofs.AgreementLemmas.{Injected, injected, same_running, running_at}
use Rattle.dg_rules.proofs.AgreementSteps.{step_within}
use Rattle.dg_rules.proofs.StepLemmas.{LandsDoes, step_sites}
use Rattle.dg_rules.proofs.ChangesLemmas.{StepLaws}
use Rattle.dg_rules.proofs.LegalLemmas.{mote, holds_at, legal_start, chosen_start, cut_start, tick_starts, tick_start, tick_waits}
use Rattle.dg_rules.proofs.MessageLemmas.{AllThere}
use Rattle.dg_rules.proofs.HeardLemmas.{IsCalm, calm_settled, tick_calm, clear_small, heard_ends}

-- a mote that is on has no room left if its third short start is counted
abbrev pub WorldSettled : World → Type 0
WorldSettled w = (m : ℕ) → m < length w.sites → IfSome (site w m).runs (λ r. IsSettled (store_at w m))

-- the packets of the page that a mote asks for came to it since its last start
abbrev pub CameTo : Past → ℕ → (wide : Bool) → Site → Type 0
CameTo past m wide x = IfSome x.runs (λ r. IfReceives (AllThere m wide past) r.mote.mode)

-- where these motes are narrow
abbrev pub CameBy : Past → (narrow : List Bool) → World → Type 0
CameBy past narrow w = (m : ℕ) → m < length w.sites → CameTo past m (is_wide_mote narrow m) (site w m)

abbrev pub WorldCame : Past → World → Type 0
WorldCame past w = CameBy past w.narrow w

-- what an event that brings this frame may do at mote m
pub record LegalEffect (past : Past) (w : World) (m : ℕ) (frame : Option (List ℕ)) (e : Event) (d : EventEffect) : Type 0 where
  pub whole : (runs : Option Running) → d.runs ≡ Some runs → LegalAt (step_facts past w.declared false (wide_at w m) frame) w.table e (small_mote (site w m)) (mote (last d.trail) runs) d.table
  pub cut : Through (λ s. LegalAt (step_facts past w.declared true (wide_at w m) frame) w.table e (small_mote (site w m)) (mote s None) d.table) d.trail
  pub settled : (runs : Option Running) → d.runs ≡ Some runs → IfSome runs (λ r. IsSettled (last d.trail))

abbrev pub LegalEffectDoes : Past → World → Event → Does → Type 0
LegalEffectDoes past w e (Refuses why) = Unit {0}
LegalEffectDoes past w e (Goes d) = LegalEffect past w (mote_of e) (brought w e) e d

same_runs : (a b : Runs) → Some a ≡ Some b → a ≡ b
same_runs a b e = cc

if_any : (P : Type 0) (o : Option Running) → P → IfSome o (λ r. P)
if_any P None p = tt
if_any P (Some r) p = p

if_on : (P Q : Type 0) (old new : Option Running) → (new ≡ None → old ≡ None) → (old ≡ None → new ≡ None) → (P → Q) → IfSome old (λ r. P) → IfSome new (λ r. Q)
if_on P Q None None a b f p = tt
if_on P Q None (Some r) a b f p = absurd (let e = b refl in cc)
if_on P Q (Some q) None a b f p = tt
if_on P Q (Some q) (Some r) a b f p = f p

started : (o : Option Runs) (id : ℕ) (wide : Bool) (now word : ℕ) (runs : Option Running) → running_by o id wide now word ≡ Some runs → (r : Runs) × (o ≡ Some r) × (runs ≡ Some (record { image_version = image_version_of r; mote = begun_mote id wide now word }))
started None id wide now word runs e = absurd cc
started (Some r) id wide now word runs e = (r, refl, sym (same_running (Some (record { image_version = image_version_of r; mote = begun_mote id wide now word })) runs e))

larger : (s : Store) (order : Order) → order_refusal s order ≡ None → s.order.number < order.number
larger s order e =
    cond_both (nat_le order.number s.order.number) (Some (order_fault.OldOrder s.order.number)) _ (λ (o : Option OrderFault). o ≡ None → s.order.number < order.number)
    (λ _ f. cc) (λ low _. leb-false order.number s.order.number low) e

-- a mote continues with the image version that it ran
same_running_version : (t : Store) (a b : Option Running) → running_image_version a ≡ running_image_version b → mote t a ≡ mote t b
same_running_version t a b e = λ j. record { holdings = (mote t a).holdings; app = (mote t a).app; order = t.order; runs = e j }

reloaded_version : (o : Option Running) (now word : ℕ) → running_image_version (reloaded o now word) ≡ running_image_version o
reloaded_version None now word = refl
reloaded_version (Some r) now word = refl

reloaded_none : (o : Option Running) (now word : ℕ) → reloaded o now word ≡ None → o ≡ None
reloaded_none None now word e = refl
reloaded_none (Some r) now word e = absurd cc

none_reloaded : (o : Option Running) (now word : ℕ) → o ≡ None → reloaded o now word ≡ None
none_reloaded None now word e = refl
none_reloaded (Some r) now word e = absurd cc

-- one holding is replaced
inject_small : (x : Site) (row : Row) (image : ℕ) (t : Store) (way : OnInject x.store row t) (runs then : Option Running) → row.image ≡ image → running_image_version runs ≡ running_image_version then
    → mote t runs ≡ record (taking (small_mote x) image (option_map holding way.here)) { runs = running_image_version then }
inject_small x row image t way runs then image_is runs_is =
    let f : Option Held → Option Holding = option_map holding in
    let h = f way.here in
    let holdings : map f t.kept ≡ slice_set (map f x.store.kept) image h = ap (map f) way.kept ∙ map-set f x.store.kept row.image way.here ∙ ap (λ (i : ℕ). slice_set (map f x.store.kept) i h) image_is in
    λ j. record { holdings = holdings j; app = option_map app_image_version (way.app j); order = way.order j; runs = runs_is j }

module _ (laws : StepLaws) (past : Past) (w : World) (agrees : WorldAgrees w) (settled : WorldSettled w) (came : WorldCame past w) where
  is_on : (m : ℕ) (r : Running) → (site w m).runs ≡ Some r → SmallIsOn (small_mote (site w m))
  is_on m r on = (r.image_version, ap running_image_version on)

  settled_here : (m : ℕ) (r : Running) → (site w m).runs ≡ Some r → m < length w.sites → IsSettled (store_at w m)
  settled_here m r on here = running_at (λ q. IsSettled (store_at w m)) (site w m).runs r on (settled m here)

  one_settled : (r : Running) (runs : Option Running) (t : Store) → IsSettled t → IfSome runs (λ q. IsSettled t)
  one_settled r runs t s = if_any (IsSettled t) runs s

  -- it continues with the image version that it ran
  on_version : (m : ℕ) (r : Running) (n : MoteState) (runs : Option Running) → (site w m).runs ≡ Some r → ◌≡◌ {A = Option (Option Running)} (Some (Some (record { image_version = r.image_version; mote = n }))) (Some runs)
      → running_image_version runs ≡ running_image_version (site w m).runs
  on_version m r n runs on e = ap running_image_version (sym (same_running (Some (record { image_version = r.image_version; mote = n })) runs e)) ∙ sym (ap running_image_version on)

  -- nothing of the small state changes, except that the mote is off
  stays_cut : (may : ImageVersion → Type 0) (x : Site) (s : Store) → mote s None ≡ record (small_mote x) { runs = None } → CutStart may (small_mote x) (mote s None)
  stays_cut may x s same = record { app = (small_mote x).app; how = inl refl; change = same }

  -- ---- ticks

  tick_legal : (m dt word : ℕ) (r : Running) → (site w m).runs ≡ Some r → m < length w.sites
      → LegalEffectDoes past w (Tick m dt word) (let step = tick_of r.mote (store_at w m) (w.moment + dt) word in goes_on w step.trail step.sent r.image_version step.mote)
  tick_legal m dt word r on here =
      let x = site w m in
      let s = x.store in
      let now = w.moment + dt in
      let step = tick_of r.mote s now word in
      let t = step.trail in
      let way = laws.changes.ticks r.mote s now word in
      record {
        whole = λ runs e. (is_on m r on, inl (clear_small x (last t) runs (Through-last (MayClear s) t way) ∙ same_running_version s runs x.runs (on_version m r step.mote runs on e)), refl);
        cut = Through-map (MayClear s) (λ q. LegalAt (step_facts past w.declared true (wide_at w m) None) w.table (Tick m dt word) (small_mote x) (mote q None) w.table)
            (λ q may. (is_on m r on, stays_cut (OrdersWholeRow w.table (small_mote x)) x q (clear_small x q None may), refl)) t way;
        settled = λ runs e. one_settled r runs (last t) (calm_settled s (last t) (tick_calm laws.changes r.mote s now word) (settled_here m r on here));
      }

  start_tick_legal : (m dt word : ℕ) (r : Running) → (site w m).runs ≡ Some r → order_waits (store_at w m) ≡ true → m < length w.sites
      → LegalEffectDoes past w (Tick m dt word) (starts w (boot cause.Order (store_at w m)) r.mote.id r.mote.wide (w.moment + dt) word)
  start_tick_legal m dt word r on waits here =
      let x = site w m in
      let s = x.store in
      let now = w.moment + dt in
      let b = boot cause.Order s in
      let ends = laws.ends in
      let old = (agrees.sites m here).store.agrees in
      let q = kept_runs s s.order.image s.order.version in
      let n = begun_mote r.mote.id r.mote.wide now word in
      let May : ImageVersion → Type 0 = OrdersWholeRow w.table (small_mote x) in
      let chosen : b.runs ≡ Some q = tick_starts ends w.table x old agrees.table laws.rows waits (settled_here m r on here) in
      let is : (runs : Option Running) → running_by b.runs r.mote.id r.mote.wide now word ≡ Some runs → Some (record { image_version = image_version_of q; mote = n }) ≡ runs =
      λ runs e. same_running (Some (record { image_version = image_version_of q; mote = n })) runs (ap (λ (o : Option Runs). running_by o r.mote.id r.mote.wide now word) (sym chosen) ∙ e) in
      record {
        whole = λ runs e.
            subst (λ (o : Option Running). LegalAt (step_facts past w.declared false (wide_at w m) None) w.table (Tick m dt word) (small_mote x) (mote (last b.trail) o) w.table) (is runs e)
            (is_on m r on, tick_start ends w.table x old n waits chosen, refl);
        cut = Through-map (λ t. CutStart May (small_mote x) (mote t None)) (λ t. LegalAt (step_facts past w.declared true (wide_at w m) None) w.table (Tick m dt word) (small_mote x) (mote t None) w.table)
            (λ t c. (is_on m r on, c, refl)) b.trail
            (cut_start ends w.table x old cause.Order May (λ c e. subst (λ (y : Runs). May (image_version_of y)) (same_runs q c (sym chosen ∙ e)) (tick_waits ends w.table x old waits)));
        settled = λ runs e. if_any (IsSettled (last b.trail)) runs ((boot_start cause.Order s).settled q chosen);
      }

  reset_legal : (m dt word : ℕ) → m < length w.sites → LegalEffectDoes past w (Reset m dt word) (starts w (boot cause.Power (store_at w m)) m (wide_at w m) (w.moment + dt) word)
  reset_legal m dt word here =
      let x = site w m in
      let s = x.store in
      let now = w.moment + dt in
      let b = boot cause.Power s in
      let ends = laws.ends in
      let old = (agrees.sites m here).store.agrees in
      record {
        whole = λ runs e. let g = started b.runs m (wide_at w m) now word runs e in
            subst (λ (o : Option Running). LegalAt (step_facts past w.declared false (wide_at w m) None) w.table (Reset m dt word) (small_mote x) (mote (last b.trail) o) w.table) (sym g.2)
            (legal_start ends w.table x old cause.Power g.0 (begun_mote m (wide_at w m) now word) g.1, refl);
        cut = Through-map (λ t. CutStart (MayStart w.table (small_mote x)) (small_mote x) (mote t None)) (λ t. LegalAt (step_facts past w.declared true (wide_at w m) None) w.table (Reset m dt word) (small_mote x) (mote t None) w.table)
            (λ t c. (c, refl)) b.trail (cut_start ends w.table x old cause.Power (MayStart w.table (small_mote x)) (chosen_start ends w.table x old cause.Power));
        settled = λ runs e. let g = started b.runs m (wide_at w m) now word runs e in if_any (IsSettled (last b.trail)) runs ((boot_start cause.Power s).settled g.0 g.1);
      }

  -- ---- frames

  module _ (m dt word : ℕ) (bytes : List ℕ) (r : Running) (on : (site w m).runs ≡ Some r) (here : m < length w.sites) where
    abbrev Listener : Site
    Listener = site w m

    abbrev Now : ℕ
    Now = w.moment + dt

    abbrev Heard : Trail Store
    Heard = (heard_of r.mote Listener.store Now word bytes).trail

    -- what an event that brings the frame may change
    abbrev Brought : Bool → SmallMote → Type 0
    Brought fired new = SmallIsOn (small_mote Listener) × (mid : SmallMote) × LegalFrame past fired m (wide_at w m) (Some bytes) (small_mote Listener) mid × (new ≡ off_after fired mid) × (w.table ≡ w.table)

    record Hears : Type 0 where
      pub whole : (runs : Option Running) → ◌≡◌ {A = Option (Option Running)} (Some (Some (record { image_version = r.image_version; mote = (heard_of r.mote Listener.store Now word bytes).mote }))) (Some runs) → Brought false (mote (last Heard) runs)
      pub cut : Through (λ s. Brought true (mote s None)) Heard
      pub calm : (runs : Option Running) → IfSome runs (λ q. IsSettled (last Heard))

    hears_legal : Hears
    hears_legal =
        let known = running_at (λ q. RunsWell w.table m (wide_at w m) w.moment Listener.store q) Listener.runs r on (agrees.sites m here).runs in
        let there = running_at (λ q. IfReceives (AllThere m (wide_at w m) past) q.mote.mode) Listener.runs r on (came m here) in
        let ends = heard_ends laws.changes w.table past m Listener r.mote (wide_at w m) known.wide_is Now word bytes known.well.mode there in
        let n = (heard_of r.mote Listener.store Now word bytes).mote in
        record {
          whole = λ runs e. (is_on m r on, mote (last Heard) Listener.runs, ends.whole.0, same_running_version (last Heard) runs Listener.runs (on_version m r n runs on e), refl);
          cut = Through-map (λ t. LegalMessage (Came m bytes past) true m (wide_at w m) (message_of bytes (wide_at w m)) (small_mote Listener) (mote t Listener.runs) × IsCalm Listener.store t) (λ s. Brought true (mote s None))
              (λ t may. (is_on m r on, mote t Listener.runs, may.0, refl, refl)) Heard ends.cut;
          calm = λ runs. if_any (IsSettled (last Heard)) runs (calm_settled Listener.store (last Heard) ends.whole.1 (settled_here m r on here));
        }

  hear_legal : (m dt word number : ℕ) (f : Sent) (r : Running) → (site w m).runs ≡ Some r → frame_at w number ≡ Some f → m < length w.sites
      → LegalEffectDoes past w (Hear m dt word number) (hears w m (w.moment + dt) word f.bytes r)
  hear_legal m dt word number f r on at here =
      let h = hears_legal m dt word f.bytes r on here in
      subst (λ (frame : Option (List ℕ)). LegalEffect past w m frame (Hear m dt word number) (hearing_of w m (w.moment + dt) word f.bytes r)) (sym (ap (option_map (λ (g : Sent). g.bytes)) at))
      (record { whole = λ runs same. h.whole runs same; cut = h.cut; settled = λ runs same. h.calm runs })

  last_legal : (from m dt word : ℕ) (f : Sent) (r : Running) → (site w m).runs ≡ Some r → last_frame w from ≡ Some f → m < length w.sites
      → LegalEffectDoes past w (Last from m dt word) (hears w m (w.moment + dt) word f.bytes r)
  last_legal from m dt word f r on at here =
      let h = hears_legal m dt word f.bytes r on here in
      subst (λ (frame : Option (List ℕ)). LegalEffect past w m frame (Last from m dt word) (hearing_of w m (w.moment + dt) word f.bytes r)) (sym (ap (option_map (λ (g : Sent). g.bytes)) at))
      (record { whole = λ runs same. h.whole runs same; cut = h.cut; settled = λ runs same. h.calm runs })

  frame_legal : (m dt word : ℕ) (bytes : List ℕ) (r : Running) → (site w m).runs ≡ Some r → m < length w.sites → LegalEffectDoes past w (Frame m dt word bytes) (hears w m (w.moment + dt) word bytes r)
  frame_legal m dt word bytes r on here =
      let h = hears_legal m dt word bytes r on here in
      record { whole = λ runs same. h.whole runs same; cut = h.cut; settled = λ runs same. h.calm runs }

  -- ---- orders

  -- the store of a mote that continues with its new volume
  reload_settled : (m now word : ℕ) (t : Store) (runs : Option Running) → m < length w.sites → (IsSettled (store_at w m) → IsSettled t) → Some (reloaded (site w m).runs now word) ≡ Some runs → IfSome runs (λ r. IsSettled t)
  reload_settled m now word t runs here f e =
      let o = (site w m).runs in
      let is = same_running (reloaded o now word) runs e in
      if_on (IsSettled (store_at w m)) (IsSettled t) o runs (λ none. reloaded_none o now word (is ∙ none)) (λ none. sym is ∙ none_reloaded o now word none) f (settled m here)

  reload_version : (m now word : ℕ) (runs : Option Running) → Some (reloaded (site w m).runs now word) ≡ Some runs → running_image_version runs ≡ running_image_version (site w m).runs
  reload_version m now word runs e = ap running_image_version (sym (same_running (reloaded (site w m).runs now word) runs e)) ∙ reloaded_version (site w m).runs now word

  order_legal : (m number image version dt word : ℕ) → order_refusal (store_at w m) (order_of number image version) ≡ None → m < length w.sites
      → LegalEffectDoes past w (OrderEvent m number image version dt word) (acts w m (order_trail (store_at w m) (order_of number image version)) w.table (w.moment + dt) word)
  unfolding Rattle.dg_nor.specs.Trail.last_of
  order_legal m number image version dt word none here =
      let s = store_at w m in
      let x = site w m in
      let order = order_of number image version in
      let t = ordered s order in
      let more = larger s order none in
      let mid : SmallMote = record (small_mote x) { order = order } in
      record {
        whole = λ runs e. (mid, record { larger = more; change = inl refl }, same_running_version t runs x.runs (reload_version m (w.moment + dt) word runs e), refl);
        cut = Through-stepping (λ q. LegalAt (step_facts past w.declared true (wide_at w m) None) w.table (OrderEvent m number image version dt word) (small_mote x) (mote q None) w.table) s (commit_operations s.room) t
            (small_mote x, record { larger = more; change = inr (refl, refl) }, refl, refl)
            (mid, record { larger = more; change = inl refl }, refl, refl);
        settled = λ runs e. reload_settled m (w.moment + dt) word t runs here (λ old three. let empty : s.room ≡ 0 = old three in omega (arith, empty)) e;
      }

  -- ---- injections

  module _ (m image version dt word : ℕ) (row : Row) (known : row_at w.declared image version ≡ Some row) (none : inject_refusal (store_at w m) row ≡ None) (here : m < length w.sites)
      (same : (kept : Row) → row_at w.table image version ≡ Some kept → kept ≡ row) where
    abbrev Here : Site
    Here = site w m

    abbrev More : List Row
    More = with_row w.table row

    fact : Injected w agrees m image version row
    fact = injected w agrees m image version row here known same

    held_old : holds (small_mote Here) image ≡ option_map holding (held Here.store row.image)
    held_old = holds_at Here image ∙ ap (λ (i : ℕ). option_map holding (held Here.store i)) (sym fact.image_is)

    inject_is_legal : (fired : Bool) (h : Option Holding) → ((fired ≡ false) × (h ≡ Some (whole row))) ⊎ ((fired ≡ true) × CutHolding (option_map holding (held Here.store row.image)) row h)
        → LegalInject w.declared w.table More fired (record { image = image; version = version }) (small_mote Here) (taking (small_mote Here) image h)
    inject_is_legal fired h how = record {
      known = let low = (refused_not Here.store row none).0 in let same = fact.image_is in omega (arith, low, same);
      row = row;
      is_declared = known;
      table_after = refl;
      before = subst (λ (o : Option Holding). MayInject o row) (sym held_old) (may_inject More Here.store row fact.in_table fact.within fact.agrees_more none);
      held = h;
      change = refl;
      how = ⊎_elim (λ done. inl done) (λ part. inr (part.0, subst (λ (o : Option Holding). CutHolding o row h) (sym held_old) part.1)) how;
    }

    inject_legal : LegalEffectDoes past w (Inject m image version dt word) (acts w m (inject_trail (store_at w m) row) (with_row w.table row) (w.moment + dt) word)
    inject_legal =
        let s = Here.store in
        let t = last (inject_trail s row) in
        let way = inject_way_last More s row fact.in_table fact.within fact.agrees_more none in
        record {
          whole = λ runs e. (
            taking (small_mote Here) image (option_map holding way.here),
            inject_is_legal false (option_map holding way.here) (inl (refl, inject_whole More s row fact.in_table fact.within fact.agrees_more none)),
            inject_small Here row image t way runs Here.runs fact.image_is (reload_version m (w.moment + dt) word runs e),
          );
          cut = Through-map (OnInject s row) (λ q. LegalAt (step_facts past w.declared true (wide_at w m) None) w.table (Inject m image version dt word) (small_mote Here) (mote q None) More)
              (λ q on. (
                taking (small_mote Here) image (option_map holding on.here),
                inject_is_legal true (option_map holding on.here) (inr (refl, on.how)),
                inject_small Here row image q on None None fact.image_is refl,
              ))
              (inject_trail s row) (inject_way More s row fact.in_table fact.within fact.agrees_more none);
          settled = λ runs e. reload_settled m (w.moment + dt) word t runs here (λ old three. let empty : s.room ≡ 0 = old (sym way.gesture ∙ three) in let less = way.room in omega (arith, empty, less)) e;
        }

  -- ---- every event

  legal_effect : (e : Event) → EventInRange (length w.sites) e → TrueEvent w e → LegalEffectDoes past w e (does w e)
  legal_effect e fits honest =
      does_cases laws.restarts w (λ f. Unit {0}) (all_sent w.sent) (λ e D. does w e ≡ D → EventInRange (length w.sites) e → TrueEvent w e → LegalEffectDoes past w e D)
      (λ e why same fits honest. tt)
      (λ m dt word r on same fits honest. tick_legal m dt word r on fits)
      (λ m dt word r on waits same fits honest. start_tick_legal m dt word r on waits fits)
      (λ m dt word same fits honest. reset_legal m dt word fits)
      (λ m dt word number f r on at q same fits honest. hear_legal m dt word number f r on at fits.0)
      (λ from m dt word f r on at q same fits honest. last_legal from m dt word f r on at fits.second)
      (λ m dt word bytes r on same fits honest. frame_legal m dt word bytes r on fits.0)
      (λ m image version dt word row known none same fits honest. inject_legal m image version dt word row known none fits.0 (λ kept e. honest (subst IsTaken (sym same) tt) row kept known e))
      (λ m number image version dt word none same fits honest. order_legal m number image version dt word none fits.0)
      e refl fits honest

  -- ---- every step

  legal_world : (x : Step) (d : EventEffect) (y : Site) (fired : Bool) → mote_of x.event < length w.sites
      → LegalAt (step_facts past w.declared fired (wide_at w (mote_of x.event)) (brought w x.event)) w.table x.event (small_mote (site w (mote_of x.event))) (small_mote y) d.table
      → LegalStep (step_facts past w.declared fired (wide_at w (mote_of x.event)) (brought w x.event)) x.event (mote_of x.event) (small w) (small (ended_world w x d y))
  legal_world x d y fired here there =
      let m = mote_of x.event in
      let mid : World = record (counted w (dt_of x.event)) { table = d.table } in
      record {
        there = subst₂ (λ (a b : SmallMote). LegalAt (step_facts past w.declared fired (wide_at w (mote_of x.event)) (brought w x.event)) w.table x.event a b d.table) (sym (small_at w m)) (sym (small_there mid m y here)) there;
        others = λ j other. small_other mid m j y other;
        count = small_count mid m y;
      }

  sent_small : (u : World) (m : ℕ) (o : Option Message) → small (and_sent u m o) ≡ small u
  sent_small u m None = refl
  sent_small u m (Some message) = refl

  module _ (x : Step) (v : World) (reports : List Report) (fits : StepInRange (length w.sites) x) (honest : TrueEvent w x.event) where
    step_legal_by : (D : Does) → LegalEffectDoes past w x.event D → StepDoes D w x v reports → LegalDoes D past w x v
    step_legal_by (Refuses why) g did = ap small did.0
    step_legal_by (Goes d) g did =
        let m = mote_of x.event in
        let b = blows x.cut d.trail in
        let P : Bool → Site → Type 0 = λ b y. LegalAt (step_facts past w.declared b (wide_at w m) (brought w x.event)) w.table x.event (small_mote (site w m)) (small_mote y) d.table in
        let end : EndsAs P b w x d v = ends_as P (λ s room p. p) w x d v reports g.whole g.cut b did in
        subst (λ (u : Small). LegalStep (step_facts past w.declared b (wide_at w m) (brought w x.event)) x.event m (small w) u)
        (sym (ap small end.1 ∙ sent_small (ended_world w x d end.0) m (sent_unless b d)))
        (legal_world x d end.0 b (step_within w x fits) end.2)

    pub step_legal : WorldStep w x v reports → LegalDoes (does w x.event) past w x v
    unfolding WorldStep
    step_legal did = step_legal_by (does w x.event) (legal_effect x.event fits.event honest) did

    settled_lands : (D : Does) → LegalEffectDoes past w x.event D → LandsDoes (λ b y. IfSome y.runs (λ r. IsSettled y.store)) D
    settled_lands (Refuses why) g = tt
    settled_lands (Goes d) g = record { whole = g.settled; cut = Through-each (λ s. Unit {0}) (λ s. tt) d.trail }

    pub step_settled : WorldStep w x v reports → WorldSettled v
    step_settled did =
        step_sites w x v reports fits (λ b y. IfSome y.runs (λ r. IsSettled y.store)) (λ j y. IfSome y.runs (λ r. IsSettled y.store)) (λ s room p. tt) (λ b y p. p) settled
        (settled_lands (does w x.event) (legal_effect x.event fits.event honest)) did
