-- The `have` and `lost` lines of an event say what its mote keeps after it.
use Rattle.std.proofs.Common.{◌≡◌, ℕ, ◌+◌, ◌<◌, ◌≤◌, Bool, true, false, cond, List, [], ◌∷◌, ◌++◌, length, refl, sym, ap, subst, ◌∙◌, arith}
use Rattle.std.specs.Prelude.{Option, Some, None, zero, suc}
use Rattle.std.specs.List.{AllByRecursion, cons_option, filter, filter_map, range_with_len}
use Rattle.std.proofs.lemmas.List.{get_or-set_same}
use Rattle.dg_slot.specs.Kept.{Held}
use Rattle.dg_volume.specs.Sizes.{images}
use Rattle.dg_volume.specs.Store.{Store, held}
use Rattle.dg_volume.specs.Start.{Runs}
use Rattle.dg_control.specs.declared.snapshot.Order.{Order}
use Rattle.dg_mote.specs.Summary.{same_order}
use Rattle.dg_nor.specs.Trail.{last}
use Rattle.dg_frame.specs.declared.Message.{Message}
use Rattle.dg_frame.specs.declared.Message.TheVariants.{Advert, Request, Packet, Wide}
use Rattle.dg_base.specs.declared.events.Cut.{Cut}
use Rattle.dg_base.specs.declared.events.Event.{Event}
use Rattle.dg_base.specs.declared.events.Step.{Step}
use Rattle.dg_rules.specs.World.{World, Site, store_at, no_site, with_site, counted}
use Rattle.dg_rules.specs.Events.{EventEffect, Does, Refuses, Goes, does, mote_of, dt_of}
use Rattle.dg_rules.specs.Steps.{blows, and_sent, done_reports, Ended, StepDoes, WorldStep}
use Rattle.dg_rules.specs.Changes.{order_change, same_held, have_change, changes, start_line, sent_line, is_reported}
use Rattle.dg_rules.specs.Runs.{Played, ItemStep}
use Rattle.dg_script.specs.Items.{Item, Applies}
use Rattle.dg_script.specs.declared.report.Report.{Report}
use Rattle.dg_script.specs.declared.report.Report.TheVariants.{Order as OrderLine, Have, Off}
use Rattle.dg_events.specs.Noted.{IsEventPlayed}
use Rattle.dg_events.specs.Keeps.{HaveTells}

abbrev Tell : ℕ → Store → List Report → Type 0
Tell m s lines = AllByRecursion (HaveTells m s) lines

tell_both : (m : ℕ) (s : Store) (xs ys : List Report) → Tell m s xs → Tell m s ys → Tell m s (xs ++ ys)
tell_both m s [] ys a b = b
tell_both m s (x ∷ xs) ys a b = (a.0, tell_both m s xs ys a.1 b)

tell_some : (m : ℕ) (s : Store) (test : Report → Bool) (xs : List Report) → Tell m s xs → Tell m s (filter test xs)
tell_some m s test [] a = tt
tell_some m s test (x ∷ xs) a = by (test x) (tell_some m s test xs a.1)
  where
    by : (b : Bool) → Tell m s (filter test xs) → Tell m s (cond b (x ∷ filter test xs) (filter test xs))
    by true rest = (a.0, rest)
    by false rest = rest

-- ---- the lines of what changed

abbrev MayTell : ℕ → Store → Option Report → Type 0
MayTell m s None = Unit {0}
MayTell m s (Some line) = HaveTells m s line

cons_tells : (m : ℕ) (s : Store) (o : Option Report) (rest : List Report) → MayTell m s o → Tell m s rest → Tell m s (cons_option o rest)
cons_tells m s None rest may all = all
cons_tells m s (Some line) rest may all = (may, all)

have_tells : (m i : ℕ) (s : Store) (o n : Option Held) → i < images → held s i ≡ n → MayTell m s (have_change m i o n)
have_tells m i s None None lt is = tt
have_tells m i s (Some old) None lt is = (refl, lt, is)
have_tells m i s o (Some new) lt is = by (same_held o new)
  where
    by : (b : Bool) → MayTell m s (cond b None (Some (Have m i new.version (length new.complete))))
    by true = tt
    by false = (refl, record { known = lt; kept = new; is = is; version_is = refl; done_is = refl })

haves_tell : (m : ℕ) (old new : Store) (a n : ℕ) → a + n ≤ images
    → Tell m new (filter_map (λ (i : ℕ). have_change m i (held old i) (held new i)) (range_with_len a n))
haves_tell m old new a zero few = tt
haves_tell m old new a (suc n) few =
    cons_tells m new (have_change m a (held old a) (held new a)) (filter_map (λ (i : ℕ). have_change m i (held old i) (held new i)) (range_with_len (a + 1) n))
    (have_tells m a new (held old a) (held new a) (omega (arith, few)) refl) (haves_tell m old new (a + 1) n (omega (arith, few)))

order_tells : (m : ℕ) (s : Store) (old new : Order) → Tell m s (order_change m old new)
order_tells m s old new = by (same_order old new)
  where
    by : (b : Bool) → Tell m s (cond b [] (OrderLine m new.number new.image new.version ∷ []))
    by true = tt
    by false = (tt, tt)

changes_tell : (m : ℕ) (old new : Store) → Tell m new (changes m old new)
changes_tell m old new = tell_both m new _ _ (order_tells m new old.order new.order) (haves_tell m old new 0 images (omega arith))

start_tells : (m : ℕ) (s : Store) (o : Option Runs) → Tell m s (start_line m o)
start_tells m s None = tt
start_tells m s (Some r) = (tt, tt)

sent_tells : (m : ℕ) (s : Store) (o : Option Message) → Tell m s (sent_line m o)
sent_tells m s None = tt
sent_tells m s (Some (Advert source entries order)) = (tt, tt)
sent_tells m s (Some (Request source to image version page want)) = (tt, tt)
sent_tells m s (Some (Packet source image version page packet bytes)) = (tt, tt)
sent_tells m s (Some (Wide source entries order)) = (tt, tt)

-- ---- the lines of an event

store_there : (w : World) (m : ℕ) (x : Site) → m < length w.sites → store_at (with_site w m x) m ≡ x.store
store_there w m x lt = ap (λ (y : Site). y.store) (get_or-set_same w.sites m x no_site lt)

sent_stays : (w : World) (m k : ℕ) (o : Option Message) → store_at (and_sent w m o) k ≡ store_at w k
sent_stays w m k None = refl
sent_stays w m k (Some message) = refl

tell_of : (m : ℕ) (s t : Store) (lines all : List Report) → t ≡ s → all ≡ lines → Tell m s lines → Tell m t all
tell_of m s t lines all same are told =
    subst (λ (ls : List Report). Tell m t ls) (sym are) (subst (λ (u : Store). Tell m u lines) (sym same) told)

ended_tells : (b : Bool) (w : World) (x : Step) (d : EventEffect) (v : World) (all : List Report) → Ended b w x d v all → mote_of x.event < length w.sites
    → Tell (mote_of x.event) (store_at v (mote_of x.event)) all
ended_tells true w x d v all cut lt =
    let m : ℕ = mote_of x.event in
    tell_of m cut.store (store_at v m) (changes m (store_at w m) cut.store ++ Off m ∷ []) all
    (ap (λ (u : World). store_at u m) cut.world ∙ store_there (record (counted w (dt_of x.event)) { table = d.table }) m (record { store = cut.store; runs = None }) lt)
    cut.report (tell_both m cut.store _ _ (changes_tell m (store_at w m) cut.store) (tt, tt))
ended_tells false w x d v all done lt =
    let m : ℕ = mote_of x.event in
    let base : World = record (counted w (dt_of x.event)) { table = d.table } in
    let there : Site = record { store = last d.trail; runs = done.0 } in
    tell_of m (last d.trail) (store_at v m) (done_reports w m d) all
    (ap (λ (u : World). store_at u m) done.2 ∙ sent_stays (with_site base m there) m m d.sent ∙ store_there base m there lt)
    done.3
    (tell_both m (last d.trail) _ _ (tell_both m (last d.trail) _ _ (changes_tell m (store_at w m) (last d.trail)) (start_tells m (last d.trail) d.started)) (sent_tells m (last d.trail) d.sent))

does_tells : (does_it : Does) (w : World) (x : Step) (v : World) (all : List Report) → StepDoes does_it w x v all → mote_of x.event < length w.sites
    → Tell (mote_of x.event) (store_at v (mote_of x.event)) all
does_tells (Refuses why) w x v all step lt = subst (λ (ls : List Report). Tell (mote_of x.event) (store_at v (mote_of x.event)) ls) (sym step.1) (tt, tt)
does_tells (Goes d) w x v all step lt = ended_tells (blows x.cut d.trail) w x d v all step lt

step_tells : (w : World) (x : Step) (v : World) (all : List Report) → WorldStep w x v all → mote_of x.event < length w.sites
    → Tell (mote_of x.event) (store_at v (mote_of x.event)) all
unfolding WorldStep
step_tells w x v all step lt = does_tells (does w x.event) w x v all step lt

item_tells : (item : Item) (e : Event) (cut : Option Cut) (reported : Bool) (w v : World) (lines : List Report) → item ≡ Applies (record { event = e; cut = cut }) reported
    → ItemStep w item v lines → mote_of e < length w.sites → Tell (mote_of e) (store_at v (mote_of e)) lines
item_tells item e cut reported w v lines is step lt =
    let x : Step = record { event = e; cut = cut } in
    let here : ItemStep w (Applies x reported) v lines = subst (λ (i : Item). ItemStep w i v lines) is step in
    subst (λ (ls : List Report). Tell (mote_of e) (store_at v (mote_of e)) ls) (sym here.2)
    (tell_some (mote_of e) (store_at v (mote_of e)) (is_reported reported) here.0 (step_tells w x v here.0 here.1 lt))

-- each `have` line of an event says what its mote keeps after it
pub event_tells : {e : Event} {lines : List Report} (p : Played) → IsEventPlayed e lines p → mote_of e < length p.before.sites
    → AllByRecursion (HaveTells (mote_of e) (store_at p.after (mote_of e))) p.reports
event_tells {e} p is lt = item_tells p.item e is.cut is.reported p.before p.after p.reports is.item is.step lt
