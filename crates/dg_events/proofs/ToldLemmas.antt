-- The outcome that the report of a step gives is its outcome by the rules.
use Rattle.std.proofs.Common.{◌≡◌, ℕ, Bool, true, false, cond, List, length, subst, [], ◌∷◌, ◌++◌, refl, sym, ap, ◌∙◌, fold, filter, Option, Some, None}
use Rattle.std.specs.List.{AllByRecursion, filter_map, cons_option, range_with_len}
use Rattle.std.proofs.lemmas.List.Sums.{fold-append}
use Rattle.std.proofs.lemmas.List.Elements.{filter-append}
use Rattle.dg_nor.specs.Trail.{last}
use Rattle.dg_volume.specs.Start.{Runs}
use Rattle.dg_volume.specs.Store.{Store, held}
use Rattle.dg_volume.specs.Sizes.{images}
use Rattle.dg_control.specs.declared.snapshot.Order.{Order as OrderKept}
use Rattle.dg_mote.specs.Summary.{same_order}
use Rattle.dg_slot.specs.Kept.{Held}
use Rattle.dg_rules.specs.World.{World, store_at}
use Rattle.dg_rules.specs.Changes.{changes, order_change, same_held, have_change, start_line, sent_line, is_reported}
use Rattle.dg_rules.specs.Events.{Does, Refuses, Goes, does, mote_of}
use Rattle.dg_rules.specs.Steps.{WorldStep, StepDoes, Ended, blows}
use Rattle.dg_rules.specs.Runs.{Played, ItemStep}
use Rattle.dg_frame.specs.declared.Message.{Message}
use Rattle.dg_frame.specs.declared.Message.TheVariants.{Advert, Request, Packet, Wide}
use Rattle.dg_base.specs.declared.events.Event.{Event}
use Rattle.dg_base.specs.declared.events.Step.{Step}
use Rattle.dg_script.specs.Items.{Item, Applies}
use Rattle.dg_script.specs.declared.report.Report.{Report}
use Rattle.dg_script.specs.declared.report.Report.TheVariants.{Off, Have, Order as OrderLine}
use Rattle.dg_events.specs.Noted.{IsEventPlayed, IsOutcome}
use Rattle.dg_events.specs.Told.{came_by, came_of, happened, happening, nothing_told, and_line, told_by}
use Rattle.dg_events.specs.declared.told.Told.{Told}

-- a line that says nothing of an event's outcome
abbrev pub Tacit : Report → Type 0
Tacit r = (told : Told) → and_line told r ≡ told

-- several such lines say nothing of it either, also if some are left out
tacit_lines : (f : Report → Bool) (told : Told) (rs : List Report) → AllByRecursion Tacit rs → fold and_line told (filter f rs) ≡ told
tacit_lines f told [] all = refl
tacit_lines f told (r ∷ rs) all = by (f r) all.0 (tacit_lines f told rs all.1)
  where
    by : (b : Bool) → Tacit r → fold and_line told (filter f rs) ≡ told → fold and_line told (cond b (r ∷ filter f rs) (filter f rs)) ≡ told
    by true one rest = ap (λ (t : Told). fold and_line t (filter f rs)) (one told) ∙ rest
    by false one rest = rest

both_tacit : (xs ys : List Report) → AllByRecursion Tacit xs → AllByRecursion Tacit ys → AllByRecursion Tacit (xs ++ ys)
both_tacit [] ys a b = b
both_tacit (x ∷ xs) ys a b = (a.0, both_tacit xs ys a.1 b)

abbrev pub MayTacit : Option Report → Type 0
MayTacit None = Unit {0}
MayTacit (Some r) = Tacit r

mapped_tacit : (h : ℕ → Option Report) → ((i : ℕ) → MayTacit (h i)) → (is : List ℕ) → AllByRecursion Tacit (filter_map h is)
mapped_tacit h each [] = tt
mapped_tacit h each (i ∷ is) = by (h i) (each i) (mapped_tacit h each is)
  where
    by : (o : Option Report) → MayTacit o → AllByRecursion Tacit (filter_map h is) → AllByRecursion Tacit (cons_option o (filter_map h is))
    by None one rest = rest
    by (Some r) one rest = (one, rest)

have_tacit : (m i : ℕ) (old new : Option Held) → MayTacit (have_change m i old new)
have_tacit m i None None = tt
have_tacit m i (Some o) None = λ told. refl
have_tacit m i old (Some n) = by (same_held old n)
  where
    by : (b : Bool) → MayTacit (cond b None (Some (Have m i n.version (length n.complete))))
    by true = tt
    by false = λ told. refl

order_tacit : (m : ℕ) (old new : OrderKept) → AllByRecursion Tacit (order_change m old new)
order_tacit m old new = by (same_order old new)
  where
    by : (b : Bool) → AllByRecursion Tacit (cond b [] (OrderLine m new.number new.image new.version ∷ []))
    by true = tt
    by false = ((λ told. refl), tt)

-- what a chip kept and keeps
changes_tacit : (m : ℕ) (s t : Store) → AllByRecursion Tacit (changes m s t)
changes_tacit m s t =
    both_tacit (order_change m s.order t.order) (filter_map (λ (i : ℕ). have_change m i (held s i) (held t i)) (range_with_len 0 images))
    (order_tacit m s.order t.order) (mapped_tacit (λ (i : ℕ). have_change m i (held s i) (held t i)) (λ i. have_tacit m i (held s i) (held t i)) (range_with_len 0 images))

sent_tacit : (m : ℕ) (sent : Option Message) → AllByRecursion Tacit (sent_line m sent)
sent_tacit m None = tt
sent_tacit m (Some (Advert source entries order)) = ((λ told. refl), tt)
sent_tacit m (Some (Request source to image version page want)) = ((λ told. refl), tt)
sent_tacit m (Some (Packet source image version page packet bytes)) = ((λ told. refl), tt)
sent_tacit m (Some (Wide source entries order)) = ((λ told. refl), tt)

-- lines give the same outcome after such lines
after_tacit : (f : Report → Bool) (xs ys : List Report) → AllByRecursion Tacit xs → told_by (filter f (xs ++ ys)) ≡ told_by (filter f ys)
after_tacit f xs ys all =
    ap (λ (rs : List Report). told_by rs) (filter-append f xs ys) ∙ fold-append and_line nothing_told (filter f xs) (filter f ys)
    ∙ ap (λ (t : Told). fold and_line t (filter f ys)) (tacit_lines f nothing_told xs all)

-- lines give the same outcome before such lines
before_tacit : (f : Report → Bool) (xs ys : List Report) → AllByRecursion Tacit ys → told_by (filter f (xs ++ ys)) ≡ told_by (filter f xs)
before_tacit f xs ys all =
    ap (λ (rs : List Report). told_by rs) (filter-append f xs ys) ∙ fold-append and_line nothing_told (filter f xs) (filter f ys)
    ∙ tacit_lines f (told_by (filter f xs)) ys all

started_told : (reported : Bool) (m : ℕ) (o : Option Runs) → told_by (filter (is_reported reported) (start_line m o)) ≡ came_by false o
started_told reported m None = refl
started_told reported m (Some r) = refl

step_told : (reported : Bool) (w : World) (x : Step) (v : World) (d : Does) (all : List Report) → StepDoes d w x v all
    → told_by (filter (is_reported reported) all) ≡ came_of d x.cut
step_told reported w x v (Refuses why) all step = ap (λ (rs : List Report). told_by (filter (is_reported reported) rs)) step.1
step_told reported w x v (Goes d) all step = by (blows x.cut d.trail) step
  where
    by : (b : Bool) → Ended b w x d v all → told_by (filter (is_reported reported) all) ≡ came_by b d.started
    by true e =
        ap (λ (rs : List Report). told_by (filter (is_reported reported) rs)) e.report
        ∙ after_tacit (is_reported reported) (changes (mote_of x.event) (store_at w (mote_of x.event)) e.store) (Off (mote_of x.event) ∷ [])
        (changes_tacit (mote_of x.event) (store_at w (mote_of x.event)) e.store)
    by false e =
        let m : ℕ = mote_of x.event in
        let cs : List Report = changes m (store_at w m) (last d.trail) in
        ap (λ (rs : List Report). told_by (filter (is_reported reported) rs)) e.3
        ∙ before_tacit (is_reported reported) (cs ++ start_line m d.started) (sent_line m d.sent) (sent_tacit m d.sent)
        ∙ after_tacit (is_reported reported) cs (start_line m d.started) (changes_tacit m (store_at w m) (last d.trail))
        ∙ started_told reported m d.started

world_told : (reported : Bool) (w : World) (x : Step) (v : World) (all : List Report) → WorldStep w x v all
    → told_by (filter (is_reported reported) all) ≡ came_of (does w x.event) x.cut
unfolding WorldStep
world_told reported w x v all step = step_told reported w x v (does w x.event) all step

-- the outcome by the lines that are reported of an event is its outcome by the rules
pub came_to : (e : Event) (lines : List Report) (p : Played) → IsEventPlayed e lines p → IsOutcome e (told_by lines) p
came_to e lines p h = record {
  x = happened p.before s;
  is = ap (λ (i : Item). happening i p.before) h.item;
  event = refl;
  told = sym (world_told h.reported p.before s p.after step.0 step.1) ∙ ap (λ (rs : List Report). told_by rs) (sym step.2 ∙ h.told);
}
  where
    s : Step
    s = record { event = e; cut = h.cut }

    step : ItemStep p.before (Applies s h.reported) p.after p.reports
    step = subst (λ (i : Item). ItemStep p.before i p.after p.reports) h.item h.step
