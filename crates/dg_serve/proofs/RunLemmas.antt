-- The events of a service are a run of the rules.
use Rattle.std.proofs.Common.{◌≡◌, ◌≢◌, ℕ, zero, suc, ◌<◌, true, List, [], ◌∷◌, ◌++◌, length, map, refl, sym, ap, subst, ◌∙◌, inl, inr, arith}
use Rattle.std.specs.List.{AllByRecursion, filter}
use Rattle.std.proofs.lemmas.List.{map-append}
use Rattle.std.proofs.lemmas.List.Elements.{recursion_from_All}
use Rattle.dg_base.specs.declared.events.Event.{Event}
use Rattle.dg_base.specs.declared.events.Event.TheVariants.{Tick, Reset, Frame}
use Rattle.dg_netcfg.specs.Readings.{IsAllowed}
use Rattle.dg_netcfg.specs.declared.profile.NetProfile.{NetProfile}
use Rattle.dg_object.specs.Object.{Row}
use Rattle.dg_volume.specs.Store.{Store}
use Rattle.dg_rules.specs.World.{World, first_world}
use Rattle.dg_rules.specs.Changes.{is_reported}
use Rattle.dg_rules.specs.Steps.{WorldStep}
use Rattle.dg_rules.specs.Runs.{Played, Plays}
use Rattle.dg_script.specs.Ranges.{EventInRange}
use Rattle.dg_rules.specs.Begins.{AreShaped, PlaysBoards}
use Rattle.dg_rules.specs.Premises.{PlayedInRange, LinkFits}
use Rattle.dg_script.specs.Places.{none_narrow}
use Rattle.dg_script.specs.Items.{Item, Applies}
use Rattle.dg_script.specs.declared.report.Report.{Report}
use Rattle.dg_world.specs.Alone.{uncut}
use Rattle.dg_serve.specs.Each.{each}
use Rattle.dg_serve.specs.Services.{Part, Begins, Looks, Ticks, Moment, EventApplied, PartDone, PartsDone, plan}
use Rattle.dg_serve.specs.inner.Stretches.{beginning, turn_of_all}
use Rattle.dg_serve.specs.Promised.{RunOf, ServedFirst}
use Rattle.dg_serve.specs.inner.Runs.{event_item, served_item}
use Rattle.dg_serve.proofs.EachLemmas.{each_more, each_none}

-- ---- all of a list

pub all_front : {A : Type 0} (P : A → Type 0) (xs ys : List A) → AllByRecursion P (xs ++ ys) → AllByRecursion P xs
all_front P [] ys h = tt
all_front P (x ∷ xs) ys h = (h.0, all_front P xs ys h.1)

pub all_back : {A : Type 0} (P : A → Type 0) (xs ys : List A) → AllByRecursion P (xs ++ ys) → AllByRecursion P ys
all_back P [] ys h = h
all_back P (x ∷ xs) ys h = all_back P xs ys h.1

pub all_both : {A : Type 0} (P : A → Type 0) (xs ys : List A) → AllByRecursion P xs → AllByRecursion P ys → AllByRecursion P (xs ++ ys)
all_both P [] ys h k = k
all_both P (x ∷ xs) ys h k = (h.0, all_both P xs ys h.1 k)

all_each : {A : Type 0} (P : A → Type 0) (n : ℕ) (f : ℕ → List A) → ((k : ℕ) → k < n → AllByRecursion P (f k)) → AllByRecursion P (each n f)
all_each P zero f h = subst (AllByRecursion P) (sym (each_none f)) tt
all_each P (suc n) f h = subst (AllByRecursion P) (sym (each_more n f)) (all_both P (each n f) (f n) (all_each P n f (λ k less. h k (omega (arith, less)))) (h n (omega arith)))

-- ---- the parts of a plan are at motes

abbrev pub PartFits : ℕ → Part → Type 0
PartFits motes (Begins m) = m < motes
PartFits motes (Looks m) = m < motes
PartFits motes (Ticks m) = m < motes

plan_fits : (motes turns : ℕ) → AllByRecursion (PartFits motes) (plan motes turns)
plan_fits motes turns =
    all_both (PartFits motes) (beginning motes) (each turns (λ turn. turn_of_all motes)) (all_each (PartFits motes) motes (λ m. Begins m ∷ []) (λ m less. (less, tt)))
    (all_each (PartFits motes) turns (λ turn. turn_of_all motes) (λ turn _. all_each (PartFits motes) motes (λ m. Looks m ∷ Ticks m ∷ []) (λ m less. (less, (less, tt)))))

pub done_fits : (motes turns : ℕ) (done left : List Part) → done ++ left ≡ plan motes turns → AllByRecursion (PartFits motes) done
done_fits motes turns done left parts = all_front (PartFits motes) done left (subst (AllByRecursion (PartFits motes)) (sym parts) (plan_fits motes turns))

pub left_fits : (motes turns : ℕ) (done left : List Part) → done ++ left ≡ plan motes turns → AllByRecursion (PartFits motes) left
left_fits motes turns done left parts = all_back (PartFits motes) done left (subst (AllByRecursion (PartFits motes)) (sym parts) (plan_fits motes turns))

-- ---- runs that follow one another

plays_both : (u v w : World) (ps qs : List Played) → Plays u ps v → Plays v qs w → Plays u (ps ++ qs) w
unfolding Plays
plays_both u v w [] qs h k = subst (λ (x : World). Plays x qs w) (sym h) k
plays_both u v w (p ∷ ps) qs h k = (h.0, h.1, plays_both p.after v w ps qs h.2 k)

pub plays_none : (u v : World) → u ≡ v → Plays u [] v
unfolding Plays
plays_none u v same = same

plays_one : (u v : World) (event : Event) (reports : List Report) → WorldStep u (uncut event) v reports
    → Plays u (record { item = Applies (uncut event) true; before = u; after = v; reports = filter (is_reported true) reports } ∷ []) v
unfolding Plays
plays_one u v event reports step = (refl, (reports, step, refl), refl)

no_run : (motes : ℕ) (u v : World) → u ≡ v → RunOf motes u [] v
no_run motes u v same = record { played = []; items = refl; plays = plays_none u v same; ranges = tt }

one_run : (motes : ℕ) (u v : World) (event : Event) (reports : List Report) → EventInRange motes event → WorldStep u (uncut event) v reports → RunOf motes u (event ∷ []) v
one_run motes u v event reports fits step = record {
  played = record { item = Applies (uncut event) true; before = u; after = v; reports = filter (is_reported true) reports } ∷ [];
  items = refl;
  plays = plays_one u v event reports step;
  ranges = (record { event = fits; cut = tt }, tt);
}

runs_both : (motes : ℕ) (u v w : World) (es fs : List Event) → RunOf motes u es v → RunOf motes v fs w → RunOf motes u (es ++ fs) w
runs_both motes u v w es fs a b = record {
  played = a.played ++ b.played;
  items = map-append served_item a.played b.played ∙ ap (λ (xs : List Item). xs ++ map served_item b.played) a.items ∙ ap (λ (ys : List Item). map event_item es ++ ys) b.items ∙ sym (map-append event_item es fs);
  plays = plays_both u v w a.played b.played a.plays b.plays;
  ranges = all_both (PlayedInRange motes) a.played b.played a.ranges b.ranges;
}

-- ---- what the parts did

applied_run : (motes : ℕ) (s : Moment) (event : (dt word : ℕ) → Event) (es : List Event) (t : Moment) → ((dt word : ℕ) → EventInRange motes (event dt word)) → EventApplied motes s event es t → RunOf motes s.world es t.world
applied_run motes s event es t fits h =
    let same : h.between.world ≡ s.world = ap (λ (m : Moment). m.world) h.reads.same in
    subst (λ (l : List Event). RunOf motes s.world l t.world) (sym h.one)
    (one_run motes s.world t.world (event h.dt h.word) h.steps.reports (fits h.dt h.word) (subst (λ (w : World). WorldStep w (uncut (event h.dt h.word)) t.world h.steps.reports) same h.steps.step))

part_run : (motes : ℕ) (part : Part) (s : Moment) (es : List Event) (t : Moment) → PartFits motes part → PartDone motes part s es t → RunOf motes s.world es t.world
part_run motes (Begins m) s es t fits h = applied_run motes s (λ dt word. Reset m dt word) es t (λ dt word. fits) h
part_run motes (Ticks m) s es t fits h = applied_run motes s (λ dt word. Tick m dt word) es t (λ dt word. fits) h
part_run motes (Looks m) s es t fits (inl h) =
    subst (λ (l : List Event). RunOf motes s.world l t.world) (sym h.1) (no_run motes s.world t.world (ap (λ (x : Moment). x.world) (sym h.2)))
part_run motes (Looks m) s es t fits (inr h) =
    applied_run motes (record s { inboxes = h.taken }) (λ dt word. Frame m dt word h.bytes) es t (λ dt word. (fits, h.fits)) h.heard

pub serves_run : (motes : ℕ) (s : Moment) (parts : List Part) (es : List Event) (t : Moment) → AllByRecursion (PartFits motes) parts → PartsDone motes s parts es t → RunOf motes s.world es t.world
unfolding PartsDone
serves_run motes s [] es t fits h =
    subst (λ (l : List Event). RunOf motes s.world l t.world) (sym h.0) (no_run motes s.world t.world (ap (λ (x : Moment). x.world) (sym h.1)))
serves_run motes s (part ∷ parts) es t fits h =
    subst (λ (l : List Event). RunOf motes s.world l t.world) (sym h.4)
    (runs_both motes s.world h.0.world t.world h.1 h.2 (part_run motes part s h.1 h.0 fits.0 h.3) (serves_run motes h.0 parts h.2 t fits.1 h.5))

-- ---- over the boards

-- the link joins two different motes of this many
abbrev pub Joins : ℕ → ℕ × ℕ → Type 0
Joins motes l = (l.0 < motes) × (l.1 < motes) × (l.0 ≢ l.1)

links_fit : (motes : ℕ) (links : List (ℕ × ℕ)) → AllByRecursion (Joins motes) links → AllByRecursion (LinkFits motes) links
links_fit motes [] h = tt
links_fit motes (l ∷ ls) h = (record { first = h.0.0; second = h.0.1; two = h.0.2 }, links_fit motes ls h.1)

pub plays_boards : (profile : NetProfile) (table : List Row) (stores : List Store) (events : List Event) (v : World) → IsAllowed profile → length stores ≡ profile.motes → AreShaped stores
    → (r : RunOf profile.motes (first_world table profile.links none_narrow stores) events v) → PlaysBoards table stores profile.links none_narrow r.played v
plays_boards profile table stores events v allowed count shaped r = record {
  shaped = shaped;
  plays = r.plays;
  few = omega (arith, count, allowed.motes.1);
  links_fit = subst (λ (n : ℕ). AllByRecursion (LinkFits n) profile.links) (sym count) (links_fit profile.motes profile.links (recursion_from_All (Joins profile.motes) profile.links allowed.links));
  ranges = subst (λ (n : ℕ). AllByRecursion (PlayedInRange n) r.played) (sym count) r.ranges;
}

-- so is what was played first
pub first_boards : (table : List Row) (stores : List Store) (links : List (ℕ × ℕ)) (played : List Played) (v : World) → PlaysBoards table stores links none_narrow played v
    → (f : ServedFirst (first_world table links none_narrow stores) played) → PlaysBoards table stores links none_narrow f.first f.last
first_boards table stores links played v boards f = record {
  shaped = boards.shaped;
  plays = f.plays;
  few = boards.few;
  links_fit = boards.links_fit;
  ranges = all_front (PlayedInRange (length stores)) f.first f.rest (subst (AllByRecursion (PlayedInRange (length stores))) f.parts boards.ranges);
}
