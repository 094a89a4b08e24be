-- The rows of moments that are written.
use Rattle.std.proofs.Common.{◌≡◌, ℕ, ◌+◌, ◌==◌, Bool, true, false, cond, ◌∷◌, ◌++◌, [], List, Option, Some, None, length, refl, ap, sym, ◌∙◌, append_assoc, append-nil, length-append, arith, ◌<◌, map, get_or}
use Rattle.std.specs.Prelude.{codes}
use Rattle.std.specs.List.{flat_map, range_with_len}
use Rattle.std.proofs.lemmas.Option.{slice_get-get_or}
use Rattle.std.proofs.lemmas.List.FromFn.{fill_by_all}
use Rattle.std.proofs.lemmas.Bool.Decides.{nat_tests}
use Rattle.dg_rules.specs.Runs.{Played}
use Rattle.dg_volume.specs.Store.{Store}
use Rattle.dg_moments.specs.Moments.{is_loaded, newest_at}
use Rattle.std.specs.BTreeMap.{BTreeMap, IsOrdered}
use Rattle.dg_base.specs.declared.events.ImageVersion.{ImageVersion}
use Rattle.dg_cost_text.specs.Moments.{what_key, rows_at, moments_in, summed_table, AddsNoMoment}
use Rattle.dg_cost_text.specs.Table.{table_of_rows, named_rows}
use Rattle.dg_cost_text.specs.declared.rows.Rows.{Rows}
use Rattle.dg_cost_text.specs.declared.moment.Moment.{Moment}
use Rattle.dg_cost_text.specs.declared.moment.What.TheVariants.{Whole as WholeAt, All as AllHave, Newest}
use Rattle.dg_cost_text.proofs.MomentLemmas.{Entries, named_none, moments_more, all_more, none_summed, what_rows_in}
use Rattle.dg_moments.specs.declared.wholes.Whole.{Whole}
use Rattle.dg_events.specs.Kinds.{event_names, cause_names}
use Rattle.dg_cost.specs.EventRows.{rows_of_events}
use Rattle.dg_cost.specs.MomentRows.{rows_of_whole, whole_rows, rows_of_all, rows_of_newest, newest_rows, AreNewest, TellsAll, HasMoments}
use Rattle.dg_moments.specs.Wholes.{KnowsImage, whole_cmp, image_version_cmp}
use Rattle.dg_count.specs.declared.counter.Counter.{Counter}

-- the rows of the next of those that are left
pub next_rows : {X : Type 0} {new : Entries} (mid old : Entries) (f : X → Entries) (left : List X) (x : X) (more : List X)
    → mid ++ flat_map f left ≡ old → left ≡ x ∷ more → new ≡ mid ++ f x → new ++ flat_map f more ≡ old
next_rows {X} {new} mid old f left x more all is next =
    ap (λ (t : Entries). t ++ flat_map f more) next ∙ append_assoc mid (f x) (flat_map f more)
    ∙ sym (ap (λ (xs : List X). mid ++ flat_map f xs) is) ∙ all

-- none are left
pub no_rows_left : {X : Type 0} (mid old : Entries) (f : X → Entries) (left : List X) → mid ++ flat_map f left ≡ old → left ≡ [] → mid ≡ old
no_rows_left {X} mid old f left all none = sym (append-nil mid) ∙ sym (ap (λ (xs : List X). mid ++ flat_map f xs) none) ∙ all

-- one more image
pub newest_more : (image : ℕ) (newest : List (Option Moment)) (at : Option Moment)
    → newest_rows image (newest ++ at ∷ []) ≡ newest_rows image newest ++ rows_of_newest (image + length newest) at
newest_more image [] at =
    let same : image ≡ image + length {A = Option Moment} [] = omega arith in
    append-nil (rows_of_newest image at) ∙ ap (λ (i : ℕ). rows_of_newest i at) same
newest_more image (x ∷ newest) at =
    let same : image + 1 + length newest ≡ image + length (x ∷ newest) = omega arith in
    ap (λ (t : Entries). rows_of_newest image x ++ t)
    (newest_more (image + 1) newest at ∙ ap (λ (i : ℕ). newest_rows (image + 1) newest ++ rows_of_newest i at) same)
    ∙ sym (append_assoc (rows_of_newest image x) (newest_rows (image + 1) newest) (rows_of_newest (image + length (x ∷ newest)) at))

pub one_longer : {X : Type 0} (xs : List X) (x : X) (n : ℕ) → 1 + length xs ≡ n → 1 + length (xs ++ x ∷ []) ≡ n + 1
one_longer {X} xs x n is = omega (arith, length-append xs (x ∷ []), is)

pub newest_pushed : {new : Entries} (mid old : Entries) (newest : List (Option Moment)) (image : ℕ) (at : Option Moment) → mid ≡ old ++ newest_rows 1 newest
    → 1 + length newest ≡ image → new ≡ mid ++ rows_of_newest image at → new ≡ old ++ newest_rows 1 (newest ++ at ∷ [])
newest_pushed {new} mid old newest image at so is next =
    next ∙ ap (λ (t : Entries). t ++ rows_of_newest image at) so ∙ append_assoc old (newest_rows 1 newest) (rows_of_newest image at)
    ∙ ap (λ (i : ℕ). old ++ (newest_rows 1 newest ++ rows_of_newest i at)) (sym is)
    ∙ sym (ap (λ (t : Entries). old ++ t) (newest_more 1 newest at))

-- ---- all of them are of moments

both_in : (a b : Entries) → moments_in a ≡ a → moments_in b ≡ b → moments_in (a ++ b) ≡ a ++ b
both_in a b first next =
    moments_more a b refl ∙ ap (λ (t : Entries). t ++ moments_in b) first ∙ ap (λ (t : Entries). a ++ t) next

flat_in : {X : Type 0} (f : X → Entries) → ((x : X) → moments_in (f x) ≡ f x) → (xs : List X) → moments_in (flat_map f xs) ≡ flat_map f xs
flat_in {X} f each [] = refl
flat_in {X} f each (x ∷ xs) = both_in (f x) (flat_map f xs) (each x) (flat_in f each xs)

pub wholes_in : (mote : ℕ) (wholes : List (Whole × Moment)) → moments_in (whole_rows mote wholes) ≡ whole_rows mote wholes
wholes_in mote wholes = flat_in (rows_of_whole mote) whole_in wholes
  where
    of_mote : (here : Bool) (rows : Entries) → moments_in rows ≡ rows → moments_in (cond here rows []) ≡ cond here rows []
    of_mote true rows is = is
    of_mote false rows is = refl

    whole_in : (e : Whole × Moment) → moments_in (rows_of_whole mote e) ≡ rows_of_whole mote e
    whole_in e =
        of_mote (e.0.mote == mote) (rows_at (what_key (WholeAt e.0.image e.0.version e.0.times)) e.1)
        (what_rows_in (WholeAt e.0.image e.0.version e.0.times) e.1)

newest_in : (image : ℕ) (newest : List (Option Moment)) → moments_in (newest_rows image newest) ≡ newest_rows image newest
newest_in image [] = refl
newest_in image (None ∷ newest) = newest_in (image + 1) newest
newest_in image (Some at ∷ newest) =
    both_in (rows_at (what_key (Newest image)) at) (newest_rows (image + 1) newest) (what_rows_in (Newest image) at) (newest_in (image + 1) newest)

pub all_in : (kept : List (ImageVersion × Moment)) (newest : List (Option Moment))
    → moments_in (flat_map rows_of_all kept ++ newest_rows 1 newest) ≡ flat_map rows_of_all kept ++ newest_rows 1 newest
all_in kept newest =
    both_in (flat_map rows_of_all kept) (newest_rows 1 newest) (flat_in rows_of_all (λ e. what_rows_in (AllHave e.0.image e.0.version) e.1) kept)
    (newest_in 1 newest)

-- ---- rows of which none is of a moment

pub events_none : (kinds causes : List ℕ) (cuts : ℕ) → moments_in (rows_of_events kinds causes cuts) ≡ []
events_none kinds causes cuts =
    moments_more (of_kinds ++ of_causes) ((codes "cuts", cuts) ∷ []) refl
    ∙ ap (λ (t : Entries). t ++ [])
    (moments_more of_kinds of_causes refl ∙ ap (λ (t : Entries). t ++ moments_in of_causes) kinds_none ∙ causes_none)
  where
    of_kinds : Entries
    of_kinds = named_rows (codes "events.") [] event_names kinds

    of_causes : Entries
    of_causes = named_rows (codes "refused.event.") [] cause_names causes

    kinds_none : moments_in of_kinds ≡ []
    kinds_none = named_none (codes "events.") [] event_names kinds (λ rest. refl)

    causes_none : moments_in of_causes ≡ []
    causes_none = named_none (codes "refused.event.") [] cause_names causes (λ rest. refl)

-- ---- the rows of moments in a table

-- those of a mote, after rows of which none is of a moment
pub has_wholes : (before after : Rows) (mote : ℕ) (wholes : BTreeMap Whole Moment) → AddsNoMoment [] (table_of_rows before)
    → table_of_rows after ≡ table_of_rows before ++ whole_rows mote wholes.entries → summed_table after ≡ summed_table before → IsOrdered whole_cmp wholes
    → HasMoments mote wholes after
has_wholes before after mote wholes none rows sums ordered = record {
  has = record {
    ordered = ordered;
    are = all_more (table_of_rows before) (whole_rows mote wholes.entries) rows (wholes_in mote wholes.entries)
        ∙ ap (λ (t : Entries). t ++ whole_rows mote wholes.entries) none.same;
  };
  unsummed = record { same = ap (λ (t : Entries). moments_in t) sums ∙ none_summed before.rows.items none.same };
}

-- those of a part, after rows of which none is of a moment
pub part_has : {part : Rows} (before after : Rows) (mote : ℕ) (wholes : BTreeMap Whole Moment) → AddsNoMoment [] (table_of_rows before) → HasMoments mote wholes part
    → table_of_rows after ≡ table_of_rows before ++ table_of_rows part → summed_table after ≡ summed_table before ++ summed_table part
    → HasMoments mote wholes after
part_has {part} before after mote wholes none moments rows sums = record {
  has = record {
    ordered = moments.has.ordered;
    are = moments_more (table_of_rows before) (table_of_rows part) rows ∙ ap (λ (t : Entries). t ++ moments_in (table_of_rows part)) none.same ∙ moments.has.are;
  };
  unsummed = record {
    same = moments_more (summed_table before) (summed_table part) sums
        ∙ ap (λ (t : Entries). t ++ moments_in (summed_table part)) (none_summed before.rows.items none.same) ∙ moments.unsummed.same;
  };
}

-- those of all motes
pub has_all : {before after last : Entries} (c : Counter) → AddsNoMoment [] before → IsOrdered image_version_cmp c.wholes.all
    → (newest : List (Option Moment)) × AreNewest c newest × (after ≡ before ++ (flat_map rows_of_all c.wholes.all.entries ++ newest_rows 1 newest))
    → AddsNoMoment after last → TellsAll c last
has_all {before} {after} {last} c none ordered rows more =
    let newest : List (Option Moment) = rows.0 in
    let all : Entries = flat_map rows_of_all c.wholes.all.entries ++ newest_rows 1 newest in
    record {
      newest = newest;
      answers = rows.1;
      has = record {
        ordered = ordered;
        are = more.same ∙ all_more before all rows.2 (all_in c.wholes.all.entries newest) ∙ ap (λ (t : Entries). t ++ all) none.same;
      };
    }

pub all_then : {old new : Entries} (c : Counter) → TellsAll c old → AddsNoMoment old new → TellsAll c new
all_then {old} {new} c tells more = record {
  newest = tells.newest;
  answers = tells.answers;
  has = record { ordered = tells.has.ordered; are = more.same ∙ tells.has.are };
}

-- ---- what a counter answers

loaded : (i : ℕ) → i < 6 → is_loaded (i + 1) ≡ true
loaded i lt = grind (arith, nat_tests)

pub newest_are : (c : Counter) (newest : List (Option Moment)) (stores : List Store) (events : List Played) → AreNewest c newest → c.placed ≡ length stores
    → ((image : ℕ) → KnowsImage c.wholes stores events image) → newest ≡ map (λ (i : ℕ). newest_at stores events (i + 1)) (range_with_len 0 6)
newest_are c newest stores events are placed knows =
    fill_by_all (λ (i : ℕ). newest_at stores events (i + 1)) newest 6 None are.images (λ i lt.
    are.each i (get_or newest i None) (slice_get-get_or newest i None (omega (arith, lt, are.images))) stores events placed (loaded i lt) (knows (i + 1)))
