-- What a watcher is shown, one part after the other.
use Rattle.std.proofs.Common.{◌≡◌, ℕ, ◌+◌, Bool, true, false, List, [], ◌∷◌, ◌++◌, length, map, cond, refl, append-nil, append_assoc, length-append, ap, sym, ◌∙◌, subst, arith}
use Rattle.std.specs.Prelude.{Option, Some, None, option_map, replicate, slice_get, slice_set, IfSome}
use Rattle.std.specs.List.{AllByRecursion}
use Rattle.std.proofs.lemmas.List.{length-map}
use Rattle.std.proofs.lemmas.Option.{same_Some}
use Rattle.std.proofs.lemmas.List.Elements.{filter-append}
use Rattle.dg_nor.specs.Device.{Device, MadeMore}
use Rattle.dg_nor.proofs.DeviceLemmas.{MadeMore-none}
use Rattle.dg_object.specs.Object.{Row}
use Rattle.dg_volume.specs.Store.{Store, fresh, golden_row}
use Rattle.dg_script.specs.Items.{Item, Declares, Applies}
use Rattle.dg_script.specs.Places.{none_narrow}
use Rattle.dg_script.specs.declared.line.Line.{Line}
use Rattle.dg_script.specs.declared.line.Line.TheVariants.{Nothing, Motes, Golden, Boards, Link, Narrow, Image, Cut, Happens as EventLine, Round, Sweeps}
use Rattle.dg_rules.specs.Runs.{Played, Plays}
use Rattle.dg_rules.specs.World.{World, Site, first_world, off_site}
use Rattle.dg_world.specs.Applied.{OneBoard, SameBoards}
use Rattle.dg_replay.specs.Items.{StartState, Beginning, begin_by, begin_behind, beginning_of, is_event, events_among}
use Rattle.dg_replay.specs.inner.Words.{no_beginning, with_link, with_narrow}
use Rattle.dg_replay.specs.Replayed.{RunsTo, item_played}
use Rattle.dg_replay.specs.Playing.{IsDeclaration}
use Rattle.dg_replay.specs.Shown.{Saw, events_played, stores_in, LeadTo, StaysSeen, StaysUnshown, Shows, HaveRested, ended_saw}
use Rattle.dg_replay.proofs.ItemLemmas.{some_is, events_among-append, plays_counts, plays_append, runs_from_none}

-- ---- the events among what was played

pub events_played-append : (xs ys : List Played) → events_played (xs ++ ys) ≡ events_played xs ++ events_played ys
events_played-append xs ys = filter-append (λ (p : Played). is_event p.item) xs ys

count_item : (item : Item) → events_among (item ∷ []) ≡ cond (is_event item) 1 0
count_item (Declares row) = refl
count_item (Applies x reported) = refl

one_event : (b : Bool) (p : Played) (ps : List Played) → length (cond b (p ∷ ps) ps) ≡ cond b 1 0 + length ps
one_event true p ps = omega arith
one_event false p ps = omega arith

-- as many as there are among the items
pub events_counted : (ps : List Played) → events_among (map item_played ps) ≡ length (events_played ps)
events_counted [] = refl
events_counted (p ∷ ps) =
    let sum : events_among (p.item ∷ map item_played ps) ≡ events_among (p.item ∷ []) + events_among (map item_played ps) = events_among-append (p.item ∷ []) (map item_played ps) in
    let one : length (cond (is_event p.item) (p ∷ events_played ps) (events_played ps)) ≡ cond (is_event p.item) 1 0 + length (events_played ps) = one_event (is_event p.item) p (events_played ps) in
    omega (arith, sum, count_item p.item, events_counted ps, one)

-- no events if only declarations were played
pub declared_none : (ps : List Played) → AllByRecursion IsDeclaration (map item_played ps) → events_played ps ≡ []
declared_none [] all = refl
declared_none (p ∷ ps) all = by_item p.item p ps all.0 (declared_none ps all.1)
  where
    by_item : (item : Item) (p : Played) (ps : List Played) → IsDeclaration item → events_played ps ≡ [] → cond (is_event item) (p ∷ events_played ps) (events_played ps) ≡ []
    by_item (Declares row) p ps is e = e
    by_item (Applies x reported) p ps is e = absurd is

-- ---- the world in which a run begins

-- all motes are off, and nothing was sent
pub record IsFirst (w : World) : Type 0 where
  pub table : List Row
  pub links : List (ℕ × ℕ)
  pub narrow : List Bool
  pub stores : List Store
  pub is : w ≡ first_world table links narrow stores

set_first : (f : World → World) → ((w : World) → IsFirst w → IsFirst (f w)) → (o : Option World) → IfSome o IsFirst → IfSome (option_map f o) IsFirst
set_first f keeps None first = tt
set_first f keeps (Some w) first = keeps w first

link_first : (link : ℕ × ℕ) (w : World) → IsFirst w → IsFirst (with_link link w)
link_first link w i = record { table = i.table; links = i.links ++ link ∷ []; narrow = i.narrow; stores = i.stores; is = ap (with_link link) i.is }

narrow_first : (m : ℕ) (w : World) → IsFirst w → IsFirst (with_narrow m w)
narrow_first m w i = record { table = i.table; links = i.links; narrow = slice_set i.narrow m true; stores = i.stores; is = ap (with_narrow m) i.is }

first_by : (g : StartState) (b : Beginning) (line : Line) → IfSome b.world IsFirst → IfSome (begin_by g b line).world IsFirst
first_by g b Nothing first = first
first_by g b (Motes n) first = first
first_by g b (Golden name used content) first = record { table = golden_row name content ∷ []; links = []; narrow = none_narrow; stores = replicate b.motes (fresh name content used); is = refl }
first_by g b Boards first = record { table = g.table; links = []; narrow = none_narrow; stores = g.stores; is = refl }
first_by g b (Link x y) first = set_first (with_link (x, y)) (link_first (x, y)) b.world first
first_by g b (Narrow m) first = set_first (with_narrow m) (narrow_first m) b.world first
first_by g b (Image image version name content) first = first
first_by g b (Cut c) first = first
first_by g b (EventLine event) first = first
first_by g b (Round x y) first = first
first_by g b (Sweeps n) first = first

first_behind : (g : StartState) (b : Beginning) (lines : List Line) → IfSome b.world IsFirst → IfSome (begin_behind g b lines).world IsFirst
unfolding begin_behind
first_behind g b [] first = first
first_behind g b (line ∷ lines) first = first_behind g (begin_by g b line) lines (first_by g b line first)

pub begins_first : (g : StartState) (lines : List Line) → IfSome (beginning_of g lines).world IsFirst
begins_first g lines = first_behind g no_beginning lines tt

-- ---- where events lead

off_stores : (stores : List Store) → map (λ (x : Site). x.store) (map off_site stores) ≡ stores
off_stores [] = refl
off_stores (s ∷ stores) = ap (λ (xs : List Store). s ∷ xs) (off_stores stores)

pub first_stores : (table : List Row) (links : List (ℕ × ℕ)) (narrow : List Bool) (stores : List Store) → stores_in (Some (first_world table links narrow stores)) ≡ stores
first_stores table links narrow stores = off_stores stores

pub lead_from : (o : Option World) (ps : List Played) (w : World) → IfSome o IsFirst → RunsTo o ps (Some w) → LeadTo (stores_in o) (events_played ps) w
lead_from None ps w first (none, is) = absurd (let e : Some w ≡ None = is in cc)
lead_from (Some b) ps w first (v, is, plays) =
    let run : Plays b ps w = subst (λ (x : World). Plays b ps x) (sym (some_is w v is)) plays in
    let c = plays_counts b w ps run in
    let none : b.events ≡ 0 = ap (λ (x : World). x.events) first.is in
    let kept : stores_in (Some b) ≡ first.stores = ap (λ (x : World). stores_in (Some x)) first.is ∙ off_stores first.stores in
    let begins : b ≡ first_world first.table first.links first.narrow (stores_in (Some b)) = first.is ∙ ap (first_world first.table first.links first.narrow) (sym kept) in
    record {
      table = first.table;
      links = first.links;
      narrow = first.narrow;
      played = ps;
      run = subst (λ (x : World). Plays x ps w) begins run;
      are = refl;
      motes = c.sites ∙ sym (length-map b.sites (λ (x : Site). x.store));
      counted = omega (arith, c.events, none, events_counted ps);
    }

pub lead_on : (stores : List Store) (events : List Played) (w u : World) (ps : List Played) → LeadTo stores events w → Plays w ps u → LeadTo stores (events ++ events_played ps) u
lead_on stores events w u ps l run =
    let c = plays_counts w u ps run in
    record {
      table = l.table;
      links = l.links;
      narrow = l.narrow;
      played = l.played ++ ps;
      run = plays_append (first_world l.table l.links l.narrow stores) w u l.played ps l.run run;
      are = ap (λ (es : List Played). es ++ events_played ps) l.are ∙ sym (events_played-append l.played ps);
      motes = c.sites ∙ l.motes;
      counted = omega (arith, c.events, l.counted, length-append events (events_played ps), events_counted ps);
    }

-- ---- what is shown

pub stays_same : (F : Saw) → StaysSeen F F
stays_same F = λ stores events f. f

pub stays_then : (F G H : Saw) → StaysSeen F G → StaysSeen G H → StaysSeen F H
stays_then F G H first next = λ stores events f. next stores events (first stores events f)

pub shows_none : (F G : Saw) (w : World) → StaysSeen F G → Shows F G w []
shows_none F G w stays = λ stores events lead f. subst (λ (es : List Played). G.events stores es) (sym (append-nil events)) (stays stores events f)

pub shows_same : (F : Saw) (w : World) → Shows F F w []
shows_same F w = shows_none F F w (stays_same F)

pub shows_then : (F G H : Saw) (w : World) (ps : List Played) → Shows F G w ps → StaysSeen G H → Shows F H w ps
shows_then F G H w ps shown stays = λ stores events lead f. stays stores (events ++ events_played ps) (shown stores events lead f)

pub shows_join : (F G H : Saw) (w u : World) (xs ys : List Played) → Shows F G w xs → Plays w xs u → Shows G H u ys → Shows F H w (xs ++ ys)
shows_join F G H w u xs ys first run next = λ stores events lead f.
    subst (λ (es : List Played). H.events stores es) (append_assoc events (events_played xs) (events_played ys) ∙ ap (λ (es : List Played). events ++ es) (sym (events_played-append xs ys)))
    (next stores (events ++ events_played xs) (lead_on stores events w u xs lead run) (first stores events lead f))

-- a replay that ended at the first of some items ended at the first of more
pub end_more : (saw : Saw) (w : World) (left more : List Item) → StaysSeen (ended_saw saw (Some w) left) (ended_saw saw (Some w) (left ++ more))
end_more saw w [] more = λ stores events f. absurd f
end_more saw w (Declares row ∷ left) more = λ stores events f. absurd f
end_more saw w (Applies x reported ∷ left) more = λ stores events f. f

-- what is shown before there is a world
pub shows_nothing : (F G : Saw) (o : Option World) (ps : List Played) → RunsTo o ps None → (F.events [] [] → G.events [] []) → F.events (stores_in o) (events_played ps) → G.events [] []
shows_nothing F G o ps r on f =
    let e = runs_from_none o ps r in
    on (subst (λ (es : List Played). F.events [] es) (ap events_played e.1) (subst (λ (x : Option World). F.events (stores_in x) (events_played ps)) e.0 f))

-- before the boards are used nothing was played
pub unplaced_shown : (F G : Saw) (o : Option World) (ps : List Played) → RunsTo o ps None → StaysUnshown F G → F.events (stores_in o) (events_played ps) → G.events (stores_in o) (events_played ps)
unplaced_shown F G o ps r shown f =
    let e = runs_from_none o ps r in
    subst (λ (x : Option World). G.events (stores_in x) (events_played ps)) (sym e.0) (subst (λ (es : List Played). G.events [] es) (sym (ap events_played e.1)) (shows_nothing F G o ps r shown f))

-- a run continues
pub shows_from : (F G : Saw) (o : Option World) (ps qs : List Played) (w : World) → IfSome o IsFirst → RunsTo o ps (Some w) → Shows F G w qs → F.events (stores_in o) (events_played ps) → G.events (stores_in o) (events_played (ps ++ qs))
shows_from F G o ps qs w first run shown f =
    subst (λ (es : List Played). G.events (stores_in o) es) (sym (events_played-append ps qs)) (shown (stores_in o) (events_played ps) (lead_from o ps w first run) f)

-- ---- boards on which nothing is made

-- what was seen with the same boards
pub stays_as : (S : List Device → Saw) (old new : List Device) → new ≡ old → StaysSeen (S old) (S new)
stays_as S old new same = λ stores events f. subst (λ (ds : List Device). (S ds).events stores events) (sym same) f

rested_one : (a b : Device) → ◌≡◌ {A = Option Device} (Some b) (Some a) → b.stopped ≡ false → (a.stopped ≡ false) × MadeMore 0 a.made b.made
rested_one a b is awake =
    let e : b ≡ a = same_Some b a is in
    (subst (λ (d : Device). d.stopped ≡ false) e awake, subst (λ (d : Device). MadeMore 0 a.made d.made) (sym e) (MadeMore-none a.made))

pub rested_same : (motes : ℕ) (old new : List Device) → new ≡ old → HaveRested motes old new
rested_same motes old new same = record {
  count = ap (λ (ds : List Device). length ds) same;
  rests = λ m a b within was is awake. rested_one a b (sym is ∙ ap (λ (ds : List Device). slice_get ds m) same ∙ was) awake;
}

-- before the boards are used
pub rested_unplaced : (old new : List Device) → length new ≡ length old → HaveRested 0 old new
rested_unplaced old new count = record { count = count; rests = λ m a b within was is awake. absurd (omega (arith, within)) }

-- boards that were only read
pub rested_read : (motes : ℕ) (old new : List Device) → SameBoards old new → HaveRested motes old new
rested_read motes old new s = record {
  count = s.count;
  rests = λ m a b within was is awake. (was_awake a.stopped b.stopped (s.endures m a b was is).stays awake, s.none_made m a b was is awake);
}
  where
    was_awake : (x y : Bool) → (x ≡ true → y ≡ true) → y ≡ false → x ≡ false
    was_awake false y stays awake = refl
    was_awake true y stays awake = absurd (let e : true ≡ false = sym (stays refl) ∙ awake in cc)

-- a board stopped, and no other was used
pub rested_stopped : (motes board : ℕ) (old new : List Device) (after : Device) → OneBoard board old new → slice_get new board ≡ Some after → after.stopped ≡ true → HaveRested motes old new
rested_stopped motes board old new after one there stopped = record {
  count = one.count;
  rests = λ m a b within was is awake. rested_one a b (sym is ∙ one.others m (λ e. not_it m b e is awake) ∙ was) awake;
}
  where
    not_it : (m : ℕ) (b : Device) → m ≡ board → slice_get new m ≡ Some b → b.stopped ≡ false → ⊥
    not_it m b e is awake =
        let same : after ≡ b = same_Some after b (sym there ∙ ap (λ (k : ℕ). slice_get new k) (sym e) ∙ is) in
        let both : true ≡ false = sym stopped ∙ ap (λ (d : Device). d.stopped) same ∙ awake in
        cc
