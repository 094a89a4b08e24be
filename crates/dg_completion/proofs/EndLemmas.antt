-- Runs that end with a rest.
use Rattle.std.proofs.Common.{◌≡◌, ℕ, zero, suc, ◌+◌, ◌<◌, ◌&&◌, ◌||◌, cond, eqb, true, List, [], ◌∷◌, ◌++◌, drop, length, replicate, append_assoc, Option, Some, None, refl, sym, ap, subst, ◌∙◌}
use Rattle.std.specs.List.{AllByRecursion, list_any}
use Rattle.dg_object.specs.Object.{Row}
use Rattle.dg_nor.specs.Trail.{last}
use Rattle.dg_volume.specs.Store.{Store}
use Rattle.dg_volume.specs.Table.{row_at}
use Rattle.dg_frame.specs.declared.Message.{Message}
use Rattle.dg_mote.specs.Sizes.{shared}
use Rattle.dg_script.specs.Items.{Item, Declares, Applies}
use Rattle.dg_rules.specs.World.{World, Running, Sent, site, store_at, linked, frame_at, last_frame, counted, with_site}
use Rattle.dg_rules.specs.Events.{Does, Refuses, Goes, does, mote_of, dt_of, tick_does, hear_by, heard_sent, heard_last, unless_off}
use Rattle.dg_rules.specs.Steps.{WorldStep, StepDoes, and_sent, declared_as}
use Rattle.dg_rules.specs.Runs.{Played, ItemStep, Plays}
use Rattle.dg_rules.specs.Premises.{WorldAgrees, PlayedInRange, IsTrueThen, LeavesAgreement}
use Rattle.dg_rules.specs.Begins.{PlaysFrom}
use Rattle.dg_rounds.specs.Rounds.{round, times, rounds_of, paced}
use Rattle.dg_base.specs.declared.events.Event.{Event}
use Rattle.dg_base.specs.declared.events.Event.TheVariants.{Tick, Hear, Last, Reset, Inject, Order as OrderEvent, Frame}
use Rattle.dg_base.specs.declared.events.Step.{Step}
use Rattle.dg_script.specs.declared.report.Cause.TheVariants as cause
use Rattle.dg_script.specs.declared.report.Report.{Report}
use Rattle.dg_completion.specs.Rests.{IsFree}
use Rattle.dg_completion.specs.Completion.{Follows, FreeLaw, newest, within, IsHops, IsEnoughFor, IsEnoughOver, Rests, IsOn, RoundLaw, PipelineLaw, CompletionLaw}
use Rattle.dg_completion.specs.Ends.{event_in, events_of, IsUncutItem, IsUncut, PlayedLaw, EndsInRest, EndsLaw, EndsPipelineLaw}
use Rattle.dg_completion.specs.Played.{Passes, DrainedLaw, RoundsBring, RoundsLaw}
use Rattle.dg_completion.proofs.GrowLemmas.{all_replicate, round_free, rounds_free}

-- ---- what was played before the rest, and the rest

front : {A : Type 0} (P : A → Type 0) (xs ys : List A) → AllByRecursion P (xs ++ ys) → AllByRecursion P xs
front P [] ys all = tt
front P (x ∷ xs) ys all = (all.0, front P xs ys all.1)

behind : {A : Type 0} (P : A → Type 0) (xs ys : List A) → AllByRecursion P (xs ++ ys) → AllByRecursion P ys
behind P [] ys all = all
behind P (x ∷ xs) ys all = behind P xs ys all.1

plays_split : (xs ys : List Played) (w v : World) → Plays w (xs ++ ys) v → (u : World) × Plays w xs u × Plays u ys v
unfolding Plays
plays_split [] ys w v run = (w, refl, run)
plays_split (x ∷ xs) ys w v run =
    let rest = plays_split xs ys x.after v run.2 in
    (rest.0, (run.0, run.1, rest.1), rest.2)

-- a run begins in exactly one world
begins_once : (ps : List Played) (u w v : World) → Plays u ps v → Plays w ps v → u ≡ w
unfolding Plays
begins_once [] u w v a b = a ∙ sym b
begins_once (p ∷ ps) u w v a b = sym a.0 ∙ b.0

-- ---- the same world with other rows declared

abbrev declaring : List Row → World → World
declaring rows w = record w { declared = rows }

tick_same : (rows : List Row) (w : World) (s : Store) (o : Option Running) (now word : ℕ) → tick_does (declaring rows w) s o now word ≡ tick_does w s o now word
tick_same rows w s None now word = refl
tick_same rows w s (Some r) now word = refl

hear_same : (rows : List Row) (w : World) (s : Store) (o : Option Running) (now word : ℕ) (bytes : List ℕ) → hear_by (declaring rows w) s o now word bytes ≡ hear_by w s o now word bytes
hear_same rows w s None now word bytes = refl
hear_same rows w s (Some r) now word bytes = refl

sent_same : (rows : List Row) (w : World) (m now word : ℕ) (o : Option Sent) → heard_sent (declaring rows w) m now word o ≡ heard_sent w m now word o
sent_same rows w m now word None = refl
sent_same rows w m now word (Some f) = ap (λ d. cond (linked w f.by m) d (Refuses cause.Link)) (hear_same rows w (store_at w m) (site w m).runs now word f.bytes)

last_same : (rows : List Row) (w : World) (from to now word : ℕ) (o : Option Sent) → heard_last (declaring rows w) from to now word o ≡ heard_last w from to now word o
last_same rows w from to now word None = refl
last_same rows w from to now word (Some f) = hear_same rows w (store_at w to) (site w to).runs now word f.bytes

-- a free event does not depend on them
does_same : (rows : List Row) (w : World) (e : Event) → IsFree e → does (declaring rows w) e ≡ does w e
unfolding does
does_same rows w (Tick m dt word) free = tick_same rows w (store_at w m) (site w m).runs (w.moment + dt) word
does_same rows w (Hear m dt word number) free = ap (unless_off (site w m).runs) (sent_same rows w m (w.moment + dt) word (frame_at w number))
does_same rows w (Last from m dt word) free =
    ap (λ d. unless_off (site w m).runs (cond (linked w from m) d (Refuses cause.Link))) (last_same rows w from m (w.moment + dt) word (last_frame w from))
does_same rows w (Reset m dt word) free = absurd cc
does_same rows w (Inject m image version dt word) free = absurd cc
does_same rows w (OrderEvent m number image version dt word) free = absurd cc
does_same rows w (Frame m dt word bytes) free = absurd cc

-- the world after it differs in these rows alone
sent_declaring : (rows : List Row) (u : World) (m : ℕ) (o : Option Message) → and_sent (declaring rows u) m o ≡ declaring rows (and_sent u m o)
sent_declaring rows u m None = refl
sent_declaring rows u m (Some message) = refl

step_by : (rows : List Row) (w v : World) (e : Event) (reports : List Report) (D : Does) → StepDoes D w (record { event = e; cut = None }) v reports
    → StepDoes D (declaring rows w) (record { event = e; cut = None }) (declaring rows v) reports
step_by rows w v e reports (Refuses why) did = (ap (declaring rows) did.0, did.1)
step_by rows w v e reports (Goes d) did = (
  did.0,
  did.1,
  ap (declaring rows) did.2
      ∙ sym (sent_declaring rows (with_site (record (counted w (dt_of e)) { table = d.table }) (mote_of e) (record { store = last d.trail; runs = did.0 })) (mote_of e) d.sent),
  did.3,
)

step_declaring : (rows : List Row) (w v : World) (e : Event) (reports : List Report) → IsFree e → WorldStep w (record { event = e; cut = None }) v reports
    → WorldStep (declaring rows w) (record { event = e; cut = None }) (declaring rows v) reports
unfolding WorldStep
step_declaring rows w v e reports free did =
    subst (λ D. StepDoes D (declaring rows w) (record { event = e; cut = None }) (declaring rows v) reports) (sym (does_same rows w e free))
    (step_by rows w v e reports (does w e) did)

-- ---- a rest that was played

declares_nothing : (rows : List Row) (o : Option Row) (w : World) (row : Row) → declaring rows (declared_as o w row) ≡ declaring rows w
declares_nothing rows None w row = refl
declares_nothing rows (Some kept) w row = refl

-- a step without a cut
uncut : (w v : World) (x : Step) (reports : List Report) → x.cut ≡ None → WorldStep w x v reports → WorldStep w (record { event = x.event; cut = None }) v reports
uncut w v x reports none did = subst (λ c. WorldStep w (record { event = x.event; cut = c }) v reports) none did

module _ (rows : List Row) where
  item_follows : (item : Item) (es : List Event) (u x v : World) (reports : List Report) → ItemStep u item x reports → IsUncutItem item → AllByRecursion IsFree (event_in item ++ es)
      → (AllByRecursion IsFree es → Follows (declaring rows x) es (declaring rows v)) → Follows (declaring rows u) (event_in item ++ es) (declaring rows v)
  unfolding Follows
  item_follows (Declares row) es u x v reports did none free rest =
      let same : declaring rows x ≡ declaring rows u = ap (declaring rows) did.world ∙ declares_nothing rows (row_at u.declared row.image row.version) u row in
      subst (λ y. Follows y es (declaring rows v)) same (rest free)
  item_follows (Applies step reported) es u x v reports did none free rest = (
    declaring rows x,
    did.0,
    step_declaring rows u x step.event did.0 free.0 (uncut u x step did.0 none did.1),
    rest free.1,
  )

  follows : (ps : List Played) (w v : World) → Plays w ps v → AllByRecursion IsUncut ps → AllByRecursion IsFree (events_of ps) → Follows (declaring rows w) (events_of ps) (declaring rows v)
  unfolding Plays Follows events_of
  follows [] w v run whole free = ap (declaring rows) run
  follows (p ∷ ps) w v run whole free =
      subst (λ u. Follows (declaring rows u) (event_in p.item ++ events_of ps) (declaring rows v)) run.0
      (item_follows p.item (events_of ps) p.before p.after v p.reports run.1 whole.0 free (follows ps p.after v run.2 whole.1))

-- ---- the table and the motes stay

record Stays (w v : World) : Type 0 where
  table : v.table ≡ w.table
  count : length v.sites ≡ length w.sites

stays_then : (w u v : World) → Stays w u → Stays u v → Stays w v
stays_then w u v a b = record { table = b.table ∙ a.table; count = b.count ∙ a.count }

declared_stays : (o : Option Row) (w : World) (row : Row) → Stays w (declared_as o w row)
declared_stays None w row = record { table = refl; count = refl }
declared_stays (Some kept) w row = record { table = refl; count = refl }

module _ (free : FreeLaw) where
  item_stays : (item : Item) (rest : List Event) (w v : World) (reports : List Report) → WorldAgrees w → ItemStep w item v reports → IsUncutItem item → AllByRecursion IsFree (event_in item ++ rest)
      → Stays w v × AllByRecursion IsFree rest
  item_stays (Declares row) rest w v reports agrees did none all =
      (subst (Stays w) (sym did.world) (declared_stays (row_at w.declared row.image row.version) w row), all)
  item_stays (Applies x reported) rest w v reports agrees did none all =
      let grows = free w v x.event did.0 agrees all.0 (uncut w v x did.0 none did.1) in
      (record { table = grows.table; count = grows.count }, all.1)

  plays_stay : (ps : List Played) (w v : World) → WorldAgrees w → Plays w ps v → AllByRecursion LeavesAgreement ps → AllByRecursion IsUncut ps → AllByRecursion IsFree (events_of ps) → Stays w v
  unfolding Plays events_of
  plays_stay [] w v agrees run leaves whole all = subst (Stays w) run (record { table = refl; count = refl })
  plays_stay (p ∷ ps) w v agrees run leaves whole all =
      let one = item_stays p.item (events_of ps) p.before p.after p.reports (subst WorldAgrees (sym run.0) agrees) run.1 whole.0 all in
      stays_then w p.after v (subst (λ u. Stays u p.after) run.0 one.0) (plays_stay ps p.after v leaves.0 run.2 leaves.1 whole.1 one.1)

-- ---- whether sweeps are enough does not depend on declared rows

within_same : (rows : List Row) (w : World) (row : Row) (h m : ℕ) → within (declaring rows w) row h m ≡ within w row h m
unfolding within
within_same rows w row zero m = refl
within_same rows w row (suc h) m =
    λ i. within_same rows w row h m i
    || list_any (λ (l : ℕ × ℕ). (eqb l.1 m && within_same rows w row h l.0 i) || (eqb l.0 m && within_same rows w row h l.1 i)) w.links

hops_same : (rows : List Row) (w : World) (row : Row) (h : ℕ) → IsHops w row h → IsHops (declaring rows w) row h
hops_same rows w row h hops = record {
  some = hops.some;
  all = λ m there. within_same rows w row h m ∙ hops.all m there;
  least = λ k one all. hops.least k one (λ m there. sym (within_same rows w row k m) ∙ all m there);
}

enough_for_same : (rows : List Row) (w : World) (o : Option Row) (n : ℕ) → IsEnoughFor w o n → IsEnoughFor (declaring rows w) o n
enough_for_same rows w None n enough = enough
enough_for_same rows w (Some row) n enough = (enough.0, hops_same rows w row enough.0 enough.1, enough.2)

enough_same : (rows : List Row) (w : World) (is : List ℕ) (n : ℕ) → IsEnoughOver w is n → IsEnoughOver (declaring rows w) is n
unfolding IsEnoughOver
enough_same rows w [] n enough = enough
enough_same rows w (i ∷ is) n enough =
    (enough.0, enough.1, enough_for_same rows w (newest w.table i) enough.0 enough.2, enough_same rows w is enough.1 enough.3, enough.4)

-- ---- from a world that agrees

-- what is declared later may be injected too
declaring_agrees : (w v : World) → WorldAgrees w → WorldAgrees v → WorldAgrees (declaring v.declared w)
declaring_agrees w v a b = record {
  few = a.few;
  table = a.table;
  rows = b.rows;
  links = a.links;
  sites = a.sites;
  sent = a.sent;
}

-- the part before the rest
played_front : (u v w : World) (xs ys : List Played) → PlaysFrom u (xs ++ ys) v → Plays u xs w → PlaysFrom u xs w
played_front u v w xs ys from plays = record {
  agrees = from.agrees;
  off = from.off;
  plays = plays;
  ranges = front (PlayedInRange (length u.sites)) xs ys from.ranges;
  are_true = front IsTrueThen xs ys from.are_true;
}

module _
    (agrees : (u v : World) (played : List Played) → PlaysFrom u played v → AllByRecursion LeavesAgreement played × WorldAgrees v)
    (free : FreeLaw) where
  module _ (u : World) (played : List Played) (w v : World) (n : ℕ) (from : PlaysFrom u played v) (end : EndsInRest played w n v) where
    in_parts : PlaysFrom u (end.before ++ end.rest) v
    in_parts = subst (λ ps. PlaysFrom u ps v) end.parts from

    whole : AllByRecursion LeavesAgreement (end.before ++ end.rest) × WorldAgrees v
    whole = agrees u v (end.before ++ end.rest) in_parts

    -- what was played before the rest leads to w
    before : Plays u end.before w
    before =
        let parts = plays_split end.before end.rest u v in_parts.plays in
        subst (Plays u end.before) (begins_once end.rest parts.0 w v parts.2 end.run) parts.1

    agrees_then : WorldAgrees w
    agrees_then = (agrees u w end.before (played_front u v w end.before end.rest in_parts before)).1

    free_rest : AllByRecursion IsFree (events_of end.rest)
    free_rest = rounds_free (times n (rounds_of w.links)) (events_of end.rest) end.sweeps

    stays : Stays w v
    stays = plays_stay free end.rest w v agrees_then end.run (behind LeavesAgreement end.before end.rest whole.0) end.uncut free_rest

    -- the rest begins in the world w with all rows declared
    rests : Rests (declaring v.declared w) n (events_of end.rest) v
    rests = record {
      good = declaring_agrees w v agrees_then whole.1;
      rest = end.sweeps;
      run = follows v.declared end.rest w v end.run end.uncut free_rest;
      on = λ j h. record { running = (end.on j h).running; runs = (end.on j h).runs };
      widths = end.widths;
      room = end.room;
    }

  pub ends : CompletionLaw → EndsLaw
  ends complete u played w v n k begins end enough many i row m from to is there =
      let s = stays u played w v n begins end in
      complete (declaring v.declared w) v n k (events_of end.rest) (rests u played w v n begins end) (enough_same v.declared w (shared true) k enough) many i row m from to
      (ap (λ t. newest t i) (sym s.table) ∙ is) (subst (λ c. m < c) s.count there)

  pub ends_pipeline : PipelineLaw → EndsPipelineLaw
  ends_pipeline fill u played w v t begins end i row done from to is m j there one near =
      fill (declaring v.declared w) v t (events_of end.rest) i row (rests u played w v t begins end) done from to is m j there one
      (within_same v.declared w row j m ∙ near)

pub played : PlayedLaw
played ps w v uncut free run = follows v.declared ps w v run uncut free

-- ---- rounds, wherever they were played

plays_join : (xs ys : List Played) (w u v : World) → Plays w xs u → Plays u ys v → Plays w (xs ++ ys) v
unfolding Plays
plays_join [] ys w u v a b = subst (λ (z : World). Plays z ys v) (sym a) b
plays_join (x ∷ xs) ys w u v a b = (a.0, a.1, plays_join xs ys x.after u v a.2 b)

-- a run with an event begins in exactly one world
starts_same : (ps : List Played) (e : Event) (more : List Event) (u w x v : World) → events_of ps ≡ e ∷ more → Plays u ps x → Plays w ps v → u ≡ w
unfolding Plays events_of
starts_same [] e more u w x v some a b = absurd (let f : [] ≡ e ∷ more = some in cc)
starts_same (p ∷ ps) e more u w x v some a b = sym a.0 ∙ b.0

-- an empty run has no event
none_passes : {A : Type 0} (w v : World) (e : Event) (more : List Event) → Passes [] w (e ∷ more) v → A
unfolding events_of
none_passes w v e more p = by_parts p.before p.part p.parts p.events
  where
    by_parts : {A : Type 0} (before part : List Played) → [] ≡ before ++ (part ++ p.behind) → events_of part ≡ e ∷ more → A
    by_parts [] [] parts events = absurd (let f : [] ≡ e ∷ more = events in cc)
    by_parts [] (q ∷ qs) parts events = absurd (let f : [] ≡ q ∷ (qs ++ p.behind) = parts in cc)
    by_parts (q ∷ qs) part parts events = absurd (let f : [] ≡ q ∷ (qs ++ (part ++ p.behind)) = parts in cc)

-- the world agrees with its table, also with all rows that are declared later, and the events lead on from there
record LeadsOn (w : World) (es : List Event) (v : World) : Type 0 where
  good : WorldAgrees (declaring v.declared w)
  run : Follows (declaring v.declared w) es v

module _ (agrees : (u v : World) (played : List Played) → PlaysFrom u played v → AllByRecursion LeavesAgreement played × WorldAgrees v) where
  passes_on : (u : World) (played : List Played) (end w v : World) (e : Event) (more : List Event) → PlaysFrom u played end → AllByRecursion IsFree (e ∷ more) → Passes played w (e ∷ more) v
      → LeadsOn w (e ∷ more) v
  passes_on u played end w v e more from all p =
      let rest = p.part ++ p.behind in
      let in_parts : PlaysFrom u (p.before ++ rest) end = subst (λ ps. PlaysFrom u ps end) p.parts from in
      let whole = plays_split p.before rest u end in_parts.plays in
      let here = plays_split p.part p.behind whole.0 end whole.2 in
      let to_w : Plays u p.before w = subst (Plays u p.before) (starts_same p.part e more whole.0 w here.0 v p.events here.1 p.run) whole.1 in
      let to_v : Plays u (p.before ++ p.part) v = plays_join p.before p.part u w v to_w p.run in
      let together = append_assoc p.before p.part p.behind in
      let with_part : PlaysFrom u ((p.before ++ p.part) ++ p.behind) end = subst (λ ps. PlaysFrom u ps end) (sym together) in_parts in
      let at_w = agrees u w p.before (played_front u end w p.before rest in_parts to_w) in
      let at_v = agrees u v (p.before ++ p.part) (played_front u end v (p.before ++ p.part) p.behind with_part to_v) in
      let all_part = subst (AllByRecursion IsFree) (sym p.events) all in
      record {
        good = declaring_agrees w v at_w.1 at_v.1;
        run = subst (λ es. Follows (declaring v.declared w) es v) p.events (follows v.declared p.part w v p.run p.uncut all_part);
      }

  on_too : (w v : World) (m : ℕ) → IsOn w m → IsOn (declaring v.declared w) m
  on_too w v m on = record { running = on.running; runs = on.runs }

  pub rounds_bring : DrainedLaw → RoundLaw → RoundsLaw
  unfolding round
  rounds_bring drained raises u played end from =
      record {
        rests = λ w v m t.
            let l = passes_on u played end w v (paced m) (replicate 49 (paced m)) from (all_replicate IsFree 50 (paced m) refl) t.passes in
            let r = drained (declaring v.declared w) v m l.good t.there (on_too w v m t.on) l.run t.room in
            record { running = r.running; runs = r.runs; drained = r.drained; kept = r.kept; others = r.others };
        raises = λ w v a b i r ahead.
            let l = passes_on u played end w v (paced a) (drop 1 (round a b)) from (round_free a b) r.passes in
            let d = raises (declaring v.declared w) v a b i l.good r.near r.alike (on_too w v a r.on_a) (on_too w v b r.on_b) l.run r.room_a r.room_b ahead in
            record { raises = d.0; kept = d.1; others = d.2 };
      }

pub none_bring : RoundsBring []
unfolding round
none_bring = record {
  rests = λ w v m t. none_passes w v (paced m) (replicate 49 (paced m)) t.passes;
  raises = λ w v a b i r ahead. none_passes w v (paced a) (drop 1 (round a b)) r.passes;
}
