-- The same words give the same bytes.
use Rattle.std.proofs.Common.{◌≡◌, ◌⊎◌, ⊎_elim, ℕ, zero, suc, ◌+◌, ◌*◌, ◌^◌, ◌%◌, ◌≤◌, ◌<◌, cond, Bool, true, false, ◌&&◌, List, [], ◌∷◌, length, Option, Some, None, refl, sym, ap, subst, ◌∙◌, arith}
use Rattle.std.specs.Prelude.{nat_le, nat_lt, is_some, ◌==◌, slice_set}
use Rattle.std.proofs.lemmas.Bool.{cases_lt}
use Rattle.dg_base.specs.declared.events.Event.{Event}
use Rattle.dg_base.specs.declared.events.Event.TheVariants.{Hear, Inject, Order}
use Rattle.dg_netcfg.specs.declared.profile.NetProfile.{NetProfile}
use Rattle.dg_script.specs.Places.{is_linked}
use Rattle.dg_script.specs.declared.report.Report.{Report}
use Rattle.dg_script.specs.declared.report.Report.TheVariants as line
use Rattle.dg_script.specs.Sizes.{most_used_bytes}
use Rattle.dg_volume.specs.Store.{Store}
use Rattle.dg_rules.specs.World.{World}
use Rattle.dg_world.specs.Due.{due_at}
use Rattle.dg_rehearse.specs.Clocked.{after_turns, AreLeft, AreSame, EndsAfter, HadNotEnded, IsByClock, opening_course}
use Rattle.dg_rehearse.specs.Courses.{Agenda, Course, drawn_course, drawn_word, event_course, noted_event, noted_line, noted_lines}
use Rattle.dg_rehearse.specs.Ended.{turn_room}
use Rattle.dg_rehearse.specs.Rehearsed.{base_chip, rehearsed_lines, written_lines}
use Rattle.dg_rehearse.specs.Turns.{coming_by, coming_for, coming_of, delivered_course, ending_of_course, first_course, first_turn, heard_by_word, heard_course, heard_courses, injected_course, is_cut_first, next_moment, not_before, ordered_course, rested_course, started_course, started_courses, ticked_course, turn_course, turned, turned_by, within_time}
use Rattle.dg_rehearse.specs.declared.plan.Ending.{Ending}
use Rattle.dg_rehearse.specs.declared.plan.Ending.TheVariants.{OutOfTime, TooLong}
use Rattle.dg_rehearse.specs.declared.plan.Plan.{Plan}
use Rattle.dg_rehearse.specs.declared.plan.Rehearsal.{Rehearsal}
use Rattle.dg_rehearse.specs.declared.schedule.Coming.{Coming}
use Rattle.dg_rehearse.specs.declared.schedule.Coming.TheVariants as coming
use Rattle.dg_rehearse.specs.declared.schedule.Next.{Next}

-- ---- turn by turn

module _ (n : NetProfile) (p : Plan) (c : Course) (left : ℕ → Store) where
  abbrev by_number : ℕ → Course
  by_number zero = c
  by_number (suc k) = turned n p (left k) (by_number k)

  -- the courses after turns are those by their number
  abbrev Follow : List Store → Type 0
  Follow xs = after_turns n p c xs ≡ by_number (length xs)

  -- so they are after each of the turns
  FollowAll : List Store → Type 0
  FollowAll [] = Unit {0}
  FollowAll (x ∷ xs) = Follow xs × FollowAll xs

  not_ended : (xs : List Store) → FollowAll xs → HadNotEnded n p c xs → (k : ℕ) → k < length xs → ending_of_course n p (by_number k) ≡ None
  unfolding HadNotEnded FollowAll
  not_ended [] all h k l = absurd (omega (arith, l))
  not_ended (x ∷ xs) all h k l =
      ⊎_elim (λ (low : k < length xs). not_ended xs all.1 h.1 k low)
      (λ (high : length xs ≤ k).
      let e : length xs ≡ k = omega (arith, l, high) in
      ap (λ (i : ℕ). ending_of_course n p (by_number i)) (sym e) ∙ ap (ending_of_course n p) (sym all.0) ∙ h.0)
      (cases_lt k (length xs))

  not_both : (o : Option Ending) (e : Ending) → o ≡ Some e → o ≡ None → ⊥
  not_both o e a b = cc

  shorter : (xs ys : List Store) (e : Ending) → Follow xs → FollowAll ys → EndsAfter n p c xs e → HadNotEnded n p c ys → length xs < length ys → ⊥
  shorter xs ys e f all ends before l =
      not_both (ending_of_course n p (by_number (length xs))) e (ap (ending_of_course n p) (sym f) ∙ ends.ends) (not_ended ys all before (length xs) l)

  same_count : (xs ys : List Store) (e f : Ending) → Follow xs → FollowAll xs → Follow ys → FollowAll ys → EndsAfter n p c xs e → EndsAfter n p c ys f → length xs ≡ length ys
  same_count xs ys e f a b g h x y =
      ⊎_elim (λ (low : length xs < length ys). absurd (shorter xs ys e a h x y.before low))
      (λ (high : length ys ≤ length xs).
      ⊎_elim (λ (more : length ys < length xs). absurd (shorter ys xs f g b y x.before more)) (λ (same : length xs ≤ length ys). omega (arith, high, same)) (cases_lt (length ys) (length xs)))
      (cases_lt (length xs) (length ys))

  same_course : (xs ys : List Store) (e f : Ending) → Follow xs → FollowAll xs → Follow ys → FollowAll ys → EndsAfter n p c xs e → EndsAfter n p c ys f → after_turns n p c xs ≡ after_turns n p c ys
  same_course xs ys e f a b g h x y = a ∙ ap by_number (same_count xs ys e f a b g h x y) ∙ sym g

  -- where cuts left these stores
  follows : (xs : List Store) → AreLeft left xs → Follow xs
  unfolding AreLeft after_turns
  follows [] h = refl
  follows (x ∷ xs) h = ap (λ (s : Store). turned n p s (after_turns n p c xs)) h.0 ∙ ap (turned n p (left (length xs))) (follows xs h.1)

  follows_all : (xs : List Store) → AreLeft left xs → FollowAll xs
  unfolding AreLeft FollowAll
  follows_all [] h = tt
  follows_all (x ∷ xs) h = (follows xs h.1, follows_all xs h.1)

some_equal : (a b : Ending) → ◌≡◌ {A = Option Ending} (Some a) (Some b) → a ≡ b
some_equal a b e = cc

alike : (n : NetProfile) (p : Plan) (xs ys : List Store) (a b : Rehearsal) → IsByClock n p xs a → IsByClock n p ys b → after_turns n p (opening_course n p) xs ≡ after_turns n p (opening_course n p) ys → AreSame a b
alike n p xs ys a b x y same = record {
  script = x.script ∙ ap (λ (c : Course). written_lines (rehearsed_lines n p c.steps)) same ∙ sym y.script;
  ending = some_equal a.ending b.ending (sym x.ends.ends ∙ ap (ending_of_course n p) same ∙ y.ends.ends);
  moment = x.moment ∙ ap (λ (c : Course). c.world.moment) same ∙ sym y.moment;
}

pub same_by_cuts : (n : NetProfile) (p : Plan) (left : ℕ → Store) (xs ys : List Store) (a b : Rehearsal) → AreLeft left xs → AreLeft left ys → IsByClock n p xs a → IsByClock n p ys b → AreSame a b
same_by_cuts n p left xs ys a b l m x y =
    let c = opening_course n p in
    alike n p xs ys a b x y (same_course n p c left xs ys a.ending b.ending (follows n p c left xs l) (follows_all n p c left xs l) (follows n p c left ys m) (follows_all n p c left ys m) x.ends y.ends)

-- ---- without cuts

abbrev cuts_of : Course → ℕ
cuts_of c = c.agenda.cuts

cuts_in : (b : Bool) (x y : Agenda) (k : ℕ) → x.cuts ≡ k → y.cuts ≡ k → (cond b x y).cuts ≡ k
cuts_in true x y k e f = e
cuts_in false x y k e f = f

either_cuts : (b : Bool) (x y : Course) (k : ℕ) → cuts_of x ≡ k → cuts_of y ≡ k → cuts_of (cond b x y) ≡ k
either_cuts true x y k e f = e
either_cuts false x y k e f = f

line_cuts : (p : Plan) (a : Agenda) (r : Report) → (noted_line p a r).cuts ≡ a.cuts
line_cuts p a (line.Order m number i v) = refl
line_cuts p a (line.Lost m i) = refl
line_cuts p a (line.Have m i v k) = cuts_in ((i == p.image) && (v == p.version)) (record a { whole = slice_set a.whole m (k == a.pages) }) a a.cuts refl refl
line_cuts p a (line.Start m i v size crc) = refl
line_cuts p a (line.Off m) = refl
line_cuts p a (line.SentAdvert m) = refl
line_cuts p a (line.SentRequest m to i v page count) = refl
line_cuts p a (line.SentData m i v page packet) = refl
line_cuts p a (line.Refused m why) = refl
line_cuts p a (line.Taken i v) = refl
line_cuts p a (line.End events) = refl
line_cuts p a (line.MoteOn m i v) = refl
line_cuts p a (line.MoteOff m) = refl
line_cuts p a (line.Kept m i v k) = refl

lines_cuts : (p : Plan) (a : Agenda) (rs : List Report) → (noted_lines p a rs).cuts ≡ a.cuts
unfolding noted_lines
lines_cuts p a [] = refl
lines_cuts p a (r ∷ rs) = lines_cuts p (noted_line p a r) rs ∙ line_cuts p a r

event_cuts : (p : Plan) (m : ℕ) (rs : List Report) (w : World) (a : Agenda) → (noted_event p m rs w a).cuts ≡ a.cuts
unfolding noted_event
event_cuts p m rs w a = lines_cuts p a rs

played_cuts : (p : Plan) (e : Event) (c : Course) → cuts_of (event_course p e c) ≡ cuts_of c
unfolding event_course
played_cuts p e c = event_cuts p _ _ _ c.agenda

heard_cuts : (n : NetProfile) (p : Plan) (from frame m : ℕ) (c : Course) → cuts_of (heard_course n p from frame m c) ≡ cuts_of c
unfolding heard_course
heard_cuts n p from frame m c =
    either_cuts (is_linked n.links from m && is_some (due_at c.world m)) (heard_by_word p m frame (drawn_word c.agenda) (drawn_course c)) c (cuts_of c)
    (either_cuts (nat_le p.loss (drawn_word c.agenda % 100)) (event_course p (Hear m 0 (drawn_word (drawn_course c).agenda) frame) (drawn_course (drawn_course c))) (drawn_course c) (cuts_of c) (played_cuts p _ (drawn_course (drawn_course c))) refl) refl

all_heard_cuts : (n : NetProfile) (p : Plan) (from frame m : ℕ) (c : Course) → cuts_of (heard_courses n p from frame m c) ≡ cuts_of c
unfolding heard_courses
all_heard_cuts n p from frame zero c = refl
all_heard_cuts n p from frame (suc m) c = heard_cuts n p from frame m (heard_courses n p from frame m c) ∙ all_heard_cuts n p from frame m c

delivered_cuts : (n : NetProfile) (p : Plan) (from before : ℕ) (c : Course) → cuts_of (delivered_course n p from before c) ≡ cuts_of c
unfolding delivered_course
delivered_cuts n p from before c =
    let all : Course = heard_courses n p from (length c.world.sent) n.motes c in
    either_cuts (nat_le (length c.world.sent) before) c (cond (nat_lt (length c.world.sent) (2 ^ 32)) all c) (cuts_of c) refl
    (either_cuts (nat_lt (length c.world.sent) (2 ^ 32)) all c (cuts_of c) (all_heard_cuts n p from (length c.world.sent) n.motes c) refl)

turn_cuts : (n : NetProfile) (p : Plan) (next : Next) (c : Course) → cuts_of (turn_course n p next c) ≡ cuts_of c
unfolding turn_course
turn_cuts n p next c = delivered_cuts n p next.mote (length c.world.sent) (rested_course next.mote (ticked_course p next c)) ∙ played_cuts p _ (drawn_course c)

starts_cuts : (p : Plan) (m : ℕ) (c : Course) → cuts_of (started_courses p m c) ≡ cuts_of c
unfolding started_courses
starts_cuts p zero c = refl
starts_cuts p (suc m) c = played_cuts p _ (drawn_course (started_courses p m c)) ∙ starts_cuts p m c

order_cuts : (p : Plan) (c : Course) → cuts_of (ordered_course p c) ≡ cuts_of c
unfolding ordered_course
order_cuts p c = either_cuts p.ordered (event_course p (Order p.at 1 p.image p.version 0 (drawn_word c.agenda)) (drawn_course c)) c (cuts_of c) (played_cuts p _ (drawn_course c)) refl

inject_cuts : (p : Plan) (c : Course) → cuts_of (injected_course p c) ≡ cuts_of c
unfolding injected_course
inject_cuts p c = order_cuts p _ ∙ played_cuts p _ (drawn_course c)

opening_cuts : (n : NetProfile) (p : Plan) → cuts_of (opening_course n p) ≡ p.cuts
opening_cuts n p = inject_cuts p (started_courses p n.motes (first_course n p)) ∙ starts_cuts p n.motes (first_course n p)

-- what comes is no cut
IsNoCut : Coming → Type 0
IsNoCut (coming.End e) = Unit {0}
IsNoCut (coming.Cut moment) = ⊥
IsNoCut (coming.Turn next) = Unit {0}

no_cut_if : (b : Bool) (x y : Coming) → IsNoCut x → IsNoCut y → IsNoCut (cond b x y)
no_cut_if true x y h k = h
no_cut_if false x y h k = k

cut_not_first : (a : Agenda) (next : Next) → a.cuts ≡ 0 → is_cut_first a next ≡ false
cut_not_first a next none = ap (λ (k : ℕ). nat_lt 0 k && nat_le a.next_cut next.moment) none

not_within : (moment now end : ℕ) (next : Next) → IsNoCut (within_time false moment now end next)
unfolding IsNoCut
not_within moment now end next =
    let at_end : Next = record { mote = next.mote; moment = end } in
    no_cut_if (nat_le moment end) (coming.Turn next) (cond (nat_le end now) (coming.End OutOfTime) (coming.Turn at_end)) tt (no_cut_if (nat_le end now) (coming.End OutOfTime) (coming.Turn at_end) tt tt)

no_cut : (p : Plan) (a : Agenda) (now : ℕ) (next : Next) → a.cuts ≡ 0 → IsNoCut (coming_for p a now next)
no_cut p a now next none =
    subst (λ (b : Bool). IsNoCut (within_time b (next_moment b a now next) now (p.minutes * 60000) next)) (sym (cut_not_first a next none)) (not_within (next_moment false a now next) now (p.minutes * 60000) next)

coming_no_cut : (p : Plan) (motes script : ℕ) (a : Agenda) (now : ℕ) → a.cuts ≡ 0 → IsNoCut (coming_by p motes script a now)
unfolding IsNoCut coming_by
coming_no_cut p motes script a now none = let next = not_before now (first_turn a.turns motes) in no_cut_if (nat_lt most_used_bytes (script + turn_room)) (coming.End TooLong) (coming_for p a now next) tt (no_cut p a now next none)

turned_alike : (n : NetProfile) (p : Plan) (next : Coming) (c : Course) (l m : Store) → IsNoCut next → turned_by n p next l c ≡ turned_by n p next m c
unfolding IsNoCut
turned_alike n p (coming.End e) c l m h = refl
turned_alike n p (coming.Cut moment) c l m h = absurd h
turned_alike n p (coming.Turn next) c l m h = refl

turned_cuts : (n : NetProfile) (p : Plan) (next : Coming) (c : Course) (l : Store) → IsNoCut next → cuts_of (turned_by n p next l c) ≡ cuts_of c
unfolding IsNoCut
turned_cuts n p (coming.End e) c l h = refl
turned_cuts n p (coming.Cut moment) c l h = absurd h
turned_cuts n p (coming.Turn next) c l h = turn_cuts n p next c

module _ (n : NetProfile) (p : Plan) (c : Course) (none : cuts_of c ≡ 0) where
  abbrev any_left : ℕ → Store
  any_left k = base_chip

  plain : (xs : List Store) → Follow n p c any_left xs × (cuts_of (after_turns n p c xs) ≡ 0)
  unfolding after_turns turned
  plain [] = (refl, none)
  plain (x ∷ xs) =
      let before = plain xs in
      let at : Course = after_turns n p c xs in
      let next = coming_no_cut p n.motes (length (written_lines (rehearsed_lines n p at.steps))) at.agenda at.world.moment before.1 in
      (turned_alike n p (coming_of n p at) at x base_chip next ∙ ap (turned n p base_chip) before.0, turned_cuts n p (coming_of n p at) at x next ∙ before.1)

  plain_all : (xs : List Store) → FollowAll n p c any_left xs
  unfolding FollowAll
  plain_all [] = tt
  plain_all (x ∷ xs) = ((plain xs).0, plain_all xs)

pub same_uncut : (n : NetProfile) (p : Plan) (xs ys : List Store) (a b : Rehearsal) → p.cuts ≡ 0 → IsByClock n p xs a → IsByClock n p ys b → AreSame a b
same_uncut n p xs ys a b none x y =
    let c = opening_course n p in
    let calm : cuts_of c ≡ 0 = opening_cuts n p ∙ none in
    alike n p xs ys a b x y (same_course n p c (any_left n p c calm) xs ys a.ending b.ending (plain n p c calm xs).0 (plain_all n p c calm xs) (plain n p c calm ys).0 (plain_all n p c calm ys) x.ends y.ends)
