-- Whose turn is next in a rehearsal, and what happens in it (docs/COMMANDS.md, "Rehearsing by the clock").
use Rattle.std.specs.Prelude.{◌≡◌, ℕ, zero, suc, ◌+◌, ◌-◌, ◌*◌, ◌%◌, ◌^◌, ◌&&◌, ◌||◌, not, nat_le, nat_lt, min, max}
use Rattle.std.specs.Prelude.{Bool, true, false}
use Rattle.std.specs.Prelude.{if◌then◌else◌, Option, Some, None, is_some, List, [], ◌∷◌, length, replicate, slice_index_or}
use Rattle.std.specs.List.{list_any}
use Rattle.std.proofs.Common.{lit≤}
use Rattle.std.proofs.Math.Nat.{le-add_right}
use Rattle.dg_base.specs.declared.events.Cut.{Cut}
use Rattle.dg_base.specs.declared.events.Event.{Event}
use Rattle.dg_base.specs.declared.events.Event.TheVariants.{Tick, Hear, Reset, Inject, Order}
use Rattle.dg_netcfg.specs.declared.profile.NetProfile.{NetProfile}
use Rattle.dg_object.specs.Object.{pages_for}
use Rattle.dg_seed.specs.Draws.{first_generator}
use Rattle.dg_volume.specs.Store.{Store}
use Rattle.dg_script.specs.Places.{is_linked}
use Rattle.dg_script.specs.Sizes.{most_motes, most_used_bytes}
use Rattle.dg_script.specs.declared.report.Report.{Report}
use Rattle.dg_rules.specs.Changes.{final_lines}
use Rattle.dg_world.specs.Due.{due_at}
use Rattle.dg_rehearse.specs.Courses.{Agenda, Course, last_moment, moment_after, drawn_word, past_draw, drawn_course}
use Rattle.dg_rehearse.specs.Courses.{event_course, cut_course}
use Rattle.dg_rehearse.specs.Courses.{Scene, IsCourse, set_turn}
use Rattle.dg_rehearse.specs.Ended.{turn_room, tells_kept, tells_on}
use Rattle.dg_world.specs.Worlds.{IsWorld}
use Rattle.dg_rehearse.specs.Rehearsed.{Staging, rehearsed_world, declared_world, rehearsed_lines, written_lines}
use Rattle.dg_rehearse.specs.declared.plan.Ending.{Ending}
use Rattle.dg_rehearse.specs.declared.plan.Ending.TheVariants.{Complete, OutOfTime, TooLong}
use Rattle.dg_rehearse.specs.declared.plan.Plan.{Plan}
use Rattle.dg_rehearse.specs.declared.schedule.Coming.{Coming}
use Rattle.dg_rehearse.specs.declared.schedule.Coming.TheVariants as coming
use Rattle.dg_rehearse.specs.declared.schedule.Next.{Next}

-- ---- whose turn is next

-- the longest time from one reset with a cut to the next, in milliseconds
abbrev pub between_cuts : ℕ
between_cuts = 60000

abbrev pub earlier_of : Next → Next → Next
earlier_of a b = if nat_lt b.moment a.moment then b else a

-- of the first so many motes the one whose turn comes first: of several the one with the least number
unfoldable pub first_turn : (turns : List ℕ) → (motes : ℕ) → Next
first_turn turns zero = record { mote = 0; moment = last_moment }
first_turn turns (suc m) = earlier_of (first_turn turns m) (record { mote = m; moment = slice_index_or turns m last_moment })

-- not before now
abbrev pub not_before : ℕ → Next → Next
not_before now next = record next { moment = max next.moment now }

abbrev pub coming_now : (is_cut : Bool) → (moment : ℕ) → Next → Coming
coming_now is_cut moment next = if is_cut then coming.Cut moment else coming.Turn next

-- it comes within the time or, if nothing does, a turn at the end of the time
abbrev pub within_time : (is_cut : Bool) → (moment now end : ℕ) → Next → Coming
within_time is_cut moment now end next =
    if nat_le moment end then coming_now is_cut moment next
    else if nat_le end now then coming.End OutOfTime
    else coming.Turn (record { mote = next.mote; moment = end })

-- a reset with a cut comes before the turn of a mote
abbrev pub is_cut_first : Agenda → Next → Bool
is_cut_first a next = nat_lt 0 a.cuts && nat_le a.next_cut next.moment

abbrev pub next_moment : (is_cut : Bool) → Agenda → (now : ℕ) → Next → ℕ
next_moment is_cut a now next = if is_cut then max a.next_cut now else next.moment

abbrev pub coming_for : Plan → Agenda → (now : ℕ) → Next → Coming
coming_for p a now next =
    within_time (is_cut_first a next) (next_moment (is_cut_first a next) a now next) now (p.minutes * 60000) next

unfoldable pub coming_by : Plan → (motes script : ℕ) → Agenda → (now : ℕ) → Coming
coming_by p motes script a now =
    if nat_lt most_used_bytes (script + turn_room) then coming.End TooLong
    else coming_for p a now (not_before now (first_turn a.turns motes))

-- what is next
abbrev pub coming_of : NetProfile → Plan → Course → Coming
coming_of n p c = coming_by p n.motes (length (written_lines (rehearsed_lines n p c.steps))) c.agenda c.world.moment

-- ---- the turn of a mote

-- the milliseconds from one moment to another, as an event may have them
abbrev pub since_moment : (from to : ℕ) → ℕ
since_moment from to = min (to - from) (2 ^ 32 - 1)

-- a mote that is on ticks, and another one powers on
abbrev pub turn_event : (is_on : Bool) → (m dt word : ℕ) → Event
turn_event true m dt word = Tick m dt word
turn_event false m dt word = Reset m dt word

-- a mote ticks at most once in a millisecond
abbrev pub not_until : ℕ → (moment : ℕ) → Agenda → Agenda
not_until m moment a = set_turn m (max (slice_index_or a.turns m 0) moment) a

abbrev pub rested_course : ℕ → Course → Course
rested_course m c = record c { agenda = not_until m (moment_after c.world.moment 1) c.agenda }

-- a draw decides whether a frame is lost on its way, and the next one is the word of its event
abbrev pub heard_by_word : Plan → (m frame word : ℕ) → Course → Course
heard_by_word p m frame word c =
    if nat_le p.loss (word % 100) then event_course p (Hear m 0 (drawn_word c.agenda) frame) (drawn_course c) else c

-- a mote hears a frame if it is on, a link joins it with the one that sent the frame, and the frame is not lost
unfoldable pub heard_course : NetProfile → Plan → (from frame m : ℕ) → Course → Course
heard_course n p from frame m c =
    if is_linked n.links from m && is_some (due_at c.world m) then heard_by_word p m frame (drawn_word c.agenda) (drawn_course c)
    else c

-- the first so many motes hear it, one after the other
unfoldable pub heard_courses : NetProfile → Plan → (from frame motes : ℕ) → Course → Course
heard_courses n p from frame zero c = c
heard_courses n p from frame (suc m) c = heard_course n p from frame m (heard_courses n p from frame m c)

-- If there are more frames than before, the last one is heard. One whose number a script cannot name is not.
unfoldable pub delivered_course : NetProfile → Plan → (from before : ℕ) → Course → Course
delivered_course n p from before c =
    if nat_le (length c.world.sent) before then c
    else if nat_lt (length c.world.sent) (2 ^ 32) then heard_courses n p from (length c.world.sent) n.motes c
    else c

abbrev pub ticked_course : Plan → Next → Course → Course
ticked_course p next c =
    event_course p (turn_event (is_some (due_at c.world next.mote)) next.mote (since_moment c.world.moment next.moment)
    (drawn_word c.agenda)) (drawn_course c)

-- a mote has its turn, and the frame that it sends, if it sends one, is heard
unfoldable pub turn_course : NetProfile → Plan → Next → Course → Course
turn_course n p next c =
    delivered_course n p next.mote (length c.world.sent) (rested_course next.mote (ticked_course p next c))

-- ---- a reset with a cut

-- one byte in each place, in one of the first three operations
abbrev pub start_cut : (mask after : ℕ) → Cut
start_cut mask after =
    record {
      after = 1 + after % 3;
      mask = (mask % 256) ∷ [];
      numbered = le-add_right 1 (after % 3);
      some = lit≤ tt;
      within = lit≤ tt;
    }

abbrev pub after_draws : ℕ → Agenda → Agenda
after_draws zero a = a
after_draws (suc k) a = past_draw (after_draws k a)

-- a draw of those that come, from 0 on
abbrev pub draw_at : Agenda → ℕ → ℕ
draw_at a k = drawn_word (after_draws k a)

-- one cut less is left, and the next one comes at this moment
abbrev pub next_cut_at : (moment : ℕ) → Agenda → Agenda
next_cut_at moment a = record a { cuts = a.cuts - 1; next_cut = moment }

-- five draws choose the mote, the word of its reset, the mask, the operation, and how long it is until the next
abbrev pub cut_agenda : (moment : ℕ) → Agenda → Agenda
cut_agenda moment a = next_cut_at (moment_after moment (draw_at a 4 % between_cuts)) (after_draws 5 a)

unfoldable pub cut_turn : NetProfile → Plan → (moment : ℕ) → (left : Store) → Course → Course
cut_turn n p moment left c =
    cut_course p (start_cut (draw_at c.agenda 2) (draw_at c.agenda 3))
    (Reset (draw_at c.agenda 0 % n.motes) (since_moment c.world.moment moment) (draw_at c.agenda 1)) left
    (record c { agenda = cut_agenda moment c.agenda })

-- from one scene to another it went on by such a reset
abbrev pub MovesCut : (moment : ℕ) → NetProfile → Plan → (x y : Scene) → Type 0
MovesCut moment n p x y = (c : Course) → IsCourse n p x c → (left : Store) × IsCourse n p y (cut_turn n p moment left c)

-- ---- how it begins

abbrev pub first_agenda : Plan → Agenda
first_agenda p =
    let a : Agenda = record {
      generator = first_generator p.seed;
      turns = replicate most_motes 0;
      pages = pages_for (length p.content);
      whole = replicate most_motes false;
      runs = replicate most_motes false;
      cuts = p.cuts;
      next_cut = 0;
    } in
    record (past_draw a) { next_cut = drawn_word a % between_cuts }

-- nothing was played
abbrev pub first_course : NetProfile → Plan → Course
first_course n p = record { agenda = first_agenda p; steps = []; world = declared_world (rehearsed_world n) p }

-- a staging at which nothing was played
pub record Begins (n : NetProfile) (p : Plan) (s : Staging) : Type 0 where
  pub is : IsWorld s.kept s.boards (declared_world (rehearsed_world n) p)
  pub moment : s.moment ≡ 0
  pub spelled : s.script ≡ written_lines (rehearsed_lines n p [])

abbrev pub started_course : Plan → ℕ → Course → Course
started_course p m c = event_course p (Reset m 0 (drawn_word c.agenda)) (drawn_course c)

-- the first so many motes power on
unfoldable pub started_courses : Plan → (motes : ℕ) → Course → Course
started_courses p zero c = c
started_courses p (suc m) c = started_course p m (started_courses p m c)

unfoldable pub ordered_course : Plan → Course → Course
ordered_course p c =
    if p.ordered then event_course p (Order p.at 1 p.image p.version 0 (drawn_word c.agenda)) (drawn_course c) else c

-- the image is injected, and ordered if the plan says so
unfoldable pub injected_course : Plan → Course → Course
injected_course p c =
    ordered_course p (event_course p (Inject p.at p.image p.version 0 (drawn_word c.agenda)) (drawn_course c))

abbrev pub opened_course : NetProfile → Plan → Course → Course
opened_course n p c = injected_course p (started_courses p n.motes c)

-- ---- how it ends

unfoldable pub all_motes : (ℕ → Bool) → (motes : ℕ) → Bool
all_motes f zero = true
all_motes f (suc m) = all_motes f m && f m

-- what the last lines say of a mote
abbrev pub tells_of : Plan → List Report → ℕ → Bool
tells_of p lines m =
    list_any (tells_kept m p.image p.version (pages_for (length p.content))) lines
    && (not p.ordered || list_any (tells_on m p.image p.version) lines)

-- each mote was reported to have the image or, if it was ordered, to run it
abbrev pub is_reported_done : Plan → (motes : ℕ) → Agenda → Bool
is_reported_done p motes a = all_motes (λ m. slice_index_or (if p.ordered then a.runs else a.whole) m false) motes

-- it was reported so, and so it is
abbrev pub is_done : NetProfile → Plan → Course → Bool
is_done n p c = is_reported_done p n.motes c.agenda && all_motes (tells_of p (final_lines c.world)) n.motes

abbrev pub ending_by : Coming → Option Ending
ending_by (coming.End e) = Some e
ending_by (coming.Cut moment) = None
ending_by (coming.Turn next) = None

-- how it ends now, if it does
unfoldable pub ending_of_course : NetProfile → Plan → Course → Option Ending
ending_of_course n p c = if is_done n p c then Some Complete else ending_by (coming_of n p c)

abbrev pub turned_by : NetProfile → Plan → Coming → (left : Store) → Course → Course
turned_by n p (coming.End e) left c = c
turned_by n p (coming.Cut moment) left c = cut_turn n p moment left c
turned_by n p (coming.Turn next) left c = turn_course n p next c

-- the next turn, where its cut, if it has one that fires, leaves this store
unfoldable pub turned : NetProfile → Plan → (left : Store) → Course → Course
turned n p left c = turned_by n p (coming_of n p c) left c
