-- What turns make of the course of a rehearsal.
use Rattle.std.proofs.Common.{◌≡◌, ℕ, zero, suc, ◌+◌, ◌-◌, ◌*◌, ◌%◌, ◌^◌, ◌≤◌, ◌<◌, min, cond, Bool, true, false, List, [], ◌∷◌, length, Option, Some, None, refl, sym, ap, subst, ◌∙◌, arith, add-one}
use Rattle.std.specs.Prelude.{nat_le, nat_lt, is_some, ◌&&◌, IfOk, Result}
use Rattle.std.proofs.lemmas.Bool.Decides.{nat_tests}
use Rattle.dg_base.specs.declared.events.Cut.{Cut}
use Rattle.dg_base.specs.declared.events.Event.{Event}
use Rattle.dg_base.specs.declared.events.Event.TheVariants.{Hear, Reset, Inject, Order}
use Rattle.dg_netcfg.specs.declared.profile.NetProfile.{NetProfile}
use Rattle.dg_volume.specs.Store.{Store}
use Rattle.dg_script.specs.Places.{is_linked}
use Rattle.dg_rules.specs.World.{World}
use Rattle.dg_world.specs.Due.{due_at}
use Rattle.dg_rehearse.specs.Courses.{Agenda, Course, Scene, IsCourse, IsStagedWorld, Moves, event_course, cut_course, drawn_course, drawn_word, moment_after, past_draw}
use Rattle.dg_rehearse.specs.Rehearsed.{Staging}
use Rattle.dg_rehearse.specs.Turns.{MovesCut, after_draws, between_cuts, cut_agenda, cut_turn, delivered_course, draw_at, heard_by_word, heard_course, heard_courses, injected_course, next_cut_at, not_until, ordered_course, rested_course, since_moment, start_cut, started_course, started_courses, ticked_course, turn_course, turn_event}
use Rattle.dg_rehearse.specs.declared.plan.Plan.{Plan}
use Rattle.dg_rehearse.specs.declared.schedule.Next.{Next}
use Rattle.dg_rehearse.proofs.CourseLemmas.{Placed, agenda_moves, staged_world, word_moves}

at_most : (n d : ℕ) → n ≤ d → nat_le n d ≡ true
at_most n d l = grind (arith, nat_tests)

not_at_most : (n d : ℕ) → d < n → nat_le n d ≡ false
not_at_most n d l = grind (arith, nat_tests)

below : (n d : ℕ) → n < d → nat_lt n d ≡ true
below n d l = grind (arith, nat_tests)

not_below : (n d : ℕ) → d ≤ n → nat_lt n d ≡ false
not_below n d l = grind (arith, nat_tests)

-- ---- how it begins

pub started_more : (p : Plan) (m : ℕ) (c : Course) → started_courses p (m + 1) c ≡ started_course p m (started_courses p m c)
unfolding started_courses
started_more p m c = ap (λ (k : ℕ). started_courses p k c) (add-one m)

pub starts_more : (n : NetProfile) (p : Plan) (m : ℕ) (x y z : Scene) → Moves (started_courses p m) n p x y → Moves (started_course p m) n p y z → Moves (started_courses p (m + 1)) n p x z
starts_more n p m x y z a b = λ c k. subst (λ (d : Course). IsCourse n p z d) (sym (started_more p m c)) (b (started_courses p m c) (a c k))

pub starts_none : (n : NetProfile) (p : Plan) (x : Scene) → Moves (started_courses p 0) n p x x
unfolding started_courses
starts_none n p x = λ c k. k

pub order_moves : (n : NetProfile) (p : Plan) (x y : Scene) → p.ordered ≡ true → Moves (λ c. event_course p (Order p.at 1 p.image p.version 0 (drawn_word c.agenda)) (drawn_course c)) n p x y → Moves (ordered_course p) n p x y
unfolding ordered_course
order_moves n p x y so moves = λ c k.
    subst (λ (b : Bool). IsCourse n p y (cond b (event_course p (Order p.at 1 p.image p.version 0 (drawn_word c.agenda)) (drawn_course c)) c)) (sym so) (moves c k)

pub unordered_moves : (n : NetProfile) (p : Plan) (x : Scene) → p.ordered ≡ false → Moves (ordered_course p) n p x x
unfolding ordered_course
unordered_moves n p x not_so = λ c k.
    subst (λ (b : Bool). IsCourse n p x (cond b (event_course p (Order p.at 1 p.image p.version 0 (drawn_word c.agenda)) (drawn_course c)) c)) (sym not_so) k

pub inject_moves : (n : NetProfile) (p : Plan) (x y z : Scene) → Moves (λ c. event_course p (Inject p.at p.image p.version 0 (drawn_word c.agenda)) (drawn_course c)) n p x y → Moves (ordered_course p) n p y z → Moves (injected_course p) n p x z
unfolding injected_course
inject_moves n p x y z a b = λ c k. b (event_course p (Inject p.at p.image p.version 0 (drawn_word c.agenda)) (drawn_course c)) (a c k)

-- ---- frames

module _ (n : NetProfile) (p : Plan) (from frame m : ℕ) where
  abbrev hears : World → Bool
  hears w = is_linked n.links from m && is_some (due_at w m)

  heard_if : (c : Course) (b : Bool) → hears c.world ≡ b → heard_course n p from frame m c ≡ cond b (heard_by_word p m frame (drawn_word c.agenda) (drawn_course c)) c
  unfolding heard_course
  heard_if c b e = ap (λ (x : Bool). cond x (heard_by_word p m frame (drawn_word c.agenda) (drawn_course c)) c) e

  pub unheard_moves : (x : Scene) → ((w : World) → IsStagedWorld n x.staging w → false ≡ hears w) → Moves (heard_course n p from frame m) n p x x
  unheard_moves x h = λ c k. subst (λ (d : Course). IsCourse n p x d) (sym (heard_if c false (sym (h c.world (staged_world n p x c k))))) k

  pub lost_moves : (a b : Agenda) (s : Staging) (word : ℕ) → ((w : World) → IsStagedWorld n s w → true ≡ hears w) → word ≡ drawn_word a → b ≡ past_draw a → word % 100 < p.loss
      → Moves (heard_course n p from frame m) n p (Placed a s) (Placed b s)
  lost_moves a b s word h drawn past lost = λ c k.
      let e : word ≡ drawn_word c.agenda = drawn ∙ ap drawn_word k.agenda in
      let l : nat_le p.loss (drawn_word c.agenda % 100) ≡ false = ap (λ (v : ℕ). nat_le p.loss (v % 100)) (sym e) ∙ not_at_most p.loss (word % 100) lost in
      subst (λ (d : Course). IsCourse n p (Placed b s) d)
      (sym
      (heard_if c true (sym (h c.world (staged_world n p (Placed a s) c k)))
      ∙ ap (λ (x : Bool). cond x (event_course p (Hear m 0 (drawn_word (drawn_course c).agenda) frame) (drawn_course (drawn_course c))) (drawn_course c)) l))
      (agenda_moves past_draw n p a b s past c k)

  pub heard_moves : (a b d : Agenda) (s : Staging) (y : Scene) (word next : ℕ) → ((w : World) → IsStagedWorld n s w → true ≡ hears w) → word ≡ drawn_word a → b ≡ past_draw a → p.loss ≤ word % 100
      → next ≡ drawn_word b → d ≡ past_draw b → Moves (event_course p (Hear m 0 next frame)) n p (Placed d s) y → Moves (heard_course n p from frame m) n p (Placed a s) y
  heard_moves a b d s y word next h drawn past kept drawn2 past2 moves = λ c k.
      let e : word ≡ drawn_word c.agenda = drawn ∙ ap drawn_word k.agenda in
      let l : nat_le p.loss (drawn_word c.agenda % 100) ≡ true = ap (λ (v : ℕ). nat_le p.loss (v % 100)) (sym e) ∙ at_most p.loss (word % 100) kept in
      subst (λ (x : Course). IsCourse n p y x)
      (sym
      (heard_if c true (sym (h c.world (staged_world n p (Placed a s) c k)))
      ∙ ap (λ (x : Bool). cond x (event_course p (Hear m 0 (drawn_word (drawn_course c).agenda) frame) (drawn_course (drawn_course c))) (drawn_course c)) l))
      (word_moves (λ v. Hear m 0 v frame) n p b d s y next drawn2 past2 moves (drawn_course c) (agenda_moves past_draw n p a b s past c k))

pub heard_none : (n : NetProfile) (p : Plan) (from frame : ℕ) (x : Scene) → Moves (heard_courses n p from frame 0) n p x x
unfolding heard_courses
heard_none n p from frame x = λ c k. k

heard_one : (n : NetProfile) (p : Plan) (from frame m : ℕ) (c : Course) → heard_courses n p from frame (m + 1) c ≡ heard_course n p from frame m (heard_courses n p from frame m c)
unfolding heard_courses
heard_one n p from frame m c = ap (λ (k : ℕ). heard_courses n p from frame k c) (add-one m)

pub heard_more : (n : NetProfile) (p : Plan) (from frame m : ℕ) (x y z : Scene) → Moves (heard_courses n p from frame m) n p x y → Moves (heard_course n p from frame m) n p y z → Moves (heard_courses n p from frame (m + 1)) n p x z
heard_more n p from frame m x y z a b = λ c k. subst (λ (d : Course). IsCourse n p z d) (sym (heard_one n p from frame m c)) (b (heard_courses n p from frame m c) (a c k))

module _ (n : NetProfile) (p : Plan) (from before : ℕ) where
  delivered_if : (c : Course) (sent : ℕ) (old new : Bool) → sent ≡ length c.world.sent → nat_le sent before ≡ old → nat_lt sent (2 ^ 32) ≡ new → delivered_course n p from before c ≡ cond old c (cond new (heard_courses n p from sent n.motes c) c)
  unfolding delivered_course
  delivered_if c sent old new e a b =
      ap (λ (k : ℕ). cond (nat_le k before) c (cond (nat_lt k (2 ^ 32)) (heard_courses n p from k n.motes c) c)) (sym e) ∙ ap (λ (x : Bool). cond x c (cond (nat_lt sent (2 ^ 32)) (heard_courses n p from sent n.motes c) c)) a
      ∙ ap (λ (x : Bool). cond old c (cond x (heard_courses n p from sent n.motes c) c)) b

  abbrev Counts : Scene → ℕ → Type 0
  Counts x sent = (w : World) → IsStagedWorld n x.staging w → sent ≡ length w.sent

  pub old_moves : (x : Scene) (sent : ℕ) → Counts x sent → sent ≤ before → Moves (delivered_course n p from before) n p x x
  old_moves x sent counts old = λ c k.
      subst (λ (d : Course). IsCourse n p x d) (sym (delivered_if c sent true (nat_lt sent (2 ^ 32)) (counts c.world (staged_world n p x c k)) (at_most sent before old) refl)) k

  pub far_moves : (x : Scene) (sent : ℕ) → Counts x sent → before < sent → 2 ^ 32 ≤ sent → Moves (delivered_course n p from before) n p x x
  far_moves x sent counts new far = λ c k.
      subst (λ (d : Course). IsCourse n p x d) (sym (delivered_if c sent false false (counts c.world (staged_world n p x c k)) (not_at_most sent before new) (not_below sent (2 ^ 32) far))) k

  pub delivered_moves : (x y : Scene) (sent frame : ℕ) → Counts x sent → before < sent → sent < 2 ^ 32 → frame ≡ sent → Moves (heard_courses n p from frame n.motes) n p x y → Moves (delivered_course n p from before) n p x y
  delivered_moves x y sent frame counts new near same moves = λ c k.
      subst (λ (d : Course). IsCourse n p y d) (sym (delivered_if c sent false true (counts c.world (staged_world n p x c k)) (not_at_most sent before new) (below sent (2 ^ 32) near)))
      (subst (λ (f : ℕ). IsCourse n p y (heard_courses n p from f n.motes c)) same (moves c k))

-- ---- a turn

pub turn_moves : (n : NetProfile) (p : Plan) (next : Next) (a b d f : Agenda) (s t : Staging) (y : Scene) (due : Option ℕ) (dt word before rest : ℕ) (event : Event)
    → ((w : World) → IsStagedWorld n s w → due ≡ due_at w next.mote) → dt ≡ since_moment s.moment next.moment → word ≡ drawn_word a → b ≡ past_draw a → event ≡ turn_event (is_some due) next.mote dt word
    → ((w : World) → IsStagedWorld n s w → before ≡ length w.sent) → Moves (event_course p event) n p (Placed b s) (Placed d t) → f ≡ not_until next.mote rest d → rest ≡ moment_after t.moment 1
    → Moves (delivered_course n p next.mote before) n p (Placed f t) y → Moves (turn_course n p next) n p (Placed a s) y
unfolding turn_course
turn_moves n p next a b d f s t y due dt word before rest event is_due since drawn past is count moves rests later delivers = λ c k.
    let at = staged_world n p (Placed a s) c k in
    let first = agenda_moves past_draw n p a b s past c k in
    let same : event ≡ turn_event (is_some (due_at c.world next.mote)) next.mote (since_moment c.world.moment next.moment) (drawn_word c.agenda) =
    is ∙ ap (λ (o : Option ℕ). turn_event (is_some o) next.mote dt word) (is_due c.world at) ∙ ap (λ (i : ℕ). turn_event (is_some (due_at c.world next.mote)) next.mote i word) (since ∙ ap (λ (i : ℕ). since_moment i next.moment) k.moment)
    ∙ ap (λ (v : ℕ). turn_event (is_some (due_at c.world next.mote)) next.mote (since_moment c.world.moment next.moment) v) (drawn ∙ ap drawn_word k.agenda) in
    let second : IsCourse n p (Placed d t) (ticked_course p next c) = subst (λ (e : Event). IsCourse n p (Placed d t) (event_course p e (drawn_course c))) same (moves (drawn_course c) first) in
    let third : IsCourse n p (Placed f t) (rested_course next.mote (ticked_course p next c)) =
    record {
      agenda = rests ∙ ap (λ (i : ℕ). not_until next.mote i d) (later ∙ ap (λ (i : ℕ). moment_after i 1) second.moment) ∙ ap (λ (g : Agenda). not_until next.mote (moment_after (ticked_course p next c).world.moment 1) g) second.agenda;
      is = second.is;
      moment = second.moment;
      count = second.count;
      spelled = second.spelled;
    } in
    subst (λ (i : ℕ). IsCourse n p y (delivered_course n p next.mote i (rested_course next.mote (ticked_course p next c)))) (count c.world at) (delivers (rested_course next.mote (ticked_course p next c)) third)

-- ---- a reset with a cut

pub cut_turn_moves : (n : NetProfile) (p : Plan) (moment : ℕ) (a b : Agenda) (s : Staging) (y : Scene) → b ≡ cut_agenda moment a
    → ((c : Course) → IsCourse n p (Placed b s) c
    → (left : Store) × IsCourse n p y (cut_course p (start_cut (draw_at a 2) (draw_at a 3)) (Reset (draw_at a 0 % n.motes) (since_moment s.moment moment) (draw_at a 1)) left c))
    → MovesCut moment n p (Placed a s) y
unfolding cut_turn
cut_turn_moves n p moment a b s y drawn moves = λ c k.
    let first = agenda_moves (cut_agenda moment) n p a b s drawn c k in
    let last = moves (record c { agenda = cut_agenda moment c.agenda }) first in (
      last.0,
      subst (λ (g : Agenda). IsCourse n p y (cut_course p (start_cut (draw_at g 2) (draw_at g 3)) (Reset (draw_at g 0 % n.motes) (since_moment c.world.moment moment) (draw_at g 1)) last.0 (record c { agenda = cut_agenda moment c.agenda }))) k.agenda
          (subst (λ (i : ℕ). IsCourse n p y (cut_course p (start_cut (draw_at a 2) (draw_at a 3)) (Reset (draw_at a 0 % n.motes) (since_moment i moment) (draw_at a 1)) last.0 (record c { agenda = cut_agenda moment c.agenda }))) k.moment last.1),
    )

-- the cut that two draws choose
pub cut_of_draws : {E : Type 0} (r : Result Cut E) (mask after : ℕ) (a b : Agenda) → mask ≡ drawn_word a → b ≡ past_draw a → after ≡ drawn_word b → IfOk r (λ cut. cut ≡ start_cut mask after) → IfOk r (λ cut. cut ≡ start_cut (draw_at a 0) (draw_at a 1))
cut_of_draws r mask after a b first past second h =
    subst (λ (m : ℕ). IfOk r (λ cut. cut ≡ start_cut m (draw_at a 1))) first (subst (λ (k : ℕ). IfOk r (λ cut. cut ≡ start_cut mask k)) (second ∙ ap drawn_word past) h)

pub cut_turn_from : (n : NetProfile) (p : Plan) (moment : ℕ) (a0 a1 a2 a4 a5 a6 : Agenda) (s : Staging) (y : Scene) (first mote word wait dt next : ℕ) (cut : Cut)
    → first ≡ drawn_word a0 → a1 ≡ past_draw a0 → word ≡ drawn_word a1 → a2 ≡ past_draw a1 → cut ≡ start_cut (draw_at a2 0) (draw_at a2 1) → a4 ≡ after_draws 2 a2 → wait ≡ drawn_word a4 → a5 ≡ past_draw a4
    → mote ≡ first % n.motes → dt ≡ since_moment s.moment moment → next ≡ moment_after moment (wait % between_cuts) → a6 ≡ next_cut_at next a5
    → ((c : Course) → IsCourse n p (Placed a6 s) c → (left : Store) × IsCourse n p y (cut_course p cut (Reset mote dt word) left c)) → MovesCut moment n p (Placed a0 s) y
cut_turn_from n p moment a0 a1 a2 a4 a5 a6 s y first mote word wait dt next cut d0 e1 d1 e2 is_cut e4 d4 e5 is_mote is_dt is_next e6 moves =
    let two : a2 ≡ after_draws 2 a0 = e2 ∙ ap past_draw e1 in
    let four : a4 ≡ after_draws 4 a0 = e4 ∙ ap (after_draws 2) two in
    let five : a5 ≡ after_draws 5 a0 = e5 ∙ ap past_draw four in
    let last : a6 ≡ cut_agenda moment a0 =
    e6 ∙ ap (λ (g : Agenda). next_cut_at next g) five ∙ ap (λ (k : ℕ). next_cut_at k (after_draws 5 a0)) (is_next ∙ ap (λ (k : ℕ). moment_after moment (k % between_cuts)) (d4 ∙ ap drawn_word four)) in
    let cuts : cut ≡ start_cut (draw_at a0 2) (draw_at a0 3) = is_cut ∙ ap (λ (g : Agenda). start_cut (draw_at g 0) (draw_at g 1)) two in
    let event : Reset mote dt word ≡ Reset (draw_at a0 0 % n.motes) (since_moment s.moment moment) (draw_at a0 1) =
    ap (λ (k : ℕ). Reset k dt word) (is_mote ∙ ap (λ (k : ℕ). k % n.motes) d0) ∙ ap (λ (k : ℕ). Reset (draw_at a0 0 % n.motes) k word) is_dt ∙ ap (λ (k : ℕ). Reset (draw_at a0 0 % n.motes) (since_moment s.moment moment) k) (d1 ∙ ap drawn_word e1) in
    cut_turn_moves n p moment a0 a6 s y last
    (λ c k. let m = moves c k in (m.0, subst (λ (x : Cut). IsCourse n p y (cut_course p x (Reset (draw_at a0 0 % n.motes) (since_moment s.moment moment) (draw_at a0 1)) m.0 c)) cuts (subst (λ (e : Event). IsCourse n p y (cut_course p cut e m.0 c)) event m.1)))
