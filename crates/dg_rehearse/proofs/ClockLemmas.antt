-- A rehearsal goes turn by turn, and ends.
use Rattle.std.proofs.Common.{◌≡◌, ◌≢◌, ℕ, cond, Bool, true, false, ◌&&◌, List, [], ◌∷◌, length, Option, Some, None, refl, sym, ap, subst, ◌∙◌}
use Rattle.std.specs.Prelude.{IfOk, Result, Ok, Err}
use Rattle.dg_netcfg.specs.declared.profile.NetProfile.{NetProfile}
use Rattle.dg_nor.specs.Device.{Device}
use Rattle.dg_rules.specs.Changes.{final_lines}
use Rattle.dg_rules.specs.World.{World}
use Rattle.dg_volume.specs.Store.{Store}
use Rattle.dg_world.specs.Worlds.{IsWorld}
use Rattle.dg_world.specs.declared.world.World.{World as KeptWorld}
use Rattle.dg_rehearse.specs.Clocked.{after_turns, HadNotEnded, EndsAfter, OnComing, OnTurn, PlaysOut}
use Rattle.dg_rehearse.specs.Courses.{Agenda, Course, Scene, IsCourse, Moves}
use Rattle.dg_rehearse.specs.Rehearsed.{rehearsed_lines, written_lines}
use Rattle.dg_rehearse.specs.Turns.{all_motes, coming_by, coming_of, ending_by, ending_of_course, is_done, is_reported_done, tells_of, turned, turned_by}
use Rattle.dg_rehearse.specs.declared.plan.Ending.{Ending}
use Rattle.dg_rehearse.specs.declared.plan.Ending.TheVariants.{Complete, TooMany}
use Rattle.dg_rehearse.specs.declared.plan.Plan.{Plan}
use Rattle.dg_rehearse.specs.declared.schedule.Coming.{Coming}
use Rattle.dg_rehearse.proofs.CourseLemmas.{At, Placed}

-- ---- what is next

pub coming_is : (n : NetProfile) (p : Plan) (x : Scene) (c : Course) → IsCourse n p x c → coming_by p n.motes (length x.staging.script) x.agenda x.staging.moment ≡ coming_of n p c
coming_is n p x c k =
    ap (λ (l : List ℕ). coming_by p n.motes (length l) x.agenda x.staging.moment) k.spelled ∙ ap (λ (a : Agenda). coming_by p n.motes (length (written_lines (rehearsed_lines n p c.steps))) a x.staging.moment) k.agenda
    ∙ ap (λ (i : ℕ). coming_by p n.motes (length (written_lines (rehearsed_lines n p c.steps))) c.agenda i) k.moment

abbrev Comes : NetProfile → Plan → Scene → Coming → Type 0
Comes n p x next = (c : Course) → IsCourse n p x c → coming_of n p c ≡ next

pub comes : (n : NetProfile) (p : Plan) (x : Scene) (next : Coming) → next ≡ coming_by p n.motes (length x.staging.script) x.agenda x.staging.moment → Comes n p x next
comes n p x next e = λ c k. sym (e ∙ coming_is n p x c k)

pub on_end : (n : NetProfile) (p : Plan) (x : Scene) (next : Coming) (e : Ending) → Comes n p x next → ending_by next ≡ Some e → OnComing (Some e) n p x x
on_end n p x next e is ends = λ _ c k. (ap ending_by (is c k) ∙ ends, k)

pub on_moved : (n : NetProfile) (p : Plan) (x y : Scene) (next : Coming) (o : Option Ending) → Comes n p x next → ending_by next ≡ None → ((e : Ending) → o ≡ Some e → e ≡ TooMany)
    → (o ≡ None → (c : Course) → IsCourse n p x c → (left : Store) × IsCourse n p y (turned_by n p next left c)) → OnComing o n p x y
unfolding turned
on_moved n p x y next None is none many moves = λ c k.
    let m = moves refl c k in
    (ap ending_by (is c k) ∙ none, (m.0, subst (λ (z : Coming). IsCourse n p y (turned_by n p z m.0 c)) (sym (is c k)) m.1))
on_moved n p x y next (Some e) is none many moves = λ not_so. absurd (not_so (many e refl))

-- ---- a turn

ending_if : (n : NetProfile) (p : Plan) (c : Course) (b : Bool) → is_done n p c ≡ b → ending_of_course n p c ≡ cond b (Some Complete) (ending_by (coming_of n p c))
unfolding ending_of_course
ending_if n p c b e = ap (λ (x : Bool). cond x (Some Complete) (ending_by (coming_of n p c))) e

pub on_complete : (n : NetProfile) (p : Plan) (x y : Scene) → ((c : Course) → IsCourse n p x c → true ≡ is_done n p c) → Moves (λ c. c) n p x y → OnTurn (Some Complete) n p x y
on_complete n p x y is moves = λ _ c k. (ending_if n p c true (sym (is c k)), moves c k)

pub on_turn : {E : Type 0} (r : Result (Option Ending) E) (n : NetProfile) (p : Plan) (x y z : Scene) → ((c : Course) → IsCourse n p x c → false ≡ is_done n p c) → Moves (λ c. c) n p x y → IfOk r (λ o. OnComing o n p y z) → IfOk r (λ o. OnTurn o n p x z)
on_turn (Err e) n p x y z is moves on = tt
on_turn (Ok None) n p x y z is moves on = λ c k. let o = on c (moves c k) in (ending_if n p c false (sym (is c k)) ∙ o.0, o.1)
on_turn (Ok (Some e)) n p x y z is moves on = λ not_so c k. let o = on not_so c (moves c k) in (ending_if n p c false (sym (is c k)) ∙ o.0, o.1)

-- ---- whether it is complete

pub done_not : (n : NetProfile) (p : Plan) (x : Scene) → is_reported_done p n.motes x.agenda ≡ false → (c : Course) → IsCourse n p x c → false ≡ is_done n p c
done_not n p x not_so c k =
    sym (ap (λ (a : Agenda). is_reported_done p n.motes a && all_motes (tells_of p (final_lines c.world)) n.motes) (sym k.agenda) ∙ ap (λ (b : Bool). b && all_motes (tells_of p (final_lines c.world)) n.motes) not_so)

pub done_as : (n : NetProfile) (p : Plan) (x : Scene) (is : Bool) → is_reported_done p n.motes x.agenda ≡ true → ((w : World) → IsWorld x.staging.kept x.staging.boards w → is ≡ all_motes (tells_of p (final_lines w)) n.motes)
    → (c : Course) → IsCourse n p x c → is ≡ is_done n p c
done_as n p x is so told c k =
    told c.world k.is ∙ sym (ap (λ (a : Agenda). is_reported_done p n.motes a && all_motes (tells_of p (final_lines c.world)) n.motes) (sym k.agenda) ∙ ap (λ (b : Bool). b && all_motes (tells_of p (final_lines c.world)) n.motes) so)

-- the boards were read
pub read_moves : (n : NetProfile) (p : Plan) (a : Agenda) (kept kept2 : KeptWorld) (boards boards2 : List Device) (script script2 : List ℕ) (moment moment2 : ℕ) → ((w : World) → IsWorld kept boards w → IsWorld kept2 boards2 w) → script2 ≡ script → moment2 ≡ moment
    → Moves (λ c. c) n p (Placed a (At kept boards script moment)) (Placed a (At kept2 boards2 script2 moment2))
read_moves n p a kept kept2 boards boards2 script script2 moment moment2 stands same later = λ c k. record { agenda = k.agenda; is = stands c.world k.is; moment = later ∙ k.moment; count = k.count; spelled = same ∙ k.spelled }

-- ---- turn after turn

pub record GoneOn (n : NetProfile) (p : Plan) (c : Course) (y : Scene) : Type 0 where
  pub left : List Store
  pub before : HadNotEnded n p c left
  pub is : IsCourse n p y (after_turns n p c left)

pub gone_none : (n : NetProfile) (p : Plan) (c : Course) (x : Scene) → IsCourse n p x c → GoneOn n p c x
unfolding after_turns HadNotEnded
gone_none n p c x k = record { left = []; before = tt; is = k }

pub gone_more : {E : Type 0} (r : Result (Option Ending) E) (n : NetProfile) (p : Plan) (c : Course) (x y : Scene) → r ≡ Ok None → IfOk r (λ o. OnTurn o n p x y) → GoneOn n p c x → GoneOn n p c y
unfolding after_turns HadNotEnded
gone_more {E} r n p c x y e on g =
    let at : OnTurn None n p x y = subst (λ (q : Result (Option Ending) E). IfOk q (λ o. OnTurn o n p x y)) e on in
    let s = at (after_turns n p c g.left) g.is in
    record { left = s.1.0 ∷ g.left; before = (s.0, g.before); is = s.1.1 }

pub gone_out : {E : Type 0} (r : Result (Option Ending) E) (n : NetProfile) (p : Plan) (c : Course) (x y : Scene) (end : Ending) → r ≡ Ok (Some end) → end ≢ TooMany → IfOk r (λ o. OnTurn o n p x y) → GoneOn n p c x → PlaysOut n p c end y
gone_out {E} r n p c x y end e not_so on g =
    let at : OnTurn (Some end) n p x y = subst (λ (q : Result (Option Ending) E). IfOk q (λ o. OnTurn o n p x y)) e on in
    let s = at not_so (after_turns n p c g.left) g.is in
    record { left = g.left; ends = record { before = g.before; ends = s.0 }; is = s.1 }
