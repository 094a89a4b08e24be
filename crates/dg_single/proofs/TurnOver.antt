-- The turns of a service of one mote, over any boards.
use Rattle.std.proofs.Common.{◌≡◌, ℕ, ◌+◌, ◌^◌, ◌<◌, ◌≤◌, Bool, true, false, List, [], ◌∷◌, ◌++◌, length, set, append-nil, refl, ap, sym, ◌∙◌, subst, inl, inr, arith, length-append}
use Rattle.std.specs.Prelude.{Result, Ok, Err, IsErrAnd}
use Rattle.std.proofs.lemmas.Grind.{flat_map-append}
use Rattle.dg_nor.specs.Device.{Device}
use Rattle.dg_serve.specs.Services.{Begins, Looks, Ticks}
use Rattle.dg_serve.specs.Standings.{Standing, ServedParts, PartsHalted, PartsGoOn, stretch}
use Rattle.dg_serve.specs.declared.stop.Stop.{Stop}
use Rattle.dg_serve.proofs.GoLemmas.{went_none, went_then, went_as, went_halts, halts_as, goes_then}
use Rattle.dg_serve.proofs.LoopLemmas.{halts_exit}
use Rattle.dg_single.specs.Overs.{Owns, over, Seat, IsUnderWayOver, GoesOver, TurnGoes, TurnsGo, BeganAndGoes, RunGoes, latest_moment}
use Rattle.dg_single.specs.Plans.{turn_of, turns_of}
use Rattle.dg_single.proofs.OverLemmas.{set_again, owns_next, still_over, ready_over}
use Rattle.dg_single.proofs.PlaceLemmas.{put_same}

-- ---- a turn

pub looked_only : (r : Result (Unit {0}) Stop) (x : Seat) (d e : Device) (p q : Standing) → GoesOver r x (stretch x.motes x.motes (Looks x.mote ∷ [])) d e p q → TurnGoes r x d e p q
looked_only r x d e p q goes boards owns = (false, goes boards owns)

pub look_failed : (r : Result (Unit {0}) Stop) (why : Stop) (x : Seat) (d e : Device) (p q : Standing) → IsErrAnd r (λ e. e ≡ why) → GoesOver (Err why) x (stretch x.motes x.motes (Looks x.mote ∷ [])) d e p q → TurnGoes r x d e p q
look_failed r why x d e p q is goes boards owns = (false, halts_exit r why x.motes x.motes x.motes x.links (Looks x.mote ∷ []) (over p boards) (over q (set boards x.mote e)) is (goes boards owns))

pub looked_and_ticked : (r : Result (Unit {0}) Stop) (x : Seat) (d e f : Device) (p q s : Standing) → GoesOver (Ok tt) x (stretch x.motes x.motes (Looks x.mote ∷ [])) d e p q → GoesOver r x (stretch x.motes x.motes (Ticks x.mote ∷ [])) e f q s → TurnGoes r x d f p s
looked_and_ticked r x d e f p q s first second boards owns =
    let next = set boards x.mote e in
    let P : List Device → Type 0 = λ bs. PartsGoOn r x.motes x.links (stretch x.motes x.motes (turn_of x.mote true)) (over p boards) (over s bs) in (
      true,
      subst P (set_again boards x.mote e f)
          (goes_then r x.motes x.motes x.motes x.motes x.links (Looks x.mote ∷ []) (Ticks x.mote ∷ []) (over p boards) (over q next) (over s (set next x.mote f)) (omega arith) (omega arith) (first boards owns) (second next (owns_next x.motes x.mote d e boards owns))),
    )

pub tick_failed : (r : Result (Unit {0}) Stop) (why : Stop) (x : Seat) (d f : Device) (p s : Standing) → IsErrAnd r (λ e. e ≡ why) → TurnGoes (Err why) x d f p s → TurnGoes r x d f p s
tick_failed (Ok u) why x d f p s is goes = absurd is
tick_failed (Err e) why x d f p s is goes = subst (λ (w : Stop). TurnGoes (Err w) x d f p s) (sym is) goes

-- the mote may tick after its look
pub may_tick : (x : Seat) (d e : Device) (p q : Standing) (way : IsUnderWayOver x (2 ^ 59) d p) → GoesOver (Ok tt) x (stretch x.motes x.motes (Looks x.mote ∷ [])) d e p q → IsUnderWayOver x (2 ^ 60) e q
may_tick x d e p q way goes =
    let went = goes way.boards way.owns in
    let moved = went.moved in
    still_over x (Looks x.mote ∷ []) (2 ^ 59) (2 ^ 60) d e p q way went (omega (arith, moved, way.way.early))

-- ---- turns

pub record Turned (x : Seat) (n : ℕ) (p q : Standing) : Type 0 where
  pub ticks : List Bool
  pub count : length ticks ≡ n
  pub went : ServedParts x.motes x.motes x.motes x.links (turns_of x.mote ticks) p q

abbrev pub TurnedOver : Seat → ℕ → (d e : Device) → (p q : Standing) → Type 0
TurnedOver x n d e p q = (boards : List Device) → Owns x.motes x.mote d boards → Turned x n (over p boards) (over q (set boards x.mote e))

pub none_turned : (x : Seat) (limit : ℕ) (d : Device) (p : Standing) → IsUnderWayOver x limit d p → TurnedOver x 0 d d p p
none_turned x limit d p way boards owns = record {
  ticks = [];
  count = refl;
  went =
      subst (λ bs. ServedParts x.motes x.motes x.motes x.links [] (over p boards) (over p bs)) (sym (put_same boards x.mote d owns.is))
      (went_none x.motes x.motes x.links (over p boards) (ready_over x.motes x.motes p way.boards boards way.way.ready owns.enough));
}

one_turn_more : (mote : ℕ) (ticks : List Bool) (b : Bool) → turns_of mote ticks ++ turn_of mote b ≡ turns_of mote (ticks ++ b ∷ [])
one_turn_more mote ticks b = ap (λ l. turns_of mote ticks ++ l) (sym (append-nil (turn_of mote b))) ∙ sym (flat_map-append (turn_of mote) ticks (b ∷ []))

one_tick_more : (ticks : List Bool) (b : Bool) (n : ℕ) → length ticks ≡ n → length (ticks ++ b ∷ []) ≡ n + 1
one_tick_more ticks b n count = let k = length-append ticks (b ∷ []) in omega (arith, k, count)

pub turned_next : (x : Seat) (n : ℕ) (d e f : Device) (p q s : Standing) → TurnedOver x n d e p q → TurnGoes (Ok tt) x e f q s → TurnedOver x (n + 1) d f p s
turned_next x n d e f p q s turned goes boards owns =
    let a = turned boards owns in
    let next = set boards x.mote e in
    let b = goes next (owns_next x.motes x.mote d e boards owns) in
    record {
      ticks = a.ticks ++ b.0 ∷ [];
      count = one_tick_more a.ticks b.0 n a.count;
      went = went_as x.motes x.motes x.motes x.links (turns_of x.mote a.ticks ++ turn_of x.mote b.0) (turns_of x.mote (a.ticks ++ b.0 ∷ [])) (over p boards) (over s (set boards x.mote f)) (one_turn_more x.mote a.ticks b.0)
          (subst (λ bs. ServedParts x.motes x.motes x.motes x.links (turns_of x.mote a.ticks ++ turn_of x.mote b.0) (over p boards) (over s bs)) (set_again boards x.mote e f)
          (went_then x.motes x.motes x.motes x.motes x.links (turns_of x.mote a.ticks) (turn_of x.mote b.0) (over p boards) (over q next) (over s (set next x.mote f)) (omega arith) a.went b.1));
    }

-- it is under way after them
pub turned_way : (x : Seat) (n limit more : ℕ) (d e : Device) (p q : Standing) → IsUnderWayOver x limit d p → TurnedOver x n d e p q → q.service.timeline.moment < more → IsUnderWayOver x more e q
turned_way x n limit more d e p q way turned early =
    let t = turned way.boards way.owns in
    still_over x (turns_of x.mote t.ticks) limit more d e p q way t.went early

abbrev pub TurnsOver : Result (Unit {0}) Stop → Seat → (turns : ℕ) → (d e : Device) → (p q : Standing) → Type 0
TurnsOver r x turns d e p q = (boards : List Device) → Owns x.motes x.mote d boards → TurnsGo r x turns (over p boards) (over q (set boards x.mote e))

pub turned_halts : (r : Result (Unit {0}) Stop) (why : Stop) (x : Seat) (n turns : ℕ) (d e f : Device) (p q s : Standing) → n < turns → IsErrAnd r (λ e. e ≡ why) → TurnedOver x n d e p q → TurnGoes (Err why) x e f q s → TurnsOver r x turns d f p s
turned_halts (Ok u) why x n turns d e f p q s less is turned goes boards owns = absurd is
turned_halts (Err w) why x n turns d e f p q s less is turned goes boards owns =
    let a = turned boards owns in
    let next = set boards x.mote e in
    let b = goes next (owns_next x.motes x.mote d e boards owns) in
    let halts : PartsHalted why x.motes x.motes x.links (turns_of x.mote (a.ticks ++ b.0 ∷ [])) (over p boards) (over s (set boards x.mote f)) =
    halts_as why x.motes x.motes x.links (turns_of x.mote a.ticks ++ turn_of x.mote b.0) (turns_of x.mote (a.ticks ++ b.0 ∷ [])) (over p boards) (over s (set boards x.mote f)) (one_turn_more x.mote a.ticks b.0)
    (subst (λ bs. PartsHalted why x.motes x.motes x.links (turns_of x.mote a.ticks ++ turn_of x.mote b.0) (over p boards) (over s bs)) (set_again boards x.mote e f)
    (went_halts why x.motes x.motes x.motes x.links (turns_of x.mote a.ticks) (turn_of x.mote b.0) (over p boards) (over q next) (over s (set next x.mote f)) (omega arith) a.went b.1)) in
    record {
      ticks = a.ticks ++ b.0 ∷ [];
      few = let k = one_tick_more a.ticks b.0 n a.count in omega (arith, k, less);
      goes = subst (λ (v : Stop). PartsHalted v x.motes x.motes x.links (turns_of x.mote (a.ticks ++ b.0 ∷ [])) (over p boards) (over s (set boards x.mote f))) (sym is) halts;
      all = tt;
    }

pub turned_all : (x : Seat) (n turns : ℕ) (d e : Device) (p q : Standing) → n ≡ turns → TurnedOver x n d e p q → TurnsOver (Ok tt) x turns d e p q
turned_all x n turns d e p q same turned boards owns =
    let a = turned boards owns in
    record { ticks = a.ticks; few = omega (arith, a.count, same); goes = a.went; all = inl (a.count ∙ same) }

pub turned_late : (x : Seat) (n turns : ℕ) (d e : Device) (p q : Standing) → n ≤ turns → latest_moment ≤ q.service.timeline.moment → TurnedOver x n d e p q → TurnsOver (Ok tt) x turns d e p q
turned_late x n turns d e p q less late turned boards owns =
    let a = turned boards owns in
    record { ticks = a.ticks; few = omega (arith, a.count, less); goes = a.went; all = inr late }

-- ---- from power-on

abbrev pub RunOver : Result (Unit {0}) Stop → Seat → (turns : ℕ) → (d e : Device) → (p q : Standing) → Type 0
RunOver r x turns d e p q = (boards : List Device) → Owns x.motes x.mote d boards → RunGoes r x turns (over p boards) (over q (set boards x.mote e))

pub begin_halts : (r : Result (Unit {0}) Stop) (why : Stop) (x : Seat) (turns : ℕ) (d e : Device) (p q : Standing) → IsErrAnd r (λ e. e ≡ why) → GoesOver (Err why) x (stretch x.mote (x.mote + 1) (Begins x.mote ∷ [])) d e p q → RunOver r x turns d e p q
begin_halts (Ok u) why x turns d e p q is goes boards owns = absurd is
begin_halts (Err w) why x turns d e p q is goes boards owns =
    inl (subst (λ (v : Stop). PartsHalted v x.motes x.mote x.links (Begins x.mote ∷ []) (over p boards) (over q (set boards x.mote e))) (sym is) (goes boards owns))

began : (r : Result (Unit {0}) Stop) (x : Seat) (turns : ℕ) (d e f : Device) (p q s : Standing) → GoesOver (Ok tt) x (stretch x.mote (x.mote + 1) (Begins x.mote ∷ [])) d e p q → TurnsOver r x turns e f q s → (boards : List Device) → Owns x.motes x.mote d boards → BeganAndGoes r x turns (over p boards) (over s (set boards x.mote f))
began r x turns d e f p q s first rest boards owns =
    let next = set boards x.mote e in
    record {
      between = over q next;
      begins = first boards owns;
      turns_go = subst (λ bs. TurnsGo r x turns (over q next) (over s bs)) (set_again boards x.mote e f) (rest next (owns_next x.motes x.mote d e boards owns));
    }

pub run_halts : (r : Result (Unit {0}) Stop) (why : Stop) (x : Seat) (turns : ℕ) (d e f : Device) (p q s : Standing) → IsErrAnd r (λ e. e ≡ why) → GoesOver (Ok tt) x (stretch x.mote (x.mote + 1) (Begins x.mote ∷ [])) d e p q → TurnsOver (Err why) x turns e f q s → RunOver r x turns d f p s
run_halts (Ok u) why x turns d e f p q s is first rest boards owns = absurd is
run_halts (Err w) why x turns d e f p q s is first rest boards owns =
    inr (subst (λ (v : Stop). BeganAndGoes (Err v) x turns (over p boards) (over s (set boards x.mote f))) (sym is) (began (Err why) x turns d e f p q s first rest boards owns))

pub run_done : (x : Seat) (turns : ℕ) (d e f : Device) (p q s : Standing) → GoesOver (Ok tt) x (stretch x.mote (x.mote + 1) (Begins x.mote ∷ [])) d e p q → TurnsOver (Ok tt) x turns e f q s → RunOver (Ok tt) x turns d f p s
run_done x turns d e f p q s first rest boards owns = began (Ok tt) x turns d e f p q s first rest boards owns

-- how little time passed till then
pub early_begun : (x : Seat) (d e : Device) (p q : Standing) (boards : List Device) → Owns x.motes x.mote d boards → p.service.timeline.moment ≡ 0 → GoesOver (Ok tt) x (stretch x.mote (x.mote + 1) (Begins x.mote ∷ [])) d e p q → q.service.timeline.moment < 2 ^ 60
early_begun x d e p q boards owns zero goes = let moved = (goes boards owns).moved in omega (arith, moved, zero)
