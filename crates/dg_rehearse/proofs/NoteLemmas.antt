-- What is noted of report lines.
use Rattle.std.proofs.Common.{◌≡◌, ℕ, zero, suc, ◌+◌, ◌≤◌, ◌<◌, Bool, true, false, ◌&&◌, List, [], ◌∷◌, ◌++◌, length, get_or, take, refl, sym, ap, ◌∙◌, arith, add-one, ⊎_elim}
use Rattle.std.proofs.lemmas.Bool.{cases_lt}
use Rattle.std.proofs.lemmas.List.{take_all, take_more}
use Rattle.dg_script.specs.declared.report.Report.{Report}
use Rattle.dg_rules.specs.World.{World}
use Rattle.dg_rehearse.specs.Courses.{Agenda, next_turn, noted_event, noted_line, noted_lines, set_turn}
use Rattle.dg_rehearse.specs.Turns.{all_motes}
use Rattle.dg_rehearse.specs.declared.plan.Plan.{Plan}

pub noted_none : (p : Plan) (a : Agenda) → a ≡ noted_lines p a []
unfolding noted_lines
noted_none p a = refl

noted_last : (p : Plan) (a : Agenda) (rs : List Report) (r : Report) → noted_lines p a (rs ++ r ∷ []) ≡ noted_line p (noted_lines p a rs) r
unfolding noted_lines
noted_last p a [] r = refl
noted_last p a (x ∷ xs) r = noted_last p (noted_line p a x) xs r

pub noted_more : (p : Plan) (a b d : Agenda) (rs : List Report) (k : ℕ) (r : Report) → k < length rs → b ≡ noted_lines p a (take k rs) → d ≡ noted_line p b (get_or rs k r) → d ≡ noted_lines p a (take (k + 1) rs)
noted_more p a b d rs k r low before after =
    after ∙ ap (λ (x : Agenda). noted_line p x (get_or rs k r)) before ∙ sym (noted_last p a (take k rs) (get_or rs k r)) ∙ ap (noted_lines p a) (sym (take_more rs k r low))

pub noted_all : (p : Plan) (a b : Agenda) (rs : List Report) (k : ℕ) → length rs ≤ k → b ≡ noted_lines p a (take k rs) → b ≡ noted_lines p a rs
noted_all p a b rs k high before = before ∙ ap (noted_lines p a) (take_all k rs high)

pub noted_event_by : (p : Plan) (m moment : ℕ) (w : World) (a b d : Agenda) (lines given : List Report) → given ≡ lines → b ≡ noted_lines p a given → moment ≡ next_turn w m → d ≡ set_turn m moment b → d ≡ noted_event p m lines w a
unfolding noted_event
noted_event_by p m moment w a b d lines given same before next set =
    set ∙ ap (λ (k : ℕ). set_turn m k b) next ∙ ap (λ (x : Agenda). set_turn m (next_turn w m) x) (before ∙ ap (noted_lines p a) same)

-- ---- all motes

pub all_more : (f : ℕ → Bool) (m : ℕ) → all_motes f m ≡ true → f m ≡ true → all_motes f (m + 1) ≡ true
unfolding all_motes
all_more f m before here = ap (λ (k : ℕ). all_motes f k) (add-one m) ∙ ap (λ (b : Bool). b && f m) before ∙ here

pub all_none : (f : ℕ → Bool) → all_motes f 0 ≡ true
unfolding all_motes
all_none f = refl

and_false : (b : Bool) → (b && false) ≡ false
and_false true = refl
and_false false = refl

-- one is not so
pub not_all : (f : ℕ → Bool) (m motes : ℕ) → f m ≡ false → m < motes → all_motes f motes ≡ false
unfolding all_motes
not_all f m zero here low = absurd (omega (arith, low))
not_all f m (suc k) here low =
    ⊎_elim (λ (less : m < k). ap (λ (b : Bool). b && f k) (not_all f m k here less))
    (λ (high : k ≤ m).
    let e : m ≡ k = omega (arith, low, high) in
    ap (λ (b : Bool). all_motes f k && b) (ap f (sym e) ∙ here) ∙ and_false (all_motes f k))
    (cases_lt m k)
