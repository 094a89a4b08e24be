-- The parts of a schedule, piece by piece.
use Rattle.std.proofs.Common.{◌≡◌, ℕ, zero, suc, ◌+◌, ◌-◌, ◌<◌, List, [], ◌∷◌, ◌++◌, map, refl, append-nil, append_assoc, ap, sym, ◌∙◌, arith, add-one}
use Rattle.std.proofs.lemmas.List.{map-append}
use Rattle.rand_pcg.specs.Lcg.{Lcg}
use Rattle.rand_pcg.specs.Pcg.{pcg32}
use Rattle.dg_base.specs.declared.events.Event.{Event}
use Rattle.dg_base.specs.declared.events.Event.TheVariants.{Reset}
use Rattle.dg_rounds.specs.Rounds.{times}
use Rattle.dg_trial.specs.Schedule.{SchedulePart, always, line_links, resets, disturbance, disturbances, drawn}

-- ---- the line

pub line_none : line_links 1 ≡ []
unfolding line_links
line_none = refl

line_from : (k : ℕ) → line_links (suc (suc k)) ≡ (k, k + 1) ∷ line_links (suc k)
unfolding line_links
line_from k = refl

pub line_at : (far : ℕ) → 0 < far → line_links (far + 1) ≡ (far - 1, far) ∷ line_links far
line_at zero h = absurd (omega arith)
line_at (suc k) h =
    let e : suc k + 1 ≡ suc (suc k) = omega arith in
    let a : k ≡ suc k - 1 = omega arith in
    let b : k + 1 ≡ suc k = omega arith in
    ap line_links e ∙ line_from k ∙ ap (λ (x : ℕ). (x, k + 1) ∷ line_links (suc k)) a ∙ ap (λ (y : ℕ). (suc k - 1, y) ∷ line_links (suc k)) b

-- ---- resets

pub resets_none : resets 0 ≡ []
unfolding resets
resets_none = refl

pub resets_more : (k : ℕ) → resets (k + 1) ≡ resets k ++ Reset k 0 0 ∷ []
unfolding resets
resets_more k = rw add-one refl

pub resets_at : (k d : ℕ) → (rest : List Event) × (resets k ++ (Reset k 0 0 ∷ rest) ≡ resets (k + 1 + d))
resets_at k zero = ([], sym (resets_more k) ∙ ap resets (let e : k + 1 ≡ k + 1 + zero = omega arith in e))
resets_at k (suc d) =
    let before = resets_at k d in
    let n = k + 1 + d in
    let e : n + 1 ≡ k + 1 + suc d = omega arith in
    (before.0 ++ Reset n 0 0 ∷ [], sym (append_assoc (resets k) (Reset k 0 0 ∷ before.0) (Reset n 0 0 ∷ [])) ∙ ap (λ (es : List Event). es ++ Reset n 0 0 ∷ []) before.1 ∙ sym (resets_more n) ∙ ap resets e)

-- ---- events that are the same however many frames were sent

pub events_join : (given others all : List Event) (event : Event) → given ++ (event ∷ others) ≡ all → map always given ++ ((always event ∷ []) ++ map always others) ≡ map always all
events_join given others all event e = sym (map-append always given (event ∷ others)) ∙ ap (map always) e

pub events_more : (given : List Event) (event : Event) → map always (given ++ event ∷ []) ≡ map always given ++ always event ∷ []
events_more given event = map-append always given (event ∷ [])

-- ---- disturbances

pub disturbances_none : (motes : ℕ) (g : Lcg) → disturbances motes 0 g ≡ []
unfolding disturbances
disturbances_none motes g = refl

pub disturbances_split : (motes k n : ℕ) (g : Lcg) → disturbances motes (k + n) g ≡ disturbances motes k g ++ disturbances motes n (drawn k g)
unfolding disturbances drawn
disturbances_split motes zero n g = ap (λ (m : ℕ). disturbances motes m g) (let e : zero + n ≡ n = omega arith in e)
disturbances_split motes (suc k) n g =
    let a = pcg32 g in
    let b = pcg32 a.1 in
    let c = pcg32 b.1 in
    let e : suc k + n ≡ suc (k + n) = omega arith in
    ap (λ (m : ℕ). disturbances motes m g) e ∙ ap (λ (ps : List SchedulePart). disturbance motes a.0 b.0 c.0 ∷ ps) (disturbances_split motes k n c.1)

pub drawn_none : (g : Lcg) → drawn 0 g ≡ g
unfolding drawn
drawn_none g = refl

pub drawn_more : (k : ℕ) (g : Lcg) → drawn (k + 1) g ≡ drawn 1 (drawn k g)
unfolding drawn
drawn_more zero g = refl
drawn_more (suc k) g =
    let e : suc k + 1 ≡ suc (k + 1) = omega arith in
    ap (λ (m : ℕ). drawn m g) e ∙ drawn_more k (pcg32 (pcg32 (pcg32 g).1).1).1

-- the next three draws
pub one_disturbance : (motes : ℕ) (g g1 g2 g3 : Lcg) (w1 w2 w3 : ℕ) → (w1, g1) ≡ pcg32 g → (w2, g2) ≡ pcg32 g1 → (w3, g3) ≡ pcg32 g2 → (disturbances motes 1 g ≡ disturbance motes w1 w2 w3 ∷ []) × (drawn 1 g ≡ g3)
unfolding disturbances drawn
one_disturbance motes g g1 g2 g3 w1 w2 w3 a b c =
    let b0 : pcg32 (pcg32 g).1 ≡ (w2, g2) = ap (λ (x : ℕ × Lcg). pcg32 x.1) (sym a) ∙ sym b in
    let c0 : pcg32 (pcg32 (pcg32 g).1).1 ≡ (w3, g3) = ap (λ (x : ℕ × Lcg). pcg32 x.1) b0 ∙ sym c in (
      ap (λ (x : ℕ × Lcg). disturbance motes x.0 (pcg32 (pcg32 g).1).0 (pcg32 (pcg32 (pcg32 g).1).1).0 ∷ []) (sym a)
          ∙ ap (λ (x : ℕ × Lcg). disturbance motes w1 x.0 (pcg32 (pcg32 (pcg32 g).1).1).0 ∷ []) b0
          ∙ ap (λ (x : ℕ × Lcg). disturbance motes w1 w2 x.0 ∷ []) c0,
      ap (λ (x : ℕ × Lcg). x.1) c0,
    )

-- ---- sweeps

pub times_none : (xs : List Event) → times 0 xs ≡ []
unfolding times
times_none xs = refl

pub times_first : (n : ℕ) (xs : List Event) → times (suc n) xs ≡ xs ++ times n xs
unfolding times
times_first n xs = refl

pub times_split : (k n : ℕ) (xs : List Event) → times (k + n) xs ≡ times k xs ++ times n xs
times_split zero n xs = ap (λ (m : ℕ). times m xs) (let e : zero + n ≡ n = omega arith in e) ∙ ap (λ (es : List Event). es ++ times n xs) (sym (times_none xs))
times_split (suc k) n xs =
    let e : suc k + n ≡ suc (k + n) = omega arith in
    ap (λ (m : ℕ). times m xs) e ∙ times_first (k + n) xs ∙ ap (λ (es : List Event). xs ++ es) (times_split k n xs) ∙ sym (append_assoc xs (times k xs) (times n xs))
    ∙ ap (λ (es : List Event). es ++ times n xs) (sym (times_first k xs))

pub times_one : (xs : List Event) → times 1 xs ≡ xs
times_one xs = times_first 0 xs ∙ ap (λ (es : List Event). xs ++ es) (times_none xs) ∙ append-nil xs

pub times_more : (k : ℕ) (xs : List Event) → times (k + 1) xs ≡ times k xs ++ xs
times_more k xs = times_split k 1 xs ∙ ap (λ (es : List Event). times k xs ++ es) (times_one xs)

pub times_at : (k n : ℕ) (xs : List Event) → k < n → times k xs ++ (xs ++ times (n - k - 1) xs) ≡ times n xs
times_at k n xs h =
    let e : k + 1 + (n - k - 1) ≡ n = omega arith in
    sym (append_assoc (times k xs) xs (times (n - k - 1) xs)) ∙ ap (λ (es : List Event). es ++ times (n - k - 1) xs) (sym (times_more k xs)) ∙ sym (times_split (k + 1) (n - k - 1) xs) ∙ ap (λ (m : ℕ). times m xs) e
