-- Motes in a line: paths between them, and how many commits a sweep may take at one of them.
use Rattle.std.proofs.Common.{◌≡◌, ◌≢◌, inl, inr, ℕ, zero, suc, ◌+◌, ◌*◌, ◌<◌, ◌≤◌, ◌==◌, List, [], ◌∷◌, ◌++◌, length, replicate, Contains, refl, subst, ◌∙◌, arith}
use Rattle.std.specs.List.{AllByRecursion, sum_by}
use Rattle.std.proofs.lemmas.Bool.{cases_eq, cases_lt, cond_both, eqb-true}
use Rattle.std.proofs.lemmas.List.Sums.{sum_by-cons, sum_by-append}
use Rattle.dg_base.specs.declared.events.Event.{Event}
use Rattle.dg_rounds.specs.Rounds.{times, sweep, round, paced, passed}
use Rattle.dg_rounds.specs.LinkPaths.{LinkPath, here, more}
use Rattle.dg_rules.specs.Events.{mote_of}
use Rattle.dg_completion.specs.Met.{most_commits, commits_at}
use Rattle.dg_completion.proofs.GrowLemmas.{all_append, all_replicate, all_times}
use Rattle.dg_trial.specs.Schedule.{line_links}
use Rattle.dg_trial.proofs.FitLemmas.{length-round}

-- ---- paths

line_contains : (n m : ℕ) → m + 1 < n → Contains (line_links n) (m, m + 1)
unfolding line_links
line_contains zero m h = absurd (omega (arith, h))
line_contains (suc zero) m h = absurd (omega (arith, h))
line_contains (suc (suc n)) m h = elim (cases_eq n m) [
  | inl is ↦ subst (λ (k : ℕ). Contains ((n, n + 1) ∷ line_links (suc n)) (k, k + 1)) is (0, omega arith, refl)
  | inr other ↦ let r = line_contains (suc n) m (low n m other h) in (suc r.0, omega (arith, r.1), r.2)
]
  where
    low : (n m : ℕ) → (n ≡ m → ⊥) → m + 1 < suc (suc n) → m + 1 < suc n
    low n m other h = elim (cases_lt m n) [
      | inl less ↦ omega (arith, less)
      | inr high ↦ absurd (other (omega (arith, h, high)))
    ]

-- each mote is as many links from the first one as its number says
pub way_to : (n m : ℕ) → m < n → LinkPath (line_links n) 0 m m
way_to n zero h = here
way_to n (suc m) h =
    let e : m + 1 ≡ suc m = omega arith in
    more m m (suc m) (way_to n m (omega (arith, h))) (inl (subst (λ (k : ℕ). Contains (line_links n) (m, k)) e (line_contains n m (omega (arith, h)))))

-- ---- commits

pub few_at : (m : ℕ) (e : Event) → commits_at m e ≤ 3
few_at m e = cond_both (mote_of e == m) most_commits 0 (λ (n : ℕ). n ≤ 3) (λ _. omega arith) (λ _. omega arith)

none_at : (m : ℕ) (e : Event) → mote_of e ≢ m → commits_at m e ≡ 0
none_at m e other = cond_both (mote_of e == m) most_commits 0 (λ (n : ℕ). n ≡ 0) (λ is. absurd (other (eqb-true (mote_of e) m is))) (λ _. refl)

three_each : (m : ℕ) (es : List Event) → sum_by (commits_at m) es ≤ 3 * length es
three_each m [] = omega arith
three_each m (e ∷ es) = let a = sum_by-cons (commits_at m) e es in let b = few_at m e in let c = three_each m es in omega (arith, a, b, c)

abbrev Apart : ℕ → Event → Type 0
Apart m e = mote_of e ≢ m

none_there : (m : ℕ) (es : List Event) → AllByRecursion (Apart m) es → sum_by (commits_at m) es ≡ 0
none_there m [] all = refl
none_there m (e ∷ es) all = let a = sum_by-cons (commits_at m) e es in let b = none_at m e all.0 in let c = none_there m es all.1 in omega (arith, a, b, c)

round_apart : (m a b : ℕ) → a ≢ m → b ≢ m → AllByRecursion (Apart m) (round a b)
unfolding round
round_apart m a b first second =
    let P : Event → Type 0 = Apart m in
    let tail : List Event = passed a b ∷ paced b ∷ passed b a ∷ times 48 (paced a ∷ passed a b ∷ []) in
    let three : AllByRecursion P (replicate 3 (paced a) ++ tail) =
    all_append P (replicate 3 (paced a)) tail (all_replicate P 3 (paced a) first) (second, (second, (first, all_times P 48 (paced a ∷ passed a b ∷ []) (first, (second, tt))))) in
    all_append P (replicate 50 (paced a)) (replicate 50 (paced b) ++ (replicate 3 (paced a) ++ tail)) (all_replicate P 50 (paced a) first)
    (all_append P (replicate 50 (paced b)) (replicate 3 (paced a) ++ tail) (all_replicate P 50 (paced b) second) three)

round_few : (m a b : ℕ) → sum_by (commits_at m) (round a b) ≤ 606
round_few m a b = let x = three_each m (round a b) in let y = length-round a b in omega (arith, x, y)

-- the two rounds of a link
link_few : (m a b : ℕ) (es : List Event) → sum_by (commits_at m) (round a b ++ (round b a ++ es)) ≤ 1212 + sum_by (commits_at m) es
link_few m a b es =
    let x = sum_by-append (commits_at m) (round a b) (round b a ++ es) in
    let y = sum_by-append (commits_at m) (round b a) es in
    let z = round_few m a b in
    let u = round_few m b a in
    omega (arith, x, y, z, u)

link_none : (m a b : ℕ) (es : List Event) → a ≢ m → b ≢ m → sum_by (commits_at m) (round a b ++ (round b a ++ es)) ≡ sum_by (commits_at m) es
link_none m a b es first second =
    let x = sum_by-append (commits_at m) (round a b) (round b a ++ es) in
    let y = sum_by-append (commits_at m) (round b a) es in
    let z = none_there m (round a b) (round_apart m a b first second) in
    let u = none_there m (round b a) (round_apart m b a second first) in
    omega (arith, x, y, z, u)

-- the commits at mote m of a line of n: none if m is not on the line, those of one link at the last mote, and at most those of
-- two links
record LineSum (m n : ℕ) : Type 0 where
  far : n ≤ m → sum_by (commits_at m) (sweep (line_links n)) ≡ 0
  end : n ≤ m + 1 → sum_by (commits_at m) (sweep (line_links n)) ≤ 1212
  all : sum_by (commits_at m) (sweep (line_links n)) ≤ 2424

line_sum : (m n : ℕ) → LineSum m n
unfolding line_links sweep
line_sum m zero = record { far = λ h. refl; end = λ h. omega arith; all = omega arith }
line_sum m (suc zero) = record { far = λ h. refl; end = λ h. omega arith; all = omega arith }
line_sum m (suc (suc n)) =
    let before = line_sum m (suc n) in
    let es : List Event = sweep (line_links (suc n)) in
    let few = link_few m n (n + 1) es in
    record {
      far = λ h. link_none m n (n + 1) es (λ e. let f : n ≡ m = e in omega (arith, f, h)) (λ e. let f : n + 1 ≡ m = e in omega (arith, f, h)) ∙ before.far (omega (arith, h));
      end = λ h. let none = before.far (omega (arith, h)) in omega (arith, few, none);
      all = elim (cases_lt m n) [
        | inl less ↦
            let same = link_none m n (n + 1) es (λ e. let f : n ≡ m = e in omega (arith, f, less)) (λ e. let f : n + 1 ≡ m = e in omega (arith, f, less)) in
            let a = before.all in omega (arith, same, a)
        | inr high ↦ let last = before.end (omega (arith, high)) in omega (arith, few, last)
      ];
    }

times_sum : (m k b : ℕ) (es : List Event) → sum_by (commits_at m) es ≤ b → sum_by (commits_at m) (times k es) ≤ k * b
unfolding times
times_sum m zero b es h = omega arith
times_sum m (suc k) b es h =
    let a = sum_by-append (commits_at m) es (times k es) in
    let c = times_sum m k b es h in
    omega (arith, a, c, h)

-- at most 2,424 commits at a mote in each sweep
pub sweeps_few : (m n k : ℕ) → sum_by (commits_at m) (times k (sweep (line_links n))) ≤ k * 2424
sweeps_few m n k = times_sum m k 2424 (sweep (line_links n)) (line_sum m n).all
