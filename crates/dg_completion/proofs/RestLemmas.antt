-- Rests that follow one another.
use Rattle.std.proofs.Common.{◌≡◌, ℕ, zero, suc, ◌+◌, List, [], ◌∷◌, ◌++◌, append_assoc, refl, sym, ap, subst, ◌∙◌, arith}
use Rattle.std.specs.List.{AllByRecursion, flat_map}
use Rattle.dg_base.specs.declared.events.Event.{Event}
use Rattle.dg_rounds.specs.Rounds.{round, times, rounds_of, sweep}
use Rattle.dg_completion.specs.Rests.{IsFree, HasRounds, IsRest}
use Rattle.dg_completion.proofs.GrowLemmas.{all_append}

pub times_add : {A : Type 0} (x y : ℕ) (xs : List A) → times (x + y) xs ≡ times x xs ++ times y xs
unfolding times
times_add zero y xs = ap (λ n. times n xs) (omega arith)
times_add (suc x) y xs =
    let e : suc x + y ≡ suc (x + y) = omega arith in
    ap (λ n. times n xs) e ∙ ap (λ l. xs ++ l) (times_add x y xs) ∙ sym (append_assoc xs (times x xs) (times y xs))

-- free events before rounds
free_first : (es : List Event) (rs : List (ℕ × ℕ)) (fs : List Event) → AllByRecursion IsFree es → HasRounds rs fs → HasRounds rs (es ++ fs)
unfolding HasRounds
free_first es [] fs free h = all_append IsFree es fs free h
free_first es (r ∷ rs) fs free h = (es ++ h.0, h.1, ap (λ l. es ++ l) h.2 ∙ sym (append_assoc es h.0 (round r.0 r.1 ++ h.1)), all_append IsFree es h.0 free h.3, h.4)

rounds_join : (rs qs : List (ℕ × ℕ)) (es fs : List Event) → HasRounds rs es → HasRounds qs fs → HasRounds (rs ++ qs) (es ++ fs)
unfolding HasRounds
rounds_join [] qs es fs a b = free_first es qs fs a b
rounds_join (r ∷ rs) qs es fs a b = (
  a.0,
  a.1 ++ fs,
  ap (λ l. l ++ fs) a.2 ∙ append_assoc a.0 (round r.0 r.1 ++ a.1) fs ∙ ap (λ l. a.0 ++ l) (append_assoc (round r.0 r.1) a.1 fs),
  a.3,
  rounds_join rs qs a.1 fs a.4 b,
)

rounds_swept : (rs : List (ℕ × ℕ)) → HasRounds rs (flat_map (λ r. round r.0 r.1) rs)
unfolding HasRounds
rounds_swept [] = tt
rounds_swept (r ∷ rs) = ([], flat_map (λ q. round q.0 q.1) rs, refl, tt, rounds_swept rs)

pub swept : (links : List (ℕ × ℕ)) (n : ℕ) → IsRest links n (times n (sweep links))
unfolding times sweep HasRounds
swept links zero = tt
swept links (suc n) = rounds_join (rounds_of links) (times n (rounds_of links)) (sweep links) (times n (sweep links)) (rounds_swept (rounds_of links)) (swept links n)

pub free_rest : (links : List (ℕ × ℕ)) (es : List Event) → AllByRecursion IsFree es → IsRest links 0 es
unfolding times HasRounds
free_rest links es free = free

pub rests_join : (links : List (ℕ × ℕ)) (m n : ℕ) (es fs : List Event) → IsRest links m es → IsRest links n fs → IsRest links (m + n) (es ++ fs)
rests_join links m n es fs a b =
    let rs = rounds_of links in
    subst (λ l. HasRounds l (es ++ fs)) (sym (times_add m n rs)) (rounds_join (times m rs) (times n rs) es fs a b)
