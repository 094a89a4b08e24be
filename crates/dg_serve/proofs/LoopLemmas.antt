-- Parts in a loop, one after the other.
use Rattle.std.proofs.Common.{◌≡◌, ℕ, ◌+◌, ◌-◌, ◌*◌, ◌%◌, ◌^◌, ◌<◌, ◌≤◌, List, [], ◌∷◌, ◌++◌, length, sym, ap, ◌∙◌, subst, arith}
use Rattle.std.specs.Prelude.{Result, Ok, Err, IsErrAnd}
use Rattle.std.proofs.lemmas.Nat.{mul-le}
use Rattle.dg_serve.specs.Each.{each}
use Rattle.dg_serve.specs.Services.{Part, Looks, Ticks}
use Rattle.dg_serve.specs.inner.Stretches.{turn_of_all}
use Rattle.dg_serve.specs.Standings.{Standing, StandsForSome, StandsReady, IsUnderWay, ServedParts, PartsHalted, PartsGoOn, stretch}
use Rattle.dg_serve.specs.declared.stop.Stop.{Stop}
use Rattle.dg_serve.proofs.EachLemmas.{each_next, each_none, each_split, each_few, each_over}
use Rattle.dg_serve.proofs.GoLemmas.{went_none, went_then, went_as, went_halts, halts_more, halts_as}

pub halts_exit : (x : Result (Unit {0}) Stop) (why : Stop) (motes begun on : ℕ) (links : List (ℕ × ℕ)) (ps : List Part) (p q : Standing) → IsErrAnd x (λ e. e ≡ why) → PartsHalted why motes begun links ps p q → PartsGoOn x motes links (stretch begun on ps) p q
halts_exit (Ok u) why motes begun on links ps p q is h = absurd is
halts_exit (Err e) why motes begun on links ps p q is h = subst (λ (w : Stop). PartsHalted w motes begun links ps p q) (sym is) h

pub goes_as : (x : Result (Unit {0}) Stop) (motes begun on : ℕ) (links : List (ℕ × ℕ)) (ps qs : List Part) (p q : Standing) → ps ≡ qs → PartsGoOn x motes links (stretch begun on ps) p q → PartsGoOn x motes links (stretch begun on qs) p q
goes_as x motes begun on links ps qs p q same h = subst (λ (l : List Part). PartsGoOn x motes links (stretch begun on l) p q) same h

went_some : (motes : ℕ) (links : List (ℕ × ℕ)) (ps : List Part) (p q : Standing) → ServedParts motes motes motes links ps p q → StandsForSome motes motes links p → StandsForSome motes motes links q
went_some motes links ps p q went y = let x = went.run y.0 y.1 y.2 in (y.0, x.0, x.2)

pub still_under_way : (motes : ℕ) (links : List (ℕ × ℕ)) (ps : List Part) (limit more : ℕ) (p q : Standing) → ServedParts motes motes motes links ps p q → IsUnderWay motes links limit p → q.service.timeline.moment < more → IsUnderWay motes links more q
still_under_way motes links ps limit more p q went way early = record { ready = went.ready; early = early; some = went_some motes links ps p q went way.some }

pub loop_begins : (motes begun : ℕ) (links : List (ℕ × ℕ)) (f : ℕ → List Part) (p : Standing) → StandsReady motes begun p → ServedParts motes begun begun links (each 0 f) p p
loop_begins motes begun links f p ready = went_as motes begun begun links [] (each 0 f) p p (sym (each_none f)) (went_none motes begun links p ready)

pub loop_next : (motes begun mid on : ℕ) (links : List (ℕ × ℕ)) (n : ℕ) (f : ℕ → List Part) (p q r : Standing) → mid ≤ on → ServedParts motes begun mid links (each n f) p q → ServedParts motes mid on links (f n) q r → ServedParts motes begun on links (each (n + 1) f) p r
loop_next motes begun mid on links n f p q r order a b = went_as motes begun on links (each n f ++ f n) (each (n + 1) f) p r (sym (each_next n f)) (went_then motes begun mid on links (each n f) (f n) p q r order a b)

pub loop_halts : (x : Result (Unit {0}) Stop) (why : Stop) (motes begun mid on : ℕ) (links : List (ℕ × ℕ)) (n k : ℕ) (f : ℕ → List Part) (p q r : Standing) → n < k → mid ≤ motes → IsErrAnd x (λ e. e ≡ why) → ServedParts motes begun mid links (each n f) p q → PartsHalted why motes mid links (f n) q r → PartsGoOn x motes links (stretch begun on (each k f)) p r
loop_halts x why motes begun mid on links n k f p q r less within is a h =
    let rest = each_split n k f less in
    halts_exit x why motes begun on links (each k f) p r is
    (halts_as why motes begun links ((each n f ++ f n) ++ rest.0) (each k f) p r rest.1
    (halts_more why motes begun links (each n f ++ f n) rest.0 p r (went_halts why motes begun mid links (each n f) (f n) p q r within a h)))

-- how much time it took
pub loop_moved : (motes begun on : ℕ) (links : List (ℕ × ℕ)) (n many : ℕ) (f : ℕ → List Part) (p q : Standing) → ((k : ℕ) → length (f k) ≤ many) → ServedParts motes begun on links (each n f) p q → q.service.timeline.moment ≤ p.service.timeline.moment + n * many * (2 ^ 32 - 1)
loop_moved motes begun on links n many f p q few went =
    let size = each_few n many f few in
    let moved = went.moved in
    omega (arith, size, moved)

-- what a mote does in its turn, where the turns go on one after another
abbrev pub step_of : (motes step : ℕ) → List Part
step_of motes step = Looks (step % motes) ∷ Ticks (step % motes) ∷ []

pub steps_are_turns : (n motes turns : ℕ) → n ≡ motes → each (turns * n) (step_of n) ≡ each turns (λ turn. turn_of_all motes)
steps_are_turns n motes turns same =
    each_over turns n (λ mote. Looks mote ∷ Ticks mote ∷ []) ∙ ap (λ (k : ℕ). each turns (λ turn. turn_of_all k)) same

pub few_steps : (turns motes : ℕ) → turns ≤ 1000000 → motes ≤ 16 → turns * motes ≤ 16000000
few_steps turns motes few most = let n = mul-le turns motes 1000000 16 few most in omega (arith, n)

-- the loop ran to its end
pub loop_ends : (motes begun on : ℕ) (links : List (ℕ × ℕ)) (n k : ℕ) (f : ℕ → List Part) (p q : Standing) → n ≡ k → ServedParts motes begun on links (each n f) p q → ServedParts motes begun on links (each k f) p q
loop_ends motes begun on links n k f p q same went = subst (λ j. ServedParts motes begun on links (each j f) p q) same went

pub loop_begun : (motes : ℕ) (links : List (ℕ × ℕ)) (n k : ℕ) (f : ℕ → List Part) (p q : Standing) → n ≡ k → ServedParts motes 0 n links (each n f) p q → ServedParts motes 0 k links (each k f) p q
loop_begun motes links n k f p q same went = subst (λ j. ServedParts motes 0 j links (each j f) p q) same went
