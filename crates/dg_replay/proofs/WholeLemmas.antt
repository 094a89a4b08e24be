-- The whole lines of bytes are their longest prefix that ends in LF.
use Rattle.std.proofs.Common.{◌≡◌, ◌≢◌, ◌⊎◌, inl, inr, ℕ, Bool, true, false, ◌==◌, if◌then◌else◌, List, [], ◌∷◌, ◌++◌, refl, ap, sym, ◌∙◌, subst, eqb-true, eq-eqb}
use Rattle.std.specs.List.{AllByRecursion}
use Rattle.dg_replay.specs.Ending.{up_to, whole_lines}
use Rattle.dg_replay.specs.WholeLines.{AreWholeLines}

first_line : (c : ℕ) (bytes : List ℕ) (b : Bool) → (c == 10) ≡ b → AllByRecursion (λ x. x ≢ 10) bytes → AreWholeLines (c ∷ bytes) (if b then c ∷ [] else [])
first_line c bytes true is none =
    let feed : c ≡ 10 = eqb-true c 10 is in
    record { behind = bytes; parts = refl; ended = inr ([], ap (λ (x : ℕ). x ∷ []) feed); longest = none }
first_line c bytes false is none =
    record { behind = c ∷ bytes; parts = refl; ended = inl refl; longest = (λ e. absurd (let f : true ≡ false = sym (eq-eqb c 10 e) ∙ is in cc), none) }

ended_more : (c d : ℕ) (front : List ℕ) → (d ∷ front ≡ []) ⊎ ((before : List ℕ) × (d ∷ front ≡ before ++ 10 ∷ [])) → (before : List ℕ) × (c ∷ d ∷ front ≡ before ++ 10 ∷ [])
ended_more c d front (inl e) = absurd (let f : d ∷ front ≡ [] = e in cc)
ended_more c d front (inr (before, e)) = (c ∷ before, ap (λ (xs : List ℕ). c ∷ xs) e)

one_more : (c : ℕ) (bytes front : List ℕ) → AreWholeLines bytes front → AreWholeLines (c ∷ bytes) (up_to c front)
one_more c bytes [] h = first_line c bytes (c == 10) refl (subst (λ (xs : List ℕ). AllByRecursion (λ x. x ≢ 10) xs) (sym h.parts) h.longest)
one_more c bytes (d ∷ front) h = record { behind = h.behind; parts = ap (λ (xs : List ℕ). c ∷ xs) h.parts; ended = inr (ended_more c d front h.ended); longest = h.longest }

pub are_whole_lines : (bytes : List ℕ) → AreWholeLines bytes (whole_lines bytes)
unfolding whole_lines
are_whole_lines [] = record { behind = []; parts = refl; ended = inl refl; longest = tt }
are_whole_lines (c ∷ bytes) = one_more c bytes (whole_lines bytes) (are_whole_lines bytes)
