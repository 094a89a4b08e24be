-- The last lines of a report.
use Rattle.std.proofs.Common.{◌≡◌, ◌∙◌, ℕ, ◌+◌, List, [], ◌++◌, ap, append_assoc, Result, Ok, Err}
use Rattle.std.specs.Prelude.{OnOk}
use Rattle.std.specs.List.{flat_map, range_with_len}
use Rattle.std.specs.declared.alloc.AllocError.{AllocError}
use Rattle.dg_drip_run.proofs.RangeLemmas.{each_more}

pub told_next : (f : ℕ → List ℕ) (k : ℕ) (old mid new piece : List ℕ) → mid ≡ old ++ flat_map f (range_with_len 0 k) → piece ≡ f k → new ≡ mid ++ piece → new ≡ old ++ flat_map f (range_with_len 0 (k + 1))
told_next f k old mid new piece so_far is next =
    next ∙ (ap (λ (t : List ℕ). t ++ piece) so_far ∙ (append_assoc old (flat_map f (range_with_len 0 k)) piece ∙ ap (λ (t : List ℕ). old ++ t) (ap (λ (t : List ℕ). flat_map f (range_with_len 0 k) ++ t) is ∙ each_more f k)))

pub told_both : (r : Result (Unit {0}) AllocError) (old mid new a b x y : List ℕ) → mid ≡ old ++ a → OnOk r (new ≡ mid ++ b) → a ≡ x → b ≡ y → OnOk r (new ≡ old ++ (x ++ y))
told_both (Ok u) old mid new a b x y first second p q =
    second ∙ (ap (λ (t : List ℕ). t ++ b) first ∙ (append_assoc old a b ∙ (ap (λ (t : List ℕ). old ++ (t ++ b)) p ∙ ap (λ (t : List ℕ). old ++ (x ++ t)) q)))
told_both (Err e) old mid new a b x y first second p q = tt

-- a text after nothing
pub text_made : (old new more : List ℕ) → old ≡ [] → new ≡ old ++ more → new ≡ more
text_made old new more none e = e ∙ ap (λ (t : List ℕ). t ++ more) none
