-- A frame that is forwarded to motes, one after the other.
use Rattle.std.proofs.Common.{◌≡◌, ℕ, ◌+◌, ◌<◌, List, [], ◌∷◌, ◌++◌, length, take, append_assoc, refl, ap, sym, ◌∙◌}
use Rattle.std.specs.Prelude.{Option, Some, None, option_map, Result, Ok, Err, OnErr}
use Rattle.std.proofs.Math.Seq.{take-append_seam}
use Rattle.dg_link.specs.Inboxes.{Inboxes, delivered}
use Rattle.dg_serve.specs.Each.{each}
use Rattle.dg_serve.specs.Services.{handed_to}
use Rattle.dg_serve.specs.declared.stop.Stop.{Stop}
use Rattle.dg_serve.proofs.EachLemmas.{each_next, each_none, each_split}

handed_then : (xs ys bytes : List ℕ) (boxes : Inboxes) → handed_to (xs ++ ys) bytes boxes ≡ handed_to ys bytes (handed_to xs bytes boxes)
handed_then [] ys bytes boxes = refl
handed_then (x ∷ xs) ys bytes boxes = handed_then xs ys bytes (delivered x bytes boxes)

told_then : (xs ys bytes : List ℕ) (o : Option Inboxes) → option_map (handed_to (xs ++ ys) bytes) o ≡ option_map (handed_to ys bytes) (option_map (handed_to xs bytes) o)
told_then xs ys bytes None = refl
told_then xs ys bytes (Some boxes) = ap Some (handed_then xs ys bytes boxes)

none_told : (bytes : List ℕ) (o : Option Inboxes) → o ≡ option_map (handed_to [] bytes) o
none_told bytes None = refl
none_told bytes (Some boxes) = refl

pub handed_none : (f : ℕ → List ℕ) (bytes : List ℕ) (o : Option Inboxes) → o ≡ option_map (handed_to (each 0 f) bytes) o
handed_none f bytes o = none_told bytes o ∙ ap (λ l. option_map (handed_to l bytes) o) (sym (each_none f))

pub handed_more : (f : ℕ → List ℕ) (n : ℕ) (bytes : List ℕ) (o p q : Option Inboxes) → p ≡ option_map (handed_to (each n f) bytes) o → q ≡ option_map (handed_to (f n) bytes) p → q ≡ option_map (handed_to (each (n + 1) f) bytes) o
handed_more f n bytes o p q first second =
    second ∙ ap (option_map (handed_to (f n) bytes)) first ∙ sym (told_then (each n f) (f n) bytes o) ∙ ap (λ l. option_map (handed_to l bytes) o) (sym (each_next n f))

-- those of the first n numbers are a prefix of all
pub handed_front : (f : ℕ → List ℕ) (n motes : ℕ) (bytes : List ℕ) (o p q : Option Inboxes) → n < motes → p ≡ option_map (handed_to (each n f) bytes) o → q ≡ p → (k : ℕ) × (q ≡ option_map (handed_to (take k (each motes f)) bytes) o)
handed_front f n motes bytes o p q less handed same =
    let r = each_split n motes f less in
    let front : take (length (each n f)) (each motes f) ≡ each n f = ap (take (length (each n f))) (sym r.1 ∙ append_assoc (each n f) (f n) r.0) ∙ take-append_seam (each n f) (f n ++ r.0) in
    (length (each n f), same ∙ handed ∙ ap (λ l. option_map (handed_to l bytes) o) (sym front))

pub on_err : {P : Type 0} (r : Result (Unit {0}) Stop) → P → OnErr r P
on_err (Ok x) p = tt
on_err (Err e) p = p
