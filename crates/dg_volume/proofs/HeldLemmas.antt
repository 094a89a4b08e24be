-- What is kept of one image changes, and of the others it is unchanged.
use Rattle.std.proofs.Common.{◌≡◌, ℕ, ◌<◌, ◌≤◌, List, length, Option, Some, None, sym, ap, subst, ◌∙◌, ⊎_elim, arith}
use Rattle.std.specs.Prelude.{option_map}
use Rattle.std.proofs.lemmas.Bool.{cases_eq}
use Rattle.std.proofs.lemmas.List.{get_or-set_other, get_or-set_same}
use Rattle.dg_slot.specs.Kept.{Held, with_page}
use Rattle.dg_volume.specs.Store.{Store, held}
use Rattle.dg_volume.specs.Changes.{keeping, paged}

pub held_here : (s : Store) (i : ℕ) (o : Option Held) → i < length s.kept → held (keeping i o s) i ≡ o
held_here s i o h = get_or-set_same s.kept i o None h

pub held_there : (s : Store) (i j : ℕ) (o : Option Held) → (j ≡ i → ⊥) → held (keeping i o s) j ≡ held s j
held_there s i j o other = get_or-set_other s.kept i j o None other

-- golden is unchanged
pub golden_held : (s : Store) (i : ℕ) (o : Option Held) → 1 ≤ i → held (keeping i o s) 0 ≡ held s 0
golden_held s i o low = held_there s i 0 o (λ e. absurd (omega (arith, e, low)))

-- what is true of the one and of the others is true of each
pub each_keeping : (Q : ℕ → Option Held → Type 0) (s : Store) (i : ℕ) (o : Option Held) → i < length s.kept → Q i o → ((j : ℕ) → (j ≡ i → ⊥) → Q j (held s j)) → (j : ℕ) → Q j (held (keeping i o s) j)
each_keeping Q s i o within here others j = ⊎_elim
    (λ e. subst (λ (n : ℕ). Q n (held (keeping i o s) n)) (sym e) (subst (Q i) (sym (held_here s i o within)) here))
    (λ other. subst (Q j) (sym (held_there s i j o other)) (others j other))
    (cases_eq j i)

-- one more page is complete
pub held_paged : (s : Store) (image : ℕ) (h : Held) (page : List ℕ) → image < length s.kept → held s image ≡ Some h → held (paged image page s) image ≡ Some (with_page h page)
held_paged s image h page known here = held_here s image (option_map (λ x. with_page x page) (held s image)) known ∙ ap (option_map (λ x. with_page x page)) here
