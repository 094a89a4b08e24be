-- Which motes are neighbours, by their pairs and by their sets.
use Rattle.std.proofs.Common.{◌≡◌, ◌⊎◌, ℕ, ◌<◌, Bool, true, false, List, [], ◌∷◌, ◌++◌, length, set as put, replicate, refl, ap, sym, ◌∙◌, inl, inr, subst, eqb-true, eq-eqb}
use Rattle.std.specs.Prelude.{◌==◌, ◌&&◌, ◌||◌, slice_index_or}
use Rattle.std.specs.FinSet as set
use Rattle.std.proofs.lemmas.Bool.{both_ways}
use Rattle.std.proofs.lemmas.List.{get_or-set_same, get_or-set_other, get_or-replicate}
use Rattle.std.proofs.lemmas.List.Folds.{list_any-append}
use Rattle.dg_bits.specs.Sets.{Numbers}
use Rattle.dg_bits.proofs.SetLaws.{contains-put, contains-none}
use Rattle.dg_rules.specs.Sizes.{most_motes}
use Rattle.dg_script.specs.Places.{joins, is_linked}
use Rattle.dg_shared.specs.Neighbours.{is_noted, KnowsLinks}
use Rattle.dg_shared.proofs.AirLemmas.{same_or, by_other}

eqb_swap : (a b : ℕ) → (a == b) ≡ (b == a)
eqb_swap a b = by_case (same_or a b)
  where
    by_case : (a ≡ b) ⊎ ((a == b) ≡ false) → (a == b) ≡ (b == a)
    by_case (inl is) = eq-eqb a b is ∙ sym (eq-eqb b a (sym is))
    by_case (inr other) = other ∙ sym (not_same (b == a) refl)
      where
        not_same : (x : Bool) → (b == a) ≡ x → (b == a) ≡ false
        not_same false e = e
        not_same true e = absurd (both_ways (a == b) other (eq-eqb a b (sym (eqb-true b a e))))

module _ (sets : List Numbers) (a b y : ℕ) (known : a < length sets) where
  abbrev wider : Numbers
  wider = set.insert (slice_index_or sets a set.empty) b

  -- the neighbours of the mote, and those of another one
  noted_here : (x : ℕ) → x ≡ a → is_noted (put sets a wider) x y ≡ ((x == a && y == b) || is_noted sets x y)
  noted_here x is = subst (λ (z : ℕ). is_noted (put sets a wider) z y ≡ ((z == a && y == b) || is_noted sets z y)) (sym is)
      (ap (λ (s : Numbers). set.contains s y) (get_or-set_same sets a wider set.empty known) ∙ contains-put (slice_index_or sets a set.empty) b y
      ∙ sym (ap (λ (t : Bool). (t && y == b) || is_noted sets a y) (eq-eqb a a refl)))

  noted_there : (x : ℕ) → (x == a) ≡ false → is_noted (put sets a wider) x y ≡ ((x == a && y == b) || is_noted sets x y)
  noted_there x other =
      ap (λ (s : Numbers). set.contains s y) (get_or-set_other sets a x wider set.empty (λ (e : x ≡ a). by_other x a other (sym e)))
      ∙ sym (ap (λ (t : Bool). (t && y == b) || is_noted sets x y) other)

pub noted : (sets : List Numbers) (a b x y : ℕ) → a < length sets → is_noted (put sets a (set.insert (slice_index_or sets a set.empty) b)) x y ≡ ((x == a && y == b) || is_noted sets x y)
noted sets a b x y known = by_case (same_or x a)
  where
    by_case : (x ≡ a) ⊎ ((x == a) ≡ false) → is_noted (put sets a (set.insert (slice_index_or sets a set.empty) b)) x y ≡ ((x == a && y == b) || is_noted sets x y)
    by_case (inl is) = noted_here sets a b y known x is
    by_case (inr other) = noted_there sets a b y known x other

shuffled : (p q c : Bool) → (q || (p || c)) ≡ (c || ((p || q) || false))
shuffled true true true = refl
shuffled true true false = refl
shuffled true false true = refl
shuffled true false false = refl
shuffled false true true = refl
shuffled false true false = refl
shuffled false false true = refl
shuffled false false false = refl

-- the pair, in either order
pub joined : (sets one two : List Numbers) (pairs : List (ℕ × ℕ)) (a b : ℕ) → KnowsLinks sets pairs
    → ((x y : ℕ) → x < most_motes → y < most_motes → is_noted one x y ≡ ((x == a && y == b) || is_noted sets x y))
    → ((x y : ℕ) → x < most_motes → y < most_motes → is_noted two x y ≡ ((x == b && y == a) || is_noted one x y))
    → KnowsLinks two (pairs ++ (a, b) ∷ [])
joined sets one two pairs a b known first second x y h k =
    let swap : joins x y (a, b) ≡ ((x == a && y == b) || (x == b && y == a)) =
    ap (λ (t : Bool). (t && b == y) || (a == y && b == x)) (eqb_swap a x) ∙ ap (λ (t : Bool). (x == a && t) || (a == y && b == x)) (eqb_swap b y)
    ∙ ap (λ (t : Bool). (x == a && y == b) || (t && b == x)) (eqb_swap a y) ∙ ap (λ (t : Bool). (x == a && y == b) || (y == a && t)) (eqb_swap b x)
    ∙ ap (λ (t : Bool). (x == a && y == b) || t) (and_swap (y == a) (x == b)) in
    second x y h k ∙ ap (λ (t : Bool). (x == b && y == a) || t) (first x y h k) ∙ ap (λ (t : Bool). (x == b && y == a) || ((x == a && y == b) || t)) (known x y h k)
    ∙ shuffled (x == a && y == b) (x == b && y == a) (is_linked pairs x y)
    ∙ ap (λ (t : Bool). is_linked pairs x y || (t || false)) (sym swap) ∙ sym (list_any-append (joins x y) pairs ((a, b) ∷ []))
  where
    and_swap : (p q : Bool) → (p && q) ≡ (q && p)
    and_swap true true = refl
    and_swap true false = refl
    and_swap false true = refl
    and_swap false false = refl

-- no motes are neighbours
pub none_known : (sets : List Numbers) (s : Numbers) (pairs : List (ℕ × ℕ)) → s ≡ set.empty → sets ≡ replicate most_motes s → pairs ≡ [] → KnowsLinks sets pairs
none_known sets s pairs empty all none x y h k =
    ap (λ (l : List Numbers). is_noted l x y) all ∙ ap (λ (t : Numbers). set.contains t y) (get_or-replicate most_motes x s set.empty h)
    ∙ ap (λ (t : Numbers). set.contains t y) empty ∙ contains-none y ∙ ap (λ (l : List (ℕ × ℕ)). is_linked l x y) (sym none)
