-- Levels that are marked one after the other are the least numbers of links.
use Rattle.std.proofs.Common.{◌≡◌, ◌⊎◌, ℕ, zero, suc, ◌+◌, ◌<◌, ◌≤◌, Bool, true, false, ◌||◌, cond, add-one, List, [], ◌∷◌, ◌++◌, length, get_or, replicate, Option, Some, None, IsSome, refl, sym, ap, ◌∙◌, subst, inl, inr, ⊎_elim, arith}
use Rattle.std.specs.Prelude.{is_none, slice_set}
use Rattle.std.specs.List.{Contains}
use Rattle.std.proofs.lemmas.Bool.{cases_eq, cases_lt}
use Rattle.std.proofs.lemmas.Option.{same_Some}
use Rattle.std.proofs.lemmas.List.{length-set, get_or-set_same, get_or-set_other, get_or-replicate, get_or_past, length-replicate}
use Rattle.std.proofs.lemmas.List.Elements.{Contains-append_left, Contains-append_right, Contains-append_cases}
use Rattle.std.proofs.lemmas.List.Sums.{sum_by-set, count_by-le-length}
use Rattle.dg_rounds.specs.LinkPaths.{IsLinked, LinkPath, here, more, IsLevel}
use Rattle.dg_rounds.specs.Marks.{mark_of, unmarked, Marks, Spreads}

abbrev pub nothing : Option ℕ
nothing = None

abbrev open_mark : Option ℕ → ℕ
open_mark o = cond (is_none o) 1 0

-- ---- one mark

marks_kept : (near far level : ℕ) (old new : List (Option ℕ)) (r : Bool) → Marks near far level old new r → (m n : ℕ) → mark_of old m ≡ Some n → mark_of new m ≡ Some n
marks_kept near far level old new false h m n e = ap (λ l. mark_of l m) h.0 ∙ e
marks_kept near far level old new true h m n e =
    elim (cases_eq m far) [
      | inl same ↦ absurd (let none : mark_of old m ≡ None = ap (mark_of old) same ∙ h.1 in cc)
      | inr apart ↦ ap (λ l. mark_of l m) h.2 ∙ get_or-set_other old far m (Some (level + 1)) None apart ∙ e
    ]

marks_from : (near far level : ℕ) (old new : List (Option ℕ)) (r : Bool) → far < length old → Marks near far level old new r → (m n : ℕ) → mark_of new m ≡ Some n
    → (mark_of old m ≡ Some n) ⊎ ((n ≡ level + 1) × (m ≡ far) × (mark_of old near ≡ Some level))
marks_from near far level old new false l h m n e = inl (ap (λ x. mark_of x m) (sym h.0) ∙ e)
marks_from near far level old new true l h m n e =
    elim (cases_eq m far) [
      | inl same ↦
          let now : mark_of new m ≡ Some (level + 1) = ap (mark_of new) same ∙ ap (λ x. mark_of x far) h.2 ∙ get_or-set_same old far (Some (level + 1)) None l in
          inr (same_Some n (level + 1) (sym e ∙ now), same, h.0)
      | inr apart ↦ inl (sym (ap (λ x. mark_of x m) h.2 ∙ get_or-set_other old far m (Some (level + 1)) None apart) ∙ e)
    ]

marks_reach : (near far level : ℕ) (old new : List (Option ℕ)) (r : Bool) → far < length old → Marks near far level old new r → mark_of old near ≡ Some level → IsSome (mark_of new far)
marks_reach near far level old new false l h e = subst (λ x. IsSome (mark_of x far)) (sym h.0) (h.1 e)
marks_reach near far level old new true l h e = subst IsSome (sym (ap (λ x. mark_of x far) h.2 ∙ get_or-set_same old far (Some (level + 1)) None l)) refl

pub marks_length : (near far level : ℕ) (old new : List (Option ℕ)) (r : Bool) → Marks near far level old new r → length new ≡ length old
marks_length near far level old new false h = ap length h.0
marks_length near far level old new true h = ap length h.2 ∙ length-set old far (Some (level + 1))

marks_fewer : (near far level : ℕ) (old new : List (Option ℕ)) → far < length old → Marks near far level old new true → unmarked new < unmarked old
marks_fewer near far level old new l h =
    let one : open_mark (mark_of old far) ≡ 1 = ap open_mark h.1 in
    let e : unmarked (slice_set old far (Some (level + 1))) + open_mark (mark_of old far) ≡ unmarked old + 0 = sum_by-set open_mark old far (Some (level + 1)) nothing l in
    let now : unmarked new ≡ unmarked (slice_set old far (Some (level + 1))) = ap unmarked h.2 in
    omega arith

-- whether anything was marked so far
pub told_more : (near far level : ℕ) (old mid new : List (Option ℕ)) (was r : Bool) → far < length mid → (was ≡ true → unmarked mid < unmarked old) → (was ≡ false → mid ≡ old) → Marks near far level mid new r
    → ((was || r) ≡ true → unmarked new < unmarked old) × ((was || r) ≡ false → new ≡ old)
told_more near far level old mid new true true l fewer none h = (λ _. let a = marks_fewer near far level mid new l h in let b = fewer refl in omega arith, λ e. absurd cc)
told_more near far level old mid new true false l fewer none h = (λ _. let e : unmarked new ≡ unmarked mid = ap unmarked h.0 in let b = fewer refl in omega arith, λ e. absurd cc)
told_more near far level old mid new false true l fewer none h = (λ _. let e : unmarked mid ≡ unmarked old = ap unmarked (none refl) in let a = marks_fewer near far level mid new l h in omega arith, λ e. absurd cc)
told_more near far level old mid new false false l fewer none h = (λ e. absurd cc, λ _. h.0 ∙ none refl)

-- ---- marks for one link after the other

abbrev Also : (ℕ → ℕ → Type 0) → ℕ → ℕ → ℕ → ℕ → Type 0
Also P near far a b = P a b ⊎ ((a ≡ near) × (b ≡ far))

pub spreads_none : (level : ℕ) (levels : List (Option ℕ)) → Spreads (IsLinked []) level levels levels
spreads_none level levels = record {
  same_length = refl;
  kept = λ m n e. e;
  marked = λ m n e. inl e;
  reached = λ near far e l. absurd (⊎_elim (λ (c : Contains [] (near, far)). omega (arith, c.1)) (λ (c : Contains [] (far, near)). omega (arith, c.1)) l);
}

spreads_also : (P : ℕ → ℕ → Type 0) (near far level : ℕ) (old mid new : List (Option ℕ)) (r : Bool) → far < length mid → Spreads P level old mid → Marks near far level mid new r → Spreads (Also P near far) level old new
spreads_also P near far level old mid new r l s h = record {
  same_length = marks_length near far level mid new r h ∙ s.same_length;
  kept = λ m n e. marks_kept near far level mid new r h m n (s.kept m n e);
  marked = λ m n e. ⊎_elim
      (λ before. ⊎_elim (λ o. inl o) (λ w. inr (w.0, (w.1.0, w.1.1, inl w.1.2))) (s.marked m n before))
      (λ w. inr (w.0, (near, was w.2, inr (refl, w.1))))
      (marks_from near far level mid new r l h m n e);
  reached = λ a b e w. ⊎_elim (λ p. some_kept b (s.reached a b e p)) (λ q. first a b e q.0 q.1) w;
}
  where
    was : mark_of mid near ≡ Some level → mark_of old near ≡ Some level
    was e = ⊎_elim (λ o. o) (λ w. absurd (omega (arith, w.0))) (s.marked near level e)

    some_kept : (b : ℕ) → IsSome (mark_of mid b) → IsSome (mark_of new b)
    some_kept b some = kept_by (mark_of mid b) refl some
      where
        kept_by : (o : Option ℕ) → mark_of mid b ≡ o → IsSome o → IsSome (mark_of new b)
        kept_by None e some = absurd cc
        kept_by (Some n) e some = subst IsSome (sym (marks_kept near far level mid new r h b n e)) refl

    first : (a b : ℕ) → mark_of old a ≡ Some level → a ≡ near → b ≡ far → IsSome (mark_of new b)
    first a b e p q = subst (λ x. IsSome (mark_of new x)) (sym q) (marks_reach near far level mid new r l h (ap (mark_of mid) (sym p) ∙ s.kept a level e))

spreads_same : (P Q : ℕ → ℕ → Type 0) (level : ℕ) (old new : List (Option ℕ)) → ((a b : ℕ) → P a b → Q a b) → ((a b : ℕ) → Q a b → P a b) → Spreads P level old new → Spreads Q level old new
spreads_same P Q level old new to from s = record {
  same_length = s.same_length;
  kept = s.kept;
  marked = λ m n e. ⊎_elim (λ o. inl o) (λ w. inr (w.0, (w.1.0, w.1.1, to w.1.0 m w.1.2))) (s.marked m n e);
  reached = λ a b e q. s.reached a b e (from a b q);
}

in_one : (x y : ℕ × ℕ) → Contains (x ∷ []) y → x ≡ y
in_one x y c = one c.0 c.1 c.2
  where
    one : (k : ℕ) → k < 1 → get_or (x ∷ []) k y ≡ y → x ≡ y
    one zero l e = e
    one (suc k) l e = absurd (omega arith)

link_more : (links : List (ℕ × ℕ)) (p q a b : ℕ) → Also (Also (IsLinked links) p q) q p a b → IsLinked (links ++ (p, q) ∷ []) a b
link_more links p q a b w =
    ⊎_elim
    (⊎_elim
    (⊎_elim (λ c. inl (Contains-append_left links ((p, q) ∷ []) (a, b) c)) (λ c. inr (Contains-append_left links ((p, q) ∷ []) (b, a) c)))
    (λ e. inl (Contains-append_right links ((p, q) ∷ []) (a, b) (0, omega arith, λ i. (sym e.0 i, sym e.1 i)))))
    (λ e. inr (Contains-append_right links ((p, q) ∷ []) (b, a) (0, omega arith, λ i. (sym e.1 i, sym e.0 i))))
    w

link_less : (links : List (ℕ × ℕ)) (p q a b : ℕ) → IsLinked (links ++ (p, q) ∷ []) a b → Also (Also (IsLinked links) p q) q p a b
link_less links p q a b w =
    ⊎_elim
    (λ c. ⊎_elim (λ d. inl (inl (inl d))) (λ d. let e = in_one (p, q) (a, b) d in inl (inr (ap (λ (x : ℕ × ℕ). x.0) (sym e), ap (λ (x : ℕ × ℕ). x.1) (sym e)))) (Contains-append_cases links ((p, q) ∷ []) (a, b) c))
    (λ c. ⊎_elim (λ d. inl (inl (inr d))) (λ d. let e = in_one (p, q) (b, a) d in inr (ap (λ (x : ℕ × ℕ). x.1) (sym e), ap (λ (x : ℕ × ℕ). x.0) (sym e))) (Contains-append_cases links ((p, q) ∷ []) (b, a) c))
    w

-- one link more, in both directions
pub spreads_more : (links : List (ℕ × ℕ)) (p q level : ℕ) (old mid between new : List (Option ℕ)) (r t : Bool) → p < length mid → q < length mid → Spreads (IsLinked links) level old mid
    → Marks p q level mid between r → Marks q p level between new t → Spreads (IsLinked (links ++ (p, q) ∷ [])) level old new
spreads_more links p q level old mid between new r t lp lq s h k =
    let l : p < length between = omega (arith, marks_length p q level mid between r h) in
    spreads_same (Also (Also (IsLinked links) p q) q p) (IsLinked (links ++ (p, q) ∷ [])) level old new (link_more links p q) (link_less links p q)
    (spreads_also (Also (IsLinked links) p q) q p level old between new t l (spreads_also (IsLinked links) p q level old mid between r lq s h) k)

-- ---- paths

-- all motes that are at most `level` links away are marked, and no others
pub record Reached (links : List (ℕ × ℕ)) (from level : ℕ) (levels : List (Option ℕ)) : Type 0 where
  pub sound : (m n : ℕ) → mark_of levels m ≡ Some n → (n ≤ level) × LinkPath links from n m
  pub complete : (m n : ℕ) → n ≤ level → LinkPath links from n m → (k : ℕ) × (mark_of levels m ≡ Some k) × (k ≤ n)

of_some : (o : Option ℕ) → IsSome o → (k : ℕ) × (o ≡ Some k)
of_some None some = absurd cc
of_some (Some k) some = (k, refl)

no_way : (links : List (ℕ × ℕ)) (from n m : ℕ) → LinkPath links from n m → n ≡ 0 → m ≡ from
no_way links from n m here e = refl
no_way links from n m (more k mid to w l) e = absurd (omega arith)

pub reached_first : (links : List (ℕ × ℕ)) (from motes : ℕ) → from < motes → Reached links from 0 (slice_set (replicate motes nothing) from (Some 0))
reached_first links from motes l =
    let start : mark_of (slice_set (replicate motes nothing) from (Some 0)) from ≡ Some 0 = get_or-set_same (replicate motes nothing) from (Some 0) None (omega (arith, length-replicate {A = Option ℕ} motes None)) in
    record {
      sound = λ m n e. elim (cases_eq m from) [
        | inl same ↦
            let zero_links : n ≡ 0 = same_Some n 0 (sym e ∙ ap (mark_of (slice_set (replicate motes nothing) from (Some 0))) same ∙ start) in
            (omega arith, at_start m n same zero_links)
        | inr apart ↦ absurd (let none : mark_of (slice_set (replicate motes nothing) from (Some 0)) m ≡ None = get_or-set_other (replicate motes nothing) from m (Some 0) None apart ∙ none_at m in cc)
      ];
      complete = λ m n h w. (0, ap (mark_of (slice_set (replicate motes nothing) from (Some 0))) (no_way links from n m w (omega arith)) ∙ start, omega arith);
    }
  where
    at_start : (m n : ℕ) → m ≡ from → n ≡ 0 → LinkPath links from n m
    at_start m n same none = subst (λ x. LinkPath links from x m) (sym none) (subst (λ x. LinkPath links from 0 x) (sym same) here)

    none_at : (m : ℕ) → get_or (replicate motes nothing) m nothing ≡ nothing
    none_at m = elim (cases_lt m motes) [
      | inl lt ↦ get_or-replicate motes m None None lt
      | inr past ↦ get_or_past (replicate motes nothing) m None (omega (arith, length-replicate {A = Option ℕ} motes None))
    ]

pub unmarked_first : (motes from : ℕ) → from < motes → unmarked (slice_set (replicate motes nothing) from (Some 0)) < motes
unmarked_first motes from l =
    let long : length (replicate motes nothing) ≡ motes = length-replicate motes nothing in
    let was : mark_of (replicate motes nothing) from ≡ nothing = get_or-replicate motes from nothing nothing l in
    let one : open_mark (mark_of (replicate motes nothing) from) ≡ 1 = ap open_mark was in
    let e : unmarked (slice_set (replicate motes nothing) from (Some 0)) + open_mark (mark_of (replicate motes nothing) from) ≡ unmarked (replicate motes nothing) + 0 = sum_by-set open_mark (replicate motes nothing) from (Some 0) nothing (omega arith) in
    let most : unmarked (replicate motes nothing) ≤ length (replicate motes nothing) = count_by-le-length is_none (replicate motes nothing) in
    omega arith

-- a mote that is linked to a marked one is marked with one more at most, once the marks of a level are spread
linked_on : (links : List (ℕ × ℕ)) (from level : ℕ) (old new : List (Option ℕ)) → Reached links from level old → Spreads (IsLinked links) level old new
    → (mid far k : ℕ) → mark_of old mid ≡ Some k → IsLinked links mid far → (j : ℕ) × (mark_of new far ≡ Some j) × (j ≤ k + 1)
linked_on links from level old new reached s mid far k e l =
    let way = reached.sound mid k e in
    elim (cases_lt k level) [
      | inl before ↦
          let there = reached.complete far (suc k) (omega arith) (more k mid far way.1 l) in
          (there.0, s.kept far there.0 there.1, omega (arith, there.2))
      | inr at ↦
          let at_level : k ≡ level = omega (arith, way.0) in
          let some = of_some (mark_of new far) (s.reached mid far (e ∙ ap Some at_level) l) in
          (some.0, some.1, ⊎_elim (λ o. omega (arith, (reached.sound far some.0 o).0)) (λ w. omega (arith, w.0)) (s.marked far some.0 some.1))
    ]

pub reached_more : (links : List (ℕ × ℕ)) (from level : ℕ) (old new : List (Option ℕ)) → Reached links from level old → Spreads (IsLinked links) level old new → Reached links from (level + 1) new
reached_more links from level old new reached s = record {
  sound = λ m n e. ⊎_elim
      (λ o. let w = reached.sound m n o in (omega (arith, w.0), w.1))
      (λ w. let near = reached.sound w.1.0 level w.1.1 in (omega (arith, w.0), subst (λ x. LinkPath links from x m) (sym (w.0 ∙ add-one level)) (more level w.1.0 m near.1 w.1.2)))
      (s.marked m n e);
  complete = λ m n h w. complete m n w h;
}
  where
    complete : (m n : ℕ) → LinkPath links from n m → n ≤ level + 1 → (k : ℕ) × (mark_of new m ≡ Some k) × (k ≤ n)
    complete m n here h = let t = reached.complete m 0 (omega arith) here in (t.0, s.kept m t.0 t.1, t.2)
    complete m n (more k mid to w l) h =
        let t = reached.complete mid k (omega arith) w in
        let u = linked_on links from level old new reached s mid to t.0 t.1 l in
        (u.0, u.1, omega (arith, u.2, t.2))

-- if nothing more is marked, every path is found
all_found : (links : List (ℕ × ℕ)) (from level : ℕ) (levels : List (Option ℕ)) → Reached links from level levels → Spreads (IsLinked links) level levels levels
    → (n m : ℕ) → LinkPath links from n m → (k : ℕ) × (mark_of levels m ≡ Some k) × (k ≤ n)
all_found links from level levels reached s n m here = reached.complete m 0 (omega arith) here
all_found links from level levels reached s n m (more j mid to w l) =
    let t = all_found links from level levels reached s j mid w in
    let u = linked_on links from level levels levels reached s mid to t.0 t.1 l in
    (u.0, u.1, omega (arith, u.2, t.2))

pub are_levels : (links : List (ℕ × ℕ)) (from level : ℕ) (levels : List (Option ℕ)) → Reached links from level levels → Spreads (IsLinked links) level levels levels → (m : ℕ) → IsLevel links from m (mark_of levels m)
are_levels links from level levels reached s m = by_mark (mark_of levels m) refl
  where
    by_mark : (o : Option ℕ) → mark_of levels m ≡ o → IsLevel links from m o
    by_mark None e = λ n w. let t = all_found links from level levels reached s n m w in let some = t.1 in absurd cc
    by_mark (Some n) e = (
      (reached.sound m n e).1,
      λ k w. let t = all_found links from level levels reached s k m w in let same : n ≡ t.0 = same_Some n t.0 (sym e ∙ t.1) in omega (arith, t.2),
    )

-- a mark by other names of its motes
pub marks_at : (near p far q level : ℕ) (old new : List (Option ℕ)) (r : Bool) → near ≡ p → far ≡ q → Marks near far level old new r → Marks p q level old new r
marks_at near p far q level old new r e f h = subst (λ x. Marks x q level old new r) e (subst (λ y. Marks near y level old new r) f h)
