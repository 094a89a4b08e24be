-- Paths from a mote that keeps a row whole, and numbers of sweeps that are enough.
use Rattle.std.proofs.Common.{◌≡◌, ℕ, zero, suc, ◌+◌, ◌-◌, ◌<◌, ◌≤◌, max, Bool, true, false, ◌&&◌, ◌||◌, eqb, leb, ltb, List, [], ◌∷◌, length, Option, Some, None, refl, sym, ap, subst, ◌∙◌, inl, inr, arith}
use Rattle.std.specs.Prelude.{slice_index_or}
use Rattle.std.specs.List.{Contains, list_any, range_with_len}
use Rattle.std.proofs.lemmas.Bool.{cases_Bool, cases_lt, eq-eqb, eqb-true, le-leb, leb-true, lt-ltb, ltb-true, and_parts, and_from, or_cases, or_left, or_right}
use Rattle.dg_object.specs.Object.{Row}
use Rattle.dg_volume.specs.Sizes.{images}
use Rattle.dg_frame.specs.Sizes.{wide_images}
use Rattle.dg_mote.specs.Sizes.{shared}
use Rattle.dg_rounds.specs.LinkPaths.{IsLinked, LinkPath, here, more}
use Rattle.dg_rules.specs.World.{World, store_at}
use Rattle.dg_completion.specs.Completion.{newest, page_count, pages_kept, within, IsHops, IsEnoughFor, IsEnoughOver}
use Rattle.dg_completion.specs.Holders.{KeepsWhole, HolderWithin, WithinLaw, ReachesAll, AllReached, EnoughLaw, OneEnoughLaw}

-- ---- links that pass a test

any_there : (f : (ℕ × ℕ) → Bool) (ls : List (ℕ × ℕ)) → list_any f ls ≡ true → (l : ℕ × ℕ) × Contains ls l × (f l ≡ true)
any_there f [] e = absurd cc
any_there f (x ∷ xs) e = elim (or_cases (f x) (list_any f xs) e) [
  | inl now ↦ (x, (0, omega arith, refl), now)
  | inr later ↦ let r = any_there f xs later in (r.0, (suc r.1.0, omega (arith, r.1.1), r.1.2), r.2)
]

no_place : (l : ℕ × ℕ) → Contains [] l → ⊥
no_place l c = omega (arith, c.1)

there_any : (f : (ℕ × ℕ) → Bool) (ls : List (ℕ × ℕ)) (l : ℕ × ℕ) → Contains ls l → f l ≡ true → list_any f ls ≡ true
there_any f [] l c h = absurd (no_place l c)
there_any f (x ∷ xs) l c h = by_place c.0 c.1 c.2 (there_any f xs l)
  where
    by_place : (k : ℕ) → k < length (x ∷ xs) → slice_index_or (x ∷ xs) k l ≡ l → (Contains xs l → f l ≡ true → list_any f xs ≡ true) → list_any f (x ∷ xs) ≡ true
    by_place zero less is rest = or_left (f x) (list_any f xs) (ap f is ∙ h)
    by_place (suc k) less is rest = or_right (f x) (list_any f xs) (rest (k, omega (arith, less), is) h)

-- ---- `within`, and paths

module _ (w : World) (row : Row) where
  -- this link leads to mote m from one that is within h links
  abbrev leads : (h m : ℕ) → (ℕ × ℕ) → Bool
  leads h m l = (eqb l.1 m && within w row h l.0) || (eqb l.0 m && within w row h l.1)

  longer : (h m : ℕ) → HolderWithin w row h m → HolderWithin w row (suc h) m
  longer h m x = record { holder = x.holder; keeps = x.keeps; links = x.links; few = omega (arith, x.few); way = x.way }

  one_more : (h mid m : ℕ) → HolderWithin w row h mid → IsLinked w.links mid m → HolderWithin w row (suc h) m
  one_more h mid m x l = record { holder = x.holder; keeps = x.keeps; links = suc x.links; few = omega (arith, x.few); way = more x.links mid m x.way l }

  within_way : (h m : ℕ) → within w row h m ≡ true → HolderWithin w row h m
  unfolding within
  within_way zero m e =
      let parts = and_parts (leb (page_count row) (pages_kept (store_at w m) row)) (ltb m (length w.sites)) e in
      record {
        holder = m;
        keeps = record { there = ltb-true m (length w.sites) parts.1; pages = leb-true (page_count row) (pages_kept (store_at w m) row) parts.0 };
        links = 0;
        few = omega arith;
        way = here;
      }
  within_way (suc h) m e = elim (or_cases (within w row h m) (list_any (leads h m) w.links) e) [
    | inl near ↦ longer h m (within_way h m near)
    | inr next ↦
        let link = any_there (leads h m) w.links next in
        let l = link.0 in
        elim (or_cases (eqb l.1 m && within w row h l.0) (eqb l.0 m && within w row h l.1) link.2) [
          | inl to ↦
              let parts = and_parts (eqb l.1 m) (within w row h l.0) to in
              one_more h l.0 m (within_way h l.0 parts.1) (inl (subst (λ k. Contains w.links (l.0, k)) (eqb-true l.1 m parts.0) link.1))
          | inr back ↦
              let parts = and_parts (eqb l.0 m) (within w row h l.1) back in
              one_more h l.1 m (within_way h l.1 parts.1) (inr (subst (λ k. Contains w.links (k, l.1)) (eqb-true l.0 m parts.0) link.1))
        ]
  ]

  link_leads : (h mid m : ℕ) → within w row h mid ≡ true → IsLinked w.links mid m → list_any (leads h m) w.links ≡ true
  link_leads h mid m e (inl to) =
      there_any (leads h m) w.links (mid, m) to
      (or_left (eqb m m && within w row h mid) (eqb mid m && within w row h m) (and_from (eqb m m) (within w row h mid) (eq-eqb m m refl) e))
  link_leads h mid m e (inr back) =
      there_any (leads h m) w.links (m, mid) back
      (or_right (eqb mid m && within w row h m) (eqb m m && within w row h mid) (and_from (eqb m m) (within w row h mid) (eq-eqb m m refl) e))

  way_within : (holder : ℕ) → KeepsWhole w row holder → (h m : ℕ) → LinkPath w.links holder h m → within w row h m ≡ true
  unfolding within
  way_within holder keeps _ _ here =
      and_from (leb (page_count row) (pages_kept (store_at w holder) row)) (ltb holder (length w.sites))
      (le-leb (page_count row) (pages_kept (store_at w holder) row) keeps.pages) (lt-ltb holder (length w.sites) keeps.there)
  way_within holder keeps _ _ (more n mid to way link) =
      or_right (within w row n to) (list_any (leads n to) w.links) (link_leads n mid to (way_within holder keeps n mid way) link)

  within_later : (d h m : ℕ) → within w row h m ≡ true → within w row (d + h) m ≡ true
  unfolding within
  within_later zero h m e = let none : 0 + h ≡ h = omega arith in ap (λ k. within w row k m) none ∙ e
  within_later (suc d) h m e =
      let one : suc d + h ≡ suc (d + h) = omega arith in
      ap (λ k. within w row k m) one ∙ or_left (within w row (d + h) m) (list_any (leads (d + h) m) w.links) (within_later d h m e)

  holder_within : (h m : ℕ) → HolderWithin w row h m → within w row h m ≡ true
  holder_within h m x =
      let sum : h ≡ h - x.links + x.links = omega (arith, x.few) in
      ap (λ k. within w row k m) sum ∙ within_later (h - x.links) x.links m (way_within x.holder x.keeps x.links m x.way)

pub within_law : WithinLaw
within_law w row h m = (within_way w row h m, holder_within w row h m)

-- ---- the least number that passes a test

least : (f : ℕ → Bool) (n : ℕ) → f n ≡ true → (k : ℕ) × (f k ≡ true) × ((j : ℕ) → f j ≡ true → k ≤ j)
least f zero h = (0, h, λ j e. omega arith)
least f (suc n) h = elim (cases_Bool (f 0)) [
  | inl passes ↦ (0, passes, λ j e. omega arith)
  | inr fails ↦ let r = least (λ j. f (suc j)) n h in (suc r.0, r.1, λ j e. later r.0 r.2 fails j e)
]
  where
    later : (k : ℕ) → ((j : ℕ) → f (suc j) ≡ true → k ≤ j) → f 0 ≡ false → (j : ℕ) → f j ≡ true → suc k ≤ j
    later k low fails zero e = absurd (let both : true ≡ false = sym e ∙ fails in cc)
    later k low fails (suc j) e = omega (arith, low j e)

-- all numbers below n pass
all_to : (ℕ → Bool) → ℕ → Bool
all_to f zero = true
all_to f (suc n) = f n && all_to f n

all_at : (f : ℕ → Bool) (n : ℕ) → all_to f n ≡ true → (m : ℕ) → m < n → f m ≡ true
unfolding all_to
all_at f zero all m low = absurd (omega (arith, low))
all_at f (suc n) all m low =
    let parts = and_parts (f n) (all_to f n) all in
    elim (cases_lt m n) [
      | inl less ↦ all_at f n parts.1 m less
      | inr same ↦ let e : m ≡ n = omega (arith, same, low) in ap f e ∙ parts.0
    ]

all_from : (f : ℕ → Bool) (n : ℕ) → ((m : ℕ) → m < n → f m ≡ true) → all_to f n ≡ true
unfolding all_to
all_from f zero each = refl
all_from f (suc n) each = and_from (f n) (all_to f n) (each n (omega arith)) (all_from f n (λ m low. each m (omega (arith, low))))

-- ---- some number of sweeps is enough

module _ (w : World) (row : Row) (reaches : ReachesAll w row) where
  -- one number of links for all motes below n
  far_enough : (n : ℕ) → n ≤ length w.sites → (h : ℕ) × ((m : ℕ) → m < n → HolderWithin w row h m)
  far_enough zero low = (0, λ m less. absurd (omega (arith, less)))
  far_enough (suc n) low =
      let rest = far_enough n (omega (arith, low)) in
      let way = reaches.ways n (omega (arith, low)) in (
        max rest.0 way.0,
        λ m less. elim (cases_lt m n) [
          | inl before ↦ let x = rest.1 m before in record { holder = x.holder; keeps = x.keeps; links = x.links; few = omega (arith, x.few); way = x.way }
          | inr same ↦
              let e : n ≡ m = omega (arith, same, less) in
              record { holder = reaches.holder; keeps = reaches.keeps; links = way.0; few = omega arith; way = subst (LinkPath w.links reaches.holder way.0) e way.1 }
        ],
      )

  hops : (h : ℕ) × IsHops w row h
  hops =
      let count = length w.sites in
      let f : ℕ → Bool = λ k. all_to (within w row (suc k)) count in
      let far = far_enough count (omega arith) in
      let some : f far.0 ≡ true = all_from (within w row (suc far.0)) count (λ m less. holder_within w row (suc far.0) m (longer w row far.0 m (far.1 m less))) in
      let k = least f far.0 some in (
        suc k.0,
        record {
          some = omega arith;
          all = λ m there. all_at (within w row (suc k.0)) count k.1 m there;
          least = λ j one all.
              let e : suc (j - 1) ≡ j = omega (arith, one) in
              let low = k.2 (j - 1) (all_from (within w row (suc (j - 1))) count (λ m less. ap (λ i. within w row i m) e ∙ all m less)) in
              omega (arith, low, one);
        },
      )

enough_for : (w : World) (o : Option Row) → ((row : Row) → o ≡ Some row → ReachesAll w row) → (n : ℕ) × IsEnoughFor w o n
enough_for w None reaches = (0, refl)
enough_for w (Some row) reaches = let h = hops w row (reaches row refl) in (page_count row + h.0 - 1, (h.0, h.1, refl))

enough_over : (w : World) → AllReached w → (k i : ℕ) → 1 ≤ i → i + k ≤ images → (n : ℕ) × IsEnoughOver w (range_with_len i k) n
unfolding IsEnoughOver
enough_over w reached zero i from to = (0, refl)
enough_over w reached (suc k) i from to =
    let x = enough_for w (newest w.table i) (λ row is. reached i row from (omega (arith, to)) is) in
    let y = enough_over w reached k (i + 1) (omega arith) (omega (arith, to)) in
    (x.0 + y.0, (x.0, y.0, x.1, y.1, refl))

pub enough_law : EnoughLaw
enough_law w reached = enough_over w reached wide_images 1 (omega arith) (omega arith)

-- ---- only one number is enough

one_for : (w : World) (o : Option Row) (m n : ℕ) → IsEnoughFor w o m → IsEnoughFor w o n → m ≡ n
one_for w None m n a b = a ∙ sym b
one_for w (Some row) m n a b =
    let low = a.1.least b.0 b.1.some b.1.all in
    let high = b.1.least a.0 a.1.some a.1.all in
    omega (arith, low, high, a.2, b.2)

one_over : (w : World) (is : List ℕ) (m n : ℕ) → IsEnoughOver w is m → IsEnoughOver w is n → m ≡ n
unfolding IsEnoughOver
one_over w [] m n a b = a ∙ sym b
one_over w (i ∷ is) m n a b =
    let here = one_for w (newest w.table i) a.0 b.0 a.2 b.2 in
    let others = one_over w is a.1 b.1 a.3 b.3 in
    omega (arith, here, others, a.4, b.4)

pub one_enough_law : OneEnoughLaw
one_enough_law w m n a b = one_over w (shared true) m n a b
