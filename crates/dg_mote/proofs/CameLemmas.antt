-- The packets that came: how many there are, and the page that they make up.
use Rattle.std.proofs.Common.{◌≡◌, ℕ, zero, suc, ◌+◌, ◌<◌, ◌≤◌, true, false, ◌&&◌, eqb, leb, ltb, List, ◌∷◌, map, Option, Some, None, is_some, refl, sym, ap, subst, ◌∙◌, inl, inr, arith}
use Rattle.std.proofs.lemmas.Bool.{cases_Bool, cases_eq, eqb-true, and_parts, ltb-true}
use Rattle.std.proofs.lemmas.Bool.Decides.{nat_tests}
use Rattle.std.proofs.lemmas.Map.Views.{any-filter_same}
use Rattle.std.specs.List.{range_with_len}
use Rattle.std.specs.Ordering.{nat_cmp}
use Rattle.std.specs.FinSet as set
use Rattle.dg_words.specs.Lists.{concatenated}
use Rattle.dg_bits.specs.Sets.{Numbers, AllBelow}
use Rattle.dg_bits.proofs.SetLaws.{any_in_range, up_to, up_to-none, up_to-all, len-up_to_in, len-up_to_out}
use Rattle.dg_slot.specs.Layout.{packets}
use Rattle.dg_slot.specs.Jobs.{Packets, packet, bytes_of, page_from}
use Rattle.dg_mote.specs.Model.{came}

-- ---- sets of numbers below a bound

len_up_to : (n : ℕ) (s : Numbers) → set.len (up_to s n) ≤ n
len_up_to zero s = let e : set.len (up_to s 0) ≡ 0 = ap set.len (up_to-none s) ∙ set.len-empty nat_cmp in omega (arith, e)
len_up_to (suc n) s =
    let e : n + 1 ≡ suc n = omega arith in
    subst (λ k. set.len (up_to s k) ≤ k) e (elim (cases_Bool (set.contains s n)) [
      | inl is ↦ omega (arith, len-up_to_in s n is, len_up_to n s)
      | inr out ↦ omega (arith, len-up_to_out s n out, len_up_to n s)
    ])

-- one of them is missing
len_without : (n k : ℕ) (s : Numbers) → k < n → set.contains s k ≡ false → set.len (up_to s n) < n
len_without zero k s less out = absurd (omega arith)
len_without (suc n) k s less out =
    let e : n + 1 ≡ suc n = omega arith in
    subst (λ j. set.len (up_to s j) < j) e (elim (cases_eq k n) [
      | inl last_one ↦ omega (arith, len-up_to_out s n (ap (set.contains s) (sym last_one) ∙ out), len_up_to n s)
      | inr other ↦ elim (cases_Bool (set.contains s n)) [
        | inl is ↦ omega (arith, len-up_to_in s n is, len_without n k s (omega (arith, less, other)) out)
        | inr none ↦ omega (arith, len-up_to_out s n none, len_up_to n s)
      ]
    ])

pub len_below : (n : ℕ) (s : Numbers) → AllBelow n s → set.len s ≤ n
len_below n s below = let e : set.len (up_to s n) ≡ set.len s = ap set.len (up_to-all s n below) in omega (arith, e, len_up_to n s)

pub all_of : (n : ℕ) (s : Numbers) → AllBelow n s → set.len s ≡ n → (k : ℕ) → k < n → set.contains s k ≡ true
all_of n s below full k less =
    elim (cases_Bool (set.contains s k)) [
      | inl is ↦ is
      | inr out ↦ let e : set.len (up_to s n) ≡ set.len s = ap set.len (up_to-all s n below) in absurd (omega (arith, e, full, len_without n k s less out))
    ]

-- if all n are there, there are at least n
len_full : (n : ℕ) (s : Numbers) → ((q : ℕ) → q < n → set.contains s q ≡ true) → n ≤ set.len (up_to s n)
len_full zero s all = omega arith
len_full (suc n) s all =
    let e : n + 1 ≡ suc n = omega arith in
    subst (λ k. k ≤ set.len (up_to s k)) e (omega (arith, len-up_to_in s n (all n (omega arith)), len_full n s (λ q less. all q (omega (arith, less)))))

pub full_of : (n : ℕ) (s : Numbers) → AllBelow n s → ((q : ℕ) → q < n → set.contains s q ≡ true) → n ≤ set.len s
full_of n s below all = let e : set.len (up_to s n) ≡ set.len s = ap set.len (up_to-all s n below) in omega (arith, e, len_full n s all)

-- ---- the packets that came

pub came_has : (ps : Packets) (q : ℕ) → set.contains (came ps) q ≡ (is_some (packet ps q) && ltb q packets)
unfolding came
came_has ps q =
    set.contains-from_list_nat _ q
    ∙ any-filter_same (λ y. eqb y q) (λ k. is_some (packet ps k)) (is_some (packet ps q)) (λ k e. ap (λ n. is_some (packet ps n)) (eqb-true k q e)) (range_with_len 0 packets)
    ∙ ap (λ b. is_some (packet ps q) && b) (any_in_range 0 packets q ∙ low q)
  where
    low : (q : ℕ) → (leb 0 q && ltb q (0 + packets)) ≡ ltb q packets
    low q = grind (arith, nat_tests)

pub came_below : (ps : Packets) → AllBelow packets (came ps)
came_below ps q is = ltb-true q packets (and_parts (is_some (packet ps q)) (ltb q packets) (sym (came_has ps q) ∙ is)).1

pub came_few : (ps : Packets) → set.len (came ps) ≤ packets
came_few ps = len_below packets (came ps) (came_below ps)

some_is : (o : Option (List ℕ)) → is_some o ≡ true → (bytes : List ℕ) × (o ≡ Some bytes)
some_is None e = cc
some_is (Some bytes) e = (bytes, refl)

-- if all came, each is there
pub came_all : (ps : Packets) → set.len (came ps) ≡ packets → (q : ℕ) → q < packets → (bytes : List ℕ) × (packet ps q ≡ Some bytes)
came_all ps full q less =
    some_is (packet ps q) (and_parts (is_some (packet ps q)) (ltb q packets) (sym (came_has ps q) ∙ all_of packets (came ps) (came_below ps) full q less)).0

-- ---- the page that they make up

map_same : {A : Type 0} (f g : ℕ → A) (a n : ℕ) → ((k : ℕ) → k < a + n → f k ≡ g k) → map f (range_with_len a n) ≡ map g (range_with_len a n)
map_same f g a zero e = refl
map_same f g a (suc n) e = λ i. e a (omega arith) i ∷ map_same f g (a + 1) n (λ k h. e k (omega arith)) i

pub same_page : (ps qs : Packets) → ((q : ℕ) → q < packets → packet ps q ≡ packet qs q) → page_from ps ≡ page_from qs
unfolding page_from
same_page ps qs each = ap concatenated (map_same (λ q. bytes_of (packet ps q)) (λ q. bytes_of (packet qs q)) 0 packets (λ k h. ap bytes_of (each k (omega (arith, h)))))
