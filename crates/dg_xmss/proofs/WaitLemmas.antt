-- Nodes of an L-tree that wait, as they are joined.
use Rattle.std.proofs.Common.{◌≡◌, ◌⊎◌, ℕ, zero, suc, ◌+◌, ◌-◌, ◌*◌, ◌/◌, ◌%◌, ◌<◌, ◌≤◌, ◌==◌, if◌then◌else◌, List, [], ◌∷◌, ◌++◌, length, take, get_or, set, refl, ap, sym, ◌∙◌, subst, arith, inl, inr}
use Rattle.std.proofs.lemmas.Bool.{cases_lt}
use Rattle.std.proofs.lemmas.List.{append-nil, length-take-le, length-append, length-set, take-take, take_at, take-set-le, take_more, get_or-take, get_or_at, get_or-set_same}
use Rattle.dg_xmss.specs.Addresses.{ltree_address}
use Rattle.dg_xmss.specs.Trees.{rand_hash, ltree_nodes, ltree}
use Rattle.dg_xmss.specs.Joining.{AreWaiting, waiting_nodes}
use Rattle.dg_xmss.proofs.TreeLemmas.{length-nodes, node_pair, node_odd}

-- ---- one after others

pub snoc_size : (ws : List (List ℕ)) (w : List ℕ) (held : List (List ℕ)) (size : ℕ) → take size held ≡ ws ++ w ∷ [] → size < length held → length ws + 1 ≡ size
snoc_size ws w held size e h =
    let long : length (take size held) ≡ size = length-take-le size held (omega arith) in
    let both : length (take size held) ≡ length ws + 1 = ap length e ∙ length-append ws (w ∷ []) in
    omega arith

snoc_front : (ws : List (List ℕ)) (w : List ℕ) (held : List (List ℕ)) (size left : ℕ) → left ≡ size - 1 → take size held ≡ ws ++ w ∷ [] → size < length held → take left held ≡ ws
snoc_front ws w held size left d e h =
    let long : length ws + 1 ≡ size = snoc_size ws w held size e h in
    let at : length ws ≡ left = omega arith in
    sym (take-take left size held (omega arith)) ∙ ap (take left) e ∙ take_at ws (w ∷ []) left at

snoc_last : (ws : List (List ℕ)) (w : List ℕ) (held : List (List ℕ)) (size left : ℕ) → left ≡ size - 1 → take size held ≡ ws ++ w ∷ [] → size < length held → get_or held left [] ≡ w
snoc_last ws w held size left d e h =
    let long : length ws + 1 ≡ size = snoc_size ws w held size e h in
    let at : length ws ≡ left = omega arith in
    sym (get_or-take size held left [] (omega arith)) ∙ ap (λ (xs : List (List ℕ)). get_or xs left []) e ∙ get_or_at ws w [] [] left at

snoc_join : (ws : List (List ℕ)) (w : List ℕ) (held : List (List ℕ)) (size : ℕ) → take size held ≡ ws → get_or held size [] ≡ w → size < length held → take (size + 1) held ≡ ws ++ w ∷ []
snoc_join ws w held size e f h =
    take_more held size [] h ∙ ap (λ (xs : List (List ℕ)). xs ++ get_or held size [] ∷ []) e ∙ ap (λ (x : List ℕ). ws ++ x ∷ []) f

-- ---- by the count

even_waits : (nodes : ℕ → List (List ℕ)) (n k q : ℕ) → q % 2 ≡ 0 → waiting_nodes nodes (suc n) k q ≡ waiting_nodes nodes n (k + 1) (q / 2)
unfolding waiting_nodes
even_waits nodes n k q e =
    ap (λ (r : ℕ). waiting_nodes nodes n (k + 1) (q / 2) ++ (if r == 1 then get_or (nodes k) (q - 1) [] ∷ [] else [])) e
    ∙ append-nil (waiting_nodes nodes n (k + 1) (q / 2))

odd_waits : (nodes : ℕ → List (List ℕ)) (n k q : ℕ) → q % 2 ≡ 1 → waiting_nodes nodes (suc n) k q ≡ waiting_nodes nodes n (k + 1) (q / 2) ++ get_or (nodes k) (q - 1) [] ∷ []
unfolding waiting_nodes
odd_waits nodes n k q e =
    ap (λ (r : ℕ). waiting_nodes nodes n (k + 1) (q / 2) ++ (if r == 1 then get_or (nodes k) (q - 1) [] ∷ [] else [])) e

parity : (q : ℕ) → (q % 2 ≡ 0) ⊎ (q % 2 ≡ 1)
parity q = elim (cases_lt 0 (q % 2)) [ inl h ↦ inr (omega arith) | inr h ↦ inl (omega arith) ]

pub none_wait : (nodes : ℕ → List (List ℕ)) → waiting_nodes nodes 7 0 0 ≡ []
unfolding waiting_nodes
none_wait nodes = refl

none_left : (nodes : ℕ → List (List ℕ)) (k q : ℕ) → waiting_nodes nodes 0 k q ≡ []
unfolding waiting_nodes
none_left nodes k q = refl

-- ---- how many wait

unfoldable bits : ℕ → ℕ → ℕ
bits zero q = 0
bits (suc n) q = bits n (q / 2) + q % 2

length-waiting_nodes : (nodes : ℕ → List (List ℕ)) (n k q : ℕ) → length (waiting_nodes nodes n k q) ≡ bits n q
unfolding waiting_nodes bits
length-waiting_nodes nodes zero k q = refl
length-waiting_nodes nodes (suc n) k q =
    let rest : length (waiting_nodes nodes n (k + 1) (q / 2)) ≡ bits n (q / 2) = length-waiting_nodes nodes n (k + 1) (q / 2) in
    elim (parity q) [
      | inl e ↦ ap length (even_waits nodes n k q e) ∙ omega arith
      | inr e ↦ ap length (odd_waits nodes n k q e) ∙ length-append (waiting_nodes nodes n (k + 1) (q / 2)) (get_or (nodes k) (q - 1) [] ∷ []) ∙ omega arith
    ]

bits_none : (n : ℕ) → bits n 0 ≡ 0
unfolding bits
bits_none zero = refl
bits_none (suc n) = omega (arith, bits_none n)

unfoldable pub doubled : ℕ → ℕ
doubled zero = 1
doubled (suc n) = 2 * doubled n

bits_small : (m n q : ℕ) → q < doubled m → bits n q ≤ m
unfolding bits doubled
bits_small m zero q h = omega arith
bits_small zero (suc n) q h =
    let none : q ≡ 0 = omega arith in
    let all : bits (suc n) q ≡ 0 = ap (bits (suc n)) none ∙ bits_none (suc n) in
    omega (arith, all)
bits_small (suc m) (suc n) q h =
    let half : q / 2 < doubled m = omega arith in
    let rest : bits n (q / 2) ≤ m = bits_small m n (q / 2) half in
    omega arith

bits_few : (q : ℕ) → q < 67 → bits 7 q ≤ 6
unfolding bits doubled
bits_few q h =
    elim (cases_lt q 64) [
      | inl low ↦ bits_small 6 7 q low
      | inr high ↦
          let up : q / 2 / 2 ≡ 16 = omega arith in
          let rest : bits 5 (q / 2 / 2) ≡ 1 = ap (bits 5) up in
          few_of (bits 5 (q / 2 / 2)) (q / 2 % 2) (q % 2) rest (omega arith) (omega arith)
    ]
  where
    few_of : (a b c : ℕ) → a ≡ 1 → b < 2 → c < 2 → a + b + c ≤ 6
    few_of a b c e f g = omega arith

pub few_wait : (nodes : ℕ → List (List ℕ)) (held : List (List ℕ)) (size q : ℕ) → length held ≡ 7 → size ≤ 7 → q < 67 → take size held ≡ waiting_nodes nodes 7 0 q → size < 7
few_wait nodes held size q e h low w =
    let long : length (take size held) ≡ size = length-take-le size held (omega arith) in
    let count : length (take size held) ≡ bits 7 q = ap length w ∙ length-waiting_nodes nodes 7 0 q in
    let few : bits 7 q ≤ 6 = bits_few q low in
    omega arith

-- ---- two nodes are united

pub some_waits : (nodes : ℕ → List (List ℕ)) (heights n k q : ℕ) (held : List (List ℕ)) (size : ℕ) → heights ≡ suc n → q % 2 ≡ 1 → AreWaiting nodes heights k q held size → 1 ≤ size
some_waits nodes heights n k q held size e odd w =
    let is : take size held ≡ waiting_nodes nodes n (k + 1) (q / 2) ++ get_or (nodes k) (q - 1) [] ∷ [] =
    w.older ∙ ap (λ (z : ℕ). waiting_nodes nodes z k q) e ∙ odd_waits nodes n k q odd in
    let long : length (waiting_nodes nodes n (k + 1) (q / 2)) + 1 ≡ size =
    snoc_size (waiting_nodes nodes n (k + 1) (q / 2)) (get_or (nodes k) (q - 1) []) held size is w.room in
    omega arith

-- the node above two that stand side by side in the L-tree of a leaf
abbrev above : (seed : List ℕ) (leaf : ℕ) (k up : ℕ) (held : List (List ℕ)) (left : ℕ) → List ℕ
above seed leaf k up held left = rand_hash (get_or held left []) (get_or held (left + 1) []) seed (ltree_address leaf k up)

pub unite_waits : (seed : List ℕ) (leaf : ℕ) (pk : List (List ℕ)) (heights n k q : ℕ) (held new : List (List ℕ)) (size left up : ℕ)
    → heights ≡ suc n → q % 2 ≡ 1 → q < length (ltree_nodes seed leaf pk k) → left ≡ size - 1 → up ≡ q / 2
    → new ≡ set held left (rand_hash (get_or held left []) (get_or held (left + 1) []) seed (ltree_address leaf k up))
    → AreWaiting (ltree_nodes seed leaf pk) heights k q held size → AreWaiting (ltree_nodes seed leaf pk) n (k + 1) up new left
unite_waits seed leaf pk heights n k q held new size left up e odd h d u s w =
    let nodes : ℕ → List (List ℕ) = ltree_nodes seed leaf pk in
    let ws : List (List ℕ) = waiting_nodes nodes n (k + 1) (q / 2) in
    let x : List ℕ = above seed leaf k up held left in
    let is : take size held ≡ ws ++ get_or (nodes k) (q - 1) [] ∷ [] =
    w.older ∙ ap (λ (z : ℕ). waiting_nodes nodes z k q) e ∙ odd_waits nodes n k q odd in
    let some : 1 ≤ size = some_waits nodes heights n k q held size e odd w in
    let room : left < length held = omega (arith, w.room) in
    let front : take left held ≡ ws = snoc_front ws (get_or (nodes k) (q - 1) []) held size left d is w.room in
    let beside : get_or held left [] ≡ get_or (nodes k) (q - 1) [] = snoc_last ws (get_or (nodes k) (q - 1) []) held size left d is w.room in
    let next : left + 1 ≡ size = omega arith in
    let newest : get_or held (left + 1) [] ≡ get_or (nodes k) q [] = ap (λ (i : ℕ). get_or held i []) next ∙ w.newest in
    let one : suc k ≡ k + 1 = omega arith in
    let made : x ≡ get_or (nodes (k + 1)) (q / 2) [] =
    ap (λ (y : List ℕ). rand_hash y (get_or held (left + 1) []) seed (ltree_address leaf k up)) beside
    ∙ ap (λ (y : List ℕ). rand_hash (get_or (nodes k) (q - 1) []) y seed (ltree_address leaf k up)) newest
    ∙ ap (λ (i : ℕ). rand_hash (get_or (nodes k) (q - 1) []) (get_or (nodes k) q []) seed (ltree_address leaf k i)) u
    ∙ sym (node_pair seed leaf pk k q odd h)
    ∙ ap (λ (i : ℕ). get_or (nodes i) (q / 2) []) one in
    record {
      older = ap (take left) s ∙ take-set-le left held left x (omega arith) ∙ front ∙ ap (waiting_nodes nodes n (k + 1)) (sym u);
      newest = ap (λ (xs : List (List ℕ)). get_or xs left []) s ∙ get_or-set_same held left x [] room ∙ made ∙ ap (λ (i : ℕ). get_or (nodes (k + 1)) i []) (sym u);
      room = let same : length new ≡ length held = ap length s ∙ length-set held left x in omega arith;
    }

-- a node with no node beside it goes up unchanged
pub odd_goes_up : (seed : List ℕ) (leaf : ℕ) (pk : List (List ℕ)) (heights n k q : ℕ) (held : List (List ℕ)) (size up : ℕ)
    → heights ≡ suc n → q % 2 ≡ 0 → length (ltree_nodes seed leaf pk k) ≡ q + 1 → up ≡ q / 2
    → AreWaiting (ltree_nodes seed leaf pk) heights k q held size → AreWaiting (ltree_nodes seed leaf pk) n (k + 1) up held size
odd_goes_up seed leaf pk heights n k q held size up e even h u w =
    let nodes : ℕ → List (List ℕ) = ltree_nodes seed leaf pk in
    let one : suc k ≡ k + 1 = omega arith in
    record {
      older = w.older ∙ ap (λ (z : ℕ). waiting_nodes nodes z k q) e ∙ even_waits nodes n k q even ∙ ap (waiting_nodes nodes n (k + 1)) (sym u);
      newest = w.newest ∙ sym (node_odd seed leaf pk k q even h) ∙ ap (λ (i : ℕ). get_or (nodes i) (q / 2) []) one ∙ ap (λ (i : ℕ). get_or (nodes (k + 1)) i []) (sym u);
      room = w.room;
    }

-- ---- the newest node is joined with those that waited

pub record Joins (nodes : ℕ → List (List ℕ)) (heights height count : ℕ) (held : List (List ℕ)) (size whole : ℕ) : Type 0 where
  pub waits : AreWaiting nodes heights height count held size
  pub few : count < length (nodes height)
  pub enough : count + 1 < doubled heights
  pub same : waiting_nodes nodes heights height (count + 1) ≡ waiting_nodes nodes 7 0 (whole + 1)

pub joins_first : (nodes : ℕ → List (List ℕ)) (index : ℕ) (held : List (List ℕ)) (size : ℕ) → index < 67 → index < length (nodes 0) → AreWaiting nodes 7 0 index held size
    → Joins nodes 7 0 index held size index
unfolding doubled
joins_first nodes index held size low few w = record { waits = w; few = few; enough = omega arith; same = refl }

pub joins_room : (nodes : ℕ → List (List ℕ)) (heights height count : ℕ) (held : List (List ℕ)) (size whole : ℕ) → Joins nodes heights height count held size whole → 1 ≤ heights
unfolding doubled
joins_room nodes zero height count held size whole j = let h : count + 1 < 1 = j.enough in absurd (omega arith)
joins_room nodes (suc n) height count held size whole j = omega arith

pub joins_some : (nodes : ℕ → List (List ℕ)) (heights height count : ℕ) (held : List (List ℕ)) (size whole : ℕ) → count % 2 ≡ 1 → Joins nodes heights height count held size whole → 1 ≤ size
joins_some nodes heights height count held size whole odd j =
    let room : 1 ≤ heights = joins_room nodes heights height count held size whole j in
    some_waits nodes heights (heights - 1) height count held size (omega arith) odd j.waits

joins_step : (seed : List ℕ) (leaf : ℕ) (pk : List (List ℕ)) (n height count : ℕ) (held new : List (List ℕ)) (size left up whole : ℕ)
    → count % 2 ≡ 1 → left ≡ size - 1 → up ≡ count / 2
    → new ≡ set held left (rand_hash (get_or held left []) (get_or held (left + 1) []) seed (ltree_address leaf height up))
    → Joins (ltree_nodes seed leaf pk) (suc n) height count held size whole → Joins (ltree_nodes seed leaf pk) n (height + 1) up new left whole
unfolding doubled
joins_step seed leaf pk n height count held new size left up whole odd d u s j =
    let nodes : ℕ → List (List ℕ) = ltree_nodes seed leaf pk in
    let enough : count + 1 < 2 * doubled n = j.enough in
    let size_of : length (nodes (suc height)) ≡ (length (nodes height) + 1) / 2 = length-nodes seed leaf pk height in
    let one : length (nodes (height + 1)) ≡ length (nodes (suc height)) = ap (λ (i : ℕ). length (nodes i)) (let e : height + 1 ≡ suc height = omega arith in e) in
    let few : count < length (nodes height) = j.few in
    let even : (count + 1) % 2 ≡ 0 = omega arith in
    let half : (count + 1) / 2 ≡ up + 1 = omega arith in
    record {
      waits = unite_waits seed leaf pk (suc n) n height count held new size left up refl odd few d u s j.waits;
      few = omega arith;
      enough = omega arith;
      same = ap (waiting_nodes nodes n (height + 1)) (sym half) ∙ sym (even_waits nodes n height (count + 1) even) ∙ j.same;
    }

pub joins_more : (seed : List ℕ) (leaf : ℕ) (pk : List (List ℕ)) (heights below height count : ℕ) (held new : List (List ℕ)) (size left up whole : ℕ)
    → below ≡ heights - 1 → count % 2 ≡ 1 → left ≡ size - 1 → up ≡ count / 2
    → new ≡ set held left (rand_hash (get_or held left []) (get_or held (left + 1) []) seed (ltree_address leaf height up))
    → Joins (ltree_nodes seed leaf pk) heights height count held size whole → Joins (ltree_nodes seed leaf pk) below (height + 1) up new left whole
joins_more seed leaf pk heights below height count held new size left up whole b odd d u s j =
    let room : 1 ≤ heights = joins_room (ltree_nodes seed leaf pk) heights height count held size whole j in
    let is : heights ≡ suc below = omega arith in
    joins_step seed leaf pk below height count held new size left up whole odd d u s
    (subst (λ (z : ℕ). Joins (ltree_nodes seed leaf pk) z height count held size whole) is j)

joins_all : (nodes : ℕ → List (List ℕ)) (n height count : ℕ) (held : List (List ℕ)) (size whole : ℕ) → count % 2 ≡ 0 → Joins nodes (suc n) height count held size whole
    → take (size + 1) held ≡ waiting_nodes nodes 7 0 (whole + 1)
joins_all nodes n height count held size whole even j =
    let ws : List (List ℕ) = waiting_nodes nodes n (height + 1) (count / 2) in
    let odd : (count + 1) % 2 ≡ 1 = omega arith in
    let half : (count + 1) / 2 ≡ count / 2 = omega arith in
    let back : count + 1 - 1 ≡ count = omega arith in
    let is : waiting_nodes nodes (suc n) height (count + 1) ≡ ws ++ get_or (nodes height) count [] ∷ [] =
    odd_waits nodes n height (count + 1) odd
    ∙ ap (λ (i : ℕ). waiting_nodes nodes n (height + 1) i ++ get_or (nodes height) (count + 1 - 1) [] ∷ []) half
    ∙ ap (λ (i : ℕ). ws ++ get_or (nodes height) i [] ∷ []) back in
    snoc_join ws (get_or (nodes height) count []) held size (j.waits.older ∙ even_waits nodes n height count even) j.waits.newest j.waits.room ∙ sym is ∙ j.same

pub joins_end : (nodes : ℕ → List (List ℕ)) (heights height count : ℕ) (held : List (List ℕ)) (size whole : ℕ) → count % 2 ≡ 0 → Joins nodes heights height count held size whole
    → take (size + 1) held ≡ waiting_nodes nodes 7 0 (whole + 1)
joins_end nodes heights height count held size whole even j =
    let room : 1 ≤ heights = joins_room nodes heights height count held size whole j in
    let is : heights ≡ suc (heights - 1) = omega arith in
    joins_all nodes (heights - 1) height count held size whole even (subst (λ (z : ℕ). Joins nodes z height count held size whole) is j)

-- ---- the first and the last of an L-tree

pub waits_new : (nodes : ℕ → List (List ℕ)) (held new : List (List ℕ)) (size index : ℕ) (x : List ℕ) → size < length held → new ≡ set held size x
    → x ≡ get_or (nodes 0) index [] → take size held ≡ waiting_nodes nodes 7 0 index → AreWaiting nodes 7 0 index new size
waits_new nodes held new size index x h s e w =
    record {
      older = ap (take size) s ∙ take-set-le size held size x (omega arith) ∙ w;
      newest = ap (λ (xs : List (List ℕ)). get_or xs size []) s ∙ get_or-set_same held size x [] h ∙ e;
      room = let same : length new ≡ length held = ap length s ∙ length-set held size x in omega arith;
    }

pub last_more : (seed : List ℕ) (leaf : ℕ) (pk : List (List ℕ)) (k q : ℕ) → length (ltree_nodes seed leaf pk k) ≡ q + 1 → length (ltree_nodes seed leaf pk (k + 1)) ≡ q / 2 + 1
last_more seed leaf pk k q h =
    let one : length (ltree_nodes seed leaf pk (k + 1)) ≡ length (ltree_nodes seed leaf pk (suc k)) = ap (λ (i : ℕ). length (ltree_nodes seed leaf pk i)) (let e : k + 1 ≡ suc k = omega arith in e) in
    let size : length (ltree_nodes seed leaf pk (suc k)) ≡ (length (ltree_nodes seed leaf pk k) + 1) / 2 = length-nodes seed leaf pk k in
    omega arith

pub first_nodes : (seed : List ℕ) (leaf : ℕ) (pk : List (List ℕ)) → ltree_nodes seed leaf pk 0 ≡ pk
unfolding ltree_nodes
first_nodes seed leaf pk = refl

length_top : (seed : List ℕ) (leaf : ℕ) (pk : List (List ℕ)) → length pk ≡ 67 → length (ltree_nodes seed leaf pk 7) ≡ 1
length_top seed leaf pk h =
    let l0 : length (ltree_nodes seed leaf pk 0) ≡ 67 = ap length (first_nodes seed leaf pk) ∙ h in
    let l1 : length (ltree_nodes seed leaf pk 1) ≡ 34 = length-nodes seed leaf pk 0 ∙ ap (λ (n : ℕ). (n + 1) / 2) l0 in
    let l2 : length (ltree_nodes seed leaf pk 2) ≡ 17 = length-nodes seed leaf pk 1 ∙ ap (λ (n : ℕ). (n + 1) / 2) l1 in
    let l3 : length (ltree_nodes seed leaf pk 3) ≡ 9 = length-nodes seed leaf pk 2 ∙ ap (λ (n : ℕ). (n + 1) / 2) l2 in
    let l4 : length (ltree_nodes seed leaf pk 4) ≡ 5 = length-nodes seed leaf pk 3 ∙ ap (λ (n : ℕ). (n + 1) / 2) l3 in
    let l5 : length (ltree_nodes seed leaf pk 5) ≡ 3 = length-nodes seed leaf pk 4 ∙ ap (λ (n : ℕ). (n + 1) / 2) l4 in
    let l6 : length (ltree_nodes seed leaf pk 6) ≡ 2 = length-nodes seed leaf pk 5 ∙ ap (λ (n : ℕ). (n + 1) / 2) l5 in
    length-nodes seed leaf pk 6 ∙ ap (λ (n : ℕ). (n + 1) / 2) l6

pub root_waits : (seed : List ℕ) (leaf : ℕ) (pk : List (List ℕ)) (heights height q : ℕ) (held : List (List ℕ)) (size : ℕ) → heights ≡ 0 → height ≡ 7 → length pk ≡ 67
    → length (ltree_nodes seed leaf pk height) ≡ q + 1 → AreWaiting (ltree_nodes seed leaf pk) heights height q held size → get_or held 0 [] ≡ ltree seed leaf pk
unfolding ltree
root_waits seed leaf pk heights height q held size e f h last w =
    let nodes : ℕ → List (List ℕ) = ltree_nodes seed leaf pk in
    let none : take size held ≡ [] = w.older ∙ ap (λ (z : ℕ). waiting_nodes nodes z height q) e ∙ none_left nodes height q in
    let long : length (take size held) ≡ size = length-take-le size held (omega (arith, w.room)) in
    let empty : length (take size held) ≡ 0 = ap length none in
    let first : 0 ≡ size = omega arith in
    let top : length (nodes height) ≡ 1 = ap (λ (i : ℕ). length (nodes i)) f ∙ length_top seed leaf pk h in
    let only : q ≡ 0 = omega (arith, last, top) in
    ap (λ (i : ℕ). get_or held i []) first ∙ w.newest ∙ ap (λ (i : ℕ). get_or (nodes height) i []) only ∙ ap (λ (i : ℕ). get_or (nodes i) 0 []) f
