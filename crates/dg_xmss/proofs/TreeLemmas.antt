-- One turn of the L-tree, and the way along the path.
use Rattle.std.proofs.Common.{◌≡◌, ℕ, zero, suc, ◌+◌, ◌-◌, ◌*◌, ◌/◌, ◌%◌, ◌<◌, ◌==◌, if◌then◌else◌, List, [], ◌∷◌, length, drop, get_or, set, refl, ap, sym, ◌∙◌, arith, add-zero}
use Rattle.std.proofs.lemmas.List.{drop_more, drop_all, length-set, get_or-set_same, get_or-set_other}
use Rattle.dg_words.proofs.ListLemmas.{length-tabulate, get_or-tabulate}
use Rattle.dg_xmss.specs.Addresses.{ltree_address, tree_address}
use Rattle.dg_xmss.specs.Trees.{rand_hash, ltree_turn, ltree_nodes, parent, path_root}
use Rattle.dg_xmss.specs.Signatures.{path_of, path_node, tree_height}

pub length-ltree_turn : (seed : List ℕ) (leaf height i : ℕ) (xs : List (List ℕ)) → length (ltree_turn seed leaf height i xs) ≡ (length xs + 1) / 2
unfolding ltree_turn
length-ltree_turn seed leaf height i [] = refl
length-ltree_turn seed leaf height i (x ∷ []) = refl
length-ltree_turn seed leaf height i (x ∷ y ∷ xs) =
    let rest : length (ltree_turn seed leaf height (i + 1) xs) ≡ (length xs + 1) / 2 = length-ltree_turn seed leaf height (i + 1) xs in
    omega arith

-- two nodes that stand side by side
turn_pair : (seed : List ℕ) (leaf height i j : ℕ) (xs : List (List ℕ)) → j * 2 + 1 < length xs
    → get_or (ltree_turn seed leaf height i xs) j [] ≡ rand_hash (get_or xs (j * 2) []) (get_or xs (j * 2 + 1) []) seed (ltree_address leaf height (i + j))
unfolding ltree_turn
turn_pair seed leaf height i j [] h = absurd (omega arith)
turn_pair seed leaf height i j (x ∷ []) h = absurd (omega arith)
turn_pair seed leaf height i zero (x ∷ y ∷ xs) h = ap (λ (k : ℕ). rand_hash x y seed (ltree_address leaf height k)) (sym (add-zero i))
turn_pair seed leaf height i (suc j) (x ∷ y ∷ xs) h =
    let within : j * 2 + 1 < length xs = omega arith in
    let first : suc (suc (j * 2)) ≡ suc j * 2 = omega arith in
    let second : suc (suc (j * 2 + 1)) ≡ suc j * 2 + 1 = omega arith in
    let place : i + 1 + j ≡ i + suc j = omega arith in
    turn_pair seed leaf height (i + 1) j xs within
    ∙ ap (λ (k : ℕ). rand_hash (get_or xs (j * 2) []) (get_or xs (j * 2 + 1) []) seed (ltree_address leaf height k)) place
    ∙ ap (λ (k : ℕ). rand_hash (get_or (x ∷ y ∷ xs) k []) (get_or xs (j * 2 + 1) []) seed (ltree_address leaf height (i + suc j))) first
    ∙ ap (λ (k : ℕ). rand_hash (get_or (x ∷ y ∷ xs) (suc j * 2) []) (get_or (x ∷ y ∷ xs) k []) seed (ltree_address leaf height (i + suc j))) second

-- an odd last one
turn_odd : (seed : List ℕ) (leaf height i j : ℕ) (xs : List (List ℕ)) → length xs ≡ j * 2 + 1
    → get_or (ltree_turn seed leaf height i xs) j [] ≡ get_or xs (j * 2) []
unfolding ltree_turn
turn_odd seed leaf height i j [] h = absurd (omega arith)
turn_odd seed leaf height i zero (x ∷ []) h = refl
turn_odd seed leaf height i (suc j) (x ∷ []) h = absurd (omega arith)
turn_odd seed leaf height i zero (x ∷ y ∷ xs) h = absurd (omega arith)
turn_odd seed leaf height i (suc j) (x ∷ y ∷ xs) h =
    let size : length xs ≡ j * 2 + 1 = omega arith in
    let first : suc (suc (j * 2)) ≡ suc j * 2 = omega arith in
    turn_odd seed leaf height (i + 1) j xs size ∙ ap (λ (k : ℕ). get_or (x ∷ y ∷ xs) k []) first

-- the same, by heights
pub length-nodes : (seed : List ℕ) (leaf : ℕ) (pk : List (List ℕ)) (height : ℕ)
    → length (ltree_nodes seed leaf pk (suc height)) ≡ (length (ltree_nodes seed leaf pk height) + 1) / 2
unfolding ltree_nodes
length-nodes seed leaf pk height = length-ltree_turn seed leaf height 0 (ltree_nodes seed leaf pk height)

pub node_pair : (seed : List ℕ) (leaf : ℕ) (pk : List (List ℕ)) (height q : ℕ) → q % 2 ≡ 1 → q < length (ltree_nodes seed leaf pk height)
    → get_or (ltree_nodes seed leaf pk (suc height)) (q / 2) []
    ≡ rand_hash (get_or (ltree_nodes seed leaf pk height) (q - 1) []) (get_or (ltree_nodes seed leaf pk height) q []) seed (ltree_address leaf height (q / 2))
unfolding ltree_nodes
node_pair seed leaf pk height q odd h =
    let xs : List (List ℕ) = ltree_nodes seed leaf pk height in
    let left : q / 2 * 2 ≡ q - 1 = omega arith in
    let right : q / 2 * 2 + 1 ≡ q = omega arith in
    let place : 0 + q / 2 ≡ q / 2 = omega arith in
    turn_pair seed leaf height 0 (q / 2) xs (omega arith)
    ∙ ap (λ (k : ℕ). rand_hash (get_or xs k []) (get_or xs (q / 2 * 2 + 1) []) seed (ltree_address leaf height (0 + q / 2))) left
    ∙ ap (λ (k : ℕ). rand_hash (get_or xs (q - 1) []) (get_or xs k []) seed (ltree_address leaf height (0 + q / 2))) right
    ∙ ap (λ (k : ℕ). rand_hash (get_or xs (q - 1) []) (get_or xs q []) seed (ltree_address leaf height k)) place

pub node_odd : (seed : List ℕ) (leaf : ℕ) (pk : List (List ℕ)) (height q : ℕ) → q % 2 ≡ 0 → length (ltree_nodes seed leaf pk height) ≡ q + 1
    → get_or (ltree_nodes seed leaf pk (suc height)) (q / 2) [] ≡ get_or (ltree_nodes seed leaf pk height) q []
unfolding ltree_nodes
node_odd seed leaf pk height q even h =
    let xs : List (List ℕ) = ltree_nodes seed leaf pk height in
    let is : q / 2 * 2 ≡ q = omega arith in
    turn_odd seed leaf height 0 (q / 2) xs (omega arith) ∙ ap (λ (k : ℕ). get_or xs k []) is

-- ---- the path

path_at : (sig : List ℕ) (k : ℕ) → k < 10 → get_or (path_of sig) k [] ≡ path_node sig k
unfolding path_of
path_at sig k h = get_or-tabulate tree_height k (path_node sig) [] h

length-path_of : (sig : List ℕ) → length (path_of sig) ≡ 10
unfolding path_of
length-path_of sig = length-tabulate tree_height (path_node sig)

path_first : (seed : List ℕ) (k index : ℕ) (node beside : List ℕ) (auth : List (List ℕ))
    → path_root seed k index node (beside ∷ auth) ≡ path_root seed (k + 1) (index / 2) (parent seed k index node beside) auth
unfolding path_root
path_first seed k index node beside auth = refl

pub path_more : (seed sig : List ℕ) (k index : ℕ) (node beside new whole : List ℕ) → k < 10 → beside ≡ path_node sig k → new ≡ parent seed k index node beside
    → path_root seed k index node (drop k (path_of sig)) ≡ whole → path_root seed (k + 1) (index / 2) new (drop (k + 1) (path_of sig)) ≡ whole
path_more seed sig k index node beside new whole h e f w =
    let auth : List (List ℕ) = path_of sig in
    let within : k < length auth = omega (arith, length-path_of sig) in
    ap (λ (x : List ℕ). path_root seed (k + 1) (index / 2) x (drop (k + 1) auth)) (f ∙ ap (parent seed k index node) (e ∙ sym (path_at sig k h)))
    ∙ sym (path_first seed k index node (get_or auth k []) (drop (k + 1) auth))
    ∙ ap (path_root seed k index node) (sym (drop_more auth k [] within))
    ∙ w

pub path_end : (seed sig : List ℕ) (k index : ℕ) (node whole : List ℕ) → k ≡ 10 → path_root seed k index node (drop k (path_of sig)) ≡ whole → node ≡ whole
unfolding path_root
path_end seed sig k index node whole e w =
    let none : drop k (path_of sig) ≡ [] = drop_all k (path_of sig) (omega (arith, length-path_of sig, e)) in
    sym (ap (path_root seed k index node) none) ∙ w

pub parent_even : (seed : List ℕ) (height index : ℕ) (node beside : List ℕ) → index % 2 ≡ 0
    → parent seed height index node beside ≡ rand_hash node beside seed (tree_address height (index / 2))
unfolding parent
parent_even seed height index node beside e =
    ap (λ (r : ℕ). if r == 0 then rand_hash node beside seed (tree_address height (index / 2)) else rand_hash beside node seed (tree_address height ((index - 1) / 2))) e

pub parent_odd : (seed : List ℕ) (height index : ℕ) (node beside : List ℕ) → index % 2 ≡ 1
    → parent seed height index node beside ≡ rand_hash beside node seed (tree_address height (index / 2))
unfolding parent
parent_odd seed height index node beside e =
    let same : (index - 1) / 2 ≡ index / 2 = omega arith in
    ap (λ (r : ℕ). if r == 0 then rand_hash node beside seed (tree_address height (index / 2)) else rand_hash beside node seed (tree_address height ((index - 1) / 2))) e
    ∙ ap (λ (i : ℕ). rand_hash beside node seed (tree_address height i)) same

pub climb_more : (seed sig : List ℕ) (k index : ℕ) (nodes : List (List ℕ)) (b left right p whole : List ℕ) → length nodes ≡ 7 → k < 10 → b ≡ path_node sig k
    → left ≡ get_or (set nodes 1 b) 0 [] → right ≡ get_or (set nodes 1 b) 1 [] → p ≡ parent seed k index left right
    → path_root seed k index (get_or nodes 0 []) (drop k (path_of sig)) ≡ whole
    → path_root seed (k + 1) (index / 2) (get_or (set (set nodes 1 b) 0 p) 0 []) (drop (k + 1) (path_of sig)) ≡ whole
climb_more seed sig k index nodes b left right p whole long h e f g made w =
    let size : length (set nodes 1 b) ≡ 7 = length-set nodes 1 b ∙ long in
    let here : get_or (set (set nodes 1 b) 0 p) 0 [] ≡ p = get_or-set_same (set nodes 1 b) 0 p [] (omega (arith, size)) in
    let first : left ≡ get_or nodes 0 [] = f ∙ get_or-set_other nodes 1 0 b [] (omega arith) in
    let second : right ≡ path_node sig k = g ∙ get_or-set_same nodes 1 b [] (omega (arith, long)) ∙ e in
    path_more seed sig k index (get_or nodes 0 []) (path_node sig k) (get_or (set (set nodes 1 b) 0 p) 0 []) whole h refl
    (here ∙ made ∙ ap (λ (x : List ℕ). parent seed k index x right) first ∙ ap (parent seed k index (get_or nodes 0 [])) second) w
