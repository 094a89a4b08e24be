-- The L-tree over the ends of the chains, and the root that the authentication path leads to (RFC 8391, 4.1).
use Rattle.std.specs.Prelude.{ℕ, zero, suc, ◌+◌, ◌-◌, ◌/◌, ◌%◌, ◌==◌, if◌then◌else◌, List, [], ◌∷◌, ◌++◌, slice_index_or}
use Rattle.dg_xmss.specs.Functions.{xor, h, prf}
use Rattle.dg_xmss.specs.Addresses.{ltree_address, tree_address}
use Rattle.dg_xmss.specs.Wots.{wots_key}

-- RAND_HASH(LEFT, RIGHT, SEED, ADRS) (Algorithm 7): the address is given without its keyAndMask
unfoldable pub rand_hash : (left right seed : List ℕ) → (ℕ → List ℕ) → List ℕ
rand_hash left right seed adrs = h (prf seed (adrs 0)) (xor left (prf seed (adrs 1)) ++ xor right (prf seed (adrs 2)))

-- One turn of Algorithm 8, from tree index i on: each two nodes become one, and an odd last one goes up unchanged.
unfoldable pub ltree_turn : (seed : List ℕ) (leaf height i : ℕ) → List (List ℕ) → List (List ℕ)
ltree_turn seed leaf height i [] = []
ltree_turn seed leaf height i (x ∷ []) = x ∷ []
ltree_turn seed leaf height i (x ∷ y ∷ nodes) =
    rand_hash x y seed (ltree_address leaf height i) ∷ ltree_turn seed leaf height (i + 1) nodes

-- the nodes at a height: those of a public key are at 0
unfoldable pub ltree_nodes : (seed : List ℕ) (leaf : ℕ) (pk : List (List ℕ)) → ℕ → List (List ℕ)
ltree_nodes seed leaf pk zero = pk
ltree_nodes seed leaf pk (suc height) = ltree_turn seed leaf height 0 (ltree_nodes seed leaf pk height)

-- ltree (Algorithm 8): of 67 nodes one is left at height 7
unfoldable pub ltree : (seed : List ℕ) (leaf : ℕ) → List (List ℕ) → List ℕ
ltree seed leaf pk = slice_index_or (ltree_nodes seed leaf pk 7) 0 []

-- the node above one with this index at this height, beside this node of the path (the body of the loop of Algorithm 13)
unfoldable pub parent : (seed : List ℕ) (height index : ℕ) (node beside : List ℕ) → List ℕ
parent seed height index node beside =
    if index % 2 == 0
    then rand_hash node beside seed (tree_address height (index / 2))
    else rand_hash beside node seed (tree_address height ((index - 1) / 2))

-- the loop of Algorithm 13, from a height on
unfoldable pub path_root : (seed : List ℕ) (height index : ℕ) → List ℕ → List (List ℕ) → List ℕ
path_root seed height index node [] = node
path_root seed height index node (beside ∷ auth) =
    path_root seed (height + 1) (index / 2) (parent seed height index node beside) auth

-- XMSS_rootFromSig (Algorithm 13)
unfoldable pub root_from_sig : (seed : List ℕ) (leaf : ℕ) (sig_ots auth : List (List ℕ)) → List ℕ → List ℕ
root_from_sig seed leaf sig_ots auth m = path_root seed 0 leaf (ltree seed leaf (wots_key seed leaf m sig_ots)) auth
