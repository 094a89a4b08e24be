-- What the code knows of a leaf, and the nodes of its L-tree that wait for the one beside them, when the nodes at height 0
-- come one after the other.
use Rattle.std.specs.Prelude.{◌≡◌, ℕ, zero, suc, ◌+◌, ◌-◌, ◌/◌, ◌%◌, ◌<◌, ◌≤◌, ◌==◌, if◌then◌else◌}
use Rattle.std.specs.Prelude.{List, [], ◌∷◌, ◌++◌, length, take, slice_index_or}
use Rattle.dg_xmss.specs.Trees.{ltree_nodes}
use Rattle.sha2.specs.Hashers.{Holds256}
use Rattle.dg_xmss.specs.Functions.{to_byte, node_size}
use Rattle.dg_xmss.specs.Wots.{wots_key, chain_end, base_w, wots_checksum, message_digits}
use Rattle.dg_xmss.specs.Signatures.{ots_of, signature_size}
use Rattle.dg_xmss.specs.declared.prf.Prf.{Prf}
use Rattle.dg_xmss.specs.declared.leaf.Leaf.{Leaf}

-- The hasher has taken in what PRF takes in before an address.
abbrev pub IsKeyed : Prf → Type 0
IsKeyed prf = Holds256 prf.begun (to_byte 3 node_size ++ prf.seed.now)

-- the parts of a leaf belong together
pub record IsLeaf (leaf : Leaf) : Type 0 where
  pub keyed : IsKeyed leaf.prf.now
  pub sum : leaf.checksum ≡ wots_checksum (base_w leaf.digest.now message_digits)
  pub most : leaf.checksum ≤ 960
  pub size : length leaf.signature.now ≡ signature_size

-- the public key of a leaf, as the signature leads to it
unfoldable pub leaf_key : Leaf → List (List ℕ)
leaf_key leaf = wots_key leaf.prf.now.seed.now leaf.index leaf.digest.now (ots_of leaf.signature.now)

-- the end of a chain of a leaf, as the signature leads to it
abbrev pub chain_end_of : Leaf → ℕ → List ℕ
chain_end_of leaf i = chain_end leaf.prf.now.seed.now leaf.index leaf.digest.now (ots_of leaf.signature.now) i

-- the nodes of the L-tree of a leaf
abbrev pub nodes_of : Leaf → ℕ → List (List ℕ)
nodes_of leaf height = ltree_nodes leaf.prf.now.seed.now leaf.index (leaf_key leaf) height

-- The nodes that wait at this many heights from one on, where this many have come at that height, the highest first:
-- one where the count is odd.
unfoldable pub waiting_nodes : (nodes : ℕ → List (List ℕ)) (heights height count : ℕ) → List (List ℕ)
waiting_nodes nodes zero height count = []
waiting_nodes nodes (suc heights) height count =
    waiting_nodes nodes heights (height + 1) (count / 2)
    ++ (if count % 2 == 1 then slice_index_or (nodes height) (count - 1) [] ∷ [] else [])

-- The nodes that wait stand before the newest one, which has this index at this height.
pub record AreWaiting (nodes : ℕ → List (List ℕ)) (heights height index : ℕ) (held : List (List ℕ)) (size : ℕ) : Type 0 where
  pub older : take size held ≡ waiting_nodes nodes heights height index
  pub newest : slice_index_or held size [] ≡ slice_index_or (nodes height) index []
  pub room : size < length held
