-- Signatures of XMSS-SHA2_10_256, and which of them are those of a message under a public key (RFC 8391, 4.1.8 to 4.1.10).
use Rattle.std.specs.Prelude.{◌≡◌, ℕ, ◌+◌, ◌*◌, ◌≤◌, List, ◌++◌, length}
use Rattle.std.specs.Int.{from_be_bytes, w32}
use Rattle.dg_words.specs.Lists.{tabulate}
use Rattle.dg_words.specs.Cells.{part}
use Rattle.dg_xmss.specs.Functions.{to_byte, h_msg, node_size}
use Rattle.dg_xmss.specs.Wots.{chains}
use Rattle.dg_xmss.specs.Trees.{root_from_sig}
use Rattle.dg_xmss.specs.declared.key.PublicKey.{PublicKey}

-- the height of the tree: h of the RFC
abbrev pub tree_height : ℕ
tree_height = 10

-- index, r, 67 chain values and ten nodes
abbrev pub signature_size : ℕ
signature_size = 2500

-- a tree of height 10 has 1,024 leaves
abbrev pub last_index : ℕ
last_index = 1023

-- ---- the fields of a signature (4.1.8)

abbrev pub index_of : List ℕ → ℕ
index_of sig = from_be_bytes w32 (part sig 0 4)

abbrev pub randomness_of : List ℕ → List ℕ
randomness_of sig = part sig 4 node_size

abbrev pub chain_value : List ℕ → ℕ → List ℕ
chain_value sig i = part sig (36 + 32 * i) node_size

abbrev pub path_node : List ℕ → ℕ → List ℕ
path_node sig k = part sig (2180 + 32 * k) node_size

unfoldable pub ots_of : List ℕ → List (List ℕ)
ots_of sig = tabulate chains (chain_value sig)

unfoldable pub path_of : List ℕ → List (List ℕ)
path_of sig = tabulate tree_height (path_node sig)

-- ---- XMSS_verify (Algorithm 14)

-- the digest M' of a message
unfoldable pub message_digest : (root m sig : List ℕ) → List ℕ
message_digest root m sig = h_msg (randomness_of sig ++ root ++ to_byte (index_of sig) node_size) m

-- the root that a signature leads to
unfoldable pub signature_root : PublicKey → (m sig : List ℕ) → List ℕ
signature_root key m sig =
    root_from_sig key.seed (index_of sig) (ots_of sig) (path_of sig) (message_digest key.root m sig)

-- The signature is one of the message under the key. The RFC leaves length and index to the caller.
pub record IsSignature (key : PublicKey) (m sig : List ℕ) : Type 0 where
  pub size : length sig ≡ signature_size
  pub index : index_of sig ≤ last_index
  pub root : signature_root key m sig ≡ key.root
