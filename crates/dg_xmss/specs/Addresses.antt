-- Addresses of 32 bytes, of which each call of PRF has its own (RFC 8391, 2.5). Layer and tree are 0 in a single tree.
use Rattle.std.specs.Prelude.{ℕ, List, ◌++◌}
use Rattle.dg_xmss.specs.Functions.{to_byte}
use Rattle.dg_xmss.specs.declared.address.Address.{Address}
use Rattle.dg_xmss.specs.declared.address.Address.TheVariants.{Ots, LTree, HashTree}

-- layer address, tree address, type, three words by the type, and keyAndMask
unfoldable pub address : (type_word first second third key_and_mask : ℕ) → List ℕ
address type_word first second third key_and_mask =
    to_byte 0 4 ++ to_byte 0 8 ++ to_byte type_word 4 ++ to_byte first 4 ++ to_byte second 4 ++ to_byte third 4
    ++ to_byte key_and_mask 4

-- type 0: OTS address, chain address, hash address
abbrev pub ots_address : (leaf chain hash key_and_mask : ℕ) → List ℕ
ots_address leaf chain hash key_and_mask = address 0 leaf chain hash key_and_mask

-- type 1: L-tree address, tree height, tree index
abbrev pub ltree_address : (leaf height index key_and_mask : ℕ) → List ℕ
ltree_address leaf height index key_and_mask = address 1 leaf height index key_and_mask

-- type 2: padding, tree height, tree index
abbrev pub tree_address : (height index key_and_mask : ℕ) → List ℕ
tree_address height index key_and_mask = address 2 0 height index key_and_mask

-- the address that the code has as its words
abbrev pub address_of : Address → ℕ → List ℕ
address_of (Ots leaf chain hash) key_and_mask = ots_address leaf chain hash key_and_mask
address_of (LTree leaf height index) key_and_mask = ltree_address leaf height index key_and_mask
address_of (HashTree height index) key_and_mask = tree_address height index key_and_mask
