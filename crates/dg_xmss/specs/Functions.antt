-- The functions of XMSS-SHA2_10_256 over SHA-256 (RFC 8391, 2.4 and 5.1). A string is a list of bytes.
use Rattle.std.specs.Prelude.{ℕ, zero, suc, ◌/◌, ◌%◌, List, [], ◌∷◌, ◌++◌, bit_xor}
use Rattle.sha2.specs.Sha256.{sha256}

-- the bytes of a node, of a key and of a mask: n of the RFC
abbrev pub node_size : ℕ
node_size = 32

-- toByte(x, y): the last y bytes of x, the most significant one first (2.4)
unfoldable pub to_byte : ℕ → ℕ → List ℕ
to_byte x zero = []
to_byte x (suc y) = to_byte (x / 256) y ++ (x % 256) ∷ []

-- a XOR b, byte for byte, for strings of one length (2.3)
unfoldable pub xor : List ℕ → List ℕ → List ℕ
xor [] b = []
xor (x ∷ a) [] = []
xor (x ∷ a) (y ∷ b) = bit_xor x y ∷ xor a b

-- F(KEY, M) (5.1)
unfoldable pub f : (key m : List ℕ) → List ℕ
f key m = sha256 (to_byte 0 node_size ++ key ++ m)

-- H(KEY, M) (5.1)
unfoldable pub h : (key m : List ℕ) → List ℕ
h key m = sha256 (to_byte 1 node_size ++ key ++ m)

-- H_msg(KEY, M) (5.1)
unfoldable pub h_msg : (key m : List ℕ) → List ℕ
h_msg key m = sha256 (to_byte 2 node_size ++ key ++ m)

-- PRF(KEY, M) (5.1)
unfoldable pub prf : (key m : List ℕ) → List ℕ
prf key m = sha256 (to_byte 3 node_size ++ key ++ m)
