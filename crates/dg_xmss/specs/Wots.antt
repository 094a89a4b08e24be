-- The WOTS+ public key that a signature leads to (RFC 8391, 2.6 and 3.1): w is 16, and there are 64 + 3 chains.
use Rattle.std.specs.Prelude.{ℕ, zero, suc, ◌+◌, ◌-◌, ◌*◌, ◌/◌, ◌%◌, List, [], ◌∷◌, ◌++◌, take, slice_index, slice_index_or}
use Rattle.dg_words.specs.Lists.{tabulate}
use Rattle.dg_xmss.specs.Functions.{to_byte, xor, f, prf}
use Rattle.dg_xmss.specs.Addresses.{ots_address}

-- the digits of a message's digest, those of their checksum, and both: len_1, len_2 and len of the RFC
abbrev pub message_digits : ℕ
message_digits = 64

abbrev pub checksum_digits : ℕ
checksum_digits = 3

abbrev pub chains : ℕ
chains = 67

-- the two digits of each byte, the higher one first
unfoldable pub digits_of_bytes : List ℕ → List ℕ
digits_of_bytes [] = []
digits_of_bytes (x ∷ xs) = x / 16 ∷ x % 16 ∷ digits_of_bytes xs

-- base_w(X, 16, out_len) (Algorithm 1)
unfoldable pub base_w : List ℕ → ℕ → List ℕ
base_w xs out_len = take out_len (digits_of_bytes xs)

-- the sum of what each digit lacks of 15: csum of Algorithm 6
unfoldable pub wots_checksum : List ℕ → ℕ
wots_checksum [] = 0
wots_checksum (d ∷ ds) = (15 - d) + wots_checksum ds

-- the digits of a message, and those of their checksum, which is shifted by 4 bits to end with a byte (Algorithm 6)
unfoldable pub digits : List ℕ → List ℕ
digits m =
    base_w m message_digits ++ base_w (to_byte (wots_checksum (base_w m message_digits) * 16) 2) checksum_digits

-- one more step from a value, with that hash address (the body of Algorithm 2)
unfoldable pub chain_step : (seed : List ℕ) (leaf i hash : ℕ) → List ℕ → List ℕ
chain_step seed leaf i hash x =
    f (prf seed (ots_address leaf i hash 0)) (xor x (prf seed (ots_address leaf i hash 1)))

-- chain(X, start, s, SEED, ADRS): s steps along chain i of a leaf (Algorithm 2)
unfoldable pub wots_chain : (seed : List ℕ) (leaf i : ℕ) → List ℕ → (start s : ℕ) → List ℕ
wots_chain seed leaf i x start zero = x
wots_chain seed leaf i x start (suc s) = chain_step seed leaf i (start + s) (wots_chain seed leaf i x start s)

-- chain i of a signature, from the digit of the message to the last value
abbrev pub chain_end : (seed : List ℕ) (leaf : ℕ) (m : List ℕ) (sig : List (List ℕ)) → ℕ → List ℕ
chain_end seed leaf m sig i =
    wots_chain seed leaf i (slice_index_or sig i []) (slice_index (digits m) i) (15 - slice_index (digits m) i)

-- WOTS_pkFromSig (Algorithm 6)
unfoldable pub wots_key : (seed : List ℕ) (leaf : ℕ) (m : List ℕ) (sig : List (List ℕ)) → List (List ℕ)
wots_key seed leaf m sig = tabulate chains (chain_end seed leaf m sig)
