-- The bytes of a public key (RFC 8391, 4.1.7 and 8).
use Rattle.std.specs.Prelude.{ℕ, List, ◌++◌}
use Rattle.dg_xmss.specs.Functions.{to_byte}
use Rattle.dg_xmss.specs.declared.key.PublicKey.{PublicKey}

-- the number of XMSS-SHA2_10_256
abbrev pub parameter_set : ℕ
parameter_set = 1

-- parameter set, root, and SEED
abbrev pub key_bytes : PublicKey → List ℕ
key_bytes key = to_byte parameter_set 4 ++ key.root ++ key.seed
