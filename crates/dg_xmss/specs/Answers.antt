-- What is answered of a key and of a signature. Of the cases of each, exactly one holds of any bytes.
use Rattle.std.specs.Prelude.{◌≡◌, ◌≢◌, ℕ, ◌<◌, ◌≤◌, List, length, take, Result, Ok, Err}
use Rattle.std.specs.Int.{from_be_bytes, w32}
use Rattle.dg_xmss.specs.Keys.{key_bytes, parameter_set}
use Rattle.dg_xmss.specs.Signatures.{IsSignature, signature_size, last_index, index_of, signature_root}
use Rattle.dg_xmss.specs.declared.key.PublicKey.{PublicKey}
use Rattle.dg_xmss.specs.declared.key.KeyFault.{KeyFault}
use Rattle.dg_xmss.specs.declared.key.KeyFault.TheVariants as key_fault
use Rattle.dg_xmss.specs.declared.verifying.SignatureFault.{SignatureFault}
use Rattle.dg_xmss.specs.declared.verifying.SignatureFault.TheVariants as fault

abbrev pub key_size : ℕ
key_size = 68

-- the key whose bytes they are, or the first cause
abbrev pub ReadsKey : List ℕ → Result PublicKey KeyFault → Type 0
ReadsKey bytes (Ok key) = bytes ≡ key_bytes key
ReadsKey bytes (Err (key_fault.Length n)) = (n ≡ length bytes) × (n ≢ key_size)
ReadsKey bytes (Err (key_fault.ParameterSet number)) =
    (length bytes ≡ key_size) × (number ≡ from_be_bytes w32 (take 4 bytes)) × (number ≢ parameter_set)

-- that it is a signature of the message under the key, or the first cause
abbrev pub Verifies : PublicKey → (m sig : List ℕ) → Result (Unit {0}) SignatureFault → Type 0
Verifies key m sig (Ok done) = IsSignature key m sig
Verifies key m sig (Err (fault.Length n)) = (n ≡ length sig) × (n ≢ signature_size)
Verifies key m sig (Err (fault.Index i)) = (length sig ≡ signature_size) × (i ≡ index_of sig) × (last_index < i)
Verifies key m sig (Err fault.Root) =
    (length sig ≡ signature_size) × (index_of sig ≤ last_index) × (signature_root key m sig ≢ key.root)
