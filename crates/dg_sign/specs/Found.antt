-- What is found of an image, its signature and a key.
use Rattle.std.specs.Prelude.{ℕ, List, Result, Ok, Err}
use Rattle.dg_xmss.specs.declared.key.PublicKey.{PublicKey}
use Rattle.dg_xmss.specs.Answers.{Verifies}
use Rattle.dg_sign.specs.declared.verifying.VerifyFault.{VerifyFault}
use Rattle.dg_sign.specs.declared.verifying.VerifyFault.TheVariants as fault

-- that it is a signature of the line under the key, or the first cause; `Memory` may be answered at any time
abbrev pub Finds : PublicKey → (line signature : List ℕ) → Result (Unit {0}) VerifyFault → Type 0
Finds key line signature (Ok done) = Verifies key line signature (Ok tt)
Finds key line signature (Err fault.Memory) = Unit {0}
Finds key line signature (Err (fault.Signature cause)) = Verifies key line signature (Err cause)
