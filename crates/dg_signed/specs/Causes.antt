-- The findings that the faults of `dg_sign` become (`signed_image`).
use Rattle.dg_sign.specs.declared.keys.KeyTextFault.{KeyTextFault}
use Rattle.dg_sign.specs.declared.keys.KeyTextFault.TheVariants as key_fault
use Rattle.dg_sign.specs.declared.signatures.SignatureTextFault.{SignatureTextFault}
use Rattle.dg_sign.specs.declared.signatures.SignatureTextFault.TheVariants as text_fault
use Rattle.dg_sign.specs.declared.verifying.VerifyFault.{VerifyFault}
use Rattle.dg_sign.specs.declared.verifying.VerifyFault.TheVariants as verify_fault
use Rattle.dg_signed.specs.declared.finding.Unsigned.{Unsigned}
use Rattle.dg_signed.specs.declared.finding.Unsigned.TheVariants as unsigned

abbrev pub unsigned_by_key : KeyTextFault → Unsigned
unsigned_by_key key_fault.Memory = unsigned.Memory
unsigned_by_key fault = unsigned.Key fault

abbrev pub unsigned_by_text : SignatureTextFault → Unsigned
unsigned_by_text text_fault.Memory = unsigned.Memory
unsigned_by_text fault = unsigned.Text fault

abbrev pub unsigned_by_signature : VerifyFault → Unsigned
unsigned_by_signature verify_fault.Memory = unsigned.Memory
unsigned_by_signature (verify_fault.Signature cause) = unsigned.Signature cause
