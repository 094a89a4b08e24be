-- What is found of an image, by the texts of a key and of a signature: that it is signed, or the first cause of the three
-- steps of `signed_image`.
use Rattle.std.specs.Prelude.{◌≡◌, ℕ, List, Result, Ok, Err}
use Rattle.dg_xmss.specs.Signatures.{IsSignature}
use Rattle.dg_xmss.specs.Answers.{Verifies}
use Rattle.dg_xmss.specs.declared.key.PublicKey.{PublicKey}
use Rattle.dg_sign.specs.Lines.{signed_line}
use Rattle.dg_sign.specs.KeyTexts.{ReadsKeyText}
use Rattle.dg_sign.specs.SignatureTexts.{ReadsSignatureText}
use Rattle.dg_sign.specs.declared.keys.KeyTextFault.{KeyTextFault}
use Rattle.dg_sign.specs.declared.keys.KeyTextFault.TheVariants as key_fault
use Rattle.dg_sign.specs.declared.signatures.SignatureTextFault.{SignatureTextFault}
use Rattle.dg_sign.specs.declared.signatures.SignatureTextFault.TheVariants as text_fault
use Rattle.dg_signed.specs.declared.release.Release.{Release}
use Rattle.dg_signed.specs.declared.signed.SignedImage.{SignedImage}
use Rattle.dg_signed.specs.declared.finding.Unsigned.{Unsigned}
use Rattle.dg_signed.specs.declared.finding.Unsigned.TheVariants as unsigned

-- the line of an image, its version and its root
abbrev pub line_of_release : Release → List ℕ
line_of_release release = signed_line release.image release.version release.root

-- what two texts are read as
pub record AreRead (key_text signature_text : List ℕ) (key : PublicKey) (signature : List ℕ) : Type 0 where
  pub key_read : ReadsKeyText key_text (Ok key)
  pub signature_read : ReadsSignatureText signature_text (Ok signature)

-- out of memory is reported as such
abbrev pub IsKeyCause : KeyTextFault → Type 0
IsKeyCause key_fault.Memory = ⊥
IsKeyCause fault = Unit {0}

abbrev pub IsTextCause : SignatureTextFault → Type 0
IsTextCause text_fault.Memory = ⊥
IsTextCause fault = Unit {0}

-- `Memory` may be answered at any time.
abbrev pub FindsSigned : (key_text signature_text : List ℕ) → Release → Result SignedImage Unsigned → Type 0
FindsSigned key_text signature_text release (Ok s) =
    (s.release ≡ release) × AreRead key_text signature_text s.key s.signature
    × IsSignature s.key (line_of_release release) s.signature
FindsSigned key_text signature_text release (Err unsigned.Memory) = Unit {0}
FindsSigned key_text signature_text release (Err (unsigned.Key fault)) = IsKeyCause fault × ReadsKeyText key_text (Err fault)
FindsSigned key_text signature_text release (Err (unsigned.Text fault)) =
    IsTextCause fault × ((key : PublicKey) × ReadsKeyText key_text (Ok key)) × ReadsSignatureText signature_text (Err fault)
FindsSigned key_text signature_text release (Err (unsigned.Signature cause)) =
    (key : PublicKey) × (signature : List ℕ) × AreRead key_text signature_text key signature
    × Verifies key (line_of_release release) signature (Err cause)
