-- Which bytes of a file are a signature: its 2,500 bytes, or their base64 (RFC 4648, 4) with or without LF at the end.
use Rattle.std.specs.Prelude.{◌≡◌, ◌≢◌, ℕ, ◌-◌, ◌==◌, ◌&&◌, ◌⊎◌, nat_lt, if◌then◌else◌, Result, Ok, Err}
use Rattle.std.specs.Prelude.{List, length, take, slice_index}
use Rattle.base64.specs.Engines.{standard}
use Rattle.base64.specs.GeneralPurpose.{encode_of, decode_of}
use Rattle.dg_xmss.specs.Signatures.{signature_size}
use Rattle.dg_sign.specs.declared.signatures.SignatureTextFault.{SignatureTextFault}
use Rattle.dg_sign.specs.declared.signatures.SignatureTextFault.TheVariants as fault

-- a text without the LF at its end
abbrev pub without_newline : List ℕ → List ℕ
without_newline text =
    if nat_lt 0 (length text) && (slice_index text (length text - 1) == 10) then take (length text - 1) text else text

-- the base64 of bytes, which are not a raw signature themselves
abbrev pub IsBase64Text : List ℕ → List ℕ → Type 0
IsBase64Text text bytes = (length text ≢ signature_size) × (without_newline text ≡ encode_of standard bytes)

-- the text of these 2,500 bytes
abbrev pub IsSignatureText : List ℕ → List ℕ → Type 0
IsSignatureText text signature = (length signature ≡ signature_size) × ((text ≡ signature) ⊎ IsBase64Text text signature)

-- the base64 of this many bytes, and not of 2,500
abbrev pub IsOfLength : List ℕ → ℕ → Type 0
IsOfLength text n = (bytes : List ℕ) × IsBase64Text text bytes × (n ≡ length bytes) × (n ≢ signature_size)

-- The signature of a text, or the first cause; `Memory` may be answered at any time.
abbrev pub ReadsSignatureText : List ℕ → Result (List ℕ) SignatureTextFault → Type 0
ReadsSignatureText text (Ok signature) = IsSignatureText text signature
ReadsSignatureText text (Err fault.Memory) = Unit {0}
ReadsSignatureText text (Err (fault.Base64 cause)) =
    (length text ≢ signature_size) × (decode_of standard (without_newline text) ≡ Err cause)
ReadsSignatureText text (Err (fault.Length n)) = IsOfLength text n
