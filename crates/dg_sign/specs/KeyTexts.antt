-- Which bytes of a file are a public key: its 68 bytes, their 136 hex digits, or the PEM that botan writes of them. The PEM is
-- that of RFC 7468, 13, of a SubjectPublicKeyInfo (RFC 5280, 4.1). The last two forms may end with LF.
use Rattle.std.specs.Prelude.{◌≡◌, ◌≢◌, ℕ, suc, ◌<◌, ◌==◌, ◌||◌, Bool, false, true, ◌⊎◌, if◌then◌else◌, codes}
use Rattle.std.specs.Prelude.{List, [], ◌∷◌, ◌++◌, length, slice_index, Some, Result, Ok, Err}
use Rattle.base64.specs.Engines.{standard}
use Rattle.base64.specs.GeneralPurpose.{encode_of, decode_of}
use Rattle.dg_words.specs.Cells.{part}
use Rattle.dg_base.specs.Hexadecimal.{hex_bytes, is_hex_digit}
use Rattle.dg_xmss.specs.Answers.{key_size, ReadsKey}
use Rattle.dg_xmss.specs.declared.key.PublicKey.{PublicKey}
use Rattle.dg_sign.specs.SignatureTexts.{without_newline}
use Rattle.dg_sign.specs.declared.keys.KeyTextFault.{KeyTextFault}
use Rattle.dg_sign.specs.declared.keys.KeyTextFault.TheVariants as fault

-- ---- bytes

-- the key whose 68 bytes they are, or why they are not a key
abbrev pub ReadsKeyBytes : List ℕ → Result PublicKey KeyTextFault → Type 0
ReadsKeyBytes bytes (Ok key) = ReadsKey bytes (Ok key)
ReadsKeyBytes bytes (Err (fault.Key cause)) = ReadsKey bytes (Err cause)
ReadsKeyBytes bytes (Err other) = ⊥

-- ---- hex digits

-- the digits of 68 bytes
abbrev pub key_digits : ℕ
key_digits = 136

-- the first character that is not a digit
pub record IsFirstOther (text : List ℕ) (at : ℕ) : Type 0 where
  pub before : (k : ℕ) → k < at → is_hex_digit (slice_index text k) ≡ true
  pub here : is_hex_digit (slice_index text at) ≡ false
  pub among : at < length text

abbrev pub ReadsDigits : List ℕ → Result PublicKey KeyTextFault → Type 0
ReadsDigits line (Err fault.Memory) = Unit {0}
ReadsDigits line (Err (fault.Digit at)) = IsFirstOther line at
ReadsDigits line result = (bytes : List ℕ) × (hex_bytes line ≡ Some bytes) × ReadsKeyBytes bytes result

-- ---- PEM

-- a byte of a pattern that stands for any byte: `?`
abbrev pub any_byte : ℕ
any_byte = 63

abbrev pub agrees : ℕ → ℕ → Bool
agrees p b = p == any_byte || p == b

-- how many bytes of a text agree with a pattern, from the first one on
unfoldable pub agreeing : (pattern text : List ℕ) → ℕ
agreeing [] text = 0
agreeing (p ∷ pattern) [] = 0
agreeing (p ∷ pattern) (b ∷ text) = if agrees p b then suc (agreeing pattern text) else 0

-- PEM of 88 to 90 bytes, without the LF at its end: `?` is a character of base64
abbrev pub pem_pattern : List ℕ
pem_pattern =
    codes "-----BEGIN PUBLIC KEY-----" ++ 10 ∷ codes "????????????????????????????????????????????????????????????????"
    ++ 10 ∷ codes "????????????????????????????????????????????????????????" ++ 10 ∷ codes "-----END PUBLIC KEY-----"

abbrev pub pem_size : ℕ
pem_size = 173

-- the 120 characters of base64 in a PEM
abbrev pub pem_characters : List ℕ → List ℕ
pem_characters line = part line 27 64 ++ part line 92 56

-- the lines of a PEM, whatever the characters between them are
abbrev pub IsFramed : List ℕ → Type 0
IsFramed line = (agreeing pem_pattern line ≡ pem_size) × (length line ≡ pem_size)

-- A text is framed up to this place, and not further.
abbrev pub LeavesFrame : List ℕ → ℕ → Type 0
LeavesFrame line at = (at ≡ agreeing pem_pattern line) × ((at ≢ pem_size) ⊎ (length line ≢ pem_size))

-- a SubjectPublicKeyInfo of 88 bytes, before the key itself: SEQUENCE of 86 bytes, SEQUENCE of 11 bytes with OBJECT
-- IDENTIFIER 0.4.0.127.0.15.1.1.13.0, BIT STRING of 71 bytes without unused bits, OCTET STRING of 68 bytes
abbrev pub key_info : List ℕ
key_info = 48 ∷ 86 ∷ 48 ∷ 11 ∷ 6 ∷ 9 ∷ 4 ∷ 0 ∷ 127 ∷ 0 ∷ 15 ∷ 1 ∷ 1 ∷ 13 ∷ 0 ∷ 3 ∷ 71 ∷ 0 ∷ 4 ∷ 68 ∷ []

abbrev pub info_size : ℕ
info_size = 20

-- the key of these bytes of DER, or the first byte that no key has, or why what comes after is not a key
abbrev pub ReadsDer : List ℕ → Result PublicKey KeyTextFault → Type 0
ReadsDer der (Err (fault.Der at)) = (at ≡ agreeing key_info der) × (at ≢ info_size)
ReadsDer der result = (bytes : List ℕ) × (der ≡ key_info ++ bytes) × ReadsKeyBytes bytes result

abbrev pub ReadsPem : List ℕ → Result PublicKey KeyTextFault → Type 0
ReadsPem line (Err fault.Memory) = Unit {0}
ReadsPem line (Err (fault.Pem at)) = LeavesFrame line at
ReadsPem line (Err (fault.Base64 cause)) = IsFramed line × (decode_of standard (pem_characters line) ≡ Err cause)
ReadsPem line result =
    IsFramed line × ((der : List ℕ) × (pem_characters line ≡ encode_of standard der) × ReadsDer der result)

-- ---- any of them

-- the key of a text, or the first cause, by the form that its length gives; or Memory
pub record ReadsKeyText (text : List ℕ) (result : Result PublicKey KeyTextFault) : Type 0 where
  pub raw : length text ≡ key_size → ReadsKeyBytes text result
  pub digits : length text ≢ key_size → length (without_newline text) ≡ key_digits → ReadsDigits (without_newline text) result
  pub pem : length text ≢ key_size → length (without_newline text) ≢ key_digits → ReadsPem (without_newline text) result
