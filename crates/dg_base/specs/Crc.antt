-- The checksum of 16 bits by the polynomial x^16 + x^12 + x^5 + 1, start 0, most significant bit first, no final change, which
-- is also known as CRC-16/XMODEM. Polynomials over GF(2) are numbers: bit k is the coefficient of x^k, a sum is `bit_xor`, and
-- `2 *` is the product with x.
use Rattle.std.specs.Prelude.{ℕ, zero, suc, ◌*◌, ◌/◌, ◌+◌, ◌^◌, bit_xor, Bool, List, [], ◌∷◌, fold, if◌then◌else◌}

abbrev pub generator : ℕ
generator = 0x11021

-- the product of a remainder and x, minus the generator if it reaches x^16
unfoldable pub times_x : ℕ → ℕ
times_x r = bit_xor (2 * r) (r / 2 ^ 15 * generator)

-- the same n times
unfoldable pub shifted : ℕ → ℕ → ℕ
shifted zero r = r
shifted (suc n) r = shifted n (times_x r)

-- the checksum of what came before and one more byte: its eight bits are added at the top of the register
abbrev pub with_byte : ℕ → ℕ → ℕ
with_byte r byte = shifted 8 (bit_xor r (byte * 2 ^ 8))

-- the checksum of what came before and these bytes
unfoldable pub crc_more : ℕ → List ℕ → ℕ
crc_more r [] = r
crc_more r (byte ∷ bytes) = crc_more (with_byte r byte) bytes

-- the checksum of bytes
abbrev pub crc_of : List ℕ → ℕ
crc_of bytes = crc_more 0 bytes

-- the polynomial of a message, the first bit at the highest power
abbrev pub polynomial_of : List ℕ → ℕ
polynomial_of bytes = fold (λ n byte. n * 2 ^ 8 + byte) 0 bytes

-- the product of a polynomial, by its coefficients from the highest power down, and p
unfoldable pub product : List Bool → ℕ → ℕ
product coefficients p = fold (λ n c. bit_xor (2 * n) (if c then p else 0)) 0 coefficients
