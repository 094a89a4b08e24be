-- The special bytes of a line, by RFC 1662, section 4.2.
use Rattle.std.specs.Prelude.{ℕ}

-- the flag sequence, which ends a frame
abbrev pub flag_byte : ℕ
flag_byte = 0x7E

-- the control escape, which comes before a byte whose sixth bit is complemented
abbrev pub escape_byte : ℕ
escape_byte = 0x7D

-- what stands for the flag after an escape
abbrev pub escaped_flag : ℕ
escaped_flag = 0x5E

-- what stands for the escape itself after an escape
abbrev pub escaped_escape : ℕ
escaped_escape = 0x5D
