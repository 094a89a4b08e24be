-- The numbers of nodes and of their frames, which are of this profile.
use Rattle.std.specs.Prelude.{ℕ}

-- the keys are the numbers below this one
abbrev pub key_count : ℕ
key_count = 8

-- the first byte of a frame with an entry
abbrev pub drip_kind : ℕ
drip_kind = 5

-- the bytes of such a frame: kind (1), source (2), key (1), number (4), value (4) and CRC (2)
abbrev pub drip_size : ℕ
drip_size = 14
