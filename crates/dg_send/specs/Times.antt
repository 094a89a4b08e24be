-- How fast packets follow each other. The number is of this profile.
use Rattle.std.specs.Prelude.{ℕ}

-- the milliseconds from one packet to the next
abbrev pub packet_gap : ℕ
packet_gap = 16
