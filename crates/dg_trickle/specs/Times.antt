-- The parameters of a Trickle timer, which RFC 6206, section 4.1 leaves to its users. The values are those of this profile.
use Rattle.std.specs.Prelude.{ℕ}

-- Imin, in milliseconds
abbrev pub shortest_interval : ℕ
shortest_interval = 500

-- Imax, in milliseconds: Imin, doubled seven times
abbrev pub longest_interval : ℕ
longest_interval = 64000

-- k, the redundancy constant: a timer sends if it heard fewer consistent transmissions than this
abbrev pub redundancy : ℕ
redundancy = 1
