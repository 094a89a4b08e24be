-- Counts of faults (docs/FLASH.md, "The device"). A count never falls, and saturates at the greatest `u64`.
use Rattle.std.specs.Prelude.{ℕ, ◌+◌, ◌-◌, ◌^◌, ◌≤◌, min}

-- The count rose, or it is the greatest `u64`.
abbrev pub Rose : ℕ → ℕ → Type 0
Rose old new = min (old + 1) (2 ^ 64 - 1) ≤ new
