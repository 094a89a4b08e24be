-- The versions and the order number that may be used next (docs/COMMANDS.md, "Looking into chips").
use Rattle.std.specs.Prelude.{ℕ, ◌+◌, ◌^◌, ◌==◌, nat_lt, if◌then◌else◌, Option, Some, None}
use Rattle.dg_slot.specs.Kept.{Held}
use Rattle.dg_volume.specs.Sizes.{most_take_commits}

-- the number above, while it is a version
abbrev pub above : ℕ → Option ℕ
above n = if nat_lt (n + 1) (2 ^ 32) then Some (n + 1) else None

abbrev pub version_above : Option Held → Option ℕ
version_above None = Some 1
version_above (Some h) = above h.version

-- the version of an image that can be taken next, while there is room for it
abbrev pub next_version : ℕ → Option Held → Option ℕ
next_version room h = if nat_lt room most_take_commits then None else version_above h

-- the order number that can be kept next, while there is room for it
abbrev pub next_number : (room kept : ℕ) → Option ℕ
next_number room kept = if room == 0 then None else above kept
