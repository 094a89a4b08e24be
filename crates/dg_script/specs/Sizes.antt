-- The ranges of the numbers in a script. They are this project's own profile. Each number is defined only here, except for
-- those of the crates below.
use Rattle.std.specs.Prelude.{ℕ, ◌+◌, ◌-◌}
use Rattle.dg_base.specs.Sizes.{most_input}
use Rattle.dg_control.specs.Sizes.{most_room}
use Rattle.dg_object.specs.Sizes.{slots}
pub use Rattle.dg_base.specs.Sizes.{most_motes, most_content}

-- the largest number of an image: a chip has a slot for each from 0 on
abbrev pub most_image : ℕ
most_image = slots - 1

-- the commits that the chips count as spent, at most: as many as a chip has
abbrev pub most_used : ℕ
most_used = most_room

-- the events of a run
abbrev pub most_events : ℕ
most_events = 1000000

-- the sweeps of one line
abbrev pub most_sweeps : ℕ
most_sweeps = 1000

-- the largest number, of 32 bits
abbrev pub most_number : ℕ
most_number = 4294967295

-- the bytes of a content that is written, which then fits into a line
abbrev pub most_written : ℕ
most_written = 149000

-- the bytes of a line, without its end
abbrev pub most_line : ℕ
most_line = 300000

-- the bytes that are kept at once: those of the longest line, with CR and LF after them
abbrev pub most_kept : ℕ
most_kept = most_line + 2

-- the bytes of an input that are used
abbrev pub most_used_bytes : ℕ
most_used_bytes = most_input
