-- The ranges of a command's numbers. Those of this profile that stand here are the program's own.
use Rattle.std.specs.Prelude.{ℕ, ◌-◌, ◌*◌}
pub use Rattle.dg_base.specs.Sizes.{most_motes}
pub use Rattle.dg_object.specs.Sizes.{slots, most_pages}
pub use Rattle.dg_control.specs.Sizes.{most_room, old_form, new_form}

-- the last slot of a chip: images are put into one, and read from one, by its number
abbrev pub last_slot : ℕ
last_slot = slots - 1

-- the turns that a service takes, at most. It takes one at least
abbrev pub most_turns : ℕ
most_turns = 1000000

-- the motes of a trial, at least
abbrev pub least_motes : ℕ
least_motes = 2

-- the pages of a trial's image, at least: its descriptor, and one page of the image
abbrev pub least_pages : ℕ
least_pages = 2

-- the milliseconds between two events of a base mote, at most. There is one at least
abbrev pub most_step : ℕ
most_step = 60000

-- the largest number of a mote
abbrev pub most_id : ℕ
most_id = 65535

-- the bytes of the root of a chain, a digest of SHA-256, and its hex digits
abbrev pub root_bytes : ℕ
root_bytes = 32

abbrev pub root_digits : ℕ
root_digits = 2 * root_bytes
