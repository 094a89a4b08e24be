-- How many images a volume keeps, how many commits it makes, and how a page is copied, by this project's own profile. Each
-- number is defined only here, or in the crate that is cited.
use Rattle.std.specs.Prelude.{ℕ, ◌+◌}
use Rattle.dg_control.specs.Sizes.{control_end}
pub use Rattle.dg_control.specs.Sizes.{images, golden_image, golden_version, short_starts, places, most_room, old_form, new_form}

-- the sectors before program memory: the ledger, and the two control sectors
abbrev pub control_sectors : ℕ
control_sectors = control_end

-- the commits of a take if the slot is Live: it becomes Dirty, and then Live
abbrev pub most_take_commits : ℕ
most_take_commits = 2

-- the programs by which a page is copied into program memory, each of a piece of it
abbrev pub copy_pieces : ℕ
copy_pieces = 8

-- a page is copied by an erase and these
abbrev pub copy_operations : ℕ
copy_operations = 1 + copy_pieces
