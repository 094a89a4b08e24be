-- How pages are copied, by this project's own profile.
use Rattle.std.specs.Prelude.{ℕ}
pub use Rattle.dg_volume.specs.Sizes.{copy_pieces}

-- the bytes of a page that are read and programmed at once
abbrev pub copy_piece_size : ℕ
copy_piece_size = 138
