-- How many images have windows (those of `dg_frame`).
use Rattle.std.specs.Prelude.{ℕ}

-- the images from 1 to this number. A network may name fewer
abbrev pub windowed_images : ℕ
windowed_images = 6
