-- The bounds that the crates above share. Each is a number of this profile.
use Rattle.std.specs.Prelude.{ℕ}

-- the bytes of a frame, at most. The frames of the protocol are shorter; what comes from outside may be any bytes
abbrev pub longest_frame : ℕ
longest_frame = 64

-- the bytes of the mask of a cut, at most: as many as a sector of a chip has
abbrev pub longest_mask : ℕ
longest_mask = 2048

-- the motes of a network, at most
abbrev pub most_motes : ℕ
most_motes = 16

-- the greatest port of the first mote of a network. The others have those that follow, so it is below the greatest port of all
abbrev pub greatest_port : ℕ
greatest_port = 65500

-- the bytes of a content that a script or a file gives for an image, at most
abbrev pub most_content : ℕ
most_content = 1048576

-- the bytes of an input that are used, at most: of a script, or of the text of an image
abbrev pub most_input : ℕ
most_input = 16777216
