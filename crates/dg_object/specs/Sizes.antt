-- The sizes of images, and of the pages and packets that they are cut into. Each number is defined only here. Pages of 1,104
-- bytes in 48 packets of 23 are those of Deluge (Hui and Culler, SenSys 2004); the others are this project's own profile.
use Rattle.std.specs.Prelude.{ℕ}

-- the bytes of a page
abbrev pub page_size : ℕ
page_size = 1104

-- the packets of a page
abbrev pub packets : ℕ
packets = 48

-- the bytes of a packet
abbrev pub packet_size : ℕ
packet_size = 23

-- the fewest pages of an object: its descriptor, and one of the image
abbrev pub fewest_pages : ℕ
fewest_pages = 2

-- the most pages of an object: its descriptor, and 64 of the image
abbrev pub most_pages : ℕ
most_pages = 65

-- the most bytes of an image, which fill 64 pages
abbrev pub most_bytes : ℕ
most_bytes = 70656

-- the slots of a chip, each for one image. The images of a chip are numbered from 0 to below this
abbrev pub slots : ℕ
slots = 7

-- the bytes of a descriptor before the CRCs
abbrev pub head_size : ℕ
head_size = 28

-- the bytes that a descriptor gives a name
abbrev pub name_size : ℕ
name_size = 16

-- the bytes of a descriptor after its head that are read from a chip, and checked, at once
abbrev pub descriptor_piece_size : ℕ
descriptor_piece_size = 96
