-- The bounds of frames. They are the frames' own: a chip may have more slots, and a volume more images. The format is of this
-- profile.
use Rattle.std.specs.Prelude.{ℕ, zero, suc, ◌+◌, ◌-◌, ◌*◌, Bool, if◌then◌else◌, List, [], ◌∷◌}
use Rattle.dg_base.specs.Sizes.{longest_frame}
pub use Rattle.dg_object.specs.Sizes.{packets, packet_size, fewest_pages, most_pages}

-- the most bytes of a frame, also of one from outside, which may be any bytes
abbrev pub frame_bytes : ℕ
frame_bytes = longest_frame

-- the first byte of a frame names its kind
abbrev pub advert_kind : ℕ
advert_kind = 1

abbrev pub request_kind : ℕ
request_kind = 2

abbrev pub packet_kind : ℕ
packet_kind = 3

abbrev pub wide_kind : ℕ
wide_kind = 4

-- kind, source and CRC take this many bytes, and no frame is shorter
abbrev pub shortest : ℕ
shortest = 5

-- an advert names the images from 1 to this number, and its order names one of these or golden; a wide advert names more
abbrev pub narrow_images : ℕ
narrow_images = 3

abbrev pub wide_images : ℕ
wide_images = 6

-- a wide reader, or a narrow one, knows the images from 1 to this number
abbrev pub known_images : (wide : Bool) → ℕ
known_images wide = if wide then wide_images else narrow_images

-- the last page of an object, and the last packet of a page, both counted from 0
abbrev pub last_page : ℕ
last_page = most_pages - 1

abbrev pub last_packet : ℕ
last_packet = packets - 1

-- the bytes of a packet set: a bit for each packet of a page
abbrev pub set_bytes : ℕ
set_bytes = 6

-- the bytes of an entry, and of an order
abbrev pub entry_size : ℕ
entry_size = 8

abbrev pub order_size : ℕ
order_size = 9

-- where this many entries begin, one after another, the first at this offset
abbrev pub entry_places : (at count : ℕ) → List ℕ
entry_places at zero = []
entry_places at (suc n) = at ∷ entry_places (at + entry_size) n

-- the entries of an advert begin after its kind and its source, and its order after this many entries
abbrev pub first_entry : ℕ
first_entry = 3

abbrev pub order_place : (count : ℕ) → ℕ
order_place n = first_entry + entry_size * n

-- the bytes of each kind of frame
abbrev pub advert_frame_size : ℕ
advert_frame_size = 38

abbrev pub request_frame_size : ℕ
request_frame_size = 19

abbrev pub packet_frame_size : ℕ
packet_frame_size = 35

abbrev pub wide_frame_size : ℕ
wide_frame_size = 62
