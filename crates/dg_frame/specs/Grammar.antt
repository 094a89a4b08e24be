-- The message that bytes spell for a wide or narrow reader, or why they spell no message. It is decided by their length,
-- their kind, that kind's length, the CRC, and the ranges of the fields (docs/PARTS.md, "The codec"; the messages are those
-- of Deluge: Hui and Culler, SenSys 2004).
use Rattle.std.specs.Prelude.{ℕ, ◌+◌, ◌-◌, ◌==◌, ◌&&◌, ◌||◌, not, nat_le, nat_lt, Bool, if◌then◌else◌, List, length, take, drop}
use Rattle.std.specs.Prelude.{map, slice_index, Option, Some, None, Result, Ok, Err}
use Rattle.std.specs.List.{list_all}
use Rattle.std.specs.Int.{from_be_bytes, w16, w32}
use Rattle.std.specs.FinSet as set
use Rattle.dg_base.specs.Crc.{crc_of}
use Rattle.dg_bits.specs.ByteForm.{numbers_of}
use Rattle.dg_control.specs.declared.snapshot.Order.{Order}
use Rattle.dg_frame.specs.Sizes.{advert_kind, request_kind, packet_kind, wide_kind, shortest, narrow_images, wide_images}
use Rattle.dg_frame.specs.Sizes.{known_images, entry_places, first_entry, order_place, last_page, last_packet, packet_size}
use Rattle.dg_frame.specs.Sizes.{set_bytes, fewest_pages, most_pages, advert_frame_size, request_frame_size, packet_frame_size}
use Rattle.dg_frame.specs.Sizes.{wide_frame_size}
use Rattle.dg_frame.specs.declared.Entry.{Entry}
use Rattle.dg_frame.specs.declared.Message.{Message}
use Rattle.dg_frame.specs.declared.Message.TheVariants.{Advert, Request, Packet, Wide}
use Rattle.dg_frame.specs.declared.FrameFault.{FrameFault}
use Rattle.dg_frame.specs.declared.FrameFault.TheVariants.{Short, Kind, Length, Check, Range}

-- ---- fields

abbrev pub half_at : List ℕ → ℕ → ℕ
half_at b at = from_be_bytes w16 (take 2 (drop at b))

abbrev pub word_in : List ℕ → ℕ → ℕ
word_in b at = from_be_bytes w32 (take 4 (drop at b))

abbrev pub entry_in_frame : List ℕ → ℕ → Entry
entry_in_frame b at = record {
  version = word_in b at;
  pages = slice_index b (at + 4);
  have = slice_index b (at + 5);
  crc = half_at b (at + 6);
}

abbrev pub order_at : List ℕ → ℕ → Order
order_at b at = record { number = word_in b at; image = slice_index b (at + 4); version = word_in b (at + 5) }

-- this many entries
unfoldable pub entries_in : (count : ℕ) → List ℕ → List Entry
entries_in n b = map (entry_in_frame b) (entry_places first_entry n)

abbrev pub advert_in : List ℕ → Message
advert_in b = Advert (half_at b 1) (entries_in narrow_images b) (order_at b (order_place narrow_images))

abbrev pub request_in : List ℕ → Message
request_in b = Request (half_at b 1) (half_at b 3) (slice_index b 5) (word_in b 6) (slice_index b 10)
    (numbers_of (take set_bytes (drop 11 b)))

abbrev pub packet_in_frame : List ℕ → Message
packet_in_frame b = Packet (half_at b 1) (slice_index b 3) (word_in b 4) (slice_index b 8) (slice_index b 9)
    (take packet_size (drop 10 b))

abbrev pub wide_in : List ℕ → Message
wide_in b = Wide (half_at b 1) (entries_in wide_images b) (order_at b (order_place wide_images))

-- ---- ranges

abbrev pub entry_fits : Entry → Bool
entry_fits e =
    ((e.version == 0) && (e.pages == 0) && (e.have == 0) && (e.crc == 0))
    || (nat_le 1 e.version && nat_le fewest_pages e.pages && nat_le e.pages most_pages && nat_le e.have e.pages)

-- an order in an advert of this many images: all is 0, or it names one of them, or golden
abbrev pub order_in_frame : (images : ℕ) → Order → Bool
order_in_frame images o =
    ((o.number == 0) && (o.image == 0) && (o.version == 0)) || (nat_le 1 o.number && nat_le o.image images && nat_le 1 o.version)

-- a page of one of this many images
abbrev pub page_fits : (images image version page : ℕ) → Bool
page_fits images image version page = nat_le 1 image && nat_le image images && nat_le 1 version && nat_le page last_page

-- a narrow reader knows no wide adverts
unfoldable pub in_range : (wide : Bool) → Message → Bool
in_range wide (Advert source entries order) = list_all entry_fits entries && order_in_frame narrow_images order
in_range wide (Request source to image version page want) =
    page_fits (known_images wide) image version page && not (set.len want == 0)
in_range wide (Packet source image version page packet bytes) =
    page_fits (known_images wide) image version page && nat_le packet last_packet
in_range wide (Wide source entries order) = wide && (list_all entry_fits entries && order_in_frame wide_images order)

-- ---- the grammar

-- the length of a kind's frames, and how their fields are read
abbrev pub kind_of : (wide : Bool) → ℕ → Option (ℕ × (List ℕ → Message))
kind_of wide n =
    if n == advert_kind then Some (advert_frame_size, advert_in)
    else if n == request_kind then Some (request_frame_size, request_in)
    else if n == packet_kind then Some (packet_frame_size, packet_in_frame)
    else if wide && (n == wide_kind) then Some (wide_frame_size, wide_in)
    else None

abbrev pub ranged : (wide : Bool) → Message → Result Message FrameFault
ranged wide m = if in_range wide m then Ok m else Err Range

abbrev pub by_kind : List ℕ → (wide : Bool) → Option (ℕ × (List ℕ → Message)) → Result Message FrameFault
by_kind b wide None = Err Kind
by_kind b wide (Some k) =
    if not (length b == k.0) then Err Length
    else if not (half_at b (length b - 2) == crc_of (take (length b - 2) b)) then Err Check
    else ranged wide (k.1 b)

unfoldable pub message_of : List ℕ → (wide : Bool) → Result Message FrameFault
message_of b wide = if nat_lt (length b) shortest then Err Short else by_kind b wide (kind_of wide (slice_index b 0))
