-- The bytes of a message (docs/PARTS.md, "The codec"; the messages are those of Deluge: Hui and Culler, SenSys 2004).
use Rattle.std.specs.Prelude.{◌≡◌, ℕ, ◌+◌, ◌^◌, ◌<◌, List, ◌∷◌, ◌++◌, length}
use Rattle.std.specs.List.{flat_map, AllByRecursion}
use Rattle.std.specs.Int.{to_be_bytes, w16, w32}
use Rattle.dg_words.specs.Cells.{AreBytes}
use Rattle.dg_base.specs.Crc.{crc_of}
use Rattle.dg_bits.specs.Sets.{AllBelow}
use Rattle.dg_bits.specs.ByteForm.{byte_form}
use Rattle.dg_control.specs.Snapshot.{order_bytes}
use Rattle.dg_frame.specs.Sizes.{advert_kind, request_kind, packet_kind, wide_kind, narrow_images, wide_images, packet_size}
use Rattle.dg_frame.specs.Sizes.{set_bytes, last_packet}
use Rattle.dg_control.specs.declared.snapshot.Order.{Order}
use Rattle.dg_frame.specs.declared.Entry.{Entry}
use Rattle.dg_frame.specs.declared.Message.{Message}
use Rattle.dg_frame.specs.declared.Message.TheVariants.{Advert, Request, Packet, Wide}

abbrev pub entry_bytes : Entry → List ℕ
entry_bytes e = to_be_bytes w32 e.version ++ e.pages ∷ e.have ∷ to_be_bytes w16 e.crc

-- an advert of this kind
abbrev pub advert_bytes : (kind source : ℕ) → List Entry → Order → List ℕ
advert_bytes kind source entries order = kind ∷ to_be_bytes w16 source ++ flat_map entry_bytes entries ++ order_bytes order

-- kind, source and body
abbrev pub unchecked : Message → List ℕ
unchecked (Advert source entries order) = advert_bytes advert_kind source entries order
unchecked (Request source to image version page want) =
    request_kind ∷ to_be_bytes w16 source ++ to_be_bytes w16 to ++ image ∷ to_be_bytes w32 version ++ page
    ∷ byte_form set_bytes want
unchecked (Packet source image version page packet bytes) =
    packet_kind ∷ to_be_bytes w16 source ++ image ∷ to_be_bytes w32 version ++ page ∷ packet ∷ bytes
unchecked (Wide source entries order) = advert_bytes wide_kind source entries order

-- the frame of a message: the CRC comes last
unfoldable pub frame_of : Message → List ℕ
frame_of m = unchecked m ++ to_be_bytes w16 (crc_of (unchecked m))

-- ---- the fields of a message fit the types of the code

pub record EntryFitsTypes (e : Entry) : Type 0 where
  pub version : e.version < 2 ^ 32
  pub crc : e.crc < 2 ^ 16

-- this many entries, and the order after them
abbrev pub AdvertFits : (count source : ℕ) → List Entry → Order → Type 0
AdvertFits count source entries order =
    (source < 2 ^ 16) × (length entries ≡ count) × AllByRecursion EntryFitsTypes entries × (order.number < 2 ^ 32)
    × (order.version < 2 ^ 32)

abbrev pub FitsTypes : Message → Type 0
FitsTypes (Advert source entries order) = AdvertFits narrow_images source entries order
FitsTypes (Request source to image version page want) = (source < 2 ^ 16) × (to < 2 ^ 16) × (version < 2 ^ 32)
    × AllBelow (last_packet + 1) want
FitsTypes (Packet source image version page packet bytes) = (source < 2 ^ 16) × (version < 2 ^ 32)
    × (length bytes ≡ packet_size) × AreBytes bytes
FitsTypes (Wide source entries order) = AdvertFits wide_images source entries order
