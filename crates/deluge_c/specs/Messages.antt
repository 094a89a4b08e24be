-- Which message the fields of a C struct are (docs/C.md, "Frames").
use Rattle.std.specs.Prelude.{ℕ, ◌==◌, if◌then◌else◌, List, [], ◌∷◌, slice_index_or, Option, Some, None}
use Rattle.dg_bits.specs.ByteForm.{numbers_of}
use Rattle.dg_control.specs.declared.snapshot.Order.{Order}
use Rattle.dg_frame.specs.Sizes.{advert_kind, request_kind, packet_kind, wide_kind}
use Rattle.dg_frame.specs.declared.Entry.{Entry}
use Rattle.dg_frame.specs.declared.Message.{Message}
use Rattle.dg_frame.specs.declared.Message.TheVariants.{Advert, Request, Packet, Wide}
use Rattle.deluge_c.specs.declared.messages.EntryFields.{EntryFields}
use Rattle.deluge_c.specs.declared.messages.OrderFields.{OrderFields}
use Rattle.deluge_c.specs.declared.messages.MessageFields.{MessageFields}

abbrev pub entry_of_fields : EntryFields → Entry
entry_of_fields e = record { version = e.version; pages = e.pages; have = e.have; crc = e.crc }

abbrev pub order_of_fields : OrderFields → Order
order_of_fields o = record { number = o.number; image = o.image; version = o.version }

-- nothing is kept of an image
abbrev pub no_fields_of_entry : EntryFields
no_fields_of_entry = record { version = 0; pages = 0; have = 0; crc = 0 }

-- the entry of an advert's image, by its place
abbrev pub entry_at_place : MessageFields → ℕ → Entry
entry_at_place m i = entry_of_fields (slice_index_or m.entries i no_fields_of_entry)

abbrev pub narrow_entries_of : MessageFields → List Entry
narrow_entries_of m = entry_at_place m 0 ∷ entry_at_place m 1 ∷ entry_at_place m 2 ∷ []

abbrev pub wide_entries_of : MessageFields → List Entry
wide_entries_of m =
    entry_at_place m 0 ∷ entry_at_place m 1 ∷ entry_at_place m 2 ∷ entry_at_place m 3 ∷ entry_at_place m 4
    ∷ entry_at_place m 5 ∷ []

-- the message by its kind, which is the first byte of its frame. Fields that the kind does not have are not looked at
unfoldable pub message_of_fields : MessageFields → Option Message
message_of_fields m =
    if m.kind == advert_kind then Some (Advert m.source (narrow_entries_of m) (order_of_fields m.order))
    else if m.kind == request_kind then Some (Request m.source m.to m.image m.version m.page (numbers_of m.want))
    else if m.kind == packet_kind then Some (Packet m.source m.image m.version m.page m.packet m.bytes)
    else if m.kind == wide_kind then Some (Wide m.source (wide_entries_of m) (order_of_fields m.order))
    else None
