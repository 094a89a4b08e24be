-- The table of the kinds of frames: the length of each, and how its fields are read (docs/PARTS.md, "The codec"; the messages
-- are those of Deluge: Hui and Culler, SenSys 2004).
use Rattle.std.specs.Prelude.{ℕ, List}
use Rattle.dg_frame.specs.Sizes.{advert_kind, request_kind, packet_kind, wide_kind, advert_frame_size, request_frame_size}
use Rattle.dg_frame.specs.Sizes.{packet_frame_size, wide_frame_size}
use Rattle.dg_frame.specs.Grammar.{advert_in, request_in, packet_in_frame, wide_in}
use Rattle.dg_frame.specs.declared.Message.{Message}
use Rattle.dg_frame.specs.declared.kind.Kind.{Kind}
use Rattle.dg_frame.specs.declared.kind.Kind.TheVariants.{Advert, Request, Packet, Wide}

-- the first byte of a kind's frames
abbrev pub kind_number : Kind → ℕ
kind_number Advert = advert_kind
kind_number Request = request_kind
kind_number Packet = packet_kind
kind_number Wide = wide_kind

-- the length of a kind's frames, and how their fields are read
abbrev pub kind_row : Kind → ℕ × (List ℕ → Message)
kind_row Advert = (advert_frame_size, advert_in)
kind_row Request = (request_frame_size, request_in)
kind_row Packet = (packet_frame_size, packet_in_frame)
kind_row Wide = (wide_frame_size, wide_in)
