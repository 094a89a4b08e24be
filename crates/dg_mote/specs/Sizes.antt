-- The numbers of a mote's rules and of its buffers (docs/SCRIPTS.md, "Times").
use Rattle.std.specs.Prelude.{◌≡◌, ℕ, ◌+◌, ◌*◌, ◌≤◌, Bool, List}
use Rattle.std.specs.List.{range_with_len}
use Rattle.dg_object.specs.declared.size.TheConstants.{SIZE_OF_PACKET, SIZE_OF_HEAD, SIZE_OF_DESCRIPTOR_PIECE}
use Rattle.dg_object.specs.declared.name.TheConstants.{SIZE_OF_NAME}
use Rattle.dg_ledger.specs.declared.sizes.TheConstants.{SIZE_OF_LEDGER_TEXT, SIZE_OF_BITS_PIECE}
use Rattle.dg_control.specs.declared.sizes.TheConstants.{SIZE_OF_PLACE, SIZE_OF_SPELLED_ORDER}
use Rattle.dg_slot.specs.declared.layout.TheConstants.{SIZE_OF_HEADER, SIZE_OF_GATES, SIZE_OF_CRC_PIECE}
use Rattle.dg_boot.specs.declared.pieces.TheConstants.{SIZE_OF_COPY_PIECE}
use Rattle.dg_frame.specs.Sizes.{known_images, frame_bytes, set_bytes}
use Rattle.dg_mote.specs.declared.buffers.TheConstants.{SIZE_OF_PACKET_SET, SIZE_OF_ENTRIES, SIZE_OF_FRAME}
use Rattle.dg_mote.specs.declared.mote.TheConstants.{MOTE_SIZE}
use Rattle.dg_mote.specs.declared.outbox.TheConstants.{OUTBOX_SIZE}

-- the images that a wide mote, or a narrow one, forwards: those that its frames name
abbrev pub shared : (wide : Bool) → List ℕ
shared wide = range_with_len 1 (known_images wide)

-- how long a mote runs before it clears the count of short starts, in milliseconds
abbrev pub long_run : ℕ
long_run = 5000

-- ---- the arrays of bytes of a mote and of its calls
--
-- They hold frames, packet sets, packets, and pieces of pages, of the ledger and of snapshots. Each has a type, which is in the
-- signature of the function that fills it, and is counted by the size of that type. What a mote knows of time and of its chip
-- is in numbers, which are not counted. The up to four bytes in which a single number is read are not counted either. The bytes
-- of a frame that is heard belong to the caller.

-- the bytes of the outbox: it keeps a message, and counts as the longest frame
abbrev pub outbox_bytes : ℕ
outbox_bytes = frame_bytes

-- the packet sets of a mote: while it receives, both record which packets have arrived; while it serves, they are what it owes,
-- and a request
abbrev pub packet_sets : ℕ
packet_sets = 2

-- the outbox and these sets, in the form that a frame gives them
abbrev pub kept_bytes : ℕ
kept_bytes = outbox_bytes + packet_sets * set_bytes

-- the outbox and these sets, by the type of a set
abbrev pub kept_size : ℕ
kept_size = outbox_bytes + packet_sets * SIZE_OF_PACKET_SET

-- the largest array of a call: the piece in which a start copies a page
abbrev pub scratch_bytes : ℕ
scratch_bytes = SIZE_OF_COPY_PIECE

-- the outbox, the sets in the form that a frame gives them, and the largest array
abbrev pub buffered_bytes : ℕ
buffered_bytes = kept_bytes + scratch_bytes

-- the outbox, the sets by their types, and the largest array
abbrev pub buffered_size : ℕ
buffered_size = kept_size + scratch_bytes

-- the arrays that are alive at once have no more bytes than this
abbrev pub most_buffered : ℕ
most_buffered = 256

-- The arrays that are alive at once in a call, by their types, with the outbox and the sets, have no more bytes than that. The
-- outbox, the sets and the largest array have exactly 220.
pub record BuffersFit : Type 0 where
  pub counted : buffered_size ≡ 220
  pub largest : buffered_size ≤ most_buffered
  -- a packet is sent: as it is read, in its message, and in its frame, which then goes into the outbox
  pub sending : kept_size + SIZE_OF_PACKET + SIZE_OF_PACKET + SIZE_OF_FRAME ≤ most_buffered
  -- a request is sent: the set that it names, in its message and in its frame
  pub asking : kept_size + SIZE_OF_PACKET_SET + SIZE_OF_FRAME ≤ most_buffered
  -- an advert is heard, and a snapshot committed: the entries of a wide one, the place, and the longest part of it
  pub committing : kept_size + SIZE_OF_ENTRIES + SIZE_OF_PLACE + SIZE_OF_SPELLED_ORDER ≤ most_buffered
  -- a packet is heard: as it is read, and in its message
  pub taking : kept_size + SIZE_OF_PACKET + SIZE_OF_PACKET ≤ most_buffered
  -- it was the last one of its page: with it the piece in which the page is read for its CRC
  pub comparing : kept_size + SIZE_OF_PACKET + SIZE_OF_CRC_PIECE ≤ most_buffered
  -- of page 0: with it the head of the descriptor, the name in it, and the piece in which the bytes after it are tested
  pub testing : kept_size + SIZE_OF_PACKET + SIZE_OF_HEAD + SIZE_OF_NAME + SIZE_OF_DESCRIPTOR_PIECE ≤ most_buffered
  -- a start: the name in a descriptor, and the piece in which a page is read for its CRC, or copied
  pub measuring : kept_size + SIZE_OF_NAME + SIZE_OF_CRC_PIECE ≤ most_buffered
  pub copying : kept_size + SIZE_OF_NAME + SIZE_OF_COPY_PIECE ≤ most_buffered
  -- a chip is mounted, as it is for each start: the text of the ledger and a piece of its bits, a place, a header and its gates
  pub mounting : kept_size + SIZE_OF_LEDGER_TEXT + SIZE_OF_BITS_PIECE + SIZE_OF_PLACE + SIZE_OF_HEADER + SIZE_OF_GATES
      ≤ most_buffered
  -- within it a place is compared with the one that spells what was read of it
  pub spelling : kept_size + SIZE_OF_PLACE + SIZE_OF_PLACE + SIZE_OF_SPELLED_ORDER ≤ most_buffered
  -- and page 0 of a slot with the header
  pub describing : kept_size + SIZE_OF_HEADER + SIZE_OF_GATES + SIZE_OF_HEAD + SIZE_OF_NAME + SIZE_OF_DESCRIPTOR_PIECE
      ≤ most_buffered

-- ---- the value of a mote

-- The bytes of a mote in memory: 192 of them are the times of its windows, 180 its volume, and 72 its mode, with both packet
-- sets. It contains no other array.
abbrev pub most_mote_size : ℕ
most_mote_size = 464

-- the bytes of an outbox in memory: a message, and whether there is one
abbrev pub most_outbox_size : ℕ
most_outbox_size = 80

pub record ValuesAreSmall : Type 0 where
  pub mote : MOTE_SIZE ≤ most_mote_size
  pub outbox : OUTBOX_SIZE ≤ most_outbox_size
