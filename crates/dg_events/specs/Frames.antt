-- The frames that motes sent and heard in a run, and those that came to them from outside, by kind (docs/COMMANDS.md, "What a
-- script costs").
use Rattle.std.specs.Prelude.{ℕ, ◌==◌, ◌&&◌, not, Bool, true, false, cond, if◌then◌else◌, List, [], ◌∷◌, length, count_by}
use Rattle.std.specs.Prelude.{Option, Some, None, is_some, codes}
use Rattle.std.specs.List.{sum_by}
use Rattle.dg_base.specs.declared.events.Event.{Event}
use Rattle.dg_base.specs.declared.events.Event.TheVariants.{Tick, Hear, Last, Reset, Inject, Order as OrderEvent, Frame}
use Rattle.dg_frame.specs.Sizes.{advert_kind, request_kind, packet_kind, wide_kind, advert_frame_size, request_frame_size}
use Rattle.dg_frame.specs.Sizes.{packet_frame_size, wide_frame_size}
use Rattle.dg_rules.specs.World.{Sent}
use Rattle.dg_rules.specs.Runs.{Played}
use Rattle.dg_events.specs.Counts.{at}
use Rattle.dg_events.specs.Told.{Happened, happening}

-- ---- kinds: advert, request, packet, wide

-- the number of the kind that a frame's first byte names, and 4 if it names none
abbrev pub frame_number : List ℕ → ℕ
frame_number [] = 4
frame_number (byte ∷ rest) =
    if byte == advert_kind then 0 else if byte == request_kind then 1 else if byte == packet_kind then 2
    else if byte == wide_kind then 3 else 4

-- their names in keys, and that of bytes that are none of them
abbrev pub frame_names : List (List ℕ)
frame_names = codes "advert" ∷ codes "request" ∷ codes "packet" ∷ codes "wide" ∷ codes "else" ∷ []

-- the bytes of a frame of a kind
abbrev pub frame_size : ℕ → ℕ
frame_size kind =
    if kind == 0 then advert_frame_size else if kind == 1 then request_frame_size else if kind == 2 then packet_frame_size
    else wide_frame_size

-- ---- sent

-- the frames that were sent up to the end of what was played: those of the world after it
abbrev pub sent_from : (first : List Sent) → List Played → List Sent
sent_from first [] = first
sent_from first (p ∷ ps) = sent_from p.after.sent ps

-- at first none was sent
abbrev pub frames_sent : List Played → List Sent
frames_sent played = sent_from [] played

-- a mote sent a frame of a kind
abbrev pub is_sent : (mote kind : ℕ) → Sent → Bool
is_sent mote kind s = (s.by == mote) && (frame_number s.bytes == kind)

-- how many frames of a kind a mote sent, and their bytes
abbrev pub sent_at : (mote kind : ℕ) → List Played → ℕ
sent_at mote kind played = count_by (is_sent mote kind) (frames_sent played)

abbrev pub sent_bytes_at : (mote kind : ℕ) → List Played → ℕ
sent_bytes_at mote kind played = sum_by (λ (s : Sent). cond (is_sent mote kind s) (length s.bytes) 0) (frames_sent played)

-- ---- heard

-- the event brings a frame of a mote
abbrev pub is_hearing : Event → Bool
is_hearing (Tick mote dt word) = false
is_hearing (Hear mote dt word frame) = true
is_hearing (Last from to dt word) = true
is_hearing (Reset mote dt word) = false
is_hearing (Inject mote image version dt word) = false
is_hearing (OrderEvent mote number image version dt word) = false
is_hearing (Frame mote dt word bytes) = false

abbrev pub is_of_kind : (kind : ℕ) → Option (List ℕ) → Bool
is_of_kind kind None = false
is_of_kind kind (Some bytes) = frame_number bytes == kind

-- An event of these brings a frame of a kind, and is not refused. What becomes of the frame, and a cut, do not matter.
abbrev pub is_brought_by : (Event → Bool) → (kind : ℕ) → Happened → Bool
is_brought_by these kind x = these x.event && (not (is_some x.told.refused) && is_of_kind kind x.brought)

-- a mote hears a frame of a kind
abbrev pub is_heard : (kind : ℕ) → Happened → Bool
is_heard kind x = is_brought_by is_hearing kind x

abbrev pub bytes_brought : Option (List ℕ) → ℕ
bytes_brought None = 0
bytes_brought (Some bytes) = length bytes

-- the bytes of the frame that an event brings, if it passes a test
abbrev pub bytes_if : (Happened → Bool) → Option Happened → ℕ
bytes_if test None = 0
bytes_if test (Some x) = cond (test x) (bytes_brought x.brought) 0

-- the bytes of the frames of the events at a mote that pass a test
abbrev pub bytes_at : (mote : ℕ) → (Happened → Bool) → List Played → ℕ
bytes_at mote test played = sum_by (λ (p : Played). bytes_if (at mote test) (happening p.item p.before)) played

-- ---- from outside

-- the event brings bytes from outside
abbrev pub is_outside : Event → Bool
is_outside (Tick mote dt word) = false
is_outside (Hear mote dt word frame) = false
is_outside (Last from to dt word) = false
is_outside (Reset mote dt word) = false
is_outside (Inject mote image version dt word) = false
is_outside (OrderEvent mote number image version dt word) = false
is_outside (Frame mote dt word bytes) = true

-- bytes from outside come to a mote, of the kind that their first one names
abbrev pub is_from_outside : (kind : ℕ) → Happened → Bool
is_from_outside kind x = is_brought_by is_outside kind x
